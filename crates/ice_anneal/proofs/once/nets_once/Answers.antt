use Rattle.std.proofs.Common.{◌≡◌, ◌+◌, ◌++◌, ◌∷◌, [], List, length, take, get_or, sym, subst, ap, ◌∙◌}
use Rattle.std.specs.List.{All}
use Rattle.std.proofs.lemmas.List.{take_more, length_push}
use Rattle.std.proofs.lemmas.List.Elements.{All-push}
use Rattle.ice_anneal_board.specs.declared.net.NetNodes.{NetNodes}
use Rattle.ice_anneal_board.specs.declared.net.Node.{Node}
use Rattle.ice_anneal_board.specs.Length.{IsNode, IsNet, net_length, wire_length}
use Rattle.ice_anneal.proofs.Repeats.{same_wires}
use Rattle.ice_anneal.proofs.once.nets_once.Goals as goal

pub loop-net-preserved : goal.loop-net-preserved
loop-net-preserved c =
    let nets = c.args.nets.now in
    let i = c.loop-net.net-index in
    let net = c.net-item.result in
    let found = c.loop-net.found.items in
    let old = c.loop-net.invariant in
    let lt = c.loop-net-test.true in
    let made : NetNodes = record { nodes = c.in_ok-once.field-0 } in
    let e : c.push.new.self.items ≡ found ++ made ∷ [] = c.in_ok-push.ensures.items in
    let is : get_or nets i net ≡ net = sym c.net-item.is in
    let more : take (i + 1) nets ≡ take i nets ++ net ∷ [] = take_more nets i net lt ∙ ap (λ (m : NetNodes). take i nets ++ m ∷ []) is in
    record {
      count = ap length e ∙ (length_push found made ∙ ap (λ k. k + 1) old.count);
      nets = λ count within. subst (λ (l : List NetNodes). All (IsNet count) l) (sym e)
          (All-push (IsNet count) found made (old.nets count within) (c.in_ok-once.ensures.nodes count (subst (λ (ns : List Node). All (IsNode count) ns) (sym c.deref.ensures.value) (subst (λ (m : NetNodes). All (IsNode count) m.nodes.items) is (within i net lt)))));
      lengths = λ at. ap (λ (l : List NetNodes). wire_length l at) e
          ∙ (same_wires at found (take i nets) made net (old.lengths at) (c.in_ok-once.ensures.lengths at ∙ ap (net_length at) c.deref.ensures.value)
          ∙ ap (λ (l : List NetNodes). wire_length l at) (sym more));
    }
