use Rattle.std.proofs.Common.{◌≡◌, ◌+◌, ◌<◌, ◌≤◌, ◌++◌, ◌∷◌, [], ℕ, List, length, sum, get_or, sym, refl, subst, ap, ap₂, ◌∙◌, below_more, arith}
use Rattle.std.specs.List.{All}
use Rattle.std.proofs.lemmas.Grind.{common_steps, elements}
use Rattle.std.proofs.lemmas.List.{length_push, get_or_push, get_or_append_left}
use Rattle.std.proofs.lemmas.Option.{same_Some, slice_get_read, slice_get_within}
use Rattle.ice_anneal_board.specs.declared.net.NetNodes.{NetNodes}
use Rattle.ice_anneal_board.specs.Length.{net_length}
use Rattle.ice_anneal_board.specs.Wiring.{At}
use Rattle.ice_anneal_board.proofs.Boards.{sum_bound}
use Rattle.ice_anneal_board.proofs.board.Board.new.Goals as goal

pub overflow_add-total : goal.overflow_add-total
overflow_add-total c =
    let b = sum_bound c.loop-net.lengths.items c.loop-net.invariant.bound in
    let e = c.loop-net.invariant.total in
    let l = c.loop-net.invariant.lengths in
    let f = c.requires.few in
    let v = c.length_of_net-length.ensures.bound in
    let n = ap length c.deref-net-items.ensures.value in
    omega arith

sum_push : (xs : List ℕ) (v : ℕ) → sum (xs ++ v ∷ []) ≡ sum xs + v
sum_push xs v = grind (arith, common_steps)

all_push : (xs : List ℕ) (v : ℕ) → v ≤ 131070 → All (λ n. n ≤ 131070) xs → All (λ n. n ≤ 131070) (xs ++ v ∷ [])
all_push xs v h a = grind (arith, elements)

pub loop-net-preserved : goal.loop-net-preserved
loop-net-preserved c =
    let xs = c.loop-net.lengths.items in
    let i = c.loop-net.net-index in
    let v = c.length_of_net-length.result in
    let nets = c.args.wiring.now.nets.items in
    let inv = c.loop-net.invariant in
    let e : c.push.new.self.items ≡ xs ++ v ∷ [] = c.in_ok-push.ensures.items in
    let d = c.deref-net-items.ensures.value in
    let at : At nets i c.net-item.result = subst (λ (l : List NetNodes). At l i c.net-item.result) d
    (slice_get_read c.deref-net-items.result.now (length c.deref-net-items.result.now) i c.net-item.result refl c.loop-net-test.true c.net-item.is) in
    let value : v ≡ net_length c.args.place.items c.net-item.result.nodes.items = c.length_of_net-length.ensures.value ∙ ap₂ (λ p ns. net_length p ns) c.deref.ensures.value c.deref-in-loop-net.ensures.value in
    record {
      lengths = ap length e ∙ (length_push xs v ∙ ap (λ k. k + 1) inv.lengths);
      bound = subst (λ (l : List ℕ). All (λ n. n ≤ 131070) l) (sym e) (all_push xs v c.length_of_net-length.ensures.bound inv.bound);
      total = ap (λ t. t + v) inv.total ∙ (sym (sum_push xs v) ∙ ap sum (sym e));
      right = subst (λ (l : List ℕ). (k : ℕ) (net : NetNodes) → k < i + 1 → At nets k net → get_or l k 0 ≡ net_length c.args.place.items net.nodes.items) (sym e)
          (λ k net lt. below_more (λ j. (m : NetNodes) → At nets j m → get_or (xs ++ v ∷ []) j 0 ≡ net_length c.args.place.items m.nodes.items) i
          (λ j l m a. get_or_append_left xs (v ∷ []) 0 j (let n = inv.lengths in omega arith) ∙ inv.right j m l a)
          (λ m a. get_or_push xs v 0 i inv.lengths ∙ (value ∙ ap (λ (q : NetNodes). net_length c.args.place.items q.nodes.items) (same_Some c.net-item.result m (sym at ∙ a))))
          k lt net);
    }

pub returns-clause-board : goal.returns-clause-board
returns-clause-board c =
    let n = ap length c.deref-net-items.ensures.value in
    let l = c.loop-net.invariant.lengths in
    record {
      counts = omega arith;
      bound = c.loop-net.invariant.bound;
      total = c.loop-net.invariant.total;
      right = λ k net at. c.loop-net.invariant.right k net (let w = slice_get_within c.args.wiring.now.nets.items k net at in omega arith) at;
    }
