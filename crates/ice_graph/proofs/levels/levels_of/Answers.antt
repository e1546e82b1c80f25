use Rattle.std.proofs.Common.{◌≡◌, ◌∙◌, ◌+◌, ◌<◌, ◌≤◌, ◌++◌, ◌∷◌, [], ℕ, Some, List, length, slice_get, map, sym, ap, subst, arith}
use Rattle.std.proofs.lemmas.List.{length_push, map_push}
use Rattle.std.proofs.lemmas.Option.{same_Some}
use Rattle.std.specs.Prelude.{Vec}
use Rattle.std.specs.declared.alloc.Global.{Global}
use Rattle.ice_graph.specs.Network.{AreBetween}
use Rattle.ice_graph.specs.Levels.{AreLevels, Draws, lists_of}
use Rattle.ice_graph.proofs.Drawing.{all_here, levels_more}
use Rattle.ice_graph.proofs.Hopping.{list_at, lists_long}
use Rattle.ice_graph.proofs.levels.levels_of.Goals as goal

pub next_level-requires : goal.next_level-requires
next_level-requires c =
    let i = c.loop-place.invariant in
    let at = list_at c.loop-place.levels.items c.loop-place.place c.index.result.now (let long = i.long in omega (arith, long)) c.index.ensures in
    let same = ap length c.deref.ensures.value ∙ i.levels.long c.loop-place.place c.index.result.now.items at in
    subst (λ n. AreBetween n c.args.edges.now) (sym same) c.requires

pub returns-then-is_same-clause-all : goal.returns-then-is_same-clause-all
returns-then-is_same-clause-all c =
    let i = c.loop-place.invariant in
    let lt : c.loop-place.place < length c.loop-place.levels.items = (let long = i.long in omega (arith, long)) in
    let at = list_at c.loop-place.levels.items c.loop-place.place c.index.result.now lt c.index.ensures in
    let at' = list_at c.loop-place.levels.items c.loop-place.place c.index-in-loop-place.result.now lt c.index-in-loop-place.ensures in
    let long = lists_long c.loop-place.levels.items in
    let draws = subst (λ (xs : List ℕ). Draws c.args.edges.now (length c.args.edges.now) xs c.in_ok-next.next.items) c.deref.ensures.value c.in_ok-next.ensures in
    let one' : c.index.result.now.items ≡ c.index-in-loop-place.result.now.items = same_Some c.index.result.now.items c.index-in-loop-place.result.now.items (sym at ∙ at') in
    let same = one' ∙ (sym c.deref-in-loop-place.ensures.value ∙ (c.is_same.ensures c.if-is_same.true ∙ c.deref-in-loop-place-2.ensures.value)) in
    all_here c.args.edges.now (lists_of c.loop-place.levels.items) c.loop-place.place c.index.result.now.items c.in_ok-next.next.items (let l = i.long in omega (arith, l, long)) at draws same

pub loop-place-preserved : goal.loop-place-preserved
loop-place-preserved c =
    let i = c.loop-place.invariant in
    let lt : c.loop-place.place < length c.loop-place.levels.items = (let long = i.long in omega (arith, long)) in
    let at = list_at c.loop-place.levels.items c.loop-place.place c.index.result.now lt c.index.ensures in
    let long = lists_long c.loop-place.levels.items in
    let draws = subst (λ (xs : List ℕ). Draws c.args.edges.now (length c.args.edges.now) xs c.in_ok-next.next.items) c.deref.ensures.value c.in_ok-next.ensures in
    let more = levels_more c.args.edges.now c.args.homes.items (lists_of c.loop-place.levels.items) c.loop-place.place c.index.result.now.items c.in_ok-next.next.items (let l = i.long in omega (arith, l, long)) (let l = i.long in let t = c.loop-place-test.true in omega (arith, l, long, t)) at draws i.levels in
    let items : lists_of c.push-in-loop-place.new.self.items ≡ lists_of c.loop-place.levels.items ++ c.in_ok-next.next.items ∷ [] = ap lists_of c.in_ok-push-2.ensures.items ∙ map_push (λ (x : Vec ℕ Global). x.items) c.loop-place.levels.items c.in_ok-next.next in
    record {
      long = (let l = ap length items in let m = lists_long c.push-in-loop-place.new.self.items in let n = length_push (lists_of c.loop-place.levels.items) c.in_ok-next.next.items in let o = i.long in omega (arith, l, m, n, o, long));
      levels = subst (AreLevels c.args.edges.now c.args.homes.items) (sym items) more;
    }
