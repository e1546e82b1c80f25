use Rattle.std.proofs.Common.{◌≡◌, ◌∙◌, ◌+◌, ◌<◌, ◌≤◌, ℕ, Some, List, length, slice_get, sym, ap, subst, refl, arith}
use Rattle.std.proofs.lemmas.Bool.{ltb-true}
use Rattle.std.proofs.lemmas.Option.{slice_get_read}
use Rattle.std.specs.Prelude.{Vec}
use Rattle.std.specs.declared.alloc.Global.{Global}
use Rattle.ice_graph.specs.Hops.{AreHops}
use Rattle.ice_graph.proofs.Hopping.{hops_of_set}
use Rattle.ice_graph.proofs.table.Hops.to.Goals as goal

pub returns-in-Some-get : goal.returns-in-Some-get
returns-in-Some-get c = λ edges table.
    let h = c.in-Some-get.ensures.lookup in
    let here = slice_get_read c.deref.result.now (length c.deref.result.now) c.in-Some.set c.in-Some-get.column.now refl (ltb-true c.in-Some.set (length c.deref.result.now) (sym h.0)) h.1 in
    let at = ap (λ (xs : List (Vec ℕ Global)). slice_get xs c.in-Some.set) (sym c.deref.ensures.value) ∙ here in
    subst (AreHops edges c.args.targets.now) (sym c.deref-in-Some-get.ensures.value) (hops_of_set edges c.args.self.now.sets.items c.in-Some.set c.args.targets.now c.in-Some-get.column.now.items c.in-Some.ensures (table c.in-Some.set c.in-Some-get.column.now at))
