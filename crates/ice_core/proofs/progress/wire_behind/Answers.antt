use Rattle.std.proofs.Common.{◌≡◌, List, length, slice_get, Some, refl, ap, sym, ◌∙◌}
use Rattle.std.specs.Global.{Vec}
use Rattle.std.proofs.lemmas.Option.{slice_get_read, IfSome_then}
use Rattle.ice_base.specs.declared.number.WireNo.{WireNo}
use Rattle.ice_core.proofs.Running.{behind_some}
use Rattle.ice_core.proofs.progress.wire_behind.Goals as goal

pub returns-in-Some-clause-some : goal.returns-in-Some-clause-some
returns-in-Some-clause-some c =
    let lists = c.args.lists.now in
    let v : Vec WireNo = c.in-Some.wires.now in
    let at : slice_get lists c.args.task ≡ Some v = slice_get_read lists (length lists) c.args.task v refl c.in-Some.ensures.lookup.3.0 c.in-Some.ensures.lookup.1 in
    IfSome_then c.wire_at.result c.wire_at.ensures.some (λ w there. behind_some lists c.args.task c.args.done v w at (ap (λ (ws : List WireNo). slice_get ws c.args.done) (sym c.deref.ensures.value) ∙ there))
