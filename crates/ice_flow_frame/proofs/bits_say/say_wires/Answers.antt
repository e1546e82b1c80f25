use Rattle.std.specs.Prelude.{decimal}
use Rattle.std.proofs.Common.{List, ℕ, map, ap, subst, ◌∙◌}
use Rattle.ice_flow_frame.specs.Causes.{spaced}
use Rattle.ice_desk.specs.Said.{IsSaid}
use Rattle.ice_flow_frame.proofs.PieceTexts.{wires_spaced}
use Rattle.ice_flow_frame.proofs.bits_say.say_wires.Goals as goal

pub returns-clause-said : goal.returns-clause-said
returns-clause-said g c =
    let D = g.D.Desk in
    let old = D.seen c.args.desk.now in
    let new = D.seen c.say_each.new.desk in
    subst (λ (xs : List ℕ). IsSaid old new xs c.say_each.result) (wires_spaced c.as_slice.result.now ∙ ap (λ (ns : List ℕ). spaced (map decimal ns)) c.as_slice.ensures) c.say_each.ensures.said
