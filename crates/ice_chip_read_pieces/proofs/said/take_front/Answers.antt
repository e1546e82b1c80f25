use Rattle.std.proofs.Common.{Some, Ok, Err, sym, subst}
use Rattle.ice_chip_read.specs.Fronts.{IsTaken}
use Rattle.ice_chip_read.specs.Views.{reading_view}
use Rattle.ice_chip_read_pieces.specs.Held.{IsLineTaken, said_view}
use Rattle.ice_chip_read_pieces.proofs.SaidLaws.{front_stopped, front_taken}
use Rattle.ice_chip_read_pieces.proofs.said.take_front.Goals as goal

pub returns-in-Ok-clause-taken : goal.returns-in-Ok-clause-taken
returns-in-Ok-clause-taken c =
    let old = reading_view c.in-Rows.reading in
    let new = reading_view c.take_ahead.new.reading in
    let taken = subst (λ answer. IsTaken old new c.args.number c.args.text.now answer c.in_ok-answer.rest.now) c.in-Ok.is c.in_ok-answer.ensures.taken in
    subst (λ said. IsLineTaken (said_view said) (Ok (Some new)) c.args.number c.args.text.now c.in_ok-answer.rest.now) (sym c.in-Rows.is)
    (front_taken old new c.args.number c.args.text.now c.in_ok-answer.rest.now _ taken)

pub returns-in-Err-clause-taken : goal.returns-in-Err-clause-taken
returns-in-Err-clause-taken c =
    let old = reading_view c.in-Rows.reading in
    let new = reading_view c.take_ahead.new.reading in
    let taken = subst (λ answer. IsTaken old new c.args.number c.args.text.now answer c.in_ok-answer.rest.now) c.in-Err.is c.in_ok-answer.ensures.taken in
    subst (λ said. IsLineTaken (said_view c.args.said.now) said c.args.number c.args.text.now c.in_ok-answer.rest.now) (sym c.stop.ensures)
    (subst (λ said. IsLineTaken (said_view said) (Err c.in-Err.fault) c.args.number c.args.text.now c.in_ok-answer.rest.now) (sym c.in-Rows.is)
    (front_stopped old new c.args.number c.args.text.now c.in_ok-answer.rest.now c.in-Err.fault taken))
