use Rattle.std.proofs.Common.{IfSome, subst}
use Rattle.ice_chip_read.specs.Fronts.{IsTaken}
use Rattle.ice_chip_read.specs.Views.{reading_view}
use Rattle.ice_chip_read.proofs.text.take_ahead.Goals as goal

pub returns-in-None-clause-taken : goal.returns-in-None-clause-taken
returns-in-None-clause-taken c =
    subst (λ r. IfSome c.take_other.result (λ taken. IsTaken r (reading_view c.take_other.new.reading) c.args.number c.args.text.now taken.0 taken.1.now)) c.in-None.ensures.same c.take_other.ensures.taken
