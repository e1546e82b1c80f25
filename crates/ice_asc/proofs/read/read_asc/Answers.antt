use Rattle.std.proofs.Common.{Ok}
use Rattle.ice_bits.specs.Grids.{IsOf}
use Rattle.ice_asc.specs.Grammar.{asc_in}
use Rattle.ice_asc.proofs.Sound.{text_sound, answered}
use Rattle.ice_asc.proofs.read.read_asc.Goals as goal

pub returns-clause-form : goal.returns-clause-form
returns-clause-form c =
    answered (IsOf c.args.chip.now) (Ok c.in_ok-read_bits.field-0) (asc_in c.args.chip.now c.args.text.now) c.in_ok-read_bits.ensures (text_sound c.args.chip.now c.args.text.now)
