use Rattle.ice_emit_rows_laws.proofs.Wired.{wired}
use Rattle.ice_emit_rows_laws.proofs.laws.wanted_rows_drive.Goals as goal

pub returns : goal.returns
returns c wanted more are low = wired c.args.chip.now c.chip_is_lawful.ensures.rows c.is_chip.ensures.read.numbered wanted are more low
