use Rattle.ice_chip_read.proofs.read.read_chip.Goals as goal

pub finish-requires : goal.finish-requires
finish-requires c = (c.plain_lines.result, c.in-Ok.ensures)
