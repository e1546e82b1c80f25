use Rattle.std.proofs.Common.{refl}
use Rattle.ice_sample.specs.Tiles.{tiles_before, wires_before}
use Rattle.ice_sample.proofs.laws.worked_numbers.Goals as goal

pub returns : goal.returns
unfolding tiles_before wires_before
returns c = record { logic_tiles = refl; io_tiles = refl; pads = refl; wires = refl }
