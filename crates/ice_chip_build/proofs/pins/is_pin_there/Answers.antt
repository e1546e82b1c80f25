use Rattle.std.proofs.Common.{ap, sym, ◌∙◌}
use Rattle.ice_chip.specs.Database.{tile_known}
use Rattle.ice_chip.specs.WireNames.{tile_wire}
use Rattle.ice_chip.specs.Views.{parts_view}
use Rattle.ice_chip_build.proofs.NoPins.{no_pin}
use Rattle.ice_chip_build.proofs.pins.is_pin_there.Goals as goal

pub returns-in-None : goal.returns-in-None
returns-in-None c = sym (no_pin (tile_known (parts_view c.args.parts.now).tiles c.args.row.now.tile) c.args.row.now.name (ap tile_wire (sym c.as_bytes.ensures) ∙ (sym c.tile_wire.ensures ∙ c.in-None.is)))
