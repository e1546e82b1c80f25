use Rattle.std.proofs.Common.{◌≡◌, true, map}
use Rattle.ice_chip.specs.Names.{pin_type_function}
use Rattle.ice_chip.specs.LacksFunction.{has_each}
use Rattle.ice_chip.specs.Views.{function_view}
use Rattle.ice_chip.specs.declared.rows.TileKind.TheVariants.{Io}
use Rattle.ice_chip_build.proofs.lacking.has_pin_type.Given as goal

abbrev pub invariant-loop-place : goal.invariant-loop-place
invariant-loop-place l = has_each Io (pin_type_function l.pio) l.place (map function_view l.functions) ≡ true
