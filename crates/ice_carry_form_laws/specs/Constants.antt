-- Constants that must be driven.
use Rattle.std.specs.Prelude.{◌≡◌, true, false}
use Rattle.ice_base_values.specs.Order.{At}
use Rattle.ice_net.specs.NetlistData.{NetlistData}
use Rattle.ice_cells.specs.Origins.{origins}
use Rattle.ice_cells.specs.Packed.{plan_of, packed, constant_cell, needs_zero, needs_one}
use Rattle.ice_cells.specs.Uses.{bare_outputs}

-- where an enable of constant 0, or a constant 1 that would read 0, must be driven, the packed design has the cell that drives it
pub record ConstantsAreMade (n : NetlistData) : Type 0 where
  pub zero : needs_zero (origins n) n.cells ≡ true → At (packed n).cells (plan_of n).zero (constant_cell false)
  pub one : needs_one (origins n) n.cells (bare_outputs n) ≡ true → At (packed n).cells (plan_of n).one (constant_cell true)

abbrev pub DrivenConstantsAreMade : Type 0
DrivenConstantsAreMade = (n : NetlistData) → ConstantsAreMade n
