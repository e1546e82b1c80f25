-- What a design keeps to before its runs are made.
use Rattle.std.specs.Prelude.{◌≡◌, ℕ, true, false, Some}
use Rattle.ice_base_values.specs.Order.{At, Has}
use Rattle.ice_cells.specs.declared.cell.LogicCell.{LogicCell}
use Rattle.ice_cells.specs.declared.design.Design.{Design}
use Rattle.ice_cells.specs.declared.root.CarryIn.{CarryIn}
use Rattle.ice_cells.specs.declared.root.Root.TheVariants.{CarryOut}
use Rattle.ice_cells.specs.Chains.{Head}
use Rattle.ice_cells.specs.Meaning.{HasValues}
use Rattle.ice_cells.specs.Readings.{roots_read}

-- the design says what comes into the carry of the cell
pub record HasCarry (d : Design) (c : ℕ) : Type 0 where
  pub into : CarryIn
  pub place : ℕ
  pub at : At d.carries place (c, into)

pub record IsBeforeRuns (d : Design) : Type 0 where
  -- it says of each carry once what comes into it, and does so exactly of the cells that have one
  pub once : (i j : ℕ) (x y : Head) → At d.carries i x → At d.carries j y → x.0 ≡ y.0 → x ≡ y
  pub there : (c : ℕ) → HasCarry d c → (cell : LogicCell) × At d.cells c cell × (cell.carry ≡ true)
  pub listed : (c : ℕ) (cell : LogicCell) → At d.cells c cell → cell.carry ≡ true → HasCarry d c
  -- no carry is read that is not there
  pub read : (k : ℕ) → Has (roots_read d) (Some (CarryOut k)) → HasCarry d k
  -- no last input takes what comes into a carry
  pub unchained : (c : ℕ) (cell : LogicCell) → At d.cells c cell → cell.carry_to_in3 ≡ false
  -- it has no loop
  pub values : HasValues d
