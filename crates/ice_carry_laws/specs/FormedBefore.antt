-- What a packed design keeps to before its runs are made, beside its carries.
use Rattle.std.specs.Prelude.{◌≡◌, ℕ, None, Some}
use Rattle.ice_net.specs.declared.kind.Reset.TheVariants.{Nothing}
use Rattle.ice_base_values.specs.Order.{At}
use Rattle.ice_cells.specs.declared.cell.Control.{Control}
use Rattle.ice_cells.specs.declared.cell.LogicCell.{LogicCell}
use Rattle.ice_cells.specs.declared.design.Design.{Design}
use Rattle.ice_cells.specs.declared.design.DesignPad.{DesignPad}
use Rattle.ice_cells.specs.declared.root.Root.TheVariants.{PadIn}
use Rattle.ice_cells.specs.Formed.{IsPad}
use Rattle.ice_cells.specs.Readings.{is_read}

pub record IsFormedBefore (d : Design) : Type 0 where
  -- pads stand in the order of ports, and tell whether something reads them
  pub ports : (k : ℕ) (pad : DesignPad) → At d.pads k pad → pad.port ≡ k
  pub reads : (k : ℕ) (pad : DesignPad) → At d.pads k pad → pad.reads ≡ is_read d (PadIn k)
  pub pads : (k : ℕ) (pad : DesignPad) → At d.pads k pad → IsPad pad
  -- a flip-flop that is neither set nor reset has nothing there
  pub resets : (c : ℕ) (cell : LogicCell) (control : Control) → At d.cells c cell → cell.flop ≡ Some (control, Nothing) → control.reset ≡ None
