-- What stands at each number of a packed design's logic cells.
use Rattle.std.proofs.Common.{◌≡◌, ℕ, zero, suc, Bool, true, false, List, ◌++◌, map, inl, inr, sym, ap}
use Rattle.std.proofs.lemmas.Option.{same_Some}
use Rattle.ice_base_values.specs.Order.{At}
use Rattle.ice_base_values.proofs.Members.{At_parts, map_At}
use Rattle.ice_net.specs.declared.cell.Cell.{Cell}
use Rattle.ice_net.specs.declared.port.Port.{Port}
use Rattle.ice_net.specs.NetlistData.{NetlistData}
use Rattle.ice_cells.specs.declared.cell.LogicCell.{LogicCell}
use Rattle.ice_cells.specs.Uses.{bare_outputs}
use Rattle.ice_cells.specs.Homes.{openers}
use Rattle.ice_cells.specs.Packed.{PackPlan, cell_of, cells_by, constant_cell, constant_if, needs_zero, needs_one, plan_of, packed}

-- the cell that is opened at a cell of the netlist, or that of a constant
pub data CellAt (p : PackPlan) (cells : List Cell) (opened : List ℕ) (c : ℕ) (x : LogicCell) : Type 0 where
  Opened : (j : ℕ) → At opened c j → cell_of p cells j ≡ x → CellAt p cells opened c x
  Constant : (level : Bool) → constant_cell level ≡ x → CellAt p cells opened c x

constant_at : (needed level : Bool) (i : ℕ) (x : LogicCell) → At (constant_if needed level) i x → constant_cell level ≡ x
constant_at false level i x at = cc at
constant_at true level zero x at = same_Some (constant_cell level) x at
constant_at true level (suc i) x at = cc at

pub cell_at : (p : PackPlan) (cells : List Cell) (bare : List Port) (opened : List ℕ) (c : ℕ) (x : LogicCell) → At (cells_by p cells bare opened) c x → CellAt p cells opened c x
cell_at p cells bare opened c x at = elim (At_parts (map (cell_of p cells) opened ++ constant_if (needs_zero p.origins cells) false) (constant_if (needs_one p.origins cells bare) true) c x at) [
  | inr last ↦ Constant true (constant_at (needs_one p.origins cells bare) true last.0 x last.2)
  | inl front ↦ elim (At_parts (map (cell_of p cells) opened) (constant_if (needs_zero p.origins cells) false) c x front) [
    | inr middle ↦ Constant false (constant_at (needs_zero p.origins cells) false middle.0 x middle.2)
    | inl first ↦ (let back = map_At (cell_of p cells) opened c x first in Opened back.0 back.1 back.2)
  ]
]

pub packed_at : (n : NetlistData) (c : ℕ) (x : LogicCell) → At (packed n).cells c x → CellAt (plan_of n) n.cells (openers (plan_of n).facts) c x
packed_at n c x at = cell_at (plan_of n) n.cells (bare_outputs n) (openers (plan_of n).facts) c x at

-- no last input takes what comes into a carry
pub unchained : (n : NetlistData) (c : ℕ) (x : LogicCell) → At (packed n).cells c x → x.carry_to_in3 ≡ false
unchained n c x at = by (packed_at n c x at)
  where
    by : CellAt (plan_of n) n.cells (openers (plan_of n).facts) c x → x.carry_to_in3 ≡ false
    by (Opened j opened is) = sym (ap (λ (y : LogicCell). y.carry_to_in3) is)
    by (Constant level is) = sym (ap (λ (y : LogicCell). y.carry_to_in3) is)
