-- What ties a design with its runs to the one without that it was made of.
use Rattle.std.specs.Prelude.{◌≡◌, ℕ, true, false, Option, None, Some, List, [], ◌∷◌, map, unwrap_or, slice_index_or}
use Rattle.std.proofs.Common.{◌⊎◌}
use Rattle.ice_net.specs.declared.kind.Reset.{Reset}
use Rattle.ice_base_values.specs.Order.{At}
use Rattle.ice_cells.specs.declared.cell.Control.{Control}
use Rattle.ice_cells.specs.declared.cell.LogicCell.{LogicCell}
use Rattle.ice_cells.specs.declared.design.Design.{Design}
use Rattle.ice_cells.specs.declared.root.CarryIn.{CarryIn}
use Rattle.ice_cells.specs.declared.root.CarryIn.TheVariants.{Fixed, Read}
use Rattle.ice_cells.specs.declared.root.Root.{Root}
use Rattle.ice_cells.specs.declared.root.Root.TheVariants.{PadIn, CellOut, GlobalOut, CarryOut}
use Rattle.ice_cells.specs.Moves.{renamed, renamed_source, become, moved_cell}
use Rattle.ice_cells.specs.Nodes.{Node, Net, Level, source_node, carry_into}
use Rattle.ice_cells.specs.Runs.{renamed_pad}

-- the node is one of the design's
abbrev pub IsIn : Design → Node → Type 0
IsIn d (Net (PadIn k)) = Unit {0}
IsIn d (Net (CellOut c)) = (cell : LogicCell) × At d.cells c cell
IsIn d (Net (GlobalOut g)) = (root : Option Root) × At d.globals g root
IsIn d (Net (CarryOut c)) = (cell : LogicCell) × At d.cells c cell × (cell.carry ≡ true)
IsIn d (Level level) = Unit {0}

-- ---- where nodes are found again. `moved` says by the number of a cell where its flip-flop went, and `fed` which cell passes its carry on.
abbrev pub home : List (Option ℕ) → ℕ → ℕ
home moved c = unwrap_or (slice_index_or moved c None) c

-- the node itself: a carry, and not the cell that passes it on
abbrev pub own : List (Option ℕ) → Node → Node
own moved (Net (PadIn k)) = Net (PadIn k)
own moved (Net (CellOut c)) = Net (CellOut (home moved c))
own moved (Net (GlobalOut g)) = Net (GlobalOut g)
own moved (Net (CarryOut c)) = Net (CarryOut c)
own moved (Level level) = Level level

-- ---- cells beside the carries of runs
-- cell f takes a root into the carry chain
abbrev pub taking : Root → LogicCell
taking root = record { table = 0; ins = None ∷ Some root ∷ None ∷ None ∷ []; carry = true; carry_to_in3 = false; flop = None }

pub record TakesIn (new : Design) (f : ℕ) (root : Root) : Type 0 where
  pub at : At new.cells f (taking root)
  pub set : carry_into new f ≡ Some (Level true)

-- cell f passes the carry of cell c on
abbrev pub passing : LogicCell
passing = record { table = 65280; ins = None ∷ None ∷ None ∷ None ∷ []; carry = false; carry_to_in3 = true; flop = None }

pub record PassesOn (new : Design) (f c : ℕ) : Type 0 where
  pub at : At new.cells f passing
  pub into : carry_into new f ≡ Some (Net (CarryOut c))

-- what came into the carry of a cell does so directly, or through a cell that takes it into the chain
abbrev pub CarriesIn : Design → List (Option ℕ) → List (Option ℕ) → ℕ → CarryIn → Type 0
CarriesIn new moved fed c (Fixed level) = carry_into new c ≡ Some (Level level)
CarriesIn new moved fed c (Read root) =
    ((k : ℕ) × (root ≡ CarryOut k) × (carry_into new c ≡ Some (Net (CarryOut k))))
    ⊎ ((f : ℕ) × (carry_into new c ≡ Some (Net (CarryOut f))) × TakesIn new f (renamed moved fed root))

-- ---- the new design has the cells of the old one, with their readers renamed, and what they need beside
pub record AreRuns (old new : Design) (moved fed : List (Option ℕ)) : Type 0 where
  pub unchained : (c : ℕ) (cell : LogicCell) → At old.cells c cell → cell.carry_to_in3 ≡ false
  pub cells : (c : ℕ) (cell : LogicCell) → At old.cells c cell → At new.cells c (become moved fed c cell)
  -- a last input that takes the carry reads what it read
  pub chained : (c k : ℕ) (cell : LogicCell) → At old.cells c cell → slice_index_or cell.ins 3 None ≡ Some (CarryOut k) → slice_index_or fed k None ≡ None
      → carry_into new c ≡ Some (Net (CarryOut k))
  pub carries : (c : ℕ) (cell : LogicCell) → At old.cells c cell → cell.carry ≡ true
      → (into : CarryIn) × (carry_into old c ≡ Some (source_node into)) × CarriesIn new moved fed c into
  pub passed : (c f : ℕ) → slice_index_or fed c None ≡ Some f → PassesOn new f c
  -- only flip-flops move
  pub moves : (c m : ℕ) → slice_index_or moved c None ≡ Some m
      → (cell : LogicCell) × (flop : Control × Reset) × At old.cells c cell × (cell.flop ≡ Some flop) × At new.cells m (moved_cell moved fed old.cells c)
  pub globals : new.globals ≡ map (renamed_source moved fed) old.globals
  pub pads : new.pads ≡ map (renamed_pad moved fed) old.pads
