-- What has a level in a design: the roots, and the constants that come into carries.
use Rattle.std.specs.Prelude.{ℕ, ◌==◌, Bool, List, [], ◌∷◌, find, option_map, Option, None, Some, if◌then◌else◌}
use Rattle.ice_cells.specs.declared.design.Design.{Design}
use Rattle.ice_cells.specs.declared.design.Run.{Run}
use Rattle.ice_cells.specs.declared.root.CarryIn.{CarryIn}
use Rattle.ice_cells.specs.declared.root.CarryIn.TheVariants.{Fixed, Read}
use Rattle.ice_cells.specs.declared.root.Root.{Root}
use Rattle.ice_cells.specs.declared.root.Root.TheVariants.{CarryOut}

pub data Node : Type 0 where
  Net : Root → Node
  Level : Bool → Node

abbrev pub net : Option Root → Option Node
net root = option_map (λ (r : Root). Net r) root

abbrev pub source_node : CarryIn → Node
source_node (Fixed level) = Level level
source_node (Read root) = Net root

-- ---- what comes into the carry of a cell
-- in a run, into whose next cell that comes
abbrev pub into_cell : Node → List ℕ → ℕ → Option Node
into_cell before [] c = None
into_cell before (x ∷ cells) c = if x == c then Some before else into_cell (Net (CarryOut x)) cells c

abbrev pub node_or : Option Node → Option Node → Option Node
node_or None other = other
node_or (Some node) other = Some node

-- in the first run that holds the cell: the level of the run, or the carry of the cell below
abbrev pub into_runs : List Run → ℕ → Option Node
into_runs [] c = None
into_runs (run ∷ runs) c = node_or (into_cell (Level run.set) run.cells c) (into_runs runs c)

-- before the runs are made, what the list of carries says
abbrev pub into_carries : List (ℕ × CarryIn) → ℕ → Option Node
into_carries carries c = option_map (λ (x : ℕ × CarryIn). source_node x.1) (find (λ (x : ℕ × CarryIn). x.0 == c) carries)

abbrev pub carry_into : Design → ℕ → Option Node
carry_into d c = node_or (into_carries d.carries c) (into_runs d.runs c)
