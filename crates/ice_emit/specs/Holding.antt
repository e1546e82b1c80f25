-- Which tree holds each wire, noted wire by wire.
use Rattle.std.specs.Prelude.{ℕ, suc, Option, None, Some, List, [], ◌∷◌, ◌++◌, map}
use Rattle.ice_base.specs.declared.number.WireNo.{WireNo}
use Rattle.ice_cells.specs.Tables.{keep, scattered}
use Rattle.ice_graph.specs.Leading.{Route}

-- the tree of that number holds the wire
pub record Holding : Type 0 where
  pub tree : ℕ
  pub wire : WireNo

abbrev pub holding : ℕ → WireNo → Holding
holding n w = record { tree = n; wire = w }

abbrev pub held_wire : Holding → Option ℕ
held_wire h = Some h.wire.0

abbrev pub holder : Holding → ℕ
holder h = h.tree

-- of the trees that hold a wire the first one is noted
abbrev pub noted : List (Option ℕ) → List Holding → List (Option ℕ)
noted owners all = scattered held_wire (keep holder) None owners all

abbrev pub tree_holdings : ℕ → List WireNo → List Holding
tree_holdings n wires = map (holding n) wires

abbrev pub all_holdings : ℕ → List Route → List Holding
all_holdings n [] = []
all_holdings n (route ∷ routes) = tree_holdings n route.wires ++ all_holdings (suc n) routes
