-- Edges that are made one after another.
use Rattle.std.specs.Prelude.{◌≡◌, ℕ, ◌<◌, List, Some, slice_get}
use Rattle.ice_graph.specs.declared.edge.Edge.{Edge}
use Rattle.ice_graph.specs.Network.{AreBetween, RowsRise}

-- the edges are between wires below n, and their rows rise and are below the least row of the next
pub record AreRising (n least : ℕ) (edges : List Edge) : Type 0 where
  pub between : AreBetween n edges
  pub rise : RowsRise edges
  pub below : (k : ℕ) (e : Edge) → slice_get edges k ≡ Some e → e.row.0 < least
