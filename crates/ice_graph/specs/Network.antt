-- Graphs of wires: how many wires, the edges between them, and the boxes of tiles around the wires.
use Rattle.std.specs.Prelude.{◌≡◌, ℕ, ◌+◌, ◌^◌, ◌≤◌, ◌<◌, min, eqb, Option, List, [], ◌∷◌, Some, slice_get, length, if◌then◌else◌}
use Rattle.ice_base.specs.declared.number.TileAt.{TileAt}
use Rattle.ice_base.specs.declared.number.WireNo.{WireNo}
use Rattle.ice_graph.specs.declared.edge.Edge.{Edge}
use Rattle.ice_graph.specs.declared.edge.End.TheVariants.{Source, Target}
use Rattle.ice_graph.specs.declared.extent.Extent.{Extent}
use Rattle.ice_graph.specs.declared.graph.Graph.TheInside.{Inside}
use Rattle.ice_graph.specs.Boxes.{AreBoxes, IsSpread, box_of, distance, in_spreads}
use Rattle.ice_graph.specs.Hops.{IsTable}
use Rattle.ice_graph.specs.Sorting.{IsIndex}

-- the number of the wires, the edges in the order of their rows, the box of each wire, and the greatest half perimeter of the boxes of wires with an edge into them
pub record Network : Type 0 where
  pub wires : ℕ
  pub edges : List Edge
  pub boxes : List (Option Extent)
  pub spread : ℕ

-- each edge is between wires below n
abbrev pub AreBetween : ℕ → List Edge → Type 0
AreBetween n edges = (k : ℕ) (e : Edge) → slice_get edges k ≡ Some e → (e.from.0 < n) × (e.to.0 < n)

-- the rows of the edges rise
abbrev pub RowsRise : List Edge → Type 0
RowsRise edges = (j k : ℕ) (d e : Edge) → j < k → slice_get edges j ≡ Some d → slice_get edges k ≡ Some e → d.row.0 < e.row.0

-- the boxes are those of the wires, where the edges have these places
pub record ArePlaces (graph : Network) (places : List TileAt) : Type 0 where
  pub boxes : AreBoxes graph.wires graph.edges places graph.boxes
  pub spread : IsSpread graph.edges graph.boxes graph.spread

-- what a walk from the wire w to the wire t costs at least, where each step costs 1: one, and one for each greatest half perimeter between them
abbrev pub bound : Network → ℕ → ℕ → ℕ
bound graph w t = if eqb w t then 0 else 1 + in_spreads graph.spread (distance (box_of graph.boxes w) (box_of graph.boxes t))

-- the least of a number and the bounds to these wires
abbrev pub least_from : Network → ℕ → ℕ → List WireNo → ℕ
least_from graph w best [] = best
least_from graph w best (t ∷ targets) = least_from graph w (min best (bound graph w t.0)) targets

-- the bound to a list of wires: the least of the bounds to them
abbrev pub least_bound : Network → List WireNo → ℕ → ℕ
least_bound graph [] w = 0
least_bound graph (t ∷ targets) w = least_from graph w (bound graph w t.0) targets

-- the bound falls by at most 1 along each edge
abbrev pub BoundsFall : Network → Type 0
BoundsFall graph = (k : ℕ) (e : Edge) (t : ℕ) → slice_get graph.edges k ≡ Some e → bound graph e.from.0 t ≤ 1 + bound graph e.to.0 t

-- the graph as it is seen from outside
abbrev pub network_of : Inside → Network
network_of a = record { wires = a.wires; edges = a.edges.items; boxes = a.boxes.items; spread = a.spread }

-- the edges are between wires of the graph, their rows rise, both indexes sort them, and the boxes hold places of theirs
pub record IsSorted (a : Inside) : Type 0 where
  pub between : AreBetween a.wires a.edges.items
  pub rise : RowsRise a.edges.items
  pub few : length a.edges.items ≤ 2 ^ 32
  pub into : IsIndex Target a.wires a.edges.items a.into
  pub from : IsIndex Source a.wires a.edges.items a.from
  pub places : List TileAt
  pub small : a.spread ≤ 131070
  pub placed : length places ≡ length a.edges.items
  pub are_places : ArePlaces (network_of a) places
  pub hops : IsTable a.edges.items a.hops
