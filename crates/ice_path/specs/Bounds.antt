-- The law of bounds: along each edge the bound falls by no more than the price of the wire that the edge enters.
use Rattle.std.specs.Prelude.{◌≡◌, ℕ, ◌+◌, ◌≤◌, List, length}
use Rattle.ice_base.specs.declared.number.TileAt.{TileAt}
use Rattle.ice_base.specs.declared.number.WireNo.{WireNo}
use Rattle.ice_graph.specs.declared.edge.Edge.{Edge}
use Rattle.ice_graph.specs.Network.{Network, ArePlaces, AreBetween, bound, least_bound}
use Rattle.ice_core.specs.declared.prices.Prices.{Prices}
use Rattle.ice_core.specs.Congestion.{price}
use Rattle.ice_path.specs.Walks.{HasEdge}

-- the bound to a wire, in a graph whose edges have these places
abbrev pub BoundsFallByPrices : Type 0
BoundsFallByPrices = (graph : Network) (places : List TileAt) (p : Prices) (t : ℕ) (e : Edge) → AreBetween graph.wires graph.edges → length places ≡ length graph.edges → ArePlaces graph places → HasEdge graph.edges e
    → bound graph e.from.0 t ≤ price p e.to.0 + bound graph e.to.0 t

-- the bound to a list of targets
abbrev pub LeastBoundsFallByPrices : Type 0
LeastBoundsFallByPrices = (graph : Network) (places : List TileAt) (p : Prices) (targets : List WireNo) (e : Edge) → AreBetween graph.wires graph.edges → length places ≡ length graph.edges → ArePlaces graph places → HasEdge graph.edges e
    → least_bound graph targets e.from.0 ≤ price p e.to.0 + least_bound graph targets e.to.0
