-- The ways of ports by their signals, and a list of the ports' places.
use Rattle.std.specs.Prelude.{◌≡◌, ℕ, List, Option, Some, None, slice_get, slice_index_or}
use Rattle.ice_net.specs.declared.port.Port.{Port}
use Rattle.ice_net.specs.declared.port.Way.{Way}
use Rattle.ice_net.specs.NetlistData.{port_at}

abbrev pub way_by : Option Port → Option Way
way_by None = None
way_by (Some port) = Some port.way

abbrev pub way_at : List Port → Option ℕ → Option Way
way_at ports None = None
way_at ports (Some k) = way_by (slice_get ports k)

-- the way of a signal's port, if it is a port
abbrev pub way_of : List Port → ℕ → Option Way
way_of ports s = way_at ports (port_at s ports)

-- the list tells the place of each signal's port; behind its end there is none
abbrev pub PlacesAre : List Port → List (Option ℕ) → Type 0
PlacesAre ports places = (s : ℕ) → slice_index_or places s None ≡ port_at s ports
