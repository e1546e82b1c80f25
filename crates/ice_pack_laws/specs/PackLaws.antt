-- The laws of packing.
use Rattle.std.specs.Prelude.{◌≡◌, ℕ, Bool, List, length}
use Rattle.ice_base_values.specs.Order.{IsOrder}
use Rattle.ice_net.specs.Formed.{IsFormed}
use Rattle.ice_net.specs.Meaning.{depends_on, shows}
use Rattle.ice_net.specs.NetlistData.{NetlistData}
use Rattle.ice_check.specs.Sound.{IsSound}
use Rattle.ice_cells.specs.Meaning as design
use Rattle.ice_cells.specs.Meaning.{HasValues}
use Rattle.ice_cells.specs.Packed.{packed}

-- a well-formed, sound netlist, and an order of evaluation of its signals
pub record IsSoundInOrder (n : NetlistData) (order : List ℕ) : Type 0 where
  pub formed : IsFormed n
  pub sound : IsSound n
  pub sorted : IsOrder (length n.names) (depends_on n) order

-- each node of the packed design of a sound netlist has a value, whatever the levels and whatever is kept
abbrev pub PackedNetlistsHaveValues : Type 0
PackedNetlistsHaveValues = (n : NetlistData) (order : List ℕ) → IsSoundInOrder n order → HasValues (packed n)

-- it shows, step by step, what the netlist shows, for each list of levels
abbrev pub PackedNetlistsShowTheSame : Type 0
PackedNetlistsShowTheSame = (n : NetlistData) (order : List ℕ) → IsSoundInOrder n order → (levels : List (List Bool)) → design.shows (packed n) levels ≡ shows n levels
