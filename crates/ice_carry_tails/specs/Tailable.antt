-- What is asked of the names of a netlist to which carries are added.
use Rattle.std.specs.Prelude.{◌≡◌, ℕ, ◌<◌, List, length, All}
use Rattle.ice_net.specs.NetlistData.{NetlistData}
use Rattle.ice_carry_tails.specs.Tails.{tail_name}

-- the name does not end with a blank and `tail`, so no added carry's signal has it
abbrev pub IsPlainName : List ℕ → Type 0
IsPlainName name = (front : List ℕ) → name ≡ tail_name front → ⊥

-- no signal has an added carry's name, and there is room for the carries
pub record HasRoomForTails (n : NetlistData) : Type 0 where
  pub plain : All IsPlainName n.names
  pub room : length n.cells < 1073000000
