-- The headline: the netlist that is written is the configured chip.
use Rattle.std.specs.Prelude.{◌≡◌, ℕ, Bool, List, ◌++◌, map, codes, false}
use Rattle.ice_chip.specs.Database.{Parts, PackageRows}
use Rattle.ice_chip.specs.Listings.{first_pin}
use Rattle.ice_chip.specs.declared.rows.Pad.{Pad}
use Rattle.ice_bits.specs.Configuration.{Configuration, bits_of}
use Rattle.ice_decode.specs.Meaning.{bits_show}
use Rattle.ice_net.specs.Meaning as net
use Rattle.ice_net.specs.NetlistData.{NetlistData}
use Rattle.ice_net.specs.declared.port.Way.{Way}
use Rattle.ice_net.specs.declared.port.Way.TheVariants.{Both}
use Rattle.ice_blif.specs.Grammar.{HasNetlistAlone}
use Rattle.ice_blif_write.specs.RoundTrip.{named_port}
use Rattle.ice_check.specs.Sound.{IsSound}
use Rattle.ice_flow_chip_frame.specs.Standing.{IsConfigured}

-- the port of a pad, in and out: `p_` and the name of the first pin that leads to it
abbrev pub port_of_pad : PackageRows → Pad → List ℕ × Way
port_of_pad bonded pad = (codes "p_" ++ first_pin bonded pad, Both)

-- The text says a netlist, whatever its size, and no RAM. The netlist has a meaning. Its ports are the pads of the package in order, and for every list of
-- levels it shows there, step by step, what the configured chip shows at the pads.
pub record SaysBits (parts : Parts) (configuration : Configuration) (bonded : PackageRows) (text : List ℕ) : Type 0 where
  pub netlist : NetlistData
  pub is_said : HasNetlistAlone text netlist
  pub is_sound : IsSound netlist
  pub ports_are_pads : map (named_port netlist.names) netlist.ports ≡ map (port_of_pad bonded) bonded.pads
  pub shows_same : (levels : List (List Bool)) → net.shows netlist levels ≡ bits_show parts (bits_of configuration) configuration.extras bonded.pads bonded.pads levels

-- The first text says a chip, which has the package of this name, and the second says bits of the chip, which have no fault. What was
-- written says these bits.
pub record IsShown (name : List ℕ) (texts : List (List ℕ)) (text : List ℕ) : Type 0 where
  pub parts : Parts
  pub configuration : Configuration
  pub bonded : PackageRows
  pub is_configured : IsConfigured false name texts parts configuration bonded
  pub says : SaysBits parts configuration bonded text
