-- How the two texts of `play-net` stand, and what it makes of them: of the netlist's text, which is the first, and of the text of
-- levels, which is the second.
use Rattle.std.specs.Prelude.{◌≡◌, ◌≢◌, Bool, ℕ, List, [], ◌∷◌, Ok, Err}
use Rattle.ice_place.specs.declared.arrangement.Arrangement.{Arrangement}
use Rattle.ice_ram_read.specs.ClosedNetlists.{ClosedNetlistData, closed_netlist_of}
use Rattle.ice_check.specs.Sound.{IsSound}
use Rattle.ice_check.specs.Refusals.{IsFaultOf}
use Rattle.ice_check.specs.declared.fault.NetFault.TheVariants as net_fault
use Rattle.ice_check.specs.declared.fault.NetFault.{NetFault}
use Rattle.ice_sim_levels.specs.LevelTexts.{levels_of}
use Rattle.ice_sim_levels.specs.DriveTexts.{drives_text}
use Rattle.ice_sim_rams.specs.Closed.{closed_shows}
use Rattle.ice_flow_frame.specs.declared.cause.Cause.{Cause}
use Rattle.ice_flow_frame.specs.declared.cause.Cause.TheVariants.{BadBlif, BadLevels}
use Rattle.ice_flow_frame.specs.declared.cause.FileRole.TheVariants.{Blif, Levels}
use Rattle.ice_flow_frame.specs.Causes.{no_arrangement}
use Rattle.ice_flow_frame.specs.Commands.{Command, command_of, Aloud, IsDone, stands_by, stands_if}
use Rattle.ice_flow_frame.specs.Reading.{Files}
use Rattle.ice_flow_frame.specs.Refusals.{IsNetCause}
use Rattle.ice_flow_frame.specs.Told.{Told, nothing_told}
use Rattle.ice_flow_frame.specs.Texts.{text_at}
pub use Rattle.ice_flow_words.specs.Requests.{PlayNet}

-- its files, in the order of reading
abbrev pub files_of : PlayNet → Files
files_of p = record { role = Blif; name = p.blif } ∷ record { role = Levels; name = p.levels } ∷ []

-- ---- how the texts stand

-- the levels of a sound netlist: the work is done where they are one for each of its first ports in each line
abbrev pub LevelsStand : ClosedNetlistData → List ℕ → Cause → Type 0
LevelsStand circuit levels_text = stands_by (levels_of circuit.first levels_text) BadLevels (λ levels. IsDone)

-- a netlist that was read: it is sound, or has a fault
abbrev pub NetStands : List ℕ → ClosedNetlistData → Cause → Type 0
NetStands levels_text circuit = stands_if (IsSound circuit.netlist) (IsNetCause circuit.netlist) (LevelsStand circuit levels_text)

-- first the netlist's text is looked at, then the netlist, and then the levels
abbrev pub StandsForPlayNet : List (List ℕ) → Cause → Type 0
StandsForPlayNet texts = stands_by (closed_netlist_of (text_at texts 1)) BadBlif (NetStands (text_at texts 2))

-- the netlist has no meaning, by this fault
pub record IsFaulty (fault : NetFault) (texts : List (List ℕ)) : Type 0 where
  pub circuit : ClosedNetlistData
  pub is_circuit : closed_netlist_of (text_at texts 1) ≡ Ok circuit
  pub is_fault : IsFaultOf circuit.netlist fault
  pub is_known : fault ≢ net_fault.NoMemory

-- the netlist is sound, and this line of the level text is the first that isn't one level for each of its first ports
pub record HasBadLine (line : ℕ) (texts : List (List ℕ)) : Type 0 where
  pub circuit : ClosedNetlistData
  pub is_circuit : closed_netlist_of (text_at texts 1) ≡ Ok circuit
  pub is_sound : IsSound circuit.netlist
  pub is_line : levels_of circuit.first (text_at texts 2) ≡ Err line

-- the netlist is sound, and this is the text of what it shows for the levels
pub record IsPlayed (texts : List (List ℕ)) (text : List ℕ) : Type 0 where
  pub circuit : ClosedNetlistData
  pub levels : List (List Bool)
  pub is_circuit : closed_netlist_of (text_at texts 1) ≡ Ok circuit
  pub is_sound : IsSound circuit.netlist
  pub are_levels : levels_of circuit.first (text_at texts 2) ≡ Ok levels
  pub is_text : text ≡ drives_text (closed_shows circuit.netlist circuit.first circuit.rams levels)

-- what is made of the texts; nothing is placed or routed
abbrev pub IsMadeByPlayNet : List (List ℕ) → List (List ℕ) → Arrangement → Told → Type 0
IsMadeByPlayNet texts made arrangement told = IsPlayed texts (text_at made 1) × (arrangement ≡ no_arrangement) × (told ≡ nothing_told)

abbrev pub play_net : PlayNet → Command
play_net p = command_of (files_of p) StandsForPlayNet IsMadeByPlayNet Aloud
