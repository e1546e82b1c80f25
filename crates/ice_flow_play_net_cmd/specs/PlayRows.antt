-- When each answer of `play-net` comes: only where its cause is true, and always there, unless the desk or the memory fails. The other
-- answers come as those of every command.
use Rattle.std.specs.Prelude.{◌≡◌, ℕ, List, Ok, Err}
use Rattle.ice_desk.specs.Desk.{Meaning}
use Rattle.ice_ram_read.specs.ClosedNetlists.{ClosedNetlistData, closed_netlist_of}
use Rattle.ice_blif.specs.declared.fault.BlifFault.{BlifFault}
use Rattle.ice_check.specs.Sound.{IsSound}
use Rattle.ice_check.specs.declared.fault.NetFault.{NetFault}
use Rattle.ice_flow_frame.specs.declared.cause.Cause.{Cause}
use Rattle.ice_flow_frame.specs.declared.cause.Cause.TheVariants.{BadBlif, BadNet, BadLevels}
use Rattle.ice_flow_frame.specs.Rows.{ComesExactly}
use Rattle.ice_flow_frame.specs.Tells.{TellsNetFault}
use Rattle.ice_flow_frame.specs.Texts.{OfTexts, text_at}
use Rattle.ice_flow_play_net_cmd.specs.Played.{PlayNet, files_of, IsFaulty, HasBadLine, play_net}

-- the netlist's text has this first fault
abbrev pub IsMalformed : BlifFault → List (List ℕ) → Type 0
IsMalformed fault texts = closed_netlist_of (text_at texts 1) ≡ Err fault

-- status 3: exactly where the netlist's text has a fault, with the first one
abbrev pub BlifRow : PlayNet → Meaning → Cause → Type 0
BlifRow p old cause = (fault : BlifFault) → ComesExactly (play_net p) old (λ c. c ≡ BadBlif fault) (IsMalformed fault) cause

-- the text has a netlist, which isn't sound
abbrev pub IsUnsound : List (List ℕ) → Type 0
IsUnsound texts = (circuit : ClosedNetlistData) × (closed_netlist_of (text_at texts 1) ≡ Ok circuit) × (IsSound circuit.netlist → ⊥)

-- status 6: exactly where the netlist isn't sound, with a fault that it has and that is looked for before the others
pub record NetRow (p : PlayNet) (old : Meaning) (cause : Cause) : Type 0 where
  pub comes : ComesExactly (play_net p) old TellsNetFault IsUnsound cause
  pub fault_is : (fault : NetFault) → cause ≡ BadNet fault → OfTexts (files_of p) old (IsFaulty fault)

-- status 17: exactly where a line of the level text is refused, with the first one
abbrev pub LevelsRow : PlayNet → Meaning → Cause → Type 0
LevelsRow p old cause = (line : ℕ) → ComesExactly (play_net p) old (λ c. c ≡ BadLevels line) (HasBadLine line) cause
