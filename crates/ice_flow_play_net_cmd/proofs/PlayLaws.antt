-- When each answer of `play-net` comes, from how its texts stand.
use Rattle.std.proofs.Common.{◌≡◌, ℕ, Bool, List, Result, Ok, Err, inl, inr, refl, sym, subst}
use Rattle.ice_desk.specs.Desk.{Meaning}
use Rattle.ice_ram_read.specs.ClosedNetlists.{ClosedNetlistData, closed_netlist_of}
use Rattle.ice_blif.specs.declared.fault.BlifFault.{BlifFault}
use Rattle.ice_check.specs.Sound.{IsSound}
use Rattle.ice_check.proofs.Faulty.{faulty}
use Rattle.ice_check.specs.declared.fault.NetFault.{NetFault}
use Rattle.ice_sim_levels.specs.LevelTexts.{levels_of}
use Rattle.ice_flow_frame.specs.declared.cause.Cause.{Cause}
use Rattle.ice_flow_frame.specs.declared.cause.Cause.TheVariants.{Good, Usage, WriteFault, BadBlif, BadNet, BadLevels}
use Rattle.ice_flow_frame.specs.Tells.{TellsNetFault}
use Rattle.ice_flow_frame.specs.Texts.{text_at}
use Rattle.ice_flow_frame.specs.Commands.{IsDone, IsTrueOf}
use Rattle.ice_flow_frame.proofs.Standings.{behind, fault_alone, then_stands, of_done}
use Rattle.ice_flow_frame.proofs.TextFacts.{of_weaker}
use Rattle.ice_flow_frame.proofs.CommandRows.{Lawful, StandsAlone, comes}
use Rattle.ice_flow_play_net_cmd.specs.Played.{PlayNet, files_of, LevelsStand, NetStands, StandsForPlayNet, IsFaulty, HasBadLine, play_net}
use Rattle.ice_flow_play_net_cmd.specs.PlayRows.{BlifRow, IsMalformed, IsUnsound, NetRow, LevelsRow}

-- what a refusal tells of the texts
Told : List (List ℕ) → Cause → Type 0
Told texts (Good arrangement tallies kept) = Unit {0}
Told texts (WriteFault role put) = Unit {0}
Told texts (BadBlif fault) = IsMalformed fault texts
Told texts (BadNet fault) = IsFaulty fault texts
Told texts (BadLevels line) = HasBadLine line texts
Told texts cause = ⊥

told_levels : (texts : List (List ℕ)) (circuit : ClosedNetlistData) (said : Result (List (List Bool)) ℕ) (cause : Cause) → closed_netlist_of (text_at texts 1) ≡ Ok circuit → IsSound circuit.netlist
    → levels_of circuit.first (text_at texts 2) ≡ said → LevelsStand circuit (text_at texts 2) cause → Told texts cause
unfolding Told
told_levels texts circuit (Err line) cause e sound is m =
    subst (Told texts) (sym (fault_alone (levels_of circuit.first (text_at texts 2)) BadLevels (λ levels. IsDone) line cause is m)) (record { circuit = circuit; is_circuit = e; is_sound = sound; is_line = is })
told_levels texts circuit (Ok levels) cause e sound is m =
    of_done (Told texts) (λ arrangement tallies kept. tt) (λ r n. tt) cause (then_stands (levels_of circuit.first (text_at texts 2)) BadLevels (λ ls. IsDone) levels cause is m)

told_net : (texts : List (List ℕ)) (circuit : ClosedNetlistData) (cause : Cause) → closed_netlist_of (text_at texts 1) ≡ Ok circuit → NetStands (text_at texts 2) circuit cause → Told texts cause
unfolding Told
told_net texts circuit cause e (inl bad) = subst (Told texts) (sym bad.1) (record { circuit = circuit; is_circuit = e; is_fault = bad.2; is_known = bad.3 })
told_net texts circuit cause e (inr good) = told_levels texts circuit (levels_of circuit.first (text_at texts 2)) cause e good.0 refl good.1

told_by : (texts : List (List ℕ)) (said : Result ClosedNetlistData BlifFault) (cause : Cause) → closed_netlist_of (text_at texts 1) ≡ said → StandsForPlayNet texts cause → Told texts cause
unfolding Told
told_by texts (Err fault) cause e m = subst (Told texts) (sym (fault_alone (closed_netlist_of (text_at texts 1)) BadBlif (NetStands (text_at texts 2)) fault cause e m)) e
told_by texts (Ok circuit) cause e m = told_net texts circuit cause e (then_stands (closed_netlist_of (text_at texts 1)) BadBlif (NetStands (text_at texts 2)) circuit cause e m)

told : (texts : List (List ℕ)) (cause : Cause) → StandsForPlayNet texts cause → Told texts cause
told texts cause m = told_by texts (closed_netlist_of (text_at texts 1)) cause refl m

-- ---- texts stand in one way

-- the netlist that was read stands so
net_stands : (texts : List (List ℕ)) (circuit : ClosedNetlistData) (cause : Cause) → closed_netlist_of (text_at texts 1) ≡ Ok circuit → StandsForPlayNet texts cause → NetStands (text_at texts 2) circuit cause
net_stands texts circuit cause e m = then_stands (closed_netlist_of (text_at texts 1)) BadBlif (NetStands (text_at texts 2)) circuit cause e m

-- the levels of a sound netlist stand so
levels_stand : (texts : List (List ℕ)) (circuit : ClosedNetlistData) (cause : Cause) → IsSound circuit.netlist → NetStands (text_at texts 2) circuit cause → LevelsStand circuit (text_at texts 2) cause
levels_stand texts circuit cause sound (inl bad) = absurd (faulty circuit.netlist bad.0 bad.3 bad.2 sound)
levels_stand texts circuit cause sound (inr good) = good.1

net_alone : (texts : List (List ℕ)) (circuit : ClosedNetlistData) (cause : Cause) → (IsSound circuit.netlist → ⊥) → NetStands (text_at texts 2) circuit cause → TellsNetFault cause
net_alone texts circuit cause unsound (inl bad) = (bad.0, bad.1)
net_alone texts circuit cause unsound (inr good) = absurd (unsound good.0)

pub lawful : (p : PlayNet) → Lawful (play_net p)
unfolding Told
lawful p = record {
  done = λ texts made on counted cause g done.
      behind (closed_netlist_of (text_at texts 1)) BadBlif (NetStands (text_at texts 2)) g.0.circuit cause g.0.is_circuit
      (inr (g.0.is_sound, behind (levels_of g.0.circuit.first (text_at texts 2)) BadLevels (λ levels. IsDone) g.0.levels cause g.0.are_levels done));
  never = λ texts m. told texts Usage m;
}

pub alone : (p : PlayNet) → StandsAlone (play_net p)
alone p texts made on counted cause g m =
    then_stands (levels_of g.0.circuit.first (text_at texts 2)) BadLevels (λ levels. IsDone) g.0.levels cause g.0.are_levels
    (levels_stand texts g.0.circuit cause g.0.is_sound (net_stands texts g.0.circuit cause g.0.is_circuit m))

-- ---- the rows

pub blif_row : (p : PlayNet) (old new : Meaning) (cause : Cause) → IsTrueOf (play_net p) old new cause → BlifRow p old cause
unfolding Told
blif_row p old new cause is fault =
    comes (play_net p) old new cause (λ c. c ≡ BadBlif fault) (IsMalformed fault) (lawful p) is
    (λ e. of_weaker (files_of p) old (λ t. StandsForPlayNet t (BadBlif fault)) (IsMalformed fault) (λ t m. told t (BadBlif fault) m) (subst (λ (x : Cause). IsTrueOf (play_net p) old new x) e is).0)
    (λ t h m. fault_alone (closed_netlist_of (text_at t 1)) BadBlif (NetStands (text_at t 2)) fault cause h m)

pub levels_row : (p : PlayNet) (old new : Meaning) (cause : Cause) → IsTrueOf (play_net p) old new cause → LevelsRow p old cause
unfolding Told
levels_row p old new cause is line =
    comes (play_net p) old new cause (λ c. c ≡ BadLevels line) (HasBadLine line) (lawful p) is
    (λ e. of_weaker (files_of p) old (λ t. StandsForPlayNet t (BadLevels line)) (HasBadLine line) (λ t m. told t (BadLevels line) m) (subst (λ (x : Cause). IsTrueOf (play_net p) old new x) e is).0)
    (λ t h m. fault_alone (levels_of h.circuit.first (text_at t 2)) BadLevels (λ levels. IsDone) line cause h.is_line (levels_stand t h.circuit cause h.is_sound (net_stands t h.circuit cause h.is_circuit m)))

unsound : (texts : List (List ℕ)) (fault : NetFault) → IsFaulty fault texts → IsUnsound texts
unsound texts fault is = (is.circuit, is.is_circuit, faulty is.circuit.netlist fault is.is_known is.is_fault)

pub net_row : (p : PlayNet) (old new : Meaning) (cause : Cause) → IsTrueOf (play_net p) old new cause → NetRow p old cause
unfolding Told
net_row p old new cause is =
    let at = λ (fault : NetFault) (e : cause ≡ BadNet fault). of_weaker (files_of p) old (λ t. StandsForPlayNet t (BadNet fault)) (IsFaulty fault) (λ t m. told t (BadNet fault) m) (subst (λ (x : Cause). IsTrueOf (play_net p) old new x) e is).0 in
    record {
      comes = comes (play_net p) old new cause TellsNetFault IsUnsound (lawful p) is
          (λ f. of_weaker (files_of p) old (IsFaulty f.0) IsUnsound (λ t m. unsound t f.0 m) (at f.0 f.1))
          (λ t h m. net_alone t h.0 cause h.2 (net_stands t h.0 cause h.1 m));
      fault_is = at;
    }
