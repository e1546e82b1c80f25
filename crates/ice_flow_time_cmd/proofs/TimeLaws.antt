-- When each answer of `time` comes, from how its texts stand.
use Rattle.std.proofs.Common.{◌≡◌, ℕ, List, Result, Ok, Err, inl, inr, refl, sym, subst, true}
use Rattle.ice_desk.specs.Desk.{Meaning}
use Rattle.ice_chip.specs.Database.{PackageRows}
use Rattle.ice_timing_delays.specs.declared.delays.Delays.{Delays}
use Rattle.ice_timing_delays.specs.declared.fault.DelayFault.{DelayFault}
use Rattle.ice_timing_delays.specs.declared.fault.DelayFault.TheVariants.{BadLine}
use Rattle.ice_timing_delays.specs.DelayTexts.{delays_of}
use Rattle.ice_flow_frame.specs.declared.cause.Cause.{Cause}
use Rattle.ice_flow_frame.specs.declared.cause.Cause.TheVariants.{Usage, BadDelays}
use Rattle.ice_flow_frame.specs.Commands.{IsDone, IsTrueOf}
use Rattle.ice_flow_frame.specs.Texts.{text_at}
use Rattle.ice_flow_frame.proofs.CommandRows.{Lawful, StandsAlone, comes}
use Rattle.ice_flow_frame.proofs.Standings.{behind, fault_alone, then_stands, of_done}
use Rattle.ice_flow_frame.proofs.TextFacts.{of_weaker}
use Rattle.ice_flow_chip_frame.proofs.Looks.{then_so, configured_so}
use Rattle.ice_flow_chip_frame.proofs.RowLaws.{IsLater, IsOnBits}
use Rattle.ice_flow_chip_frame.proofs.Told.{told}
use Rattle.ice_flow_time_cmd.specs.Timings.{Time, files_of, delays_cause, DelaysStand, StandsForTime, HasBadDelays, time}
use Rattle.ice_flow_time_cmd.specs.TimeRows.{DelaysRow}

abbrev pub Then : List (List ℕ) → PackageRows → Cause → Type 0
Then texts = DelaysStand (text_at texts 3)

-- what is true of the fault of each line, and of each answer of done work, is true of delays that stand so
of_delays : (P : Cause → Type 0) (bonded : PackageRows) (text : List ℕ) (cause : Cause) → ((line : ℕ) → delays_of text ≡ Err (BadLine line) → P (BadDelays line)) → ((c : Cause) → IsDone c → P c)
    → DelaysStand text bonded cause → P cause
of_delays P bonded text cause bad done m = by (delays_of text) refl
  where
    by : (said : Result Delays DelayFault) → delays_of text ≡ said → P cause
    by (Err (BadLine line)) is = subst P (sym (fault_alone (delays_of text) delays_cause (λ delays. IsDone) (BadLine line) cause is m)) (bad line is)
    by (Ok delays) is = done cause (then_stands (delays_of text) delays_cause (λ delays. IsDone) delays cause is m)

-- what an answer tells of the delays
abbrev LineTold : PackageRows → List ℕ → Cause → Type 0
LineTold bonded text (BadDelays line) = delays_of text ≡ Err (BadLine line)
LineTold bonded text cause = IsDone cause

line_told : (bonded : PackageRows) (text : List ℕ) (cause : Cause) → DelaysStand text bonded cause → LineTold bonded text cause
line_told bonded text cause m =
    of_delays (LineTold bonded text) bonded text cause (λ line is. is) (λ c done. of_done (LineTold bonded text) (λ arrangement tallies kept. tt) (λ role put. tt) c done) m

never : (name : List ℕ) (t : List (List ℕ)) → StandsForTime name t Usage → ⊥
never name t m = elim (told true (Then t) name t Usage m) [ inl so ↦ so | inr later ↦ line_told later.bonded (text_at t 3) Usage later.stands ]

bad_line : (name : List ℕ) (t : List (List ℕ)) (line : ℕ) → StandsForTime name t (BadDelays line) → HasBadDelays name line t
bad_line name t line m = elim (told true (Then t) name t (BadDelays line) m) [
  | inl so ↦ absurd so
  | inr later ↦ record {
    parts = later.parts;
    configuration = later.configuration;
    bonded = later.bonded;
    is_configured = later.is_configured;
    is_line = line_told later.bonded (text_at t 3) (BadDelays line) later.stands;
  }
]

pub lawful : (p : Time) → Lawful (time p)
lawful p = record {
  done = λ t made on counted cause g done.
      configured_so true (Then t) p.package_name t g.0.parts g.0.configuration g.0.bonded cause g.0.is_configured
      (behind (delays_of (text_at t 3)) delays_cause (λ delays. IsDone) g.0.delays cause g.0.delays_are done);
  never = never p.package_name;
}

pub alone : (p : Time) → StandsAlone (time p)
alone p t made on counted cause g m =
    then_stands (delays_of (text_at t 3)) delays_cause (λ delays. IsDone) g.0.delays cause g.0.delays_are
    (then_so true (Then t) p.package_name t g.0.parts g.0.configuration g.0.bonded cause g.0.is_configured m)

pub on_bits : (p : Time) → IsOnBits true (time p) Then p.package_name
on_bits p = record {
  lawful = lawful p;
  stands = λ t cause m. m;
  later = λ t bonded cause m. of_delays IsLater bonded (text_at t 3) cause (λ line is. tt) (λ c done. of_done IsLater (λ arrangement tallies kept. tt) (λ role put. tt) c done) m;
}

-- ---- the row
pub delays_row : (p : Time) (old new : Meaning) (cause : Cause) → IsTrueOf (time p) old new cause → DelaysRow p old cause
delays_row p old new cause is line =
    comes (time p) old new cause (λ c. c ≡ BadDelays line) (HasBadDelays p.package_name line) (lawful p) is
    (λ e. of_weaker (files_of p) old (λ t. StandsForTime p.package_name t (BadDelays line)) (HasBadDelays p.package_name line) (λ t m. bad_line p.package_name t line m) (subst (λ (x : Cause). IsTrueOf (time p) old new x) e is).0)
    (λ t h m. fault_alone (delays_of (text_at t 3)) delays_cause (λ delays. IsDone) (BadLine line) cause h.is_line
    (then_so true (Then t) p.package_name t h.parts h.configuration h.bonded cause h.is_configured m))
