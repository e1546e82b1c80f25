-- When each answer of `play-bits` comes, from how its texts stand.
use Rattle.std.proofs.Common.{◌≡◌, ℕ, Bool, List, length, Result, Ok, Err, inl, inr, refl, sym, subst, true}
use Rattle.ice_desk.specs.Desk.{Meaning}
use Rattle.ice_chip.specs.Database.{PackageRows}
use Rattle.ice_sim_levels.specs.LevelTexts.{levels_of}
use Rattle.ice_flow_frame.specs.declared.cause.Cause.{Cause}
use Rattle.ice_flow_frame.specs.declared.cause.Cause.TheVariants.{Usage, BadLevels}
use Rattle.ice_flow_frame.specs.Commands.{IsDone, IsTrueOf}
use Rattle.ice_flow_frame.specs.Texts.{text_at}
use Rattle.ice_flow_frame.proofs.CommandRows.{Lawful, StandsAlone, comes}
use Rattle.ice_flow_frame.proofs.Standings.{behind, fault_alone, then_stands, of_done}
use Rattle.ice_flow_frame.proofs.TextFacts.{of_weaker}
use Rattle.ice_flow_chip_frame.proofs.Looks.{then_so, configured_so}
use Rattle.ice_flow_chip_frame.proofs.RowLaws.{IsLater, IsOnBits}
use Rattle.ice_flow_chip_frame.proofs.Told.{told}
use Rattle.ice_flow_play_bits_cmd.specs.Played.{PlayBits, files_of, LevelsStand, StandsForPlayBits, HasBadLine, play_bits}
use Rattle.ice_flow_play_bits_cmd.specs.BitsRows.{LevelsRow}

abbrev pub Then : List (List ℕ) → PackageRows → Cause → Type 0
Then texts = LevelsStand (text_at texts 3)

-- what is true of the fault of each line, and of each answer of done work, is true of levels that stand so
of_levels : (P : Cause → Type 0) (bonded : PackageRows) (text : List ℕ) (cause : Cause) → ((line : ℕ) → levels_of (length bonded.pads) text ≡ Err line → P (BadLevels line)) → ((c : Cause) → IsDone c → P c)
    → LevelsStand text bonded cause → P cause
of_levels P bonded text cause bad done m = by (levels_of (length bonded.pads) text) refl
  where
    by : (said : Result (List (List Bool)) ℕ) → levels_of (length bonded.pads) text ≡ said → P cause
    by (Err line) is = subst P (sym (fault_alone (levels_of (length bonded.pads) text) BadLevels (λ levels. IsDone) line cause is m)) (bad line is)
    by (Ok levels) is = done cause (then_stands (levels_of (length bonded.pads) text) BadLevels (λ found. IsDone) levels cause is m)

-- what an answer tells of the levels
abbrev LineTold : PackageRows → List ℕ → Cause → Type 0
LineTold bonded text (BadLevels line) = levels_of (length bonded.pads) text ≡ Err line
LineTold bonded text cause = IsDone cause

line_told : (bonded : PackageRows) (text : List ℕ) (cause : Cause) → LevelsStand text bonded cause → LineTold bonded text cause
line_told bonded text cause m =
    of_levels (LineTold bonded text) bonded text cause (λ line is. is) (λ c done. of_done (LineTold bonded text) (λ arrangement tallies kept. tt) (λ role put. tt) c done) m

never : (name : List ℕ) (t : List (List ℕ)) → StandsForPlayBits name t Usage → ⊥
never name t m = elim (told true (Then t) name t Usage m) [ inl so ↦ so | inr later ↦ line_told later.bonded (text_at t 3) Usage later.stands ]

bad_line : (name : List ℕ) (t : List (List ℕ)) (line : ℕ) → StandsForPlayBits name t (BadLevels line) → HasBadLine name line t
bad_line name t line m = elim (told true (Then t) name t (BadLevels line) m) [
  | inl so ↦ absurd so
  | inr later ↦ record {
    parts = later.parts;
    configuration = later.configuration;
    bonded = later.bonded;
    is_configured = later.is_configured;
    is_line = line_told later.bonded (text_at t 3) (BadLevels line) later.stands;
  }
]

pub lawful : (p : PlayBits) → Lawful (play_bits p)
lawful p = record {
  done = λ t made on counted cause g done.
      configured_so true (Then t) p.package_name t g.0.parts g.0.configuration g.0.bonded cause g.0.is_configured
      (behind (levels_of (length g.0.bonded.pads) (text_at t 3)) BadLevels (λ levels. IsDone) g.0.levels cause g.0.levels_are done);
  never = never p.package_name;
}

pub alone : (p : PlayBits) → StandsAlone (play_bits p)
alone p t made on counted cause g m =
    then_stands (levels_of (length g.0.bonded.pads) (text_at t 3)) BadLevels (λ levels. IsDone) g.0.levels cause g.0.levels_are
    (then_so true (Then t) p.package_name t g.0.parts g.0.configuration g.0.bonded cause g.0.is_configured m)

pub on_bits : (p : PlayBits) → IsOnBits true (play_bits p) Then p.package_name
on_bits p = record {
  lawful = lawful p;
  stands = λ t cause m. m;
  later = λ t bonded cause m. of_levels IsLater bonded (text_at t 3) cause (λ line is. tt) (λ c done. of_done IsLater (λ arrangement tallies kept. tt) (λ role put. tt) c done) m;
}

-- ---- the row
pub levels_row : (p : PlayBits) (old new : Meaning) (cause : Cause) → IsTrueOf (play_bits p) old new cause → LevelsRow p old cause
levels_row p old new cause is line =
    comes (play_bits p) old new cause (λ c. c ≡ BadLevels line) (HasBadLine p.package_name line) (lawful p) is
    (λ e. of_weaker (files_of p) old (λ t. StandsForPlayBits p.package_name t (BadLevels line)) (HasBadLine p.package_name line) (λ t m. bad_line p.package_name t line m) (subst (λ (x : Cause). IsTrueOf (play_bits p) old new x) e is).0)
    (λ t h m. fault_alone (levels_of (length h.bonded.pads) (text_at t 3)) BadLevels (λ levels. IsDone) line cause h.is_line
    (then_so true (Then t) p.package_name t h.parts h.configuration h.bonded cause h.is_configured m))
