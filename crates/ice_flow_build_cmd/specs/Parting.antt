-- What is left where the rounds gave up: the report on them.
use Rattle.std.specs.Prelude.{◌≡◌, ◌≢◌, ℕ, Option, None, Some, List}
use Rattle.ice_flow_frame.specs.declared.cause.Cause.{Cause}
use Rattle.ice_flow_frame.specs.declared.cause.Cause.TheVariants.{GaveUp}
use Rattle.ice_flow_frame.specs.declared.giving.Refused.{Refused}
use Rattle.ice_flow_frame.specs.Commands.{HasGivenUp, IsRefusal}
use Rattle.ice_flow_frame.specs.Ends.{text_of}
use Rattle.ice_flow_build_cmd.specs.Asked.{Build, Asks, effort_of}
use Rattle.ice_flow_build_cmd.specs.Made.{IsGivenUpIn}
use Rattle.ice_flow_build_cmd.specs.Standing.{StandsForBuild}

-- the report tells of the rounds of this answer, which gave up: of its logs, on its arrangement
abbrev pub TellsOf : Build → List (List ℕ) → Cause → List ℕ → Type 0
TellsOf b texts (GaveUp arrangement logs tallies kept) report = Asks b.package_name (λ task. IsGivenUpIn task (effort_of b) arrangement kept.items logs.items tallies.items report) texts
TellsOf b texts cause report = ⊥

-- there is a report exactly where the rounds gave up and it is asked for, and it tells of them
abbrev pub HasReport : Build → List (List ℕ) → Cause → Option (List ℕ) → Type 0
HasReport b texts cause None = HasGivenUp cause → b.report ≡ None
HasReport b texts cause (Some report) = HasGivenUp cause × (b.report ≢ None) × TellsOf b texts cause report

-- texts that stand so are refused by this cause, with such a report, or there was no memory
pub record IsRefusedWith (b : Build) (texts : List (List ℕ)) (refused : Refused) : Type 0 where
  pub refusal : IsRefusal (StandsForBuild b.package_name (effort_of b) texts) refused.cause
  pub report : HasReport b texts refused.cause (text_of refused.report)

-- the cause is none of rounds that gave up
abbrev pub IsOfNoRounds : Cause → Type 0
IsOfNoRounds cause = HasGivenUp cause → ⊥

-- texts are refused by this cause where they are read, before any round; or there was no memory
abbrev pub IsReadRefusal : Build → List (List ℕ) → Cause → Type 0
IsReadRefusal b texts cause = IsRefusal (StandsForBuild b.package_name (effort_of b) texts) cause × IsOfNoRounds cause
