-- What also is true of the answers of `build`, and follows from what their causes say: status 0 with the pads that are chosen, and what
-- was given with the arrangement and what is told of its routing.
use Rattle.std.specs.Prelude.{◌≡◌, ℕ, true, Some, List}
use Rattle.ice_desk.specs.Desk.{Meaning}
use Rattle.ice_flow_frame.specs.declared.cause.Cause.{Cause}
use Rattle.ice_flow_frame.specs.Causes.{status_of}
use Rattle.ice_flow_frame.specs.Commands.{IsTrueOf}
use Rattle.ice_flow_frame.specs.Rows.{GoodRow}
use Rattle.ice_flow_frame.specs.Texts.{HoldsTexts}
use Rattle.ice_flow_build_cmd.specs.Asked.{Build, files_of}
use Rattle.ice_flow_build_cmd.specs.Command.{build_files}
use Rattle.ice_flow_build_cmd.specs.ExactlyShown.{IsShownExactly}
use Rattle.ice_flow_build_cmd.specs.Headline.{IsApart}

-- the files that are read hold texts, and the one that is written holds a text that shows them exactly, unless a report has its name
pub record HoldShownExactly (b : Build) (old new : Meaning) : Type 0 where
  pub texts : List (List ℕ)
  pub bits_text : List ℕ
  pub hold : HoldsTexts (files_of b) old texts
  pub holds_bits : IsApart b → new.files b.asc ≡ Some bits_text
  pub is_shown : IsShownExactly b.package_name texts bits_text

pub record HasFormerRows (b : Build) (old new : Meaning) (cause : Cause) (status : ℕ) : Type 0 where
  pub headline : status ≡ 0 → old.tells ≡ true → HoldShownExactly b old new
  pub good : GoodRow (build_files b) old new cause status

-- they follow from the cause and its status
abbrev pub CausesHaveFormerRows : Type 0
CausesHaveFormerRows = (b : Build) (old new : Meaning) (cause : Cause) (status : ℕ) → IsTrueOf (build_files b) old new cause → status ≡ status_of cause
    → HasFormerRows b old new cause status
