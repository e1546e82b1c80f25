-- How what words ask for ended, and how words that ask for nothing did.
use Rattle.std.specs.Prelude.{◌≡◌, true}
use Rattle.ice_desk.specs.Desk.{Meaning}
use Rattle.ice_desk.specs.Changes.{SameButSaying}
use Rattle.ice_desk.specs.Said.{SaidRow}
use Rattle.ice_flow_words.specs.Requests.{Asked, ForSample}
use Rattle.ice_flow_frame.specs.declared.cause.Cause.{Cause}
use Rattle.ice_flow_frame.specs.declared.cause.Done.{Done}
use Rattle.ice_flow_frame.specs.Causes.{status_of, line_of}
use Rattle.ice_flow_frame.specs.Ends.{IsEndOf}
use Rattle.ice_flow_frame.specs.Reading.{TellsLong}
use Rattle.ice_flow_frame.specs.Says.{SilentWhereDone}
use Rattle.ice_flow.specs.Command.{asked_for}

-- where the file that was begun last gave more than the limit, a command that reads files says that a text is too long
abbrev pub IsLongTold : Asked → Meaning → Cause → Type 0
IsLongTold (ForSample w) new cause = Unit {0}
IsLongTold asked new cause = TellsLong new cause

-- the command that is asked for ended so
pub record IsDoneAs (asked : Asked) (old new : Meaning) (end : Done) : Type 0 where
  pub status : end.status ≡ status_of end.cause
  pub end_is : IsEndOf (asked_for asked) old new end.cause
  pub long : IsLongTold asked new end.cause

-- nothing was done: this cause was told, and its line was said
pub record IsRefusedAs (refusal : Cause) (old new : Meaning) (end : Done) : Type 0 where
  pub status : end.status ≡ status_of end.cause
  pub is_cause : end.cause ≡ refusal
  pub same : SameButSaying old new
  pub said : old.tells ≡ true → SaidRow old new (line_of end.cause)
  pub silent : SilentWhereDone old new end.cause
