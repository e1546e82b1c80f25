-- What follows from the answer: when each status comes, exactly, command by command.
use Rattle.std.specs.Prelude.{◌≡◌, ◌⊎◌, Option, Some, List}
use Rattle.clap.specs.Words.{Text}
use Rattle.ice_desk.specs.Desk.{Meaning}
use Rattle.ice_desk.specs.Changes.{SameButSaying}
use Rattle.ice_flow_words.specs.Requests.{Asked, ForBuild, ForBack, ForPlayNet, ForPlayBits, ForTime, ForSample}
use Rattle.ice_flow_words.specs.Reading.{request_of}
use Rattle.ice_flow_frame.specs.declared.cause.Cause.{Cause}
use Rattle.ice_flow_frame.specs.declared.cause.Cause.TheVariants.{NoMemory}
use Rattle.ice_flow_frame.specs.declared.cause.Done.{Done}
use Rattle.ice_flow_frame.specs.Refusals.{IsKnown}
use Rattle.ice_flow_build_cmd.specs.BuildRows.{IsBuildAnswer}
use Rattle.ice_flow_back_cmd.specs.BackRows.{IsBackAnswer}
use Rattle.ice_flow_sample_cmd.specs.SampleRows.{IsSampleAnswer}
use Rattle.ice_flow.specs.Plays.{IsNetAnswer, IsBitsAnswer, IsTimeAnswer}

-- there was no memory to read the words: nothing but the line of this was said
pub record IsForgotten (old new : Meaning) (cause : Cause) : Type 0 where
  pub is_cause : cause ≡ NoMemory
  pub same : SameButSaying old new

-- status 13 is free, and no file was made; want of memory has this status alone
pub record NoMemoryRow (old new : Meaning) (cause : Cause) : Type 0 where
  pub unmade : cause ≡ NoMemory → new.makes ≡ old.makes
  pub alone : IsKnown cause

-- where the words ask for such a command, this is true of it, unless there was no memory to read them
abbrev pub Answers : {W : Type 0} → (W → Asked) → Option Asked → Meaning → Meaning → Cause → (W → Type 0) → Type 0
Answers {W} such asked old new cause IsSo = (w : W) → asked ≡ Some (such w) → IsForgotten old new cause ⊎ IsSo w

-- the rows of the end of the program for words that ask for this
pub record HasRowsOf (asked : Option Asked) (old new : Meaning) (end : Done) : Type 0 where
  pub no_memory : NoMemoryRow old new end.cause
  pub built : Answers ForBuild asked old new end.cause (λ w. IsBuildAnswer w old new end)
  pub backed_up : Answers ForBack asked old new end.cause (λ w. IsBackAnswer w old new end)
  pub played : Answers ForPlayNet asked old new end.cause (λ w. IsNetAnswer w old new end)
  pub bits_played : Answers ForPlayBits asked old new end.cause (λ w. IsBitsAnswer w old new end)
  pub timed : Answers ForTime asked old new end.cause (λ w. IsTimeAnswer w old new end)
  pub sampled : Answers ForSample asked old new end.cause (λ w. IsSampleAnswer w old new end)

-- the rows of the end of the program for words
abbrev pub HasRows : List Text → Meaning → Meaning → Done → Type 0
HasRows words old new end = HasRowsOf (request_of words) old new end
