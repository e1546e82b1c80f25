-- What the program answers to words: its status and the cause, what it wrote, what it said, and which files it kept.
use Rattle.std.specs.Prelude.{◌≡◌, ◌⊎◌, ℕ, true, false, Option, None, Some, List}
use Rattle.clap.specs.Words.{Text, takes}
use Rattle.ice_desk.specs.Desk.{Meaning}
use Rattle.ice_desk.specs.Changes.{SameButSaying}
use Rattle.ice_desk.specs.Said.{SaidRow}
use Rattle.ice_flow_words.specs.Command.{command}
use Rattle.ice_flow_words.specs.Requests.{Asked, ForBuild}
use Rattle.ice_flow_words.specs.BuildRequest.{Build}
use Rattle.ice_flow_words.specs.Reading.{request_of}
use Rattle.ice_flow_frame.specs.declared.cause.Cause.{Cause}
use Rattle.ice_flow_frame.specs.declared.cause.Cause.TheVariants.{Usage, NoMemory}
use Rattle.ice_flow_frame.specs.declared.cause.Done.{Done}
use Rattle.ice_flow_frame.specs.Causes.{status_of, line_of}
use Rattle.ice_flow_frame.specs.Commands.{IsTrueOf}
use Rattle.ice_flow_frame.specs.Rows as answers
use Rattle.ice_flow_build_cmd.specs.Headline.{HeadlineRow}
use Rattle.ice_flow.specs.Command.{asked_for}

-- status 2: exactly where the words ask for nothing, unless memory runs out; and only where the command of the words does not take them
pub record UsageRow (words : List Text) (asked : Option Asked) (cause : Cause) : Type 0 where
  pub only : cause ≡ Usage → (asked ≡ None) × (takes command words ≡ false)
  pub always : asked ≡ None → (cause ≡ Usage) ⊎ (cause ≡ NoMemory)

-- What the cause says of what the words ask for, of its texts, and of what was given. Words that ask for nothing change nothing but what
-- is said.
abbrev pub Caused : Option Asked → Meaning → Meaning → Cause → Type 0
Caused None old new cause = SameButSaying old new × ((cause ≡ Usage) ⊎ (cause ≡ NoMemory))
Caused (Some asked) old new cause = IsTrueOf (asked_for asked) old new cause

-- what was said, beside what a command says that speaks: the whole line of a refusal, or a front of it where a say failed
abbrev pub SaidByWords : Option Asked → Meaning → Meaning → Cause → Type 0
SaidByWords None old new cause = SaidRow old new (line_of cause)
SaidByWords (Some asked) old new cause = answers.SaidBy (asked_for asked).output old new cause

-- where a command that writes is done, nothing was said, over every desk
abbrev pub SilentRow : Option Asked → Meaning → Meaning → Cause → Type 0
SilentRow None old new cause = Unit {0}
SilentRow (Some asked) old new cause = answers.SilentRow (asked_for asked).output old new cause

-- which files may change: those that a command writes, and no file where the work was refused before its writing
abbrev pub KeptRow : Option Asked → Meaning → Meaning → Cause → Type 0
KeptRow None old new cause = (name : List ℕ) → new.files name ≡ old.files name
KeptRow (Some asked) old new cause = answers.KeptRow (asked_for asked).output (asked_for asked).parting old new cause

-- how many files were made, over every desk
abbrev pub MadeRow : Option Asked → Meaning → Meaning → Cause → Type 0
MadeRow None old new cause = new.makes ≡ old.makes
MadeRow (Some asked) old new cause = answers.MadeRow (asked_for asked).output (asked_for asked).parting old new cause

-- what the file holds that is written where the rounds gave up
abbrev pub PartedRow : Option Asked → Meaning → Meaning → Cause → Type 0
PartedRow None old new cause = Unit {0}
PartedRow (Some asked) old new cause = answers.PartingRow (asked_for asked) old new cause

-- The end of the program for words that ask for this, where the desk was seen as `old` before and is seen as `new` after.
pub record IsAnswerTo (words : List Text) (asked : Option Asked) (old new : Meaning) (end : Done) : Type 0 where
  -- the status is that of the cause, and each cause is true
  pub status : end.status ≡ status_of end.cause
  pub usage : UsageRow words asked end.cause
  pub caused : Caused asked old new end.cause
  -- status 0 of `build`
  pub headline : (w : Build) → asked ≡ Some (ForBuild w) → HeadlineRow w old new end.status
  -- what was said
  pub said : old.tells ≡ true → SaidByWords asked old new end.cause
  pub silent : SilentRow asked old new end.cause
  -- which files were kept, and made
  pub kept : old.tells ≡ true → KeptRow asked old new end.cause
  pub made : MadeRow asked old new end.cause
  pub parted : PartedRow asked old new end.cause
  -- a desk tells its contents afterwards as before
  pub tells : new.tells ≡ old.tells

-- the end of the program for words
abbrev pub IsAnswer : List Text → Meaning → Meaning → Done → Type 0
IsAnswer words old new end = IsAnswerTo words (request_of words) old new end
