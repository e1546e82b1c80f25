-- How a command ends: what was made is given, or the line of a refusal is said.
use Rattle.std.specs.Prelude.{◌≡◌, ℕ, Vec, ◌≤◌, true, List, Option, None, Some, Result, Ok, Err}
use Rattle.std.specs.declared.alloc.Global.{Global}
use Rattle.ice_place.specs.declared.arrangement.Arrangement.{Arrangement}
use Rattle.ice_desk.specs.Desk.{Meaning}
use Rattle.ice_desk.specs.Changes.{SameButSaying, SameButWriting, after_one}
use Rattle.ice_desk.specs.Said.{SaidRow}
use Rattle.ice_flow_frame.specs.declared.cause.Cause.{Cause}
use Rattle.ice_flow_frame.specs.declared.giving.Made.{Made}
use Rattle.ice_flow_frame.specs.declared.giving.Refused.{Refused}
use Rattle.ice_flow_frame.specs.Causes.{line_of}
use Rattle.ice_flow_frame.specs.Commands.{Command, Aloud, InFiles, IsPut, IsRefused, IsParting, IsTrueOf}
use Rattle.ice_flow_frame.specs.Reading.{most_bytes, File, Files, TellsLong}
use Rattle.ice_flow_frame.specs.Rows.{SaidBy, KeptRow, MadeRow, SilentRow, IsLeftIn, PartingRow}
use Rattle.ice_flow_frame.specs.Says.{SilentWhereDone}
use Rattle.ice_flow_frame.specs.Texts.{OfTexts}
use Rattle.ice_flow_frame.specs.Told.{Told, told_in}

-- ---- what an end does to the desk
-- the line of the cause was said, as far as no say failed, and nothing where the work is done
pub record IsLineSaid (old new : Meaning) (cause : Cause) : Type 0 where
  pub same : SameButSaying old new
  pub said : old.tells ≡ true → SaidRow old new (line_of cause)
  pub silent : SilentWhereDone old new cause

-- the line of this refusal was said
pub record IsRefusalSaid (refusal : Cause) (old new : Meaning) (cause : Cause) : Type 0 where
  pub is_cause : cause ≡ refusal
  pub line : IsLineSaid old new cause

-- the first of texts with this arrangement, of whose routing this is told, was said
pub record IsTextGiven (texts : List (List ℕ)) (arrangement : Arrangement) (told : Told) (old new : Meaning) (cause : Cause) : Type 0 where
  pub same : SameButSaying old new
  pub put : IsPut Aloud texts arrangement told old new cause

-- all but files, what is taken, and the counts of writing is as before
pub record SameButFiles (old new : Meaning) : Type 0 where
  pub tells : new.tells ≡ old.tells
  pub left : new.left ≡ old.left
  pub said : new.said ≡ old.said
  pub given : new.given ≡ old.given
  pub begins : new.begins ≡ old.begins
  pub says : new.says ≡ old.says
  pub read_faults : new.read_faults ≡ old.read_faults
  pub say_faults : new.say_faults ≡ old.say_faults
  pub write_faults : old.write_faults ≤ new.write_faults

-- the texts were written to these files, one after another, and then the line of the cause was said
pub record AreFilesGiven (files : Files) (texts : List (List ℕ)) (arrangement : Arrangement) (told : Told) (old new : Meaning) (cause : Cause) : Type 0 where
  pub written : Meaning
  pub same : SameButFiles old written
  pub put : IsPut (InFiles files) texts arrangement told old written cause
  pub line : IsLineSaid written new cause

-- this text was written to the file of this name, as far as no call failed
pub record IsTextLeft (name text : List ℕ) (old new : Meaning) : Type 0 where
  pub same : SameButWriting name old new
  pub made : new.makes ≡ after_one old.makes
  pub left : old.tells ≡ true → IsLeftIn name text old new

-- where there are a text and a file for it, it was left there; and else nothing was done
abbrev pub IsLeft : Option File → Option (List ℕ) → Meaning → Meaning → Type 0
IsLeft None report old new = new ≡ old
IsLeft (Some file) None old new = new ≡ old
IsLeft (Some file) (Some text) old new = IsTextLeft file.name text old new

-- the text of a report was left, and then the line of this refusal was said
pub record IsLeftAndSaid (parting : Option File) (report : Option (List ℕ)) (refusal : Cause) (old new : Meaning) (cause : Cause) : Type 0 where
  pub written : Meaning
  pub left : IsLeft parting report old written
  pub said : IsRefusalSaid refusal written new cause

abbrev pub IsEndAloud : Result Made Cause → Meaning → Meaning → Cause → Type 0
IsEndAloud (Ok made) old new cause = IsTextGiven made.texts made.arrangement (told_in made) old new cause
IsEndAloud (Err refusal) old new cause = IsRefusalSaid refusal old new cause

-- the text that is to be left
abbrev pub text_of : Option (Vec ℕ Global) → Option (List ℕ)
text_of None = None
text_of (Some text) = Some text.items

abbrev pub IsEndInFiles : Files → Option File → Result Made Refused → Meaning → Meaning → Cause → Type 0
IsEndInFiles files parting (Ok made) old new cause = AreFilesGiven files made.texts made.arrangement (told_in made) old new cause
IsEndInFiles files parting (Err refused) old new cause = IsLeftAndSaid parting (text_of refused.report) refused.cause old new cause

-- ---- what it is to a command
-- What came of the making, where the desk was seen as `old` before the files were read, and is seen as `new` after: what the texts give,
-- or a refusal that is true of the command.
abbrev pub IsMadeOf : Command → Meaning → Meaning → Result Made Cause → Type 0
IsMadeOf k old new (Ok made) = OfTexts k.files old (λ texts. k.Gives texts made.texts made.arrangement (told_in made))
IsMadeOf k old new (Err refusal) = IsRefused refusal × IsTrueOf k old new refusal

-- no text was too long, or that is the refusal
abbrev pub IsToldLong : Meaning → Result Made Cause → Type 0
IsToldLong new (Ok made) = new.given ≤ most_bytes
IsToldLong new (Err refusal) = TellsLong new refusal

-- what came of the making, beside the text that is to be left
abbrev pub unreported : Result Made Refused → Result Made Cause
unreported (Ok made) = Ok made
unreported (Err refused) = Err refused.cause

-- There is a text that is to be left exactly where the rounds gave up and there is a file for it, and it is one that the command leaves.
abbrev pub IsReport : Command → Meaning → Cause → Option (List ℕ) → Type 0
IsReport k old cause None = IsParting k.parting cause → ⊥
IsReport k old cause (Some text) = IsParting k.parting cause × OfTexts k.files old (λ texts. k.Leaves texts cause text)

abbrev pub IsReported : Command → Meaning → Result Made Refused → Type 0
IsReported k old (Ok made) = Unit {0}
IsReported k old (Err refused) = IsReport k old refused.cause (text_of refused.report)

-- the end of the command: its cause is true, what was said and made is as the cause tells, and the desk still tells its contents, if it did
pub record IsEndOf (k : Command) (old new : Meaning) (cause : Cause) : Type 0 where
  pub is_true : IsTrueOf k old new cause
  pub tells : new.tells ≡ old.tells
  pub said : old.tells ≡ true → SaidBy k.output old new cause
  pub kept : old.tells ≡ true → KeptRow k.output k.parting old new cause
  pub made : MadeRow k.output k.parting old new cause
  pub silent : SilentRow k.output old new cause
  pub parted : PartingRow k old new cause
