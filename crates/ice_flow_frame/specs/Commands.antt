-- Commands: what each reads, how its texts may stand, and what it makes of them; and what each answer says.
use Rattle.std.specs.Prelude.{◌≡◌, ◌⊎◌, ℕ, true, Option, None, Some, List, ◌++◌, Result, Ok, Err}
use Rattle.ice_place.specs.declared.arrangement.Arrangement.{Arrangement}
use Rattle.ice_desk.specs.Desk.{Meaning}
use Rattle.ice_desk.specs.Changes.{Rose, after_more}
use Rattle.ice_desk.specs.Said.{SaysFront}
use Rattle.ice_flow_frame.specs.declared.cause.Cause.{Cause}
use Rattle.ice_flow_frame.specs.declared.cause.Cause.TheVariants.{Good, GaveUp, ReadFault, WriteFault, NoMemory, TooLong}
use Rattle.ice_flow_frame.specs.declared.cause.FileRole.{FileRole}
use Rattle.ice_flow_frame.specs.declared.cause.FileRole.TheVariants.{Standard}
use Rattle.ice_flow_frame.specs.Reading.{File, Files, IsReadFault, IsTooLong}
use Rattle.ice_flow_frame.specs.Refusals.{IsKnown}
use Rattle.ice_flow_frame.specs.Texts.{text_at, OfTexts}
use Rattle.ice_flow_frame.specs.Writing.{AreWritten, AreWrittenInPart}
use Rattle.ice_flow_frame.specs.Told.{Told, telling}

-- where a command gives what it makes: on the standard output, or to these files, in the order of writing
pub data Output : Type 0 where
  Aloud : Output
  InFiles : Files → Output

-- what texts give: the texts read, the texts made, the arrangement that they are about and what is told of its routing
abbrev pub Giving : Type 1
Giving = List (List ℕ) → List (List ℕ) → Arrangement → Told → Type 0

-- a command with its words
pub record Command : Type 1 where
  -- the files that it reads, in the order of reading
  pub files : Files
  -- The texts stand so that this is their answer, beside what the desk and the memory have to do with it: the refusal of what is
  -- wrong first, or that the work is done.
  pub Stands : List (List ℕ) → Cause → Type 0
  -- what it makes of texts: a text for each place where it gives, with the arrangement that they are about and what is told of its routing
  pub Gives : Giving
  pub output : Output
  -- the file that is written where the rounds gave up, and which texts it may hold then, by the texts that were read and the answer
  pub parting : Option File
  pub Leaves : List (List ℕ) → Cause → List ℕ → Type 0

-- a command that writes nothing on parting
abbrev pub command_of : Files → (List (List ℕ) → Cause → Type 0) → Giving → Output → Command
command_of files Stands Gives output =
    record { files = files; Stands = Stands; Gives = Gives; output = output; parting = None; Leaves = λ texts cause text. ⊥ }

-- ---- how texts stand, one look at them after another

-- the work is done, or a fault of writing came in between
abbrev pub IsDone : Cause → Type 0
IsDone (Good arrangement tallies kept) = Unit {0}
IsDone (WriteFault role put) = Unit {0}
IsDone cause = ⊥

-- what was looked for is there, and then it stands so; or its fault is told
abbrev pub stands_by : {V F : Type 0} → Result V F → (F → Cause) → (V → Cause → Type 0) → Cause → Type 0
stands_by (Ok value) tell then cause = then value cause
stands_by (Err fault) tell then cause = cause ≡ tell fault

-- what was looked for is there, and then it stands so; or its want is told
abbrev pub stands_with : {V : Type 0} → Option V → Cause → (V → Cause → Type 0) → Cause → Type 0
stands_with None told then cause = cause ≡ told
stands_with (Some value) told then cause = then value cause

-- this is so, and then it stands so; or there is such a refusal
abbrev pub stands_if : Type 0 → (Cause → Type 0) → (Cause → Type 0) → Cause → Type 0
stands_if IsSo IsOtherwise then cause = IsOtherwise cause ⊎ (IsSo × then cause)

-- ---- why nothing is made

-- texts that stand so are refused by this cause, or there was no memory
abbrev pub IsRefusal : (Cause → Type 0) → Cause → Type 0
IsRefusal Stands (Good arrangement tallies kept) = ⊥
IsRefusal Stands (ReadFault role) = ⊥
IsRefusal Stands (WriteFault role put) = ⊥
IsRefusal Stands NoMemory = Unit {0}
IsRefusal Stands (TooLong role limit) = ⊥
IsRefusal Stands cause = Stands cause × IsKnown cause

-- a refusal: neither was the work done, nor did its writing fail
abbrev pub IsRefused : Cause → Type 0
IsRefused (Good arrangement tallies kept) = ⊥
IsRefused (WriteFault role put) = ⊥
IsRefused cause = Unit {0}

-- the rounds gave up
abbrev pub HasGivenUp : Cause → Type 0
HasGivenUp (GaveUp arrangement logs tallies kept) = Unit {0}
HasGivenUp cause = ⊥

-- something is left on parting: the rounds gave up, and there is a file for it
abbrev pub IsParting : Option File → Cause → Type 0
IsParting None cause = ⊥
IsParting (Some file) cause = HasGivenUp cause

-- ---- what became of what was made

-- it was said whole, and no file was made
pub record IsSaidWhole (text : List ℕ) (old new : Meaning) : Type 0 where
  pub made : new.makes ≡ old.makes
  pub said : old.tells ≡ true → new.said ≡ old.said ++ text

-- the count of write faults rose in this call, at the say of this number; a front of it was said
pub record IsSaidInPart (text : List ℕ) (old new : Meaning) (role : FileRole) (put : ℕ) : Type 0 where
  pub is_role : role ≡ Standard
  pub rose : Rose old.write_faults new.write_faults
  pub say_rose : Rose old.say_faults new.say_faults
  pub made : new.makes ≡ old.makes
  pub says : new.says ≡ after_more old.says put
  pub said : old.tells ≡ true → SaysFront old new text

-- the texts were given whole; who speaks says the first
abbrev pub IsGiven : Output → List (List ℕ) → Meaning → Meaning → Type 0
IsGiven Aloud texts old new = IsSaidWhole (text_at texts 1) old new
IsGiven (InFiles files) texts old new = AreWritten files texts old new

-- their giving stopped at a write fault
abbrev pub IsCut : Output → List (List ℕ) → Meaning → Meaning → FileRole → ℕ → Type 0
IsCut Aloud texts old new role put = IsSaidInPart (text_at texts 1) old new role put
IsCut (InFiles files) texts old new role put = AreWrittenInPart files texts old new role put

-- how the giving of texts with this arrangement, of whose routing this is told, ended
abbrev pub IsPut : Output → List (List ℕ) → Arrangement → Told → Meaning → Meaning → Cause → Type 0
IsPut output texts made_on told old new (Good arrangement tallies kept) = (arrangement ≡ made_on) × (telling tallies kept ≡ told) × IsGiven output texts old new
IsPut output texts made_on told old new (WriteFault role put) = IsCut output texts old new role put
IsPut output texts made_on told old new cause = ⊥

-- ---- the answers

-- the work is done: what the texts give with this arrangement, of whose routing this is told, was given whole
pub record IsGood (k : Command) (old new : Meaning) (arrangement : Arrangement) (told : Told) : Type 0 where
  pub made : List (List ℕ)
  pub texts : OfTexts k.files old (λ texts. k.Gives texts made arrangement told)
  pub given : IsGiven k.output made old new

-- a write fault: the giving of what the texts give stopped
pub record IsWriteFault (k : Command) (old new : Meaning) (role : FileRole) (put : ℕ) : Type 0 where
  pub made : List (List ℕ)
  pub arrangement : Arrangement
  pub told : Told
  pub texts : OfTexts k.files old (λ texts. k.Gives texts made arrangement told)
  pub cut : IsCut k.output made old new role put

-- what each cause says of a command, of its texts, and of the desk before and after
abbrev pub IsTrueOf : Command → Meaning → Meaning → Cause → Type 0
IsTrueOf k old new (Good arrangement tallies kept) = IsGood k old new arrangement (telling tallies kept)
IsTrueOf k old new (ReadFault role) = IsReadFault k.files old new role
IsTrueOf k old new (WriteFault role put) = IsWriteFault k old new role put
IsTrueOf k old new NoMemory = new.makes ≡ old.makes
IsTrueOf k old new (TooLong role limit) = IsTooLong k.files old new role limit
IsTrueOf k old new cause = OfTexts k.files old (λ texts. k.Stands texts cause) × IsKnown cause
