-- From the files behind the first one to all files: each place is one further.
use Rattle.std.proofs.Common.{◌≡◌, ◌∙◌, ◌≤◌, ◌<◌, ℕ, zero, suc, Option, Some, List, [], ◌∷◌, length, true, inl, inr, Ok, Err, refl, sym, subst, arith}
use Rattle.std.proofs.lemmas.Bool.{cases_lt}
use Rattle.ice_desk.specs.Desk.{Meaning}
use Rattle.ice_desk.specs.Changes.{SameButReading, Rose, after_one, after_more}
use Rattle.ice_flow_frame.specs.declared.cause.Cause.{Cause}
use Rattle.ice_flow_frame.specs.declared.cause.Cause.TheVariants.{Good, Usage, BadBlif, BadPcf, BadChip, BadNet, BadPin, Overfull, Unreachable, GaveUp, ReadFault, WriteFault, NoMemory, BadAsc, BadBits, TooLong, BadLevels, BadDelays}
use Rattle.ice_flow_frame.specs.declared.cause.FileRole.{FileRole}
use Rattle.ice_flow_frame.specs.Reading.{most_bytes, File, Files, role_at, name_at, IsTextOf, FitBefore, IsLastRead, IsUnread, IsReadStop}
use Rattle.ice_flow_frame.specs.Texts.{AreTexts}
use Rattle.ice_flow_frame.proofs.ReadStops.{reading_refl, none_before, stopped_at}
use Rattle.ice_chip_read_pieces.specs.Held.{Held}
use Rattle.ice_flow_chip_frame.specs.ChipFiles.{with_chip, chip_file, HasRead, AreRead}

-- where more than the limit would be told, no more was given
pub within : {V E : Type 0} (value : V) (stop : E) (new : Meaning) (bytes : List ℕ) → new.given ≡ length bytes → (most_bytes < new.given → Ok value ≡ Err stop) → length bytes ≤ most_bytes
within value stop new bytes given told = elim (cases_lt most_bytes new.given) [
  | inl more ↦ let never : Ok value ≡ Err stop = told more in absurd (cc)
  | inr few ↦ omega (arith, given, few)
]

-- the first file was read: its text fits, and since then the desk was only read
pub record IsBehind (file : File) (text : List ℕ) (old mid : Meaning) : Type 0 where
  pub same : SameButReading old mid
  pub begun : mid.begins ≡ after_one old.begins
  pub is_text : IsTextOf old file.name text
  pub fits : length text ≤ most_bytes

-- the role and the name at a place one further
role_further : (file : File) (files : Files) (place : ℕ) → 0 < place → role_at (file ∷ files) (suc place) ≡ role_at files place
role_further file files zero some = absurd (omega arith)
role_further file files (suc before) some = refl

name_further : (file : File) (files : Files) (place : ℕ) → 0 < place → name_at (file ∷ files) (suc place) ≡ name_at files place
name_further file files zero some = absurd (omega arith)
name_further file files (suc before) some = refl

-- a desk that was only read holds the same files
holds_before : (old mid : Meaning) (name bytes : List ℕ) → SameButReading old mid → old.files name ≡ Some bytes → mid.files name ≡ Some bytes
holds_before old mid name bytes same e = subst (λ (f : List ℕ → Option (List ℕ)). f name ≡ Some bytes) (sym same.files) e

first_fits : (file : File) (text bytes : List ℕ) (old mid : Meaning) → IsBehind file text old mid → old.tells ≡ true → old.files file.name ≡ Some bytes → length bytes ≤ most_bytes
first_fits file text bytes old mid is t e =
    let both : Some text ≡ Some bytes = sym (is.is_text t) ∙ e in
    let same : text ≡ bytes = cc in
    subst (λ (xs : List ℕ). length xs ≤ most_bytes) same is.fits

fit_further : (file : File) (files : Files) (text : List ℕ) (old mid : Meaning) (place : ℕ) → IsBehind file text old mid → FitBefore files mid place → FitBefore (file ∷ files) old (suc place)
fit_further file files text old mid place is fit zero bytes some few t e = absurd (omega arith)
fit_further file files text old mid place is fit (suc zero) bytes some few t e = first_fits file text bytes old mid is t e
fit_further file files text old mid place is fit (suc (suc n)) bytes some few t e =
    fit (suc n) bytes (omega arith) (omega arith) (is.same.tells ∙ t) (holds_before old mid (name_at files (suc n)) bytes is.same e)

last_further : (file : File) (files : Files) (text : List ℕ) (old mid new : Meaning) (role : FileRole) → IsBehind file text old mid → IsLastRead files mid new role → IsLastRead (file ∷ files) old new role
last_further file files text old mid new role is last = record {
  place = suc last.place;
  some = omega arith;
  few = (let few : last.place ≤ length files = last.few in omega arith);
  begun = (let b : new.begins ≡ after_more mid.begins last.place = last.begun in let m : mid.begins ≡ after_one old.begins = is.begun in omega (arith, b, m));
  is_role = last.is_role ∙ sym (role_further file files last.place last.some);
  before = fit_further file files text old mid last.place is last.before;
}

-- where the reading of the files behind the first stopped, that of all files stopped
pub unread_further : (file : File) (files : Files) (text : List ℕ) (old mid new : Meaning) (cause : Cause) → IsBehind file text old mid → IsUnread files mid new cause → IsUnread (file ∷ files) old new cause
unfolding last_further
unread_further file files text old mid new (ReadFault role) is stop = record {
  rose = (let r : Rose mid.read_faults new.read_faults = stop.rose in let g : old.read_faults ≤ mid.read_faults = is.same.read_faults in omega arith);
  last = last_further file files text old mid new role is stop.last;
}
unread_further file files text old mid new (TooLong role limit) is stop = record {
  is_limit = stop.is_limit;
  given = stop.given;
  last = last_further file files text old mid new role is stop.last;
  longer = λ bytes t e. stop.longer bytes (is.same.tells ∙ t) (holds_before old mid (name_at files stop.last.place) bytes is.same (subst (λ name. old.files name ≡ Some bytes) (name_further file files stop.last.place stop.last.some) e));
}
unread_further file files text old mid new NoMemory is stop = stop ∙ is.same.makes
unread_further file files text old mid new (Good arrangement tallies kept) is stop = absurd stop
unread_further file files text old mid new Usage is stop = absurd stop
unread_further file files text old mid new (BadBlif fault) is stop = absurd stop
unread_further file files text old mid new (BadPcf fault) is stop = absurd stop
unread_further file files text old mid new (BadChip fault) is stop = absurd stop
unread_further file files text old mid new (BadNet fault) is stop = absurd stop
unread_further file files text old mid new (BadPin fault) is stop = absurd stop
unread_further file files text old mid new (Overfull fault) is stop = absurd stop
unread_further file files text old mid new (Unreachable arrangement net sink) is stop = absurd stop
unread_further file files text old mid new (GaveUp arrangement logs tallies kept) is stop = absurd stop
unread_further file files text old mid new (WriteFault role put) is stop = absurd stop
unread_further file files text old mid new (BadAsc fault) is stop = absurd stop
unread_further file files text old mid new (BadBits fault) is stop = absurd stop
unread_further file files text old mid new (BadLevels line) is stop = absurd stop
unread_further file files text old mid new (BadDelays line) is stop = absurd stop

-- where the reading of the first file stopped, that of all files stopped
pub unread_first : (file : File) (files : Files) (old new : Meaning) (cause : Cause) → SameButReading old new → new.begins ≡ after_one old.begins
    → IsReadStop file.name file.role old new cause → IsUnread (file ∷ files) old new cause
unread_first file files old new cause same begun stop =
    stopped_at (file ∷ files) old old new 1 cause (reading_refl old) same begun (omega arith) (omega arith) (none_before (file ∷ files) old) stop

-- the texts of files that were read from a desk that was read before
texts_before : (files : Files) (old mid : Meaning) (texts : List (List ℕ)) → SameButReading old mid → AreTexts files mid texts → AreTexts files old texts
texts_before [] old mid [] same are = tt
texts_before [] old mid (text ∷ texts) same are = absurd are
texts_before (file ∷ files) old mid [] same are = absurd are
texts_before (file ∷ files) old mid (text ∷ texts) same are =
    ((λ t. subst (λ (f : List ℕ → Option (List ℕ)). f file.name ≡ Some text) same.files (are.0 (same.tells ∙ t))), are.1, texts_before files old mid texts same are.2)

-- behind what was read of the chip's file, the texts of the others
pub read_behind : (name : List ℕ) (files : Files) (old mid : Meaning) (reader : Held) (texts : List (List ℕ)) → SameButReading old mid → HasRead old name reader → AreTexts files mid texts
    → AreRead (with_chip name files) old reader texts
read_behind name files old mid reader texts same has are = record {
  chip_text = has.chip_text;
  stands = has.stands;
  are_texts = (has.is_text, has.fits, texts_before files old mid texts same are);
}

-- the chip's file was read
pub chip_behind : (name : List ℕ) (old mid : Meaning) (reader : Held) (has : HasRead old name reader) → SameButReading old mid → mid.begins ≡ after_one old.begins
    → IsBehind (chip_file name) has.chip_text old mid
chip_behind name old mid reader has same begun = record { same = same; begun = begun; is_text = has.is_text; fits = has.fits }
