-- Where the reading of a command's files stopped.
use Rattle.std.proofs.Common.{◌≡◌, ◌↔◌, ◌⊎◌, inl, inr, ◌∙◌, ◌≤◌, ◌<◌, ◌+◌, ℕ, Option, Some, List, length, refl, sym, ap, subst, true, arith}
use Rattle.std.proofs.lemmas.Bool.{cases_lt}
use Rattle.std.proofs.Math.Nat.{eq-or-lt_of_le}
use Rattle.ice_desk.specs.Desk.{Meaning}
use Rattle.ice_desk.specs.Changes.{SameButReading, SameButSaying, Rose, after_one, after_more}
use Rattle.ice_flow_frame.specs.declared.cause.Cause.{Cause}
use Rattle.ice_flow_frame.specs.declared.cause.Cause.TheVariants.{Good, Usage, BadBlif, BadPcf, BadChip, BadNet, BadPin, Overfull, Unreachable, GaveUp, ReadFault, WriteFault, NoMemory, BadAsc, BadBits, TooLong, BadLevels, BadDelays}
use Rattle.ice_flow_frame.specs.declared.cause.FileRole.{FileRole}
use Rattle.ice_flow_frame.specs.Reading.{most_bytes, Files, role_at, name_at, IsTextOf, FitBefore, IsLastRead, IsReadFault, IsTooLong, IsUnread, IsFirstTooLong, IsReadStop, IsLong, TellsLong}

pub next_place : (old mid new place : ℕ) → mid ≡ after_more old place → new ≡ after_one mid → new ≡ after_more old (place + 1)
next_place old mid new place m n = omega (arith, m, n)

-- no file stands before the first
pub none_before : (files : Files) (old : Meaning) → FitBefore files old 1
none_before files old n bytes some few t e = absurd (omega arith)

-- a text that was read is no longer than the limit, and so is the file that it was read from
fits : (desk : Meaning) (name text bytes : List ℕ) → IsTextOf desk name text → length text ≤ most_bytes → desk.tells ≡ true → desk.files name ≡ Some bytes → length bytes ≤ most_bytes
fits desk name text bytes is le t e =
    let both : Some text ≡ Some bytes = sym (is t) ∙ e in
    let same : text ≡ bytes = cc in
    subst (λ (xs : List ℕ). length xs ≤ most_bytes) same le

at_or_later : (m n : ℕ) → m ≤ n → (m ≡ n) ⊎ (m < n)
at_or_later m n le = eq-or-lt_of_le le

-- one file more that is not too long
pub one_more : (files : Files) (old : Meaning) (place : ℕ) (text : List ℕ) → FitBefore files old place → IsTextOf old (name_at files place) text → length text ≤ most_bytes → FitBefore files old (place + 1)
one_more files old place text before is le n bytes some few t e = elim (at_or_later n place (omega arith)) [
  | inl same ↦ fits old (name_at files place) text bytes is le t (subst (λ m. old.files (name_at files m) ≡ Some bytes) same e)
  | inr lower ↦ before n bytes some lower t e
]

-- a text that was read after other files were read
pub text_before : (old mid : Meaning) (name text : List ℕ) → SameButReading old mid → IsTextOf mid name text → IsTextOf old name text
text_before old mid name text same is t = subst (λ (f : List ℕ → Option (List ℕ)). f name ≡ Some text) same.files (is (same.tells ∙ t))

-- the reading that stopped is the one of this place; before it, the desk was read to `mid`
pub stopped_at : (files : Files) (old mid new : Meaning) (place : ℕ) (cause : Cause) → SameButReading old mid → SameButReading mid new
    → new.begins ≡ after_more old.begins place → 0 < place → place ≤ length files → FitBefore files old place
    → IsReadStop (name_at files place) (role_at files place) mid new cause → IsUnread files old new cause
stopped_at files old mid new place (ReadFault of_role) p q n some few before stop = record {
  rose = (let f : Rose mid.read_faults new.read_faults = stop.1 in let g : old.read_faults ≤ mid.read_faults = p.read_faults in omega arith);
  last = record { place = place; some = some; few = few; begun = n; is_role = stop.0; before = before };
}
stopped_at files old mid new place (TooLong of_role limit) p q n some few before stop = record {
  is_limit = stop.1;
  given = stop.2;
  last = record { place = place; some = some; few = few; begun = n; is_role = stop.0; before = before };
  longer = λ bytes t e. stop.3 bytes (p.tells ∙ t) (subst (λ (f : List ℕ → Option (List ℕ)). f (name_at files place) ≡ Some bytes) (sym p.files) e);
}
stopped_at files old mid new place NoMemory p q n some few before stop = q.makes ∙ p.makes
stopped_at files old mid new place (Good arrangement tallies kept) p q n some few before stop = absurd stop
stopped_at files old mid new place Usage p q n some few before stop = absurd stop
stopped_at files old mid new place (BadBlif fault) p q n some few before stop = absurd stop
stopped_at files old mid new place (BadPcf fault) p q n some few before stop = absurd stop
stopped_at files old mid new place (BadChip fault) p q n some few before stop = absurd stop
stopped_at files old mid new place (BadNet fault) p q n some few before stop = absurd stop
stopped_at files old mid new place (BadPin fault) p q n some few before stop = absurd stop
stopped_at files old mid new place (Overfull fault) p q n some few before stop = absurd stop
stopped_at files old mid new place (Unreachable arrangement net sink) p q n some few before stop = absurd stop
stopped_at files old mid new place (GaveUp arrangement logs tallies kept) p q n some few before stop = absurd stop
stopped_at files old mid new place (WriteFault of_role put) p q n some few before stop = absurd stop
stopped_at files old mid new place (BadAsc fault) p q n some few before stop = absurd stop
stopped_at files old mid new place (BadBits fault) p q n some few before stop = absurd stop
stopped_at files old mid new place (BadLevels line) p q n some few before stop = absurd stop
stopped_at files old mid new place (BadDelays line) p q n some few before stop = absurd stop

pub reading_refl : (a : Meaning) → SameButReading a a
reading_refl a = record { tells = refl; files = refl; taken = refl; said = refl; makes = refl; says = refl; puts = refl; is_open = refl; write_faults = refl; say_faults = refl; read_faults = omega arith }

-- ---- while a line is said

last_said : (files : Files) (old mid new : Meaning) (role : FileRole) → SameButSaying mid new → IsLastRead files old mid role → IsLastRead files old new role
last_said files old mid new role same is = record { place = is.place; some = is.some; few = is.few; begun = same.begins ∙ is.begun; is_role = is.is_role; before = is.before }

pub fault_said : (files : Files) (old mid new : Meaning) (role : FileRole) → SameButSaying mid new → IsReadFault files old mid role → IsReadFault files old new role
unfolding last_said
fault_said files old mid new role same is = record {
  rose = (let r : Rose old.read_faults mid.read_faults = is.rose in let e : new.read_faults ≡ mid.read_faults = same.read_faults in omega arith);
  last = last_said files old mid new role same is.last;
}

pub long_said : (files : Files) (old mid new : Meaning) (role : FileRole) (limit : ℕ) → SameButSaying mid new → IsTooLong files old mid role limit → IsTooLong files old new role limit
unfolding last_said
long_said files old mid new role limit same is = record {
  is_limit = is.is_limit;
  given = (let r : limit < mid.given = is.given in let e : new.given ≡ mid.given = same.given in omega arith);
  last = last_said files old mid new role same is.last;
  longer = is.longer;
}

-- ---- the first file that is too long

-- where all files were read and fit, none is too long
pub all_fit_not_long : (files : Files) (desk : Meaning) (place : ℕ) → desk.tells ≡ true → FitBefore files desk (length files + 1) → IsFirstTooLong files desk place → ⊥
all_fit_not_long files desk place t fit first =
    let le : length first.bytes ≤ most_bytes = fit place first.bytes first.some (let few : place ≤ length files = first.few in omega arith) t first.holds in
    let more : most_bytes < length first.bytes = first.longer in
    omega arith

-- the reading stopped at the first file that is too long
pub stops_at_first : (files : Files) (old new : Meaning) (role : FileRole) (limit place : ℕ) → old.tells ≡ true → IsTooLong files old new role limit → IsFirstTooLong files old place → role ≡ role_at files place
stops_at_first files old new role limit place t is first = elim (cases_lt is.last.place place) [
  | inl earlier ↦
      let e = first.before is.last.place is.last.some earlier in
      let more : limit < length e.0 = is.longer e.0 t e.1 in
      let same : limit ≡ most_bytes = is.is_limit in
      let le : length e.0 ≤ most_bytes = e.2 in
      absurd (omega arith)
  | inr le ↦ elim (at_or_later place is.last.place le) [
    | inl same ↦ is.last.is_role ∙ sym (ap (role_at files) same)
    | inr later ↦
        let fit : length first.bytes ≤ most_bytes = is.last.before place first.bytes first.some later t first.holds in
        let more : most_bytes < length first.bytes = first.longer in
        absurd (omega arith)
  ]
]

-- ---- a file that gave more than the limit

-- the answer that a text is too long, with the text's role
long_is : (cause : Cause) → IsLong cause → (role : FileRole) × (limit : ℕ) × (cause ≡ TooLong role limit)
long_is (Good arrangement tallies kept) is = absurd is
long_is Usage is = absurd is
long_is (BadBlif fault) is = absurd is
long_is (BadPcf fault) is = absurd is
long_is (BadChip fault) is = absurd is
long_is (BadNet fault) is = absurd is
long_is (BadPin fault) is = absurd is
long_is (Overfull fault) is = absurd is
long_is (Unreachable arrangement net sink) is = absurd is
long_is (GaveUp arrangement logs tallies kept) is = absurd is
long_is (ReadFault of_role) is = absurd is
long_is (WriteFault of_role put) is = absurd is
long_is NoMemory is = absurd is
long_is (BadAsc fault) is = absurd is
long_is (BadBits fault) is = absurd is
long_is (TooLong of_role limit) is = (of_role, limit, refl)
long_is (BadLevels line) is = absurd is
long_is (BadDelays line) is = absurd is

-- a text is too long exactly where the file that was begun last gave more than the limit
pub long_exactly : (files : Files) (old new : Meaning) (cause : Cause) → ((role : FileRole) (limit : ℕ) → cause ≡ TooLong role limit → IsTooLong files old new role limit) → TellsLong new cause
    → (IsLong cause ↔ (most_bytes < new.given))
long_exactly files old new cause only tells = (
  (λ is.
      let l = long_is cause is in
      let t = only l.0 l.1 l.2 in
      let more : l.1 < new.given = t.given in
      let same : l.1 ≡ most_bytes = t.is_limit in
      omega arith),
  tells,
)

-- no more than the limit was given, so the answer may be any
pub few_given : (new : Meaning) (cause : Cause) → new.given ≤ most_bytes → TellsLong new cause
few_given new cause few = λ more. absurd (omega arith)

-- what was given stays while a line is said
pub long_told : (mid new : Meaning) (cause : Cause) → SameButSaying mid new → TellsLong mid cause → TellsLong new cause
long_told mid new cause same tells = λ more. tells (let e : new.given ≡ mid.given = same.given in omega arith)
