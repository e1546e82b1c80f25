-- The writing of texts to files, one after another.
use Rattle.std.proofs.Common.{◌≡◌, ◌≢◌, ◌∙◌, ◌+◌, ◌<◌, ◌≤◌, ℕ, zero, suc, Bool, true, false, true≢false, Option, Some, List, [], ◌∷◌, length, slice_index_or, refl, sym, ap, subst, arith}
use Rattle.std.specs.Str.{bytes_eq}
use Rattle.std.proofs.lemmas.Slice.Eq.{bytes_eq-Decides}
use Rattle.ice_desk.specs.Desk.{Meaning}
use Rattle.ice_desk.specs.Changes.{SameButWriting, Rose, after_one, after_more, HoldsAfter}
use Rattle.ice_flow_frame.specs.declared.cause.FileRole.{FileRole}
use Rattle.ice_flow_frame.specs.Ends.{SameButFiles}
use Rattle.ice_flow_frame.specs.Reading.{Files, name_behind}
use Rattle.ice_flow_frame.specs.declared.files.CommandFile.{CommandFile}
use Rattle.ice_flow_frame.specs.Texts.{text_behind, text_at, file_view, files_view}
use Rattle.ice_flow_frame.specs.Writing.{MadeMore, IsOther, Contents, once_written, after_writing, HoldFrom, IsWriteStop, AreWritten, AreWrittenInPart}
use Rattle.ice_flow_frame.proofs.TextFacts.{as_many, name_here, role_here}

-- ---- how many files were made

pub next_made : (before : ℕ) (old mid new : Meaning) → MadeMore before old mid → new.makes ≡ after_one mid.makes → MadeMore (before + 1) old new
next_made zero old mid new made one = one ∙ ap after_one made
next_made (suc before) old mid new made one = let e : suc before + 1 ≡ suc (suc before) = omega arith in rw e (omega (arith, made, one))

-- behind a step that makes no file, and before one
pub made_behind : (count : ℕ) (old mid new : Meaning) → mid.makes ≡ old.makes → MadeMore count mid new → MadeMore count old new
made_behind zero old mid new same made = made ∙ same
made_behind (suc before) old mid new same made = made ∙ ap (λ n. after_more n (suc before)) same

pub made_before : (count : ℕ) (old mid new : Meaning) → MadeMore count old mid → new.makes ≡ mid.makes → MadeMore count old new
made_before zero old mid new made same = same ∙ made
made_before (suc before) old mid new made same = same ∙ made

-- ---- what is as before

pub files_refl : (a : Meaning) → SameButFiles a a
files_refl a = record { tells = refl; left = refl; said = refl; given = refl; begins = refl; says = refl; read_faults = refl; say_faults = refl; write_faults = omega arith }

pub files_then : (name : List ℕ) (a b c : Meaning) → SameButFiles a b → SameButWriting name b c → SameButFiles a c
files_then name a b c p q = record {
  tells = q.tells ∙ p.tells;
  left = q.left ∙ p.left;
  said = q.said ∙ p.said;
  given = q.given ∙ p.given;
  begins = q.begins ∙ p.begins;
  says = q.says ∙ p.says;
  read_faults = q.read_faults ∙ p.read_faults;
  say_faults = q.say_faults ∙ p.say_faults;
  write_faults = omega (arith, p.write_faults, q.write_faults);
}

-- ---- what the files hold

pub written_here : (name text : List ℕ) (held : Contents) → once_written name text held name ≡ Some text
written_here name text held = rw ((bytes_eq-Decides name name).1 refl) refl

-- what a file holds once one file more was written, by whether it is this one
written_by : (name text other : List ℕ) (held : Contents) (found : Option (List ℕ)) (b : Bool) → bytes_eq name other ≡ b → (name ≡ other → found ≡ Some text)
    → (other ≢ name → found ≡ held other) → found ≡ once_written name text held other
written_by name text other held found true e here there = rw e (here ((bytes_eq-Decides name other).0 e))
written_by name text other held found false e here there = rw e (there (λ same. true≢false (sym ((bytes_eq-Decides name other).1 (sym same)) ∙ e)))

pub written_elsewhere : (name text other : List ℕ) (held : Contents) → other ≢ name → once_written name text held other ≡ held other
written_elsewhere name text other held ne = sym (written_by name text other held (held other) (bytes_eq name other) refl (λ e. absurd (ne (sym e))) (λ apart. refl))

-- one file more was written
pub written_more : (files : Files) (texts : List (List ℕ)) (held now next : Contents) (before : ℕ) → ((name : List ℕ) → now name ≡ after_writing before files texts held name)
    → next (name_behind files before) ≡ Some (text_behind texts before) → ((other : List ℕ) → other ≢ name_behind files before → next other ≡ now other)
    → (name : List ℕ) → next name ≡ after_writing (before + 1) files texts held name
written_more files texts held now next before is here others name =
    let e : before + 1 ≡ suc before = omega arith in
    rw e (written_by (name_behind files before) (text_behind texts before) name (after_writing before files texts held) (next name) (bytes_eq (name_behind files before) name) refl
    (λ same. subst (λ n. next n ≡ Some (text_behind texts before)) same here) (λ apart. others name apart ∙ is name))

pub other_at : (name : List ℕ) (files : Files) (before : ℕ) → IsOther name files → before < length files → name ≢ name_behind files before
other_at name [] before apart lt = absurd (omega arith)
other_at name (file ∷ files) zero apart lt = apart.0
other_at name (file ∷ files) (suc before) apart lt = other_at name files before apart.1 (omega arith)

-- files of other names hold what they held
pub others_hold : (name : List ℕ) (files : Files) (texts : List (List ℕ)) (held : Contents) (count : ℕ) → count ≤ length files → IsOther name files → after_writing count files texts held name ≡ held name
others_hold name files texts held zero le apart = refl
others_hold name files texts held (suc before) le apart =
    written_elsewhere (name_behind files before) (text_behind texts before) name (after_writing before files texts held) (other_at name files before apart (omega arith))
    ∙ others_hold name files texts held before (omega arith) apart

-- what later files of other names leave
later_leave : (name : List ℕ) (files : Files) (texts : List (List ℕ)) (held : Contents) (before count : ℕ) → ((n : ℕ) → n < count → name ≢ name_behind files (before + n))
    → after_writing (before + count) files texts held name ≡ after_writing before files texts held name
later_leave name files texts held before zero apart = let e : before + 0 ≡ before = omega arith in rw e refl
later_leave name files texts held before (suc count) apart =
    let e : before + suc count ≡ suc (before + count) = omega arith in
    rw e (written_elsewhere (name_behind files (before + count)) (text_behind texts (before + count)) name (after_writing (before + count) files texts held) (apart count (omega arith))
    ∙ later_leave name files texts held before count (λ n lt. apart n (omega arith)))

-- the last files hold their texts, once all were written
hold_from : (all : Files) (texts : List (List ℕ)) (held : Contents) (desk : Meaning) (before : ℕ) (files : Files) → ((n : ℕ) → name_behind files n ≡ name_behind all (before + n))
    → length all ≡ before + length files → ((name : List ℕ) → desk.files name ≡ after_writing (length all) all texts held name) → HoldFrom (before + 1) files texts desk
hold_from all texts held desk before [] same long is = tt
hold_from all texts held desk before (file ∷ files) same long is = (
  (λ apart.
      let many : length all ≡ before + 1 + length files = omega (arith, long) in
      let e : before + 1 ≡ suc before = omega arith in
      let none : before + 0 ≡ before = omega arith in
      let here : name_behind all before ≡ file.name = sym (same 0 ∙ ap (λ n. name_behind all n) none) in
      let left = later_leave file.name all texts held (before + 1) (length files) (λ n lt. let m : before + suc n ≡ before + 1 + n = omega arith in subst (λ x. file.name ≢ x) (same (suc n) ∙ ap (λ k. name_behind all k) m) (other_at file.name files n apart lt)) in
      let last = subst (λ name. once_written name (text_behind texts before) (after_writing before all texts held) file.name ≡ Some (text_behind texts before)) (sym here) (written_here file.name (text_behind texts before) (after_writing before all texts held)) in
      is file.name ∙ ap (λ n. after_writing n all texts held file.name) many ∙ left ∙ rw e last),
  hold_from all texts held desk (before + 1) files (λ n. let m : before + suc n ≡ before + 1 + n = omega arith in same (suc n) ∙ ap (λ k. name_behind all k) m) (omega (arith, long)) is,
)

pub all_hold : (files : Files) (texts : List (List ℕ)) (old new : Meaning) → old.tells ≡ true → AreWritten files texts old new → HoldFrom 1 files texts new
all_hold files texts old new t is = hold_from files texts old.files new 0 files (λ n. ap (λ k. name_behind files k) (omega arith)) (omega arith) (is.hold t)

-- ---- the steps of the writing

pub none_written : (files : Files) (texts : List (List ℕ)) (held : Contents) (name : List ℕ) → held name ≡ after_writing 0 files texts held name
none_written files texts held name = refl

text_next : (texts : List (List ℕ)) (before : ℕ) → text_at texts (before + 1) ≡ text_behind texts before
text_next texts before = let e : before + 1 ≡ suc before = omega arith in rw e refl

-- one file more was written
pub next_written : (files : List CommandFile) (texts : List (List ℕ)) (held now next : Contents) (before : ℕ) (d : CommandFile) (text : List ℕ) → before < length files
    → text ≡ text_at texts (before + 1) → ((name : List ℕ) → now name ≡ after_writing before (files_view files) texts held name)
    → next (slice_index_or files before d).name.now ≡ Some text → ((other : List ℕ) → other ≢ (slice_index_or files before d).name.now → next other ≡ now other)
    → (name : List ℕ) → next name ≡ after_writing (before + 1) (files_view files) texts held name
next_written files texts held now next before d text lt is_text is here others =
    let named = name_here files before d lt in
    written_more (files_view files) texts held now next before is
    (subst (λ name. next name ≡ Some (text_behind texts before)) (sym named) (here ∙ ap (λ (xs : List ℕ). Some xs) (is_text ∙ text_next texts before)))
    (λ other ne. others other (λ e. ne (e ∙ sym named)))

-- the writing stopped at a file
pub stopped_writing : (files : List CommandFile) (texts : List (List ℕ)) (old mid new : Meaning) (before : ℕ) (d : CommandFile) (text : List ℕ) (role : FileRole) (put : ℕ) → before < length files
    → text ≡ text_at texts (before + 1) → SameButFiles old mid → MadeMore before old mid → (old.tells ≡ true → (name : List ℕ) → mid.files name ≡ after_writing before (files_view files) texts old.files name)
    → SameButWriting (slice_index_or files before d).name.now mid new → new.makes ≡ after_one mid.makes → IsWriteStop (file_view (slice_index_or files before d)) text mid new role put
    → AreWrittenInPart (files_view files) texts old new role put
stopped_writing files texts old mid new before d text role put lt is_text same made held step one stop =
    let named = name_here files before d lt in
    record {
      before = before;
      few = omega (arith, lt, as_many files);
      is_role = stop.is_role ∙ sym (role_here files before d lt);
      rose = (let r : Rose mid.write_faults new.write_faults = stop.rose in let le : old.write_faults ≤ mid.write_faults = same.write_faults in omega arith);
      made = next_made before old mid new made one;
      puts = stop.puts;
      holds = λ t.
          let after = subst (λ name. HoldsAfter text put (mid.files name) (new.files name)) (sym named) (stop.holds (same.tells ∙ t)) in
          subst (λ was. HoldsAfter (text_behind texts before) put was (new.files (name_behind (files_view files) before))) (held t (name_behind (files_view files) before))
          (subst (λ xs. HoldsAfter xs put (mid.files (name_behind (files_view files) before)) (new.files (name_behind (files_view files) before))) (is_text ∙ text_next texts before) after);
      others = λ t other ne. step.others (same.tells ∙ t) other (λ e. ne (e ∙ sym named)) ∙ held t other;
    }

-- all files were written
pub all_written : (files : List CommandFile) (texts : List (List ℕ)) (old new : Meaning) (written : ℕ) → written ≡ length files → MadeMore written old new
    → (old.tells ≡ true → (name : List ℕ) → new.files name ≡ after_writing written (files_view files) texts old.files name) → AreWritten (files_view files) texts old new
all_written files texts old new written all made held =
    let many : written ≡ length (files_view files) = all ∙ sym (as_many files) in
    record { made = subst (λ n. MadeMore n old new) many made; hold = λ t name. held t name ∙ ap (λ n. after_writing n (files_view files) texts old.files name) many }
