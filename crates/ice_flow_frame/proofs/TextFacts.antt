-- The texts of a command's files: those that were read, and those that the files hold.
use Rattle.std.proofs.Common.{◌≡◌, ◌∙◌, ◌≤◌, ◌<◌, ◌+◌, ◌-◌, ℕ, Vec, zero, suc, true, Option, None, Some, List, [], ◌∷◌, ◌++◌, length, take, get_or, slice_index_or, sym, ap, subst, refl, arith}
use Rattle.std.specs.declared.alloc.Global.{Global}
use Rattle.ice_desk.specs.Desk.{Meaning}
use Rattle.ice_desk.specs.Changes.{SameTest}
use Rattle.ice_flow_frame.specs.declared.cause.Cause.{Cause}
use Rattle.ice_flow_frame.specs.declared.files.CommandFile.{CommandFile}
use Rattle.ice_flow_frame.specs.Reading.{most_bytes, File, Files, role_behind, role_at, name_behind, name_at, IsTextOf, FitBefore, IsReadStop, IsTooLong, IsFirstTooLong}
use Rattle.ice_flow_frame.specs.TextLists.{texts_view}
use Rattle.ice_flow_frame.specs.Texts.{text_behind, text_at, files_view, ArePermitted, IsPermitted, AreTexts, OfTexts, HoldEach, HoldsTexts}
use Rattle.ice_flow_frame.specs.declared.cause.FileRole.{FileRole}
use Rattle.ice_flow_frame.proofs.ReadStops.{one_more}

-- the text that the program keeps at a place
pub text_here : (texts : List (Vec ℕ Global)) (before : ℕ) (d : Vec ℕ Global) → before < length texts → text_behind (texts_view texts) before ≡ (get_or texts before d).items
text_here [] before d lt = absurd (omega arith)
text_here (text ∷ texts) zero d lt = refl
text_here (text ∷ texts) (suc before) d lt = text_here texts before d (omega arith)

-- past the last place there is none
pub text_past : (texts : List (Vec ℕ Global)) (before : ℕ) → length texts ≤ before → text_behind (texts_view texts) before ≡ []
text_past [] before le = refl
text_past (text ∷ texts) zero le = absurd (omega arith)
text_past (text ∷ texts) (suc before) le = text_past texts before (omega arith)

pub text_at_place : (texts : List (Vec ℕ Global)) (place : ℕ) (d : Vec ℕ Global) → 0 < place → place ≤ length texts → text_at (texts_view texts) place ≡ (get_or texts (place - 1) d).items
text_at_place texts zero d some few = absurd (omega arith)
text_at_place texts (suc before) d some few = let e : suc before - 1 ≡ before = omega arith in rw e (text_here texts before d (omega arith))

pub no_text_at : (texts : List (Vec ℕ Global)) (place : ℕ) → length texts < place → text_at (texts_view texts) place ≡ []
no_text_at texts zero more = refl
no_text_at texts (suc before) more = text_past texts before (omega arith)

-- a name of files that pass a test passes what is the same test
pub permitted_at : (P Q : List ℕ → Type 0) (files : Files) (before : ℕ) → SameTest P Q → before < length files → ArePermitted P files → Q (name_behind files before)
permitted_at P Q [] before same lt are = absurd (omega arith)
permitted_at P Q (file ∷ files) zero same lt are = (same file.name).0 are.0
permitted_at P Q (file ∷ files) (suc before) same lt are = permitted_at P Q files before same (omega arith) are.1

-- names that pass a test pass what is the same test
pub still_permitted : (P Q : List ℕ → Type 0) (files : Files) → SameTest P Q → ArePermitted P files → ArePermitted Q files
still_permitted P Q [] same are = tt
still_permitted P Q (file ∷ files) same are = ((same file.name).0 are.0, still_permitted P Q files same are.1)

pub parting_permitted : (P Q : List ℕ → Type 0) (parting : Option File) → SameTest P Q → IsPermitted P parting → IsPermitted Q parting
parting_permitted P Q None same is = tt
parting_permitted P Q (Some file) same is = (same file.name).0 is

-- the name and the role of the file at a place of those that the program asks for
pub name_here : (files : List CommandFile) (before : ℕ) (d : CommandFile) → before < length files → name_behind (files_view files) before ≡ (slice_index_or files before d).name.now
name_here [] before d lt = absurd (omega arith)
name_here (file ∷ files) zero d lt = refl
name_here (file ∷ files) (suc before) d lt = name_here files before d (omega arith)

pub role_here : (files : List CommandFile) (before : ℕ) (d : CommandFile) → before < length files → role_behind (files_view files) before ≡ (slice_index_or files before d).role
role_here [] before d lt = absurd (omega arith)
role_here (file ∷ files) zero d lt = refl
role_here (file ∷ files) (suc before) d lt = role_here files before d (omega arith)

pub as_many : (files : List CommandFile) → length (files_view files) ≡ length files
as_many [] = refl
as_many (file ∷ files) = ap (λ n. suc n) (as_many files)

-- the name of the next file may be used, too
pub may_use_next : (P Q : List ℕ → Type 0) (files : List CommandFile) (before : ℕ) (d : CommandFile) → SameTest P Q → before < length files → ArePermitted P (files_view files)
    → Q (slice_index_or files before d).name.now
may_use_next P Q files before d same lt are = subst Q (name_here files before d lt) (permitted_at P Q (files_view files) before same (omega (arith, as_many files)) are)

-- what was read of the next file, and why it wasn't
pub next_text : (desk : Meaning) (files : List CommandFile) (before : ℕ) (d : CommandFile) (text : List ℕ) → before < length files → IsTextOf desk (slice_index_or files before d).name.now text
    → IsTextOf desk (name_behind (files_view files) before) text
next_text desk files before d text lt is = subst (λ name. IsTextOf desk name text) (sym (name_here files before d lt)) is

pub next_stop : (files : List CommandFile) (before : ℕ) (d : CommandFile) (old new : Meaning) (cause : Cause) → before < length files
    → IsReadStop (slice_index_or files before d).name.now (slice_index_or files before d).role old new cause
    → IsReadStop (name_at (files_view files) (before + 1)) (role_at (files_view files) (before + 1)) old new cause
next_stop files before d old new cause lt is =
    let e : before + 1 ≡ suc before = omega arith in
    rw e (subst (λ name. IsReadStop name (role_behind (files_view files) before) old new cause) (sym (name_here files before d lt))
    (subst (λ (role : FileRole). IsReadStop (slice_index_or files before d).name.now role old new cause) (sym (role_here files before d lt)) is))

-- one file more is not too long
pub one_fits_more : (files : Files) (old : Meaning) (before : ℕ) (text : List ℕ) → FitBefore files old (before + 1) → IsTextOf old (name_behind files before) text → length text ≤ most_bytes
    → FitBefore files old (before + 1 + 1)
one_fits_more files old before text fit is le =
    let e : before + 1 ≡ suc before = omega arith in
    one_more files old (before + 1) text fit (rw e is) le

-- the texts of the first files, and one text more
pub one_text_more : (desk : Meaning) (files : Files) (read : ℕ) (texts : List (List ℕ)) (text : List ℕ) → read < length files → AreTexts (take read files) desk texts
    → IsTextOf desk (name_behind files read) text → length text ≤ most_bytes → AreTexts (take (read + 1) files) desk (texts ++ text ∷ [])
one_text_more desk [] read texts text lt are is le = absurd (omega arith)
one_text_more desk (file ∷ files) zero [] text lt are is le = (is, le, tt)
one_text_more desk (file ∷ files) zero (t ∷ texts) text lt are is le = absurd are
one_text_more desk (file ∷ files) (suc read) [] text lt are is le = absurd are
one_text_more desk (file ∷ files) (suc read) (t ∷ texts) text lt are is le =
    let e : suc read + 1 ≡ suc (read + 1) = omega arith in
    rw e (are.0, are.1, one_text_more desk files read texts text (omega arith) are.2 is le)

text_is : (desk : Meaning) (name text bytes : List ℕ) → IsTextOf desk name text → desk.tells ≡ true → desk.files name ≡ Some bytes → text ≡ bytes
text_is desk name text bytes is t e = let both : Some text ≡ Some bytes = sym (is t) ∙ e in cc

-- the texts that were read are those that the files hold
pub texts_are : (files : Files) (desk : Meaning) (texts held : List (List ℕ)) → desk.tells ≡ true → AreTexts files desk texts → HoldEach files desk held → texts ≡ held
texts_are [] desk [] [] t are hold = refl
texts_are [] desk [] (h ∷ held) t are hold = absurd hold
texts_are [] desk (x ∷ texts) held t are hold = absurd are
texts_are (file ∷ files) desk [] held t are hold = absurd are
texts_are (file ∷ files) desk (x ∷ texts) [] t are hold = absurd hold
texts_are (file ∷ files) desk (x ∷ texts) (h ∷ held) t are hold =
    let here = text_is desk file.name x h are.0 t hold.0 in
    ap (λ y. y ∷ texts) here ∙ ap (λ ys. h ∷ ys) (texts_are files desk texts held t are.2 hold.2)

-- what is true of the texts that were read is true of those that the files hold
pub at_files : (files : Files) (desk : Meaning) (P : List (List ℕ) → Type 0) (held : List (List ℕ)) → HoldsTexts files desk held → OfTexts files desk P → P held
at_files files desk P held holds of = subst P (texts_are files desk of.0 held holds.tells of.1 holds.each) of.2

-- the files hold the texts that were read, where the desk tells its contents
hold_each : (files : Files) (desk : Meaning) (texts : List (List ℕ)) → desk.tells ≡ true → AreTexts files desk texts → HoldEach files desk texts
hold_each [] desk [] t are = tt
hold_each [] desk (x ∷ texts) t are = absurd are
hold_each (file ∷ files) desk [] t are = absurd are
hold_each (file ∷ files) desk (x ∷ texts) t are = (are.0 t, are.1, hold_each files desk texts t are.2)

pub holds_read : (files : Files) (desk : Meaning) (texts : List (List ℕ)) → desk.tells ≡ true → AreTexts files desk texts → HoldsTexts files desk texts
holds_read files desk texts t are = record { tells = t; each = hold_each files desk texts t are }

-- what is weaker is true of the texts, too
pub of_weaker : (files : Files) (desk : Meaning) (P Q : List (List ℕ) → Type 0) → ((texts : List (List ℕ)) → P texts → Q texts) → OfTexts files desk P → OfTexts files desk Q
of_weaker files desk P Q weaker of = (of.0, of.1, weaker of.0 of.2)

-- each file holds a text that is not too long
holds_at : (files : Files) (desk : Meaning) (texts : List (List ℕ)) (before : ℕ) → HoldEach files desk texts → before < length files
    → (bytes : List ℕ) × (desk.files (name_behind files before) ≡ Some bytes) × (length bytes ≤ most_bytes)
holds_at [] desk texts before hold lt = absurd (omega arith)
holds_at (file ∷ files) desk [] before hold lt = absurd hold
holds_at (file ∷ files) desk (x ∷ texts) zero hold lt = (x, hold.0, hold.1)
holds_at (file ∷ files) desk (x ∷ texts) (suc before) hold lt = holds_at files desk texts before hold.2 (omega arith)

holds_place : (files : Files) (desk : Meaning) (texts : List (List ℕ)) (place : ℕ) → HoldEach files desk texts → 0 < place → place ≤ length files
    → (bytes : List ℕ) × (desk.files (name_at files place) ≡ Some bytes) × (length bytes ≤ most_bytes)
holds_place files desk texts zero hold some few = absurd (omega arith)
holds_place files desk texts (suc before) hold some few = holds_at files desk texts before hold (omega arith)

-- where the files hold texts none of which is too long, no text is too long
pub long_not : (files : Files) (old new : Meaning) (role : FileRole) (limit : ℕ) (texts : List (List ℕ)) → HoldsTexts files old texts → IsTooLong files old new role limit → ⊥
long_not files old new role limit texts holds is =
    let e = holds_place files old texts is.last.place holds.each is.last.some is.last.few in
    let l : limit < length e.0 = is.longer e.0 holds.tells e.1 in
    let m : limit ≡ most_bytes = is.is_limit in
    let f : length e.0 ≤ most_bytes = e.2 in
    omega arith

-- where the texts of all files were read, none is the first that is too long
pub read_not_long : (files : Files) (desk : Meaning) (place : ℕ) (P : List (List ℕ) → Type 0) → desk.tells ≡ true → IsFirstTooLong files desk place → OfTexts files desk P → ⊥
read_not_long files desk place P t long of =
    let e = holds_place files desk of.0 place (hold_each files desk of.0 t of.1) long.some long.few in
    let both : Some e.0 ≡ Some long.bytes = sym e.1 ∙ long.holds in
    let same : e.0 ≡ long.bytes = cc in
    let more : most_bytes < length long.bytes = long.longer in
    let fits : length long.bytes ≤ most_bytes = subst (λ (xs : List ℕ). length xs ≤ most_bytes) same e.2 in
    omega arith
