-- Files by their names.
use Rattle.std.proofs.Common.{◌≡◌, ◌≢◌, ◌<◌, ◌≤◌, ◌+◌, ◌-◌, ◌++◌, ℕ, zero, suc, List, [], ◌∷◌, length, length-append, get_or, drop, Bool, true, false, cond, Some, None, refl, sym, ap, ◌∙◌, arith}
use Rattle.std.proofs.Math.ListN.{set}
use Rattle.std.proofs.lemmas.List.{at_drop_more, at_drop_all, append-nil, take_all, take-append-le, drop-append-le, length-drop}
use Rattle.std.specs.Str.{bytes_eq}
use Rattle.std.proofs.lemmas.Slice.Eq.{bytes_eq-Decides}
use Rattle.ice_desk.specs.Memory.{Named, has_name, file_in, place_from, IsPlace, bytes_at, source_bytes, needed_files, left_between, Grew}
use Rattle.ice_desk.specs.declared.files.Source.{Source}
use Rattle.ice_desk.specs.declared.files.Source.TheVariants.{Nothing, File, Moved}

placed_by : (name : List ℕ) (f : Named) (fs : List Named) (j i : ℕ) (b : Bool) → has_name name f ≡ b → cond b (Some j) (place_from (j + 1) fs name) ≡ Some i
    → ((i' : ℕ) → place_from (j + 1) fs name ≡ Some i' → (k : ℕ) × (i' ≡ j + 1 + k) × IsPlace name fs k)
    → (k : ℕ) × (i ≡ j + k) × IsPlace name (f ∷ fs) k
placed_by name f fs j i true is e go = (0, (let h : j ≡ i = (cc) in omega arith), is)
placed_by name f fs j i false is e go = let h = go i e in (suc h.0, omega (arith, h.1), (is, h.2))

-- a place that was found
pub placed : (name : List ℕ) (fs : List Named) (j i : ℕ) → place_from j fs name ≡ Some i → (k : ℕ) × (i ≡ j + k) × IsPlace name fs k
placed name [] j i e = absurd (cc)
placed name (f ∷ fs) j i e = placed_by name f fs j i (has_name name f) refl e (λ i' e'. placed name fs (j + 1) i' e')

pub placed_0 : (name : List ℕ) (fs : List Named) (i : ℕ) → place_from 0 fs name ≡ Some i → IsPlace name fs i
placed_0 name fs i e = let h = placed name fs 0 i e in let same : i ≡ h.0 = omega (arith, h.1) in rw same h.2

pub place_within : (name : List ℕ) (fs : List Named) (k : ℕ) → IsPlace name fs k → k < length fs
place_within name [] k p = absurd p
place_within name (f ∷ fs) zero p = omega arith
place_within name (f ∷ fs) (suc k) p = omega (arith, place_within name fs k p.1)

pub place_file : (name : List ℕ) (fs : List Named) (k : ℕ) (d : Named) → IsPlace name fs k → file_in fs name ≡ Some (get_or fs k d).1.items
place_file name [] k d p = absurd p
place_file name (f ∷ fs) zero d p = rw p refl
place_file name (f ∷ fs) (suc k) d p = rw p.0 (place_file name fs k d p.1)

pub set_at : (name : List ℕ) (fs : List Named) (k : ℕ) (g : Named) → IsPlace name fs k → has_name name g ≡ true → file_in (set fs k g) name ≡ Some g.1.items
set_at name [] k g p h = absurd p
set_at name (f ∷ fs) zero g p h = rw h refl
set_at name (f ∷ fs) (suc k) g p h = rw p.0 (set_at name fs k g p.1 h)

not_named : (name other : List ℕ) (f : Named) → other ≢ name → has_name name f ≡ true → (b : Bool) → has_name other f ≡ b → b ≡ false
not_named name other f ne is true same = absurd (ne (sym ((bytes_eq-Decides (f.0) other).0 same) ∙ (bytes_eq-Decides (f.0) name).0 is))
not_named name other f ne is false same = refl

pub set_other : (name other : List ℕ) (fs : List Named) (k : ℕ) (g : Named) → IsPlace name fs k → has_name name g ≡ true → other ≢ name → file_in (set fs k g) other ≡ file_in fs other
set_other name other [] k g p h ne = absurd p
set_other name other (f ∷ fs) zero g p h ne = rw (not_named name other g ne h (has_name other g) refl, not_named name other f ne p (has_name other f) refl) refl
set_other name other (f ∷ fs) (suc k) g p h ne = ap (λ x. cond (has_name other f) (Some f.1.items) x) (set_other name other fs k g p.1 h ne)

none_by : (name : List ℕ) (f : Named) (fs : List Named) (j : ℕ) (b : Bool) → has_name name f ≡ b → cond b (Some j) (place_from (j + 1) fs name) ≡ None
    → (place_from (j + 1) fs name ≡ None → file_in fs name ≡ None) → file_in (f ∷ fs) name ≡ None
none_by name f fs j true is e go = absurd (cc)
none_by name f fs j false is e go = rw is (go e)

-- no place was found
pub not_placed : (name : List ℕ) (fs : List Named) (j : ℕ) → place_from j fs name ≡ None → file_in fs name ≡ None
not_placed name [] j e = refl
not_placed name (f ∷ fs) j e = none_by name f fs j (has_name name f) refl e (not_placed name fs (j + 1))

-- one file more behind those of other names
pub push_at : (name : List ℕ) (fs : List Named) (g : Named) → file_in fs name ≡ None → has_name name g ≡ true → file_in (fs ++ g ∷ []) name ≡ Some g.1.items
push_at name [] g none is = rw is refl
push_at name (f ∷ fs) g none is = push_by name f fs g (has_name name f) refl none (λ n. push_at name fs g n is)
  where
    push_by : (name : List ℕ) (f : Named) (fs : List Named) (g : Named) (b : Bool) → has_name name f ≡ b → cond b (Some f.1.items) (file_in fs name) ≡ None
        → (file_in fs name ≡ None → file_in (fs ++ g ∷ []) name ≡ Some g.1.items) → file_in (f ∷ fs ++ g ∷ []) name ≡ Some g.1.items
    push_by name f fs g true is none go = absurd (cc)
    push_by name f fs g false is none go = rw is (go none)

pub push_other : (name other : List ℕ) (fs : List Named) (g : Named) → has_name name g ≡ true → other ≢ name → file_in (fs ++ g ∷ []) other ≡ file_in fs other
push_other name other [] g is ne = rw (not_named name other g ne is (has_name other g) refl) refl
push_other name other (f ∷ fs) g is ne = ap (λ x. cond (has_name other f) (Some f.1.items) x) (push_other name other fs g is ne)

pub named_is : (name : List ℕ) (g : Named) → g.0 ≡ name → has_name name g ≡ true
named_is name g e = (bytes_eq-Decides (g.0) name).1 e

-- a file keeps its name where its bytes change
pub still_named : (name : List ℕ) (fs : List Named) (k : ℕ) (d : Named) → IsPlace name fs k → has_name name (get_or fs k d) ≡ true
still_named name [] k d p = absurd p
still_named name (f ∷ fs) zero d p = p
still_named name (f ∷ fs) (suc k) d p = still_named name fs k d p.1

-- a file in the place of one of the same name and bytes
pub set_alike : (fs : List Named) (k : ℕ) (g : Named) (n : List ℕ) → (get_or fs k g).0 ≡ g.0 → (get_or fs k g).1.items ≡ g.1.items → file_in (set fs k g) n ≡ file_in fs n
set_alike [] k g n same bytes = refl
set_alike (f ∷ fs) zero g n same bytes = ap (λ s. cond (bytes_eq s n) (Some g.1.items) (file_in fs n)) (sym same) ∙ ap (λ b. cond (has_name n f) (Some b) (file_in fs n)) (sym bytes)
set_alike (f ∷ fs) (suc k) g n same bytes = ap (λ x. cond (has_name n f) (Some f.1.items) x) (set_alike fs k g n same bytes)

-- the bytes at a place, by the place alone
pub at_here : (fs : List Named) (k : ℕ) (d : Named) → k < length fs → bytes_at fs k ≡ (get_or fs k d).1.items
at_here [] k d lt = absurd (omega (arith, lt))
at_here (f ∷ fs) zero d lt = refl
at_here (f ∷ fs) (suc k) d lt = at_here fs k d (omega (arith, lt))

pub set_elsewhere : (fs : List Named) (j k : ℕ) (g : Named) → j ≢ k → bytes_at (set fs k g) j ≡ bytes_at fs j
set_elsewhere [] j k g ne = refl
set_elsewhere (f ∷ fs) zero zero g ne = absurd (ne refl)
set_elsewhere (f ∷ fs) zero (suc k) g ne = refl
set_elsewhere (f ∷ fs) (suc j) zero g ne = refl
set_elsewhere (f ∷ fs) (suc j) (suc k) g ne = set_elsewhere fs j k g (λ e. ne (ap suc e))

pub push_bytes : (fs : List Named) (g : Named) (k : ℕ) → k < length fs → bytes_at (fs ++ g ∷ []) k ≡ bytes_at fs k
push_bytes [] g k lt = absurd (omega (arith, lt))
push_bytes (f ∷ fs) g zero lt = refl
push_bytes (f ∷ fs) g (suc k) lt = push_bytes fs g k (omega (arith, lt))

pub source_at : (fs : List Named) (s : Source) (k : ℕ) (d : Named) → s ≡ File k → k < length fs → (get_or fs k d).1.items ≡ source_bytes fs s
source_at fs s k d e lt = rw e (sym (at_here fs k d lt))

-- a source stays the same where no file that it may name changes
pub push_source : (before now : List Named) (s : Source) → ((k : ℕ) → k < length before → bytes_at now k ≡ bytes_at before k) → needed_files s ≤ length before → source_bytes now s ≡ source_bytes before s
push_source before now Nothing same needed = refl
push_source before now (File k) same needed = same k (omega (arith, needed))
push_source before now (Moved bytes) same needed = refl

pub push_empty_at : (name : List ℕ) (fs : List Named) (g : Named) → file_in fs name ≡ None → g.0 ≡ name → g.1.items ≡ [] → file_in (fs ++ g ∷ []) name ≡ Some []
push_empty_at name fs g none e items = push_at name fs g none (named_is name g e) ∙ ap (λ xs. Some xs) items

pub push_empty_other : (name other : List ℕ) (fs : List Named) (g : Named) → g.0 ≡ name → other ≢ name → file_in (fs ++ g ∷ []) other ≡ file_in fs other
push_empty_other name other fs g e ne = push_other name other fs g (named_is name g e) ne

-- a file that grew among others that stay
pub set_grown : (fs : List Named) (k : ℕ) (g d : Named) (more : List ℕ) → g.1.items ≡ (get_or fs k d).1.items ++ more → Grew fs (set fs k g)
set_grown [] k g d more e j = ([], refl)
set_grown (f ∷ fs) zero g d more e zero = (more, e)
set_grown (f ∷ fs) zero g d more e (suc j) = ([], sym (append-nil (bytes_at fs j)))
set_grown (f ∷ fs) (suc k) g d more e zero = ([], sym (append-nil f.1.items))
set_grown (f ∷ fs) (suc k) g d more e (suc j) = set_grown fs k g d more e j

pub found_here : (name : List ℕ) (fs : List Named) (i : ℕ) (f : Named) → i < length fs → f ≡ get_or fs i f → has_name name f ≡ true → place_from i (drop i fs) name ≡ Some i
found_here name fs i f lt is named =
    at_drop_more (λ l. place_from i l name) fs i f lt ∙ ap (λ x. place_from i (x ∷ drop (i + 1) fs) name) (sym is) ∙ rw named refl

pub none_left : (name : List ℕ) (fs : List Named) (i : ℕ) → length fs ≤ i → place_from i (drop i fs) name ≡ None
none_left name fs i le = at_drop_all (λ l. place_from i l name) fs i le

-- a file that was found is there, and all of it is left
pub present : (name : List ℕ) (fs : List Named) (k : ℕ) → IsPlace name fs k → file_in fs name ≡ None → ⊥
present name [] k p none = p
present name (f ∷ fs) zero p none = let e : file_in (f ∷ fs) name ≡ Some f.1.items = rw p refl in let other : Some f.1.items ≡ None = sym e ∙ none in absurd (cc)
present name (f ∷ fs) (suc k) p none = present name fs k p.1 (let e : file_in (f ∷ fs) name ≡ file_in fs name = rw p.0 refl in sym e ∙ none)

pub place_bytes : (name : List ℕ) (fs : List Named) (k : ℕ) → IsPlace name fs k → file_in fs name ≡ Some (bytes_at fs k)
place_bytes name [] k p = absurd p
place_bytes name (f ∷ fs) zero p = rw p refl
place_bytes name (f ∷ fs) (suc k) p = rw p.0 (place_bytes name fs k p.1)

pub whole_left : (name : List ℕ) (fs : List Named) (k n : ℕ) → IsPlace name fs k → n ≡ length (bytes_at fs k) → file_in fs name ≡ Some (left_between fs (File k) 0 n)
whole_left name fs k n p e = place_bytes name fs k p ∙ ap (λ xs. Some xs) (sym (take_all (n - 0) (bytes_at fs k) (omega (arith, e))))

pub place_needed : (name : List ℕ) (fs : List Named) (k : ℕ) → IsPlace name fs k → needed_files (File k) ≤ length fs
place_needed name fs k p = omega (arith, place_within name fs k p)

pub place_length : (fs : List Named) (k n : ℕ) (d : Named) → k < length fs → n ≡ length (get_or fs k d).1.items → n ≡ length (bytes_at fs k)
place_length fs k n d lt e = e ∙ ap length (sym (at_here fs k d lt))

-- more behind the files changes nothing of what is left of the begun one
grown_bytes : (before now : List Named) (s : Source) → Grew before now → (more : List ℕ) × (source_bytes now s ≡ source_bytes before s ++ more)
grown_bytes before now Nothing g = ([], refl)
grown_bytes before now (File k) g = g k
grown_bytes before now (Moved bytes) g = ([], sym (append-nil bytes.items))

pub grown_length : (before now : List Named) (s : Source) (end : ℕ) → Grew before now → end ≤ length (source_bytes before s) → end ≤ length (source_bytes now s)
grown_length before now s end g le =
    let h = grown_bytes before now s g in
    rw h.1 (omega (arith, length-append (source_bytes before s) h.0, le))

pub grown_left : (before now : List Named) (s : Source) (at end : ℕ) → Grew before now → at ≤ end → end ≤ length (source_bytes before s) → left_between now s at end ≡ left_between before s at end
grown_left before now s at end g ordered le =
    let h = grown_bytes before now s g in
    let xs = source_bytes before s in
    rw (h.1, drop-append-le at xs h.0 (omega (arith, ordered, le))) (take-append-le (end - at) (drop at xs) h.0 (omega (arith, length-drop at xs, le)))
