-- The place of each switch row among groups whose rows are numbered on.
use Rattle.std.proofs.Common.{◌≡◌, ℕ, zero, suc, ◌+◌, ◌-◌, ◌<◌, ◌≤◌, List, [], ◌∷◌, ◌++◌, map, length, get_or, slice_get, Some, refl, sym, ap, ◌∙◌, subst, arith}
use Rattle.std.proofs.lemmas.List.{get_or_default, length-map}
use Rattle.ice_chip.specs.Database.{SwitchGroup}
use Rattle.ice_chip.specs.Indices.{IsBorder}
use Rattle.ice_chip.specs.IsRead.{AreNumbered}
use Rattle.ice_chip.specs.Listings.{in_group, rows_of}
use Rattle.ice_chip.specs.Views.{group_view, row_view}
use Rattle.ice_chip.specs.declared.sections.Group.{Group}
use Rattle.ice_chip.specs.declared.sections.Row.{Row}
use Rattle.ice_chip.proofs.GroupRows.{rows_count}

-- ---- halving
-- behind a group that begins with the row or before it
pub border_up : (groups : List Group) (row m : ℕ) (g : Group) → m < length groups → g ≡ get_or groups m g → g.first.0 ≤ row → (k : ℕ) (d : Group) → k + 1 ≡ m + 1 → (get_or groups k d).first.0 ≤ row
border_up groups row m g lt is le k d same =
    let at : k ≡ m = omega (arith, same) in
    let there : get_or groups k d ≡ g = ap (λ i. get_or groups i d) at ∙ get_or_default groups m d g lt ∙ sym is in
    subst (λ (x : Group). x.first.0 ≤ row) (sym there) le

-- at a group that begins behind the row
pub border_down : (groups : List Group) (row m : ℕ) (g : Group) → m < length groups → g ≡ get_or groups m g → row < g.first.0 → (d : Group) → m < length groups → row < (get_or groups m d).first.0
border_down groups row m g lt is above d there = subst (λ (x : Group). row < x.first.0) (sym (get_or_default groups m d g lt ∙ sym is)) above

-- ---- numbers
-- where the groups' rows end
pub ends_at : (s : ℕ) (gs : List Group) (i : ℕ) (d : Group) → AreNumbered s (map group_view gs) → i + 1 ≡ length gs → (get_or gs i d).first.0 + length (get_or gs i d).rows.items ≡ s + length (rows_of (map group_view gs))
ends_at s [] i d are last = absurd (omega (arith, last))
ends_at s (g ∷ []) zero d are last = omega (arith, are.0, rows_count (group_view g) [], length-map g.rows.items row_view)
ends_at s (g ∷ h ∷ gs) zero d are last = absurd (omega (arith, last))
ends_at s (g ∷ gs) (suc i) d are last =
    omega (arith, ends_at (s + length (map row_view g.rows.items)) gs i d are.1 (omega (arith, last)), rows_count (group_view g) (map group_view gs))

-- the next group begins there
next_first : (s : ℕ) (gs : List Group) (i : ℕ) (d : Group) → AreNumbered s (map group_view gs) → suc i < length gs → (get_or gs (suc i) d).first.0 ≡ (get_or gs i d).first.0 + length (get_or gs i d).rows.items
next_first s [] i d are lt = absurd (omega (arith, lt))
next_first s (g ∷ []) i d are lt = absurd (omega (arith, lt))
next_first s (g ∷ h ∷ gs) zero d are lt = omega (arith, are.0, are.1.0, length-map g.rows.items row_view)
next_first s (g ∷ h ∷ gs) (suc i) d are lt = next_first (s + length (map row_view g.rows.items)) (h ∷ gs) i d are.1 (omega (arith, lt))

-- a group begins with the row or before it
pub some_begun : (gs : List Group) (row n : ℕ) → AreNumbered 0 (map group_view gs) → row < length (rows_of (map group_view gs)) → IsBorder gs row n → 0 < n
some_begun [] row n are within border = absurd (omega (arith, within))
some_begun (g ∷ gs) row n are within border = by n refl
  where
    by : (m : ℕ) → n ≡ m → 0 < n
    by zero is = (let behind : row < g.first.0 = subst (λ k. row < (get_or (g ∷ gs) k g).first.0) is (border.behind g (omega (arith, is))) in absurd (omega (arith, behind, are.0)))
    by (suc m) is = omega (arith, is)

-- the row is one of the last group that begins with it or before it
pub row_there : (gs : List Group) (row n : ℕ) (d : Group) → AreNumbered 0 (map group_view gs) → row < length (rows_of (map group_view gs)) → IsBorder gs row n → 0 < n
    → (n - 1 < length gs) × ((get_or gs (n - 1) d).first.0 ≤ row) × (row < (get_or gs (n - 1) d).first.0 + length (get_or gs (n - 1) d).rows.items)
row_there gs row zero d are within border some = absurd (omega (arith, some))
row_there gs row (suc k) d are within border some =
    let at : suc k - 1 ≡ k = omega arith in
    let le = border.within in
    subst (λ i. (i < length gs) × ((get_or gs i d).first.0 ≤ row) × (row < (get_or gs i d).first.0 + length (get_or gs i d).rows.items)) (sym at) (omega (arith, le), border.before k d (omega arith), by (length gs - suc k) refl)
  where
    by : (m : ℕ) → length gs - suc k ≡ m → row < (get_or gs k d).first.0 + length (get_or gs k d).rows.items
    by zero none = (let le = border.within in let last : k + 1 ≡ length gs = omega (arith, none, le) in omega (arith, within, ends_at 0 gs k d are last))
    by (suc m) some = (let lt : suc k < length gs = omega (arith, some) in omega (arith, border.behind d lt, next_first 0 gs k d are lt))

-- ---- the row itself
at_front : {X : Type 0} (xs ys : List X) (i : ℕ) → i < length xs → slice_get (xs ++ ys) i ≡ slice_get xs i
at_front [] ys i lt = absurd (omega (arith, lt))
at_front (x ∷ xs) ys zero lt = refl
at_front (x ∷ xs) ys (suc i) lt = at_front xs ys i (omega (arith, lt))

at_back : {X : Type 0} (xs ys : List X) (i n : ℕ) → n ≡ length xs + i → slice_get (xs ++ ys) n ≡ slice_get ys i
at_back [] ys i n is = let same : n ≡ i = omega (arith, is) in ap (slice_get ys) same
at_back (x ∷ xs) ys i zero is = absurd (omega (arith, is))
at_back (x ∷ xs) ys i (suc n) is = at_back xs ys i n (omega (arith, is))

row_in : (g : SwitchGroup) (rows : List Row) (k : ℕ) (d : Row) → k < length rows → slice_get (map (in_group g) (map row_view rows)) k ≡ Some (g, row_view (get_or rows k d))
row_in g [] k d lt = absurd (omega (arith, lt))
row_in g (r ∷ rows) zero d lt = refl
row_in g (r ∷ rows) (suc k) d lt = row_in g rows k d (omega (arith, lt))

first_from : (s : ℕ) (gs : List Group) (i : ℕ) (d : Group) → AreNumbered s (map group_view gs) → i < length gs → s ≤ (get_or gs i d).first.0
first_from s [] i d are lt = absurd (omega (arith, lt))
first_from s (g ∷ gs) zero d are lt = omega (arith, are.0)
first_from s (g ∷ gs) (suc i) d are lt = omega (arith, first_from (s + length (map row_view g.rows.items)) gs i d are.1 (omega (arith, lt)))

-- the row of this number from that of the first row on
found : (s : ℕ) (gs : List Group) (i k : ℕ) (d : Group) (e : Row) → AreNumbered s (map group_view gs) → i < length gs → k < length (get_or gs i d).rows.items
    → slice_get (rows_of (map group_view gs)) ((get_or gs i d).first.0 + k - s) ≡ Some (group_view (get_or gs i d), row_view (get_or (get_or gs i d).rows.items k e))
found s [] i k d e are lt within = absurd (omega (arith, lt))
found s (g ∷ gs) zero k d e are lt within =
    let number : g.first.0 + k - s ≡ k = omega (arith, are.0) in
    let long = length-map (map row_view g.rows.items) (in_group (group_view g)) in
    let count = length-map g.rows.items row_view in
    ap (slice_get (rows_of (map group_view (g ∷ gs)))) number
    ∙ at_front (map (in_group (group_view g)) (map row_view g.rows.items)) (rows_of (map group_view gs)) k (omega (arith, within, long, count))
    ∙ row_in (group_view g) g.rows.items k e within
found s (g ∷ gs) (suc i) k d e are lt within =
    let t : ℕ = s + length (map row_view g.rows.items) in
    let from : t ≤ (get_or gs i d).first.0 = first_from t gs i d are.1 (omega (arith, lt)) in
    let long : length (map (in_group (group_view g)) (map row_view g.rows.items)) ≡ length (map row_view g.rows.items) = length-map (map row_view g.rows.items) (in_group (group_view g)) in
    let number : (get_or gs i d).first.0 + k - s ≡ length (map (in_group (group_view g)) (map row_view g.rows.items)) + ((get_or gs i d).first.0 + k - t) = omega (arith, from, long) in
    at_back (map (in_group (group_view g)) (map row_view g.rows.items)) (rows_of (map group_view gs)) ((get_or gs i d).first.0 + k - t) ((get_or gs i d).first.0 + k - s) number
    ∙ found t gs i k d e are.1 (omega (arith, lt)) within

-- the same by the group and row that stand there
pub row_found : (gs : List Group) (i k row : ℕ) (g : Group) (r : Row) → AreNumbered 0 (map group_view gs) → i < length gs → g ≡ get_or gs i g → k < length g.rows.items → r ≡ get_or g.rows.items k r → g.first.0 + k ≡ row
    → slice_get (rows_of (map group_view gs)) row ≡ Some (group_view g, row_view r)
row_found gs i k row g r are lt at within there number =
    let place : (get_or gs i g).first.0 + k - 0 ≡ row = ap (λ (x : Group). x.first.0 + k - 0) (sym at) ∙ omega (arith, number) in
    let in_rows : k < length (get_or gs i g).rows.items = subst (λ (x : Group). k < length x.rows.items) at within in
    ap (slice_get (rows_of (map group_view gs))) (sym place)
    ∙ found 0 gs i k g r are lt in_rows
    ∙ ap (λ (x : Group). Some (group_view x, row_view (get_or x.rows.items k r))) (sym at)
    ∙ ap (λ x. Some (group_view g, row_view x)) (sym there)

-- the rows of the last group end the rows
pub ends_by : (gs : List Group) (g : Group) → AreNumbered 0 (map group_view gs) → (length gs ≡ 0 → ⊥) → g ≡ get_or gs (length gs - 1) g → g.first.0 + length g.rows.items ≡ length (rows_of (map group_view gs))
ends_by gs g are some is =
    let last : length gs - 1 + 1 ≡ length gs = by (length gs) some in
    ap (λ (x : Group). x.first.0 + length x.rows.items) is ∙ ends_at 0 gs (length gs - 1) g are last ∙ (let all : 0 + length (rows_of (map group_view gs)) ≡ length (rows_of (map group_view gs)) = omega arith in all)
  where
    by : (n : ℕ) → (n ≡ 0 → ⊥) → n - 1 + 1 ≡ n
    by zero some = absurd (some refl)
    by (suc n) some = omega arith
