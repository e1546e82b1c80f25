-- The sites of a chip: each stands once in its stretches, and there are at most 65536.
use Rattle.std.proofs.Common.{◌≡◌, ◌≢◌, ◌⊎◌, inl, inr, ℕ, zero, suc, ◌+◌, ◌*◌, ◌<◌, ◌≤◌, Bool, true, false, cond, eqb, Some, List, [], ◌∷◌, ◌++◌, length, refl, ap, sym, ◌∙◌, subst, arith}
use Rattle.std.specs.Prelude.{slice_get}
use Rattle.std.specs.List.{All, AllByRecursion}
use Rattle.std.proofs.lemmas.Bool.{cases_lt}
use Rattle.std.proofs.lemmas.Bool.Decides.{eqb_tells}
use Rattle.std.proofs.lemmas.List.Elements.{All-from_recursion}
use Rattle.ice_base.specs.declared.number.TileAt.{TileAt}
use Rattle.ice_base.specs.Places.{same_tile}
use Rattle.ice_base.proofs.Keys.{tile_same, tile_self}
use Rattle.ice_chip.specs.Database.{Parts}
use Rattle.ice_sites.specs.Site.{is_site, is_link}
use Rattle.ice_sites.specs.Stretches.{column, columns, sites_in_order, goes_on, cut, stretches_of}
use Rattle.ice_sites.specs.Legal.{IsAmong}
use Rattle.ice_place.specs.Place.{AreStretches, sites_count}
use Rattle.ice_place.proofs.Weights.{weight, total, weight_none, weight_one, weight_cons, weight_append, weight_filter, total_none, total_cons, one, weight_length, total_count}

-- how often a tile stands
abbrev pub mark : TileAt → TileAt → ℕ
mark t u = cond (same_tile t u) 1 0

mark_few : (t u : TileAt) → mark t u ≤ 1
mark_few t u = by (same_tile t u)
  where
    by : (b : Bool) → cond b 1 0 ≤ 1
    by true = let e : 1 ≤ 1 = omega arith in e
    by false = let e : 0 ≤ 1 = omega arith in e

mark_none : (t u : TileAt) → (t ≢ u) → mark t u ≡ 0
mark_none t u other = by (same_tile t u) refl
  where
    by : (b : Bool) → same_tile t u ≡ b → ◌≡◌ {A = ℕ} (cond b 1 0) 0
    by true e = absurd (other (tile_same t u e))
    by false e = refl

pub mark_self : (t : TileAt) → mark t t ≡ 1
mark_self t = ap (λ b. cond b 1 0) (tile_self t)

-- ---- columns
column_more : (w : TileAt → ℕ) (x y : ℕ) → weight w (column x (suc y)) ≡ weight w (column x y) + w (record { x = x; y = y })
unfolding column
column_more w x y = weight_append w (column x y) ((record { x = x; y = y }) ∷ []) ∙ ap (λ n. weight w (column x y) + n) (weight_one w (record { x = x; y = y }))

column_none : (w : TileAt → ℕ) (x : ℕ) → weight w (column x 0) ≡ 0
unfolding column
column_none w x = weight_none w

columns_more : (w : TileAt → ℕ) (x : ℕ) → weight w (columns (suc x)) ≡ weight w (columns x) + weight w (column x 256)
unfolding columns
columns_more w x = weight_append w (columns x) (column x 256)

columns_none : (w : TileAt → ℕ) → weight w (columns 0) ≡ 0
unfolding columns
columns_none w = weight_none w

other_column : (t : TileAt) (x n : ℕ) → t.x ≢ x → weight (mark t) (column x n) ≡ 0
other_column t x zero other = column_none (mark t) x
other_column t x (suc n) other =
    column_more (mark t) x n
    ∙ (let rest = other_column t x n other in
    let none = mark_none t (record { x = x; y = n }) (λ e. other (ap (λ (u : TileAt). u.x) e)) in
    omega arith)

above_column : (t : TileAt) (x n : ℕ) → n ≤ t.y → weight (mark t) (column x n) ≡ 0
above_column t x zero le = column_none (mark t) x
above_column t x (suc n) le =
    column_more (mark t) x n
    ∙ (let rest = above_column t x n (omega arith) in
    let none = mark_none t (record { x = x; y = n }) (λ e. (let same : t.y ≡ n = ap (λ (u : TileAt). u.y) e in absurd (omega arith))) in
    omega arith)

once_column : (t : TileAt) (x n : ℕ) → weight (mark t) (column x n) ≤ 1
once_column t x zero = let e = column_none (mark t) x in omega arith
once_column t x (suc n) = by (cases_lt n t.y) (once_column t x n)
  where
    more : weight (mark t) (column x (suc n)) ≡ weight (mark t) (column x n) + mark t (record { x = x; y = n })
    more = column_more (mark t) x n

    by : (n < t.y) ⊎ (t.y ≤ n) → weight (mark t) (column x n) ≤ 1 → weight (mark t) (column x (suc n)) ≤ 1
    by (inl lt) rest = (let none = above_column t x n (omega arith) in let few = mark_few t (record { x = x; y = n }) in let m = more in omega arith)
    by (inr le) rest = at (eqb_tells t.y n) rest
      where
        at : ((eqb t.y n ≡ true) × (t.y ≡ n)) ⊎ ((eqb t.y n ≡ false) × (t.y ≢ n)) → weight (mark t) (column x n) ≤ 1 → weight (mark t) (column x (suc n)) ≤ 1
        at (inl (e, same)) rest = (let none = above_column t x n (omega arith) in let few = mark_few t (record { x = x; y = n }) in let m = more in omega arith)
        at (inr (e, other)) rest =
            (let none = mark_none t (record { x = x; y = n }) (λ e. other (ap (λ (u : TileAt). u.y) e)) in let m = more in omega arith)

later_columns : (t : TileAt) (n : ℕ) → n ≤ t.x → weight (mark t) (columns n) ≡ 0
later_columns t zero le = columns_none (mark t)
later_columns t (suc n) le =
    columns_more (mark t) n
    ∙ (let rest = later_columns t n (omega arith) in
    let none = other_column t n 256 (λ e. absurd (omega arith)) in
    omega arith)

once_columns : (t : TileAt) (n : ℕ) → weight (mark t) (columns n) ≤ 1
once_columns t zero = let e = columns_none (mark t) in omega arith
once_columns t (suc n) = by (eqb_tells t.x n) (once_columns t n)
  where
    more : weight (mark t) (columns (suc n)) ≡ weight (mark t) (columns n) + weight (mark t) (column n 256)
    more = columns_more (mark t) n

    by : ((eqb t.x n ≡ true) × (t.x ≡ n)) ⊎ ((eqb t.x n ≡ false) × (t.x ≢ n)) → weight (mark t) (columns n) ≤ 1 → weight (mark t) (columns (suc n)) ≤ 1
    by (inl (e, same)) rest = (let none = later_columns t n (omega arith) in let few = once_column t n 256 in let m = more in omega arith)
    by (inr (e, other)) rest = (let none = other_column t n 256 other in let m = more in omega arith)

tall_column : (x n : ℕ) → weight one (column x n) ≡ n
tall_column x zero = column_none one x
tall_column x (suc n) = column_more one x n ∙ (let rest = tall_column x n in let e : weight one (column x n) + 1 ≡ suc n = omega arith in e)

wide_columns : (n : ℕ) → weight one (columns n) ≡ 256 * n
wide_columns zero = columns_none one
wide_columns (suc n) = columns_more one n ∙ (let rest = wide_columns n in let tall = tall_column n 256 in omega arith)

-- ---- stretches
cut_weight : (w : TileAt → ℕ) (link : TileAt → TileAt → Bool) (before sites : List TileAt) → total w (cut link before sites) ≤ weight w before + weight w sites
cut_weight w link before [] = let e = total_none w in omega arith
cut_weight w link before (t ∷ sites) = by (goes_on link t sites) (cut_weight w link (before ++ t ∷ []) sites) (cut_weight w link [] sites)
  where
    open_weight : weight w (before ++ t ∷ []) ≡ weight w before + w t
    open_weight = weight_append w before (t ∷ []) ∙ ap (λ n. weight w before + n) (weight_one w t)

    by : (b : Bool) → total w (cut link (before ++ t ∷ []) sites) ≤ weight w (before ++ t ∷ []) + weight w sites → total w (cut link [] sites) ≤ weight w [] + weight w sites
        → total w (cond b (cut link (before ++ t ∷ []) sites) ((before ++ t ∷ []) ∷ cut link [] sites)) ≤ weight w before + weight w (t ∷ sites)
    by true longer other = (let o = open_weight in let c = weight_cons w t sites in omega arith)
    by false longer other = (let o = open_weight in let c = weight_cons w t sites in let n = weight_none w in let s = total_cons w (before ++ t ∷ []) (cut link [] sites) in omega arith)

few_weight : (w : TileAt → ℕ) (parts : Parts) → total w (stretches_of parts) ≤ weight w (columns 256)
few_weight w parts =
    let c = cut_weight w (is_link parts) [] (sites_in_order parts) in
    let n = weight_none w in
    let f = weight_filter w (is_site parts) (columns 256) in
    omega arith

pub once_stretches : (stretches : List (List TileAt)) → AreStretches stretches → (t : TileAt) → total (mark t) stretches ≤ 1
once_stretches stretches (parts, e) t = subst (λ s. total (mark t) s ≤ 1) (sym e) (let few = few_weight (mark t) parts in let o = once_columns t 256 in omega arith)

pub few_sites : (stretches : List (List TileAt)) → AreStretches stretches → sites_count stretches ≤ 65536
few_sites stretches (parts, e) =
    subst (λ s. sites_count s ≤ 65536) (sym e) (let few = few_weight one parts in let wide = wide_columns 256 in let count = total_count (stretches_of parts) in omega arith)

each_few : (bound : ℕ) (stretches : List (List TileAt)) → total one stretches ≤ bound → AllByRecursion (λ (s : List TileAt). length s ≤ bound) stretches
each_few bound [] le = tt
each_few bound (s ∷ stretches) le =
    let c = total_cons one s stretches in
    let l = weight_length s in
    (omega arith, each_few bound stretches (omega arith))

pub short_stretches : (stretches : List (List TileAt)) → AreStretches stretches → All (λ (s : List TileAt). length s ≤ 65536) stretches
short_stretches stretches h =
    All-from_recursion (λ (s : List TileAt). length s ≤ 65536) stretches (each_few 65536 stretches (let few = few_sites stretches h in let count = total_count stretches in omega arith))

-- ---- places by counts
some_place : (t : TileAt) (sites : List TileAt) → 0 < weight (mark t) sites → (j : ℕ) × (slice_get sites j ≡ Some t)
some_place t [] h = (let n = weight_none (mark t) in absurd (omega arith))
some_place t (u ∷ sites) h = by (same_tile t u) refl (some_place t sites)
  where
    by : (b : Bool) → same_tile t u ≡ b → (0 < weight (mark t) sites → (j : ℕ) × (slice_get sites j ≡ Some t)) → (j : ℕ) × (slice_get (u ∷ sites) j ≡ Some t)
    by true e rest = (0, ap Some (sym (tile_same t u e)))
    by false e rest =
        let none : mark t u ≡ 0 = ap (λ b. cond b 1 0) e in
        let more = rest (let c = weight_cons (mark t) u sites in omega arith) in
        (suc more.0, more.1)

pub some_stretch : (t : TileAt) (stretches : List (List TileAt)) → 0 < total (mark t) stretches → IsAmong stretches t
some_stretch t [] h = (let n = total_none (mark t) in absurd (omega arith))
some_stretch t (s ∷ stretches) h = by (cases_lt 0 (weight (mark t) s)) (some_stretch t stretches)
  where
    by : (0 < weight (mark t) s) ⊎ (weight (mark t) s ≤ 0) → (0 < total (mark t) stretches → IsAmong stretches t) → IsAmong (s ∷ stretches) t
    by (inl here) rest = (let place = some_place t s here in (0, (place.0, place.1)))
    by (inr none) rest = (let more = rest (let c = total_cons (mark t) s stretches in omega arith) in (suc more.0, (more.1.0, more.1.1)))

pub stands_once : (t : TileAt) (sites : List TileAt) (c : ℕ) → slice_get sites c ≡ Some t → 0 < weight (mark t) sites
stands_once t [] c e = absurd (cc)
stands_once t (u ∷ sites) zero e =
    let same : u ≡ t = cc in
    let self : mark t u ≡ 1 = ap (mark t) same ∙ mark_self t in
    let more = weight_cons (mark t) u sites in
    omega arith
stands_once t (u ∷ sites) (suc c) e = let rest = stands_once t sites c e in let more = weight_cons (mark t) u sites in omega arith

pub one_place : (t : TileAt) (sites : List TileAt) (c d : ℕ) → weight (mark t) sites ≤ 1 → slice_get sites c ≡ Some t → slice_get sites d ≡ Some t → c ≡ d
one_place t [] c d few e f = absurd (cc)
one_place t (u ∷ sites) zero zero few e f = refl
one_place t (u ∷ sites) zero (suc d) few e f =
    let same : u ≡ t = cc in
    let self : mark t u ≡ 1 = ap (mark t) same ∙ mark_self t in
    let more = weight_cons (mark t) u sites in
    let there = stands_once t sites d f in
    absurd (omega arith)
one_place t (u ∷ sites) (suc c) zero few e f =
    let same : u ≡ t = cc in
    let self : mark t u ≡ 1 = ap (mark t) same ∙ mark_self t in
    let more = weight_cons (mark t) u sites in
    let there = stands_once t sites c e in
    absurd (omega arith)
one_place t (u ∷ sites) (suc c) (suc d) few e f = ap suc (one_place t sites c d (let more = weight_cons (mark t) u sites in omega arith) e f)
