-- All sites stand once among a legal placement's tiles and the free ones.
use Rattle.std.proofs.Common.{◌≡◌, ◌⊎◌, inl, inr, ℕ, zero, suc, ◌+◌, ◌-◌, ◌<◌, ◌≤◌, not, Bool, ◌||◌, true, false, cond, Option, Some, List, [], ◌∷◌, ◌++◌, length, take, get_or, refl, ap, sym, ◌∙◌, subst, arith}
use Rattle.std.specs.Prelude.{slice_get}
use Rattle.std.specs.List.{filter}
use Rattle.std.proofs.lemmas.Bool.{cases_lt}
use Rattle.std.proofs.lemmas.Option.{slice_get-get_or, slice_get_within, get_or_from_slice_get}
use Rattle.std.proofs.lemmas.List.{get_or_append_left, get_or-append_right, length-append}
use Rattle.std.proofs.Math.Seq.{take-append_seam}
use Rattle.ice_base.specs.declared.number.TileAt.{TileAt}
use Rattle.ice_base.specs.Places.{same_tile}
use Rattle.ice_base.proofs.Keys.{tile_same, tile_self}
use Rattle.ice_sites.specs.Legal.{IsInStretch, IsAmong, tile_at, IsLegal}
use Rattle.ice_place.specs.Place.{AreStretches, joined}
use Rattle.ice_place.proofs.Weights.{weight_filter, total_joined}
use Rattle.ice_place.proofs.SitesOnce.{mark, once_stretches, some_stretch, stands_once, one_place}
use Rattle.ice_anneal.specs.Full.{has_tile, is_free, full_of}
use Rattle.ice_anneal.specs.Least.{IsFull}

-- ---- filters
filter_there : (test : TileAt → Bool) (xs : List TileAt) (j : ℕ) (t : TileAt) → slice_get xs j ≡ Some t → test t ≡ true → (k : ℕ) × (slice_get (filter test xs) k ≡ Some t)
filter_there test [] j t e h = absurd (cc)
filter_there test (x ∷ xs) zero t e h = (0, (let same : x ≡ t = cc in let b : test x ≡ true = ap test same ∙ h in ap (λ c. slice_get (cond c (x ∷ filter test xs) (filter test xs)) 0) b ∙ e))
filter_there test (x ∷ xs) (suc j) t e h = by (test x) (filter_there test xs j t e h)
  where
    by : (b : Bool) → ((k : ℕ) × (slice_get (filter test xs) k ≡ Some t)) → (k : ℕ) × (slice_get (cond b (x ∷ filter test xs) (filter test xs)) k ≡ Some t)
    by true rest = (suc rest.0, rest.1)
    by false rest = rest

record Passes (test : TileAt → Bool) (xs : List TileAt) (t : TileAt) : Type 0 where
  passes : test t ≡ true
  place : ℕ
  at : slice_get xs place ≡ Some t

filter_back : (test : TileAt → Bool) (xs : List TileAt) (k : ℕ) (t : TileAt) → slice_get (filter test xs) k ≡ Some t → Passes test xs t
filter_back test [] k t e = absurd (cc)
filter_back test (x ∷ xs) k t e = by (test x) refl k e (λ j. filter_back test xs j t)
  where
    more : Passes test xs t → Passes test (x ∷ xs) t
    more p = record { passes = p.passes; place = suc p.place; at = p.at }

    by : (b : Bool) → test x ≡ b → (k : ℕ) → slice_get (cond b (x ∷ filter test xs) (filter test xs)) k ≡ Some t → ((j : ℕ) → slice_get (filter test xs) j ≡ Some t → Passes test xs t) → Passes test (x ∷ xs) t
    by true h zero e rest = (let same : x ≡ t = cc in record { passes = ap test (sym same) ∙ h; place = 0; at = ap Some same })
    by true h (suc j) e rest = more (rest j e)
    by false h j e rest = more (rest j e)

-- ---- tiles of a placement
has_there : (at : List TileAt) (c : ℕ) (t : TileAt) → slice_get at c ≡ Some t → has_tile at t ≡ true
has_there [] c t e = absurd (cc)
has_there (x ∷ at) zero t e = let same : x ≡ t = cc in ap (λ b. b || has_tile at t) (ap (same_tile t) same ∙ tile_self t)
has_there (x ∷ at) (suc c) t e = by (same_tile t x) (has_there at c t e)
  where
    by : (b : Bool) → has_tile at t ≡ true → (b || has_tile at t) ≡ true
    by true h = refl
    by false h = h

has_back : (at : List TileAt) (t : TileAt) → has_tile at t ≡ true → (c : ℕ) × (slice_get at c ≡ Some t)
has_back [] t e = absurd (cc)
has_back (x ∷ at) t e = by (same_tile t x) refl e (has_back at t)
  where
    by : (b : Bool) → same_tile t x ≡ b → (b || has_tile at t) ≡ true → (has_tile at t ≡ true → (c : ℕ) × (slice_get at c ≡ Some t)) → (c : ℕ) × (slice_get (x ∷ at) c ≡ Some t)
    by true h e rest = (0, ap Some (sym (tile_same t x h)))
    by false h e rest = (let more = rest e in (suc more.0, more.1))

-- ---- sites
get_left : (xs ys : List TileAt) (i : ℕ) (t : TileAt) → slice_get xs i ≡ Some t → slice_get (xs ++ ys) i ≡ Some t
get_left [] ys i t e = absurd (cc)
get_left (x ∷ xs) ys zero t e = e
get_left (x ∷ xs) ys (suc i) t e = get_left xs ys i t e

get_right : (xs ys : List TileAt) (i : ℕ) (t : TileAt) → slice_get ys i ≡ Some t → slice_get (xs ++ ys) (length xs + i) ≡ Some t
get_right [] ys i t e = let z : 0 + i ≡ i = omega arith in ap (slice_get ys) z ∙ e
get_right (x ∷ xs) ys i t e = let z : suc (length xs) + i ≡ suc (length xs + i) = omega arith in ap (slice_get (x ∷ (xs ++ ys))) z ∙ get_right xs ys i t e

stands_joined : (stretches : List (List TileAt)) (i j : ℕ) (t : TileAt) → IsInStretch stretches i j t → (k : ℕ) × (slice_get (joined stretches) k ≡ Some t)
stands_joined [] i j t e = absurd (cc)
stands_joined (s ∷ stretches) zero j t e = (j, get_left s (joined stretches) j t e)
stands_joined (s ∷ stretches) (suc i) j t e = let rest = stands_joined stretches i j t e in (length s + rest.0, get_right s (joined stretches) rest.0 t rest.1)

joined_among : (stretches : List (List TileAt)) (k : ℕ) (t : TileAt) → slice_get (joined stretches) k ≡ Some t → IsAmong stretches t
joined_among stretches k t e =
    some_stretch t stretches (let some = stands_once t (joined stretches) k e in let same = total_joined (mark t) stretches in omega arith)

-- ---- places of all sites
record Behind (stretches : List (List TileAt)) (at : List TileAt) (t : TileAt) (k : ℕ) : Type 0 where
  there : slice_get (filter (is_free at) (joined stretches)) k ≡ Some t
  free : has_tile at t ≡ false
  among : IsAmong stretches t

free_is : (b : Bool) → not b ≡ true → b ≡ false
free_is true e = absurd (cc)
free_is false e = refl

behind : (stretches : List (List TileAt)) (at : List TileAt) (c : ℕ) → length at ≤ c → c < length (full_of stretches at) → Behind stretches at (tile_at (full_of stretches at) c) (c - length at)
behind stretches at c le lt =
    let rest : List TileAt = filter (is_free at) (joined stretches) in
    let n = length-append at rest in
    let d : TileAt = record { x = 0; y = 0 } in
    let is : tile_at (full_of stretches at) c ≡ get_or rest (c - length at) d = get_or-append_right at rest (length at) c d refl le in
    let there : slice_get rest (c - length at) ≡ Some (tile_at (full_of stretches at) c) = slice_get-get_or rest (c - length at) d (omega arith) ∙ ap Some (sym is) in
    let back = filter_back (is_free at) (joined stretches) (c - length at) (tile_at (full_of stretches at) c) there in
    record { there = there; free = free_is (has_tile at (tile_at (full_of stretches at) c)) back.passes; among = joined_among stretches back.place (tile_at (full_of stretches at) c) back.at }

before : (stretches : List (List TileAt)) (at : List TileAt) (c : ℕ) → c < length at → tile_at (full_of stretches at) c ≡ tile_at at c
before stretches at c lt = get_or_append_left at (filter (is_free at) (joined stretches)) (record { x = 0; y = 0 }) c lt

here_there : (stretches : List (List TileAt)) (at : List TileAt) (c d : ℕ) → c < length at → length at ≤ d → d < length (full_of stretches at) → tile_at (full_of stretches at) c ≡ tile_at (full_of stretches at) d → ⊥
here_there stretches at c d lt le lt' same =
    let b = behind stretches at d le lt' in
    let has = has_there at c (tile_at (full_of stretches at) d) (slice_get-get_or at c (record { x = 0; y = 0 }) lt ∙ ap Some (sym (before stretches at c lt) ∙ same)) in
    let free = b.free in
    cc

pub full : (stretches : List (List TileAt)) (chunks : List (Option (ℕ × ℕ))) (at : List TileAt) → AreStretches stretches → IsLegal stretches chunks at → IsFull stretches (full_of stretches at)
full stretches chunks at are legal = record { sites = λ c lt. site c lt (cases_lt c (length at)); apart = λ c d lt lt' same. one c d lt lt' same (cases_lt c (length at)) (cases_lt d (length at)); covers = cover }
  where
    all : List TileAt
    all = full_of stretches at

    site : (c : ℕ) → c < length (full_of stretches at) → (c < length at) ⊎ (length at ≤ c) → IsAmong stretches (tile_at (full_of stretches at) c)
    site c lt (inl here) = subst (IsAmong stretches) (sym (before stretches at c here)) (legal.sites c here)
    site c lt (inr there) = (behind stretches at c there lt).among

    one : (c d : ℕ) → c < length (full_of stretches at) → d < length (full_of stretches at) → tile_at (full_of stretches at) c ≡ tile_at (full_of stretches at) d → (c < length at) ⊎ (length at ≤ c) → (d < length at) ⊎ (length at ≤ d) → c ≡ d
    one c d lt lt' same (inl a) (inl b) = legal.apart c d a b (sym (before stretches at c a) ∙ same ∙ before stretches at d b)
    one c d lt lt' same (inl a) (inr b) = absurd (here_there stretches at c d a b lt' same)
    one c d lt lt' same (inr a) (inl b) = absurd (here_there stretches at d c b a lt (sym same))
    one c d lt lt' same (inr a) (inr b) =
        let t : TileAt = tile_at (full_of stretches at) c in
        let low = behind stretches at c a lt in
        let high = behind stretches at d b lt' in
        let few = weight_filter (mark t) (is_free at) (joined stretches) in
        let whole = total_joined (mark t) stretches in
        let once = once_stretches stretches are t in
        let place = one_place t (filter (is_free at) (joined stretches)) (c - length at) (d - length at) (omega arith) low.there (high.there ∙ ap Some (sym same)) in
        omega arith

    cover : (t : TileAt) → IsAmong stretches t → (c : ℕ) × (c < length (full_of stretches at)) × (tile_at (full_of stretches at) c ≡ t)
    cover t among = by (has_tile at t) refl
      where
        by : (b : Bool) → has_tile at t ≡ b → (c : ℕ) × (c < length (full_of stretches at)) × (tile_at (full_of stretches at) c ≡ t)
        by true e =
            let place = has_back at t e in
            let within = slice_get_within at place.0 t place.1 in
            let n = length-append at (filter (is_free at) (joined stretches)) in
            (place.0, omega arith, before stretches at place.0 within ∙ get_or_from_slice_get at place.0 t (record { x = 0; y = 0 }) place.1)
        by false e =
            let site = stands_joined stretches among.0 among.1.0 t among.1.1 in
            let place = filter_there (is_free at) (joined stretches) site.0 t site.1 (ap not e) in
            let there = get_right at (filter (is_free at) (joined stretches)) place.0 t place.1 in
            (length at + place.0, slice_get_within (full_of stretches at) (length at + place.0) t there, get_or_from_slice_get (full_of stretches at) (length at + place.0) t (record { x = 0; y = 0 }) there)

pub full_count : (stretches : List (List TileAt)) (at : List TileAt) → length at ≤ length (full_of stretches at)
full_count stretches at = let n = length-append at (filter (is_free at) (joined stretches)) in omega arith

-- the clusters' tiles are the first
pub full_first : (stretches : List (List TileAt)) (n : ℕ) (at : List TileAt) → length at ≡ n → take n (full_of stretches at) ≡ at
full_first stretches n at e = ap (λ m. take m (full_of stretches at)) (sym e) ∙ take-append_seam at (filter (is_free at) (joined stretches))
