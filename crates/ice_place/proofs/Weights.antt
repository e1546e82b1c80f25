-- Sums of weights of sites.
use Rattle.std.proofs.Common.{◌≡◌, ℕ, zero, suc, ◌+◌, ◌<◌, ◌≤◌, Bool, true, false, cond, List, [], ◌∷◌, ◌++◌, length, get_or, set, take, drop, refl, ap, sym, ◌∙◌, arith}
use Rattle.std.specs.List.{filter}
use Rattle.std.proofs.lemmas.List.{take-append-drop}
use Rattle.std.proofs.lemmas.List.Sums.{sum_by-cons}
use Rattle.ice_base.specs.declared.number.TileAt.{TileAt}
use Rattle.ice_place.specs.Place.{joined, sites_count}

-- the sum over sites
pub weight : (TileAt → ℕ) → List TileAt → ℕ
weight w [] = 0
weight w (t ∷ sites) = w t + weight w sites

-- the sum over the sites of lists
pub total : (TileAt → ℕ) → List (List TileAt) → ℕ
total w [] = 0
total w (s ∷ lists) = weight w s + total w lists

pub weight_append : (w : TileAt → ℕ) (xs ys : List TileAt) → weight w (xs ++ ys) ≡ weight w xs + weight w ys
unfolding weight
weight_append w [] ys = let e : weight w ys ≡ 0 + weight w ys = omega arith in e
weight_append w (x ∷ xs) ys = let rest = weight_append w xs ys in omega arith

pub weight_cut : (w : TileAt → ℕ) (n : ℕ) (s : List TileAt) → weight w (take n s) + weight w (drop n s) ≡ weight w s
weight_cut w n s = sym (weight_append w (take n s) (drop n s)) ∙ ap (weight w) (take-append-drop n s)

pub weight_take : (w : TileAt → ℕ) (n : ℕ) (s : List TileAt) → weight w (take n s) ≤ weight w s
weight_take w n s = let cut = weight_cut w n s in omega arith

pub weight_none : (w : TileAt → ℕ) → weight w [] ≡ 0
unfolding weight
weight_none w = refl

pub weight_one : (w : TileAt → ℕ) (t : TileAt) → weight w (t ∷ []) ≡ w t
unfolding weight
weight_one w t = let e : w t + 0 ≡ w t = omega arith in e

pub weight_cons : (w : TileAt → ℕ) (t : TileAt) (sites : List TileAt) → weight w (t ∷ sites) ≡ w t + weight w sites
unfolding weight
weight_cons w t sites = refl

pub weight_filter : (w : TileAt → ℕ) (test : TileAt → Bool) (sites : List TileAt) → weight w (filter test sites) ≤ weight w sites
unfolding weight
weight_filter w test [] = let e : 0 ≤ 0 = omega arith in e
weight_filter w test (t ∷ sites) = by (test t) (weight_filter w test sites)
  where
    by : (b : Bool) → weight w (filter test sites) ≤ weight w sites → weight w (cond b (t ∷ filter test sites) (filter test sites)) ≤ w t + weight w sites
    by true h = let e : w t + weight w (filter test sites) ≤ w t + weight w sites = omega arith in e
    by false h = omega arith

pub total_none : (w : TileAt → ℕ) → total w [] ≡ 0
unfolding total
total_none w = refl

pub total_cons : (w : TileAt → ℕ) (s : List TileAt) (lists : List (List TileAt)) → total w (s ∷ lists) ≡ weight w s + total w lists
unfolding total
total_cons w s lists = refl

pub total_joined : (w : TileAt → ℕ) (lists : List (List TileAt)) → weight w (joined lists) ≡ total w lists
unfolding weight total
total_joined w [] = refl
total_joined w (s ∷ lists) = weight_append w s (joined lists) ∙ ap (λ n. weight w s + n) (total_joined w lists)

-- one list is replaced
pub total_set : (w : TileAt → ℕ) (lists : List (List TileAt)) (i : ℕ) (s : List TileAt) → i < length lists → total w (set lists i s) + weight w (get_or lists i []) ≡ total w lists + weight w s
unfolding total
total_set w [] i s lt = absurd (omega arith)
total_set w (x ∷ lists) zero s lt = let e : (weight w s + total w lists) + weight w x ≡ (weight w x + total w lists) + weight w s = omega arith in e
total_set w (x ∷ lists) (suc i) s lt =
    let rest = total_set w lists i s (omega arith) in
    let e : (weight w x + total w (set lists i s)) + weight w (get_or lists i []) ≡ (weight w x + total w lists) + weight w s = omega arith in e

pub total_at : (w : TileAt → ℕ) (lists : List (List TileAt)) (i : ℕ) → weight w (get_or lists i []) ≤ total w lists
unfolding total weight
total_at w [] i = let e : 0 ≤ 0 = omega arith in e
total_at w (x ∷ lists) zero = let e : weight w x ≤ weight w x + total w lists = omega arith in e
total_at w (x ∷ lists) (suc i) = let rest = total_at w lists i in let e : weight w (get_or lists i []) ≤ weight w x + total w lists = omega arith in e

-- ---- how many sites
abbrev pub one : TileAt → ℕ
one t = 1

pub weight_length : (sites : List TileAt) → weight one sites ≡ length sites
unfolding weight
weight_length [] = refl
weight_length (t ∷ sites) = let rest = weight_length sites in let e : 1 + weight one sites ≡ suc (length sites) = omega arith in e

pub total_count : (lists : List (List TileAt)) → sites_count lists ≡ total one lists
unfolding total
total_count [] = refl
total_count (s ∷ lists) =
    sum_by-cons (λ (s : List TileAt). length s) s lists
    ∙ (let rest = total_count lists in
    let here = weight_length s in
    let e : length s + sites_count lists ≡ weight one s + total one lists = omega arith in e)
