-- Costs by numbers of rows, one after another.
use Rattle.std.proofs.Common.{◌≡◌, ℕ, ◌+◌, ◌≤◌, ◌<◌, min, Bool, true, false, List, Option, Some, length, slice_get, slice_index, slice_set, refl, sym, ap, ◌∙◌, subst, arith, inl, inr, get_or-set_same, get_or-set_other}
use Rattle.std.proofs.lemmas.Bool.{cases_eq, cases_lt}
use Rattle.std.proofs.lemmas.List.{get_or_past}
use Rattle.std.proofs.lemmas.Option.{same_Some, slice_get-get_or}
use Rattle.std.specs.List.{Contains}
use Rattle.ice_path.specs.Looks.{AreFar, Reaches}
use Rattle.ice_path.specs.Search.{done, label}

-- all costs are the same
pub filled : (beyond : List ℕ) (cost : ℕ) → ((k : ℕ) → k < length beyond → slice_index beyond k ≡ cost) → (k : ℕ) → slice_index beyond k ≤ cost
filled beyond cost h k = elim (cases_lt k (length beyond)) [
  | inl lt ↦ (let e = h k lt in omega (arith, e))
  | inr past ↦ (let e : slice_index beyond k ≡ 0 = get_or_past beyond k 0 past in omega (arith, e))
]

module _ (old : List ℕ) (p x : ℕ) (lt : p < length old) (le : x ≤ slice_index old p) where
  abbrev new : List ℕ
  new = slice_set old p x

  pub set_here : slice_index new p ≡ x
  set_here = get_or-set_same old p x 0 lt

  pub set_else : (k : ℕ) → (k ≡ p → ⊥) → slice_index new k ≡ slice_index old k
  set_else k other = get_or-set_other old p k x 0 other

  pub set_lower : (k : ℕ) → slice_index new k ≤ slice_index old k
  set_lower k = elim (cases_eq k p) [
    | inl same ↦ subst (λ i. slice_index new i ≤ slice_index old i) (sym same) (let e = set_here in omega (arith, e, le))
    | inr other ↦ (let e = set_else k other in omega (arith, e))
  ]

  pub set_far : (far : ℕ) → far ≤ x → AreFar far old → AreFar far new
  set_far far le' h k k_lt = elim (cases_eq k p) [
    | inl same ↦ subst (λ i. far ≤ slice_index new i) (sym same) (let e = set_here in omega (arith, e, le'))
    | inr other ↦ (let e = set_else k other in let f = h k k_lt in omega (arith, e, f))
  ]

-- one cost is lowered to the next
pub down_rises : (old : List ℕ) (p step : ℕ) → p + step ≡ 62 → p < length old → ((k : ℕ) → 63 ≤ k + step → k < 63 → slice_index old k ≤ slice_index old (k + 1))
    → (k : ℕ) → 63 ≤ k + (step + 1) → k < 63 → slice_index (slice_set old p (min (slice_index old p) (slice_index old (p + 1)))) k ≤ slice_index (slice_set old p (min (slice_index old p) (slice_index old (p + 1)))) (k + 1)
down_rises old p step at lt h k le k_lt =
    let x = min (slice_index old p) (slice_index old (p + 1)) in
    let less : x ≤ slice_index old p = omega arith in
    let next = set_else old p x lt less (k + 1) (λ bad. absurd (omega (arith, bad, at, le))) in
    elim (cases_eq k p) [
      | inl same ↦ (
          let e : slice_index (slice_set old p x) k ≡ x = ap (slice_index (slice_set old p x)) same ∙ set_here old p x lt less in
          let f : slice_index old (k + 1) ≡ slice_index old (p + 1) = ap (λ i. slice_index old (i + 1)) same in
          omega (arith, e, f, next))
      | inr other ↦ (let e = set_else old p x lt less k other in let f = h k (let q = other in grind arith) k_lt in omega (arith, e, f, next))
    ]

-- one cost is lowered to one more than that before it
module _ (old : List ℕ) (place : ℕ) (lt : place + 1 < length old) (rises : (k : ℕ) → k < 63 → slice_index old k ≤ slice_index old (k + 1)) (small : place < 63) where
  abbrev x : ℕ
  x = min (slice_index old (place + 1)) (slice_index old place + 1)

  abbrev up : List ℕ
  up = slice_set old (place + 1) x

  less : x ≤ slice_index old (place + 1)
  less = omega arith

  pub up_rises : (k : ℕ) → k < 63 → slice_index up k ≤ slice_index up (k + 1)
  up_rises k k_lt = elim (cases_eq k place) [
    | inl same ↦ (
        let a : slice_index up k ≡ slice_index old place = set_else old (place + 1) x lt less k (λ bad. absurd (omega (arith, bad, same))) ∙ ap (slice_index old) same in
        let b : slice_index up (k + 1) ≡ x = ap (λ i. slice_index up (i + 1)) same ∙ set_here old (place + 1) x lt less in
        let r = rises place small in
        omega (arith, a, b, r))
    | inr other ↦ (
        let a = set_lower old (place + 1) x lt less k in
        let b = set_else old (place + 1) x lt less (k + 1) (λ bad. other (omega (arith, bad))) in
        let r = rises k k_lt in
        omega (arith, a, b, r))
  ]

  pub up_slope : ((k : ℕ) → k < place → slice_index old (k + 1) ≤ slice_index old k + 1) → (k : ℕ) → k < place + 1 → slice_index up (k + 1) ≤ slice_index up k + 1
  up_slope h k k_lt =
      let a = set_else old (place + 1) x lt less k (λ bad. absurd (omega (arith, bad, k_lt))) in
      elim (cases_eq k place) [
        | inl same ↦ (
            let b : slice_index up (k + 1) ≡ x = ap (λ i. slice_index up (i + 1)) same ∙ set_here old (place + 1) x lt less in
            let c : slice_index old k ≡ slice_index old place = ap (slice_index old) same in
            omega (arith, a, b, c))
        | inr other ↦ (
            let b = set_else old (place + 1) x lt less (k + 1) (λ bad. other (omega (arith, bad))) in
            let s = h k (grind arith) in
            omega (arith, a, b, s))
      ]

  pub up_far : (far : ℕ) → AreFar far old → AreFar far up
  up_far far h = set_far old (place + 1) x lt less far (let a = h (place + 1) (omega (arith, small)) in let b = h place (omega (arith, small)) in omega (arith, a, b)) h

  pub up_lower : (k : ℕ) → slice_index up k ≤ slice_index old k
  up_lower = set_lower old (place + 1) x lt less

-- ---- one marked wire more
pub reaches_more : (marked : List ℕ) (n : ℕ) (price : ℕ → ℕ) (rest : ℕ → Option ℕ) (near : List (Option ℕ)) (widened : List Bool) (old new : List ℕ) (w : ℕ) → slice_get marked n ≡ Some w
    → ((c k : ℕ) → done widened w ≡ false → label near w ≡ Some c → rest w ≡ Some k → slice_index new (min (k + 1) 63) ≤ c + price w) → ((k : ℕ) → slice_index new k ≤ slice_index old k) → Reaches marked n price rest near widened old → Reaches marked (n + 1) price rest near widened new
reaches_more marked n price rest near widened old new w here now lower h j v c k lt at open' label' left = elim (cases_eq j n) [
  | inl same ↦ (
      let is : v ≡ w = same_Some v w (sym at ∙ (ap (λ i. slice_get marked i) same ∙ here)) in
      let le = now c k (ap (done widened) (sym is) ∙ open') (ap (label near) (sym is) ∙ label') (ap rest (sym is) ∙ left) in
      let e : price v ≡ price w = ap price is in
      omega (arith, le, e))
  | inr other ↦ (let a = h j v c k (grind arith) at open' label' left in let b = lower (min (k + 1) 63) in omega (arith, a, b))
]

pub opened_all : (old new : List Bool) (marked : List ℕ) (n : ℕ) → length marked ≤ n → ((w : ℕ) → done old w ≡ true → Contains marked w) → ((w : ℕ) → done new w ≡ true → done old w ≡ true) → ((j w : ℕ) → j < n → slice_get marked j ≡ Some w → done new w ≡ false) → (w : ℕ) → done new w ≡ false
opened_all old new marked n le only kept gone w = by_done (done new w) refl
  where
    by_done : (b : Bool) → done new w ≡ b → done new w ≡ false
    by_done false is = is
    by_done true is = (
        let t = only w (kept w is) in
        let here : slice_get marked t.0 ≡ Some w = slice_get-get_or marked t.0 w t.1 ∙ ap (λ x. Some x) t.2 in
        gone t.0 w (let lt = t.1 in omega (arith, lt, le)) here)
