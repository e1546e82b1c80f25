-- What whole blocks raise, wire by wire: one weight of blocks.
use Rattle.std.proofs.Common.{◌≡◌, ◌≢◌, ℕ, zero, suc, ◌+◌, ◌-◌, ◌*◌, ◌/◌, ◌≤◌, ◌<◌, ◌⊎◌, List, [], ◌∷◌, length, min, cond, eqb, Bool, if◌then◌else◌, lt-ltb, le-ltb, inl, inr, slice_index, refl, sym, ap, subst, arith, ◌∙◌}
use Rattle.std.proofs.lemmas.Bool.{cases_eq, cases_lt}
use Rattle.std.proofs.lemmas.Bool.Decides.{nat_tests}
use Rattle.std.proofs.lemmas.List.Sums.{sum_by-cons}
use Rattle.std.specs.List.{sum_by}
use Rattle.ice_core.specs.Routes.{sum_below}
use Rattle.ice_core.proofs.Sums.{sum_same, below_ones}
use Rattle.ice_words_histories.specs.declared.view.Bump.{Bump}
use Rattle.ice_words_histories.specs.declared.view.HistoryPart.{HistoryPart}
use Rattle.ice_words_histories.specs.Blocks.{blocks_of, block_of, total, blocks_by, claims, raises_in, raises_on, ends_of, bump_of}
use Rattle.ice_worker_raise.specs.Raised.{with_wire, with_wires, wires_in, bumps_of}
use Rattle.ice_worker_raise.specs.Closing.{HasRaised, RaisingLaw}

abbrev at : ℕ → ℕ → ℕ → ℕ
at x w n = cond (eqb x w) n 0

at_self : (w n : ℕ) → at w w n ≡ n
at_self w n = grind (arith, nat_tests)

at_off : (x w n : ℕ) → x ≢ w → at x w n ≡ 0
at_off x w n ne = grind (arith, nat_tests, ne)

at_nothing : (x w : ℕ) → at x w 0 ≡ 0
at_nothing x w = elim (cases_eq x w) [
  | inl same ↦ ap (λ k. at k w 0) same ∙ at_self w 0
  | inr ne ↦ at_off x w 0 ne
]

-- the overuse of a wire
abbrev over : List ℕ → ℕ → ℕ
over counts w = slice_index counts w - 1

wire_raises : (counts : List ℕ) (w x : ℕ) (bumps : List Bump) → raises_in w (with_wire counts x bumps) ≡ at x w (over counts x) + raises_in w bumps
wire_raises counts w x bumps = elim (cases_lt 1 (slice_index counts x)) [
  | inl lt ↦ ap (λ (b : Bool). raises_in w (if b then bump_of x (over counts x) ∷ bumps else bumps)) (lt-ltb 1 (slice_index counts x) lt) ∙ sum_by-cons (λ (b : Bump). cond (eqb b.wire w) b.by 0) (bump_of x (over counts x)) bumps
  | inr ge ↦
      let none : over counts x ≡ 0 = omega (arith, ge) in
      let zero_at : at x w (over counts x) ≡ 0 = ap (at x w) none ∙ at_nothing x w in
      ap (λ (b : Bool). raises_in w (if b then bump_of x (over counts x) ∷ bumps else bumps)) (le-ltb 1 (slice_index counts x) ge) ∙ plus_none (at x w (over counts x)) (raises_in w bumps) zero_at
]
  where
    plus_none : (a b : ℕ) → a ≡ 0 → b ≡ a + b
    plus_none a b e = omega arith

-- a wire outside isn't raised
off_raises : (counts : List ℕ) (w first k : ℕ) (bumps : List Bump) → (w < first) ⊎ (first + k ≤ w) → raises_in w (with_wires counts first k bumps) ≡ raises_in w bumps
off_raises counts w first zero bumps off = refl
off_raises counts w first (suc k) bumps off =
    let ne : first + k ≢ w = (λ e. elim off [
      | inl lt ↦ absurd (omega (arith, e))
      | inr ge ↦ absurd (omega (arith, e))
    ]) in
    let rest : (w < first) ⊎ (first + k ≤ w) = elim off [
      | inl lt ↦ inl lt
      | inr ge ↦ inr (omega arith)
    ] in
    omega (arith, wire_raises counts w (first + k) (with_wires counts first k bumps), at_off (first + k) w (over counts (first + k)) ne, off_raises counts w first k bumps rest)

-- a wire inside is raised once
in_raises : (counts : List ℕ) (w first k : ℕ) (bumps : List Bump) → first ≤ w → w < first + k → raises_in w (with_wires counts first k bumps) ≡ over counts w + raises_in w bumps
in_raises counts w first zero bumps le lt = absurd (omega arith)
in_raises counts w first (suc k) bumps le lt = elim (cases_eq (first + k) w) [
  | inl same ↦
      let here : at (first + k) w (over counts (first + k)) ≡ over counts w = ap (λ x. at x w (over counts x)) same ∙ at_self w (over counts w) in
      omega (arith, wire_raises counts w (first + k) (with_wires counts first k bumps), here, off_raises counts w first k bumps (inr (omega arith)))
  | inr ne ↦ omega (arith, wire_raises counts w (first + k) (with_wires counts first k bumps), at_off (first + k) w (over counts (first + k)) ne, in_raises counts w first k bumps le (omega arith))
]

-- the weight: the wire's overuse at its block
abbrev weight : List ℕ → ℕ → ℕ → ℕ
weight counts w b = at b (block_of w) (over counts w)

block_span : (w b wires : ℕ) → b ≡ w / 1024 → w < wires → (b * 1024 ≤ w) × (w < b * 1024 + min 1024 (wires - b * 1024))
block_span w b wires e lt = (omega arith, omega arith)

block_off : (w b : ℕ) → b ≢ w / 1024 → (w < b * 1024) ⊎ (b * 1024 + 1024 ≤ w)
block_off w b ne = elim (cases_lt w (b * 1024)) [
  | inl lt ↦ inl lt
  | inr ge ↦ elim (cases_lt w (b * 1024 + 1024)) [
    | inl lt ↦ absurd (ne (omega arith))
    | inr past ↦ inr past
  ]
]

block_raises : (counts : List ℕ) (wires w b : ℕ) (bumps : List Bump) → w < wires → raises_in w (with_wires counts (b * 1024) (wires_in wires b) bumps) ≡ weight counts w b + raises_in w bumps
block_raises counts wires w b bumps lt = elim (cases_eq b (block_of w)) [
  | inl same ↦
      let span = block_span w b wires same lt in
      let here : weight counts w b ≡ over counts w = ap (λ x. at x (block_of w) (over counts w)) same ∙ at_self (block_of w) (over counts w) in
      omega (arith, in_raises counts w (b * 1024) (wires_in wires b) bumps span.0 span.1, here)
  | inr ne ↦
      let off : (w < b * 1024) ⊎ (b * 1024 + wires_in wires b ≤ w) = elim (block_off w b ne) [
        | inl low ↦ inl low
        | inr past ↦ inr (short b wires w past)
      ] in
      omega (arith, off_raises counts w (b * 1024) (wires_in wires b) bumps off, at_off b (block_of w) (over counts w) ne)
]
  where
    short : (b wires w : ℕ) → b * 1024 + 1024 ≤ w → b * 1024 + min 1024 (wires - b * 1024) ≤ w
    short b wires w past = omega arith

blocks_raise : (counts : List ℕ) (wires w : ℕ) (blocks : List ℕ) → w < wires → raises_in w (bumps_of counts wires blocks) ≡ sum_by (weight counts w) blocks
blocks_raise counts wires w [] lt = refl
blocks_raise counts wires w (b ∷ blocks) lt = omega (arith, block_raises counts wires w b (bumps_of counts wires blocks) lt, sum_by-cons (weight counts w) b blocks, blocks_raise counts wires w blocks lt)

part_raises : (counts : List ℕ) (wires w : ℕ) → w < wires → (p : HistoryPart) → HasRaised counts wires p → raises_on w p ≡ blocks_by (weight counts w) p
part_raises counts wires w lt p (inl none) = subst (λ (q : HistoryPart). raises_on w q ≡ blocks_by (weight counts w) q) (sym none) refl
part_raises counts wires w lt p (inr t) = subst (λ (q : HistoryPart). raises_on w q ≡ blocks_by (weight counts w) q) (sym t.1) (blocks_raise counts wires w t.0 lt)

none_below : (counts : List ℕ) (w n : ℕ) → n ≤ block_of w → sum_below n (weight counts w) ≡ 0
none_below counts w zero le = refl
none_below counts w (suc n) le = omega (arith, none_below counts w n (lower n (block_of w) le), at_off n (block_of w) (over counts w) (apart n (block_of w) le))
  where
    lower : (n b : ℕ) → suc n ≤ b → n ≤ b
    lower n b le = omega arith

    apart : (n b : ℕ) → suc n ≤ b → n ≢ b
    apart n b le e = absurd (omega arith)

-- the weight over all blocks is the wire's overuse
weight_below : (counts : List ℕ) (w n : ℕ) → block_of w < n → sum_below n (weight counts w) ≡ over counts w
weight_below counts w zero lt = absurd (omega arith)
weight_below counts w (suc n) lt = elim (cases_eq n (block_of w)) [
  | inl same ↦
      let here : weight counts w n ≡ over counts w = ap (λ x. at x (block_of w) (over counts w)) same ∙ at_self (block_of w) (over counts w) in
      omega (arith, here, none_below counts w n (subst (λ k. n ≤ k) same (omega arith)))
  | inr ne ↦ omega (arith, at_off n (block_of w) (over counts w) ne, weight_below counts w n (less (block_of w) n lt ne))
]
  where
    less : (b n : ℕ) → b < suc n → n ≢ b → b < n
    less b n lt ne = elim (cases_lt b n) [
      | inl low ↦ low
      | inr ge ↦ absurd (ne (omega arith))
    ]

pub raising_law : RaisingLaw
raising_law v closed counts is ended each w lt =
    let n = length v.histories in
    let m = blocks_of n in
    let some_draws : min (total claims v + total ends_of v) m ≡ m = all_drawn (total claims v) (total ends_of v) m ended (is.draws (λ x. 1) ∙ below_ones (min (total claims v + total ends_of v) m)) in
    let all : total (blocks_by (weight counts w)) v ≡ over counts w = is.draws (weight counts w) ∙ (ap (λ k. sum_below k (weight counts w)) some_draws ∙ weight_below counts w m (block_low w n lt)) in
    let raised : total (raises_on w) v ≡ total (blocks_by (weight counts w)) v = sum_same (HasRaised counts n) (raises_on w) (blocks_by (weight counts w)) (part_raises counts n w lt) v.parts each in
    omega (arith, is.raised w lt, raised, all)
  where
    all_drawn : (a e m : ℕ) → 1 ≤ e → a ≡ min (a + e) m → min (a + e) m ≡ m
    all_drawn a e m some_of is = omega arith

    block_low : (w n : ℕ) → w < n → w / 1024 < (n + 1023) / 1024
    block_low w n lt = omega arith
