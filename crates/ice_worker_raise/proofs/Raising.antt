-- A worker's blocks, wire by wire.
use Rattle.std.proofs.Common.{◌≡◌, ℕ, zero, suc, ◌+◌, ◌-◌, ◌*◌, ◌≤◌, ◌<◌, List, [], ◌∷◌, Bool, true, false, nat_lt, if◌then◌else◌, lt-ltb, le-ltb, slice_index, refl, sym, ap, arith, ◌∙◌}
use Rattle.std.proofs.lemmas.List.Sums.{sum_by-cons}
use Rattle.ice_core.proofs.Sums.{is_at, at_other}
use Rattle.ice_words_histories.specs.declared.view.Bump.{Bump}
use Rattle.ice_words_histories.specs.declared.view.HistoryPart.{HistoryPart}
use Rattle.ice_words_histories.specs.declared.view.HistoryView.{HistoryView}
use Rattle.ice_words_histories.specs.Blocks.{block_of, bumps_in, bumps_on, claiming, bump_of, bumping, own_changed, with_own, first_part, own}
use Rattle.ice_words_histories.specs.Rule.{IsAfter}
use Rattle.ice_worker_raise.specs.Raised.{with_wires, wires_in, bumps_of, wiring, wirings, AreBelow, Falls, AreFresh, IsFresh}

abbrev with_list : HistoryView → List HistoryPart → HistoryView
with_list v ps = record { histories = v.histories; main = v.main; worker = v.worker; out = v.out; splits = v.splits; parts = ps }

-- ---- one wire
pub wire_bumped : (counts : List ℕ) (w : ℕ) (v : HistoryView) → 1 < slice_index counts w → with_own (bumping w (slice_index counts w - 1)) v ≡ with_own (wiring counts w) v
wire_bumped counts w v lt = ap (with_list v) (parts_of v.parts)
  where
    parts_of : (ps : List HistoryPart) → own_changed (bumping w (slice_index counts w - 1)) ps ≡ own_changed (wiring counts w) ps
    parts_of [] = refl
    parts_of (p ∷ ps) = ap (λ (b : Bool). record { blocks = p.blocks; bumps = if b then bump_of w (slice_index counts w - 1) ∷ p.bumps else p.bumps; ended = p.ended } ∷ ps) (sym (lt-ltb 1 (slice_index counts w) lt))

pub wire_kept : (counts : List ℕ) (w : ℕ) (v : HistoryView) → slice_index counts w ≤ 1 → v ≡ with_own (wiring counts w) v
wire_kept counts w v le = ap (with_list v) (parts_of v.parts)
  where
    parts_of : (ps : List HistoryPart) → ps ≡ own_changed (wiring counts w) ps
    parts_of [] = refl
    parts_of (p ∷ ps) = ap (λ (b : Bool). record { blocks = p.blocks; bumps = if b then bump_of w (slice_index counts w - 1) ∷ p.bumps else p.bumps; ended = p.ended } ∷ ps) (sym (le-ltb 1 (slice_index counts w) le))

-- ---- wires of a block
pub wires_none : (counts : List ℕ) (first : ℕ) (v : HistoryView) → v ≡ with_own (wirings counts first 0) v
wires_none counts first v = ap (with_list v) (parts_of v.parts)
  where
    parts_of : (ps : List HistoryPart) → ps ≡ own_changed (wirings counts first 0) ps
    parts_of [] = refl
    parts_of (p ∷ ps) = refl

pub wires_more : (counts : List ℕ) (first k : ℕ) (v : HistoryView) → with_own (wiring counts (first + k)) (with_own (wirings counts first k) v) ≡ with_own (wirings counts first (k + 1)) v
wires_more counts first k v = let e : suc k ≡ k + 1 = omega arith in ap (with_list v) (parts_of v.parts) ∙ ap (λ m. with_own (wirings counts first m) v) e
  where
    parts_of : (ps : List HistoryPart) → own_changed (wiring counts (first + k)) (own_changed (wirings counts first k) ps) ≡ own_changed (wirings counts first (suc k)) ps
    parts_of [] = refl
    parts_of (p ∷ ps) = refl

pub own_blocks : (counts : List ℕ) (first k : ℕ) (v : HistoryView) → (own (with_own (wirings counts first k) v)).blocks ≡ (own v).blocks
own_blocks counts first k v = blocks_in v.parts
  where
    blocks_in : (ps : List HistoryPart) → (first_part (own_changed (wirings counts first k) ps)).blocks ≡ (first_part ps).blocks
    blocks_in [] = refl
    blocks_in (p ∷ ps) = refl

pub block_at : (b k : ℕ) → k < 1024 → block_of (b * 1024 + k) ≡ b
block_at b k lt = omega arith

below_weaker : (n m : ℕ) (bumps : List Bump) → n ≤ m → AreBelow n bumps → AreBelow m bumps
below_weaker n m [] le each = tt
below_weaker n m (b ∷ bumps) le each = ((let lt = each.0 in omega arith), below_weaker n m bumps le each.1)

below_none : (n w : ℕ) (bumps : List Bump) → AreBelow n bumps → n ≤ w → bumps_in w bumps ≡ 0
below_none n w [] each le = refl
below_none n w (b ∷ bumps) each le = omega (arith, sum_by-cons (λ (b : Bump). is_at b.wire w) b bumps, at_other b.wire w (λ e. (let lt = each.0 in omega arith)), below_none n w bumps each.1 le)

below_wires : (counts : List ℕ) (first k : ℕ) (bumps : List Bump) → AreBelow first bumps → AreBelow (first + k) (with_wires counts first k bumps)
below_wires counts first zero bumps each = below_weaker first (first + 0) bumps (omega arith) each
below_wires counts first (suc k) bumps each = by_test (nat_lt 1 (slice_index counts (first + k))) (below_weaker (first + k) (first + suc k) (with_wires counts first k bumps) (omega arith) (below_wires counts first k bumps each))
  where
    by_test : (b : Bool) → AreBelow (first + suc k) (with_wires counts first k bumps) → AreBelow (first + suc k) (if b then bump_of (first + k) (slice_index counts (first + k) - 1) ∷ with_wires counts first k bumps else with_wires counts first k bumps)
    by_test true rest = (omega arith, rest)
    by_test false rest = rest

pub wire_new : (counts : List ℕ) (first k : ℕ) (v : HistoryView) → AreBelow first (own v).bumps → bumps_on (first + k) (own (with_own (wirings counts first k) v)) ≡ 0
wire_new counts first k v each = parts_new v.parts each
  where
    parts_new : (ps : List HistoryPart) → AreBelow first (first_part ps).bumps → bumps_on (first + k) (first_part (own_changed (wirings counts first k) ps)) ≡ 0
    parts_new [] each = refl
    parts_new (p ∷ ps) each = below_none (first + k) (first + k) (with_wires counts first k p.bumps) (below_wires counts first k p.bumps each) (omega arith)

-- ---- blocks
pub bumps_below : (counts : List ℕ) (wires b : ℕ) (blocks : List ℕ) → IsAfter b blocks → Falls blocks → AreBelow (b * 1024) (bumps_of counts wires blocks)
bumps_below counts wires b [] after falls = tt
bumps_below counts wires b (x ∷ blocks) after falls =
    let many : wires_in wires x ≤ 1024 = omega arith in
    let lt : x < b = after in
    below_weaker (x * 1024 + wires_in wires x) (b * 1024) (bumps_of counts wires (x ∷ blocks)) (omega (arith, many, lt)) (below_wires counts (x * 1024) (wires_in wires x) (bumps_of counts wires blocks) (bumps_below counts wires x blocks falls.0 falls.1))

-- a fresh hand's own part, changed to p
pub own_is : (p : HistoryPart) (v : HistoryView) → IsFresh v → own (with_own (λ (q : HistoryPart). p) v) ≡ p
own_is p v fresh = own_in v.parts fresh
  where
    own_in : (ps : List HistoryPart) → AreFresh ps → first_part (own_changed (λ (q : HistoryPart). p) ps) ≡ p
    own_in [] fresh = absurd fresh
    own_in (q ∷ ps) fresh = refl

-- a claim, where the own part is p
pub claim_is : (b : ℕ) (p : HistoryPart) (v w : HistoryView) → w ≡ with_own (claiming b) (with_own (λ (q : HistoryPart). p) v) → w ≡ with_own (λ (q : HistoryPart). claiming b p) v
claim_is b p v w is = is ∙ ap (with_list v) (parts_of v.parts)
  where
    parts_of : (ps : List HistoryPart) → own_changed (claiming b) (own_changed (λ (q : HistoryPart). p) ps) ≡ own_changed (λ (q : HistoryPart). claiming b p) ps
    parts_of [] = refl
    parts_of (q ∷ ps) = refl
