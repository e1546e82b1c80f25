-- Rows that stand one after another in a flat list.
use Rattle.std.proofs.Common.{◌≡◌, ℕ, zero, suc, ◌+◌, ◌<◌, ◌≤◌, List, [], ◌∷◌, ◌++◌, refl, ap, sym, ◌∙◌, length, get_or, arith, length-append}
use Rattle.std.specs.Prelude.{slice_range}
use Rattle.std.proofs.lemmas.Grind.{common_steps}
use Rattle.ice_base_values.specs.Graph.{rows_of, AreEnds}

pub length_rows_of : (start : ℕ) (ends flat : List ℕ) → length (rows_of start ends flat) ≡ length ends
length_rows_of start [] flat = refl
length_rows_of start (e ∷ ends) flat = ap suc (length_rows_of e ends flat)

pub row_at : (start : ℕ) (ends flat : List ℕ) (i : ℕ) → i < length ends
    → get_or (rows_of start ends flat) i [] ≡ slice_range flat (get_or (start ∷ ends) i 0) (get_or ends i 0)
row_at start [] flat i lt = absurd (omega arith)
row_at start (e ∷ ends) flat zero lt = refl
row_at start (e ∷ ends) flat (suc i) lt = row_at e ends flat i (omega arith)

pub ends_bound : (start : ℕ) (ends : List ℕ) (total : ℕ) → AreEnds start ends total → start ≤ total
ends_bound start [] total h = omega arith
ends_bound start (e ∷ ends) total h = let k : e ≤ total = ends_bound e ends total h.1 in omega arith

pub ends_at : (start : ℕ) (ends : List ℕ) (total : ℕ) (i : ℕ) → AreEnds start ends total → i < length ends
    → (get_or (start ∷ ends) i 0 ≤ get_or ends i 0) × (get_or ends i 0 ≤ total)
ends_at start [] total i h lt = absurd (omega arith)
ends_at start (e ∷ ends) total zero h lt = (h.0, ends_bound e ends total h.1)
ends_at start (e ∷ ends) total (suc i) h lt = ends_at e ends total i h.1 (omega arith)

pub ends_push : (start : ℕ) (ends : List ℕ) (total more : ℕ) → AreEnds start ends total → AreEnds start (ends ++ (total + more) ∷ []) (total + more)
ends_push start [] total more h = (omega arith, refl)
ends_push start (e ∷ ends) total more h = (h.0, ends_push e ends total more h.1)

range_kept : (flat new : List ℕ) (a b : ℕ) → a ≤ b → b ≤ length flat → slice_range (flat ++ new) a b ≡ slice_range flat a b
range_kept flat new a b h k = grind (arith, common_steps)

range_new : (flat new : List ℕ) → slice_range (flat ++ new) (length flat) (length flat + length new) ≡ new
range_new flat new = grind (arith, common_steps)

pub rows_push : (start : ℕ) (ends flat new : List ℕ) → AreEnds start ends (length flat)
    → rows_of start (ends ++ (length flat + length new) ∷ []) (flat ++ new) ≡ rows_of start ends flat ++ new ∷ []
rows_push start [] flat new h = rw h (ap (λ r. r ∷ []) (range_new flat new))
rows_push start (e ∷ ends) flat new h =
    rw (range_kept flat new start e h.0 (ends_bound e ends (length flat) h.1), rows_push e ends flat new h.1)

pub ruleset row_counts = (length_rows_of)

pub ruleset row_parts = (length_rows_of, row_at, ends_at)

pub rows_pushed : (ends old_ends flat old_flat new : List ℕ) (end : ℕ)
    → ends ≡ old_ends ++ end ∷ [] → flat ≡ old_flat ++ new → end ≡ length flat → AreEnds 0 old_ends (length old_flat)
    → AreEnds 0 ends (length flat) × (rows_of 0 ends flat ≡ rows_of 0 old_ends old_flat ++ new ∷ [])
rows_pushed ends old_ends flat old_flat new end e f g h =
    let k : end ≡ length old_flat + length new = g ∙ ap length f ∙ length-append old_flat new in
    let m : length flat ≡ length old_flat + length new = sym g ∙ k in
    rw (e, m, k, f) (ends_push 0 old_ends (length old_flat) (length new) h, rows_push 0 old_ends old_flat new h)
