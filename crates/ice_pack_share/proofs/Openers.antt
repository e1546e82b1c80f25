-- Carriers, openers and homes, one cell after another.
use Rattle.std.proofs.Common.{◌≡◌, ℕ, ◌+◌, Bool, cond, Option, None, List, [], ◌∷◌, ◌++◌, length, map, ap, sym, ◌∙◌, arith, replicate}
use Rattle.std.specs.List.{range_with_len, enumerate_from}
use Rattle.std.proofs.lemmas.List.FromFn.{map-range_with_len_more}
use Rattle.ice_cells.specs.Homes.{Facts, lut_at, carry_at, carriers_of, all_shared, opens, openers_before, home}
use Rattle.ice_cells.proofs.RangeFilters.{filter_more}
use Rattle.ice_cells.proofs.TableLaws.{scattered_kept}

pub carriers_found : (n : Facts) (start found : List (Option ℕ)) → start ≡ replicate (length n.parts) None → found ≡ all_shared start (enumerate_from 0 n.luts) → found ≡ carriers_of n
carriers_found n start found e f = f ∙ ap (λ us. all_shared us (enumerate_from 0 n.luts)) e ∙ scattered_kept lut_at carry_at (length n.parts) (enumerate_from 0 n.luts)

pub openers_more : (n : Facts) (i : ℕ) (b : Bool) (old new : List ℕ) → old ≡ openers_before n i → b ≡ opens n i → new ≡ old ++ cond b (i ∷ []) [] → new ≡ openers_before n (i + 1)
openers_more n i b old new e f g = g ∙ ap (λ xs. xs ++ cond b (i ∷ []) []) e ∙ ap (λ x. openers_before n i ++ cond x (i ∷ []) []) f ∙ sym (filter_more (opens n) i)

pub counts_more : (n : Facts) (i k : ℕ) (found counted new : List ℕ) → found ≡ openers_before n i → k ≡ length found → counted ≡ map (λ i. length (openers_before n i)) (range_with_len 0 i)
    → new ≡ counted ++ k ∷ [] → new ≡ map (λ i. length (openers_before n i)) (range_with_len 0 (i + 1))
counts_more n i k found counted new e f g h =
    h ∙ ap (λ xs. xs ++ k ∷ []) g ∙ ap (λ x. map (λ i. length (openers_before n i)) (range_with_len 0 i) ++ x ∷ []) (f ∙ ap length e)
    ∙ sym (map-range_with_len_more (λ i. length (openers_before n i)) 0 i i (omega arith))

pub homes_more : (n : Facts) (i h : ℕ) (old new : List ℕ) → old ≡ map (home n) (range_with_len 0 i) → h ≡ home n i → new ≡ old ++ h ∷ [] → new ≡ map (home n) (range_with_len 0 (i + 1))
homes_more n i h old new e f g =
    g ∙ ap (λ xs. xs ++ h ∷ []) e ∙ ap (λ x. map (home n) (range_with_len 0 i) ++ x ∷ []) f ∙ sym (map-range_with_len_more (home n) 0 i i (omega arith))
