-- The table of the eight globals is one of all globals: no row of a chip has another number.
use Rattle.std.proofs.Common.{◌≡◌, ℕ, zero, suc, ◌<◌, ◌≤◌, Bool, false, cond, List, [], ◌∷◌, None, Some, refl, ap, sym, ◌∙◌, get_or, nat_eq, map, All, arith}
use Rattle.std.specs.Map.{lookup}
use Rattle.std.proofs.lemmas.Bool.{ne_eqb}
use Rattle.std.proofs.lemmas.List.Elements.{All-head, All-tail}
use Rattle.ice_chip.specs.Database.{Parts}
use Rattle.ice_chip.specs.IsRead.{IsRead}
use Rattle.ice_decode.specs.Direct.{is_set_among, takes_pad, globals}
use Rattle.ice_decode.specs.Tables.{AreDirect}

-- no row has a number past all numbers of rows
not_found : {V : Type 0} (rows : List (ℕ × V)) → All (λ row. row.0 < 8) rows → (n : ℕ) → 8 ≤ n → lookup (nat_eq n) rows ≡ None
not_found [] all n le = refl
not_found {V} (row ∷ rows) all n le =
    let lt : row.0 < 8 = All-head (λ (r : ℕ × V). r.0 < 8) row rows all in
    ap (λ b. cond b (Some row.1) (lookup (nat_eq n) rows)) (ne_eqb n row.0 (λ e. omega arith))
    ∙ not_found rows (All-tail (λ (r : ℕ × V). r.0 < 8) row rows all) n le

none_set : (extras : List (ℕ × ℕ × ℕ)) → is_set_among extras None ≡ false
none_set [] = refl
none_set (e ∷ extras) = none_set extras

pub are_direct : (parts : Parts) (extras : List (ℕ × ℕ × ℕ)) → IsRead parts → (direct : List Bool) → direct ≡ map (takes_pad parts extras) globals → AreDirect parts extras direct
are_direct parts extras read direct is n = ap (λ table. get_or table n false) is ∙ at n
  where
    at : (m : ℕ) → get_or (map (takes_pad parts extras) globals) m false ≡ takes_pad parts extras m
    at zero = refl
    at (suc zero) = refl
    at (suc (suc zero)) = refl
    at (suc (suc (suc zero))) = refl
    at (suc (suc (suc (suc zero)))) = refl
    at (suc (suc (suc (suc (suc zero))))) = refl
    at (suc (suc (suc (suc (suc (suc zero)))))) = refl
    at (suc (suc (suc (suc (suc (suc (suc zero))))))) = refl
    at (suc (suc (suc (suc (suc (suc (suc (suc m)))))))) =
        let le : 8 ≤ suc (suc (suc (suc (suc (suc (suc (suc m))))))) = omega arith in
        sym (ap (is_set_among extras) (not_found parts.padin read.padins (suc (suc (suc (suc (suc (suc (suc (suc m)))))))) le) ∙ none_set extras)
