-- What is made of numbers one after another.
use Rattle.std.proofs.Common.{◌≡◌, ℕ, ◌+◌, ◌++◌, ◌∷◌, [], List, ap, sym, ◌∙◌, arith, add-one, append-nil}
use Rattle.std.specs.List.{flat_map, range_with_len}
use Rattle.std.proofs.lemmas.List.{append_assoc}
use Rattle.std.proofs.lemmas.List.Concat.{flat_map-append}
use Rattle.ice_base.proofs.Ranges.{range_suc}

-- what is made of a range and of the number behind it
pub made_more : {A : Type 0} (f : ℕ → List A) (n : ℕ) (start old new : List A) → old ≡ start ++ flat_map f (range_with_len 0 n) → new ≡ old ++ f n → new ≡ start ++ flat_map f (range_with_len 0 (n + 1))
made_more f n start old new before put =
    put ∙ ap (λ x. x ++ f n) before ∙ append_assoc start (flat_map f (range_with_len 0 n)) (f n)
    ∙ ap (λ x. start ++ x)
    (ap (λ x. flat_map f (range_with_len 0 n) ++ x) (sym (append-nil (f n))) ∙ sym (flat_map-append f (range_with_len 0 n) (n ∷ []))
    ∙ ap (flat_map f) (sym (ap (range_with_len 0) (add-one n) ∙ range_suc n 0 ∙ ap (λ j. range_with_len 0 n ++ j ∷ []) (let e : 0 + n ≡ n = omega arith in e))))
