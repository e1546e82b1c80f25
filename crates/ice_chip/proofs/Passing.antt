-- Items of a list that are passed over, one after another, until one passes a test.
use Rattle.std.proofs.Common.{◌≡◌, ℕ, ◌+◌, ◌<◌, Bool, true, false, List, length, drop, get_or, sym, ap, ◌∙◌}
use Rattle.std.specs.Prelude.{◌||◌}
use Rattle.std.specs.List.{list_any}
use Rattle.std.proofs.lemmas.List.{at_drop_more}

pub any_passed : {X : Type 0} (test : X → Bool) (xs : List X) (i : ℕ) (x : X) → i < length xs → x ≡ get_or xs i x → false ≡ test x → list_any test (drop i xs) ≡ list_any test (drop (i + 1) xs)
any_passed test xs i x lt is off =
    at_drop_more (list_any test) xs i x lt
    ∙ ap (λ y. test y || list_any test (drop (i + 1) xs)) (sym is)
    ∙ ap (λ b. b || list_any test (drop (i + 1) xs)) (sym off)

pub any_here : {X : Type 0} (test : X → Bool) (xs : List X) (i : ℕ) (x : X) → i < length xs → x ≡ get_or xs i x → true ≡ test x → list_any test (drop i xs) ≡ true
any_here test xs i x lt is here =
    at_drop_more (list_any test) xs i x lt
    ∙ ap (λ y. test y || list_any test (drop (i + 1) xs)) (sym is)
    ∙ ap (λ b. b || list_any test (drop (i + 1) xs)) (sym here)
