-- Block RAMs in use among all of them.
use Rattle.std.proofs.Common.{◌≡◌, ℕ, ◌+◌, ◌<◌, Bool, cond, List, [], ◌∷◌, ◌++◌, length, get_or, take, filter, sym, ap, ◌∙◌}
use Rattle.std.proofs.lemmas.List.Elements.{filter_more}

-- one more that was looked at
pub kept_more : {X : Type 0} (test : X → Bool) (all : List X) (i : ℕ) (d : X) (b : Bool) (old new : List X) → i < length all → old ≡ filter test (take i all) → b ≡ test (get_or all i d)
    → new ≡ old ++ cond b (get_or all i d ∷ []) [] → new ≡ filter test (take (i + 1) all)
kept_more test all i d b old new lt held is added =
    added
    ∙ ap (λ kept. kept ++ cond b (get_or all i d ∷ []) []) held
    ∙ ap (λ x. filter test (take i all) ++ cond x (get_or all i d ∷ []) []) is
    ∙ sym (filter_more test all i d lt)
