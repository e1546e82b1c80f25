-- The items of a list that pass a test, one item more at a time.
use Rattle.std.proofs.Common.{◌≡◌, ℕ, ◌+◌, ◌<◌, ◌≤◌, Bool, true, false, cond, List, [], ◌∷◌, ◌++◌, length, get_or, drop, filter, sym, ap, ◌∙◌, append_assoc, append-nil}
use Rattle.std.proofs.lemmas.List.{at_drop_more, at_drop_all}

pub kept : {X : Type 0} (test : X → Bool) (xs : List X) (i : ℕ) (d : X) (old new all : List X) → i < length xs → test (get_or xs i d) ≡ true → old ++ filter test (drop i xs) ≡ all → new ≡ old ++ get_or xs i d ∷ []
    → new ++ filter test (drop (i + 1) xs) ≡ all
kept test xs i d old new all lt passes were is =
    let rest = filter test (drop (i + 1) xs) in
    ap (λ ys. ys ++ rest) is ∙ append_assoc old (get_or xs i d ∷ []) rest
    ∙ sym (ap (λ ys. old ++ ys) (at_drop_more (filter test) xs i d lt ∙ ap (λ b. cond b (get_or xs i d ∷ rest) rest) passes))
    ∙ were

pub left_out : {X : Type 0} (test : X → Bool) (xs : List X) (i : ℕ) (d : X) (old new all : List X) → i < length xs → test (get_or xs i d) ≡ false → old ++ filter test (drop i xs) ≡ all → new ≡ old
    → new ++ filter test (drop (i + 1) xs) ≡ all
left_out test xs i d old new all lt fails were is =
    let rest = filter test (drop (i + 1) xs) in
    ap (λ ys. ys ++ rest) is
    ∙ sym (ap (λ ys. old ++ ys) (at_drop_more (filter test) xs i d lt ∙ ap (λ b. cond b (get_or xs i d ∷ rest) rest) fails))
    ∙ were

pub all_filtered : {X : Type 0} (test : X → Bool) (xs : List X) (i : ℕ) (made all : List X) → length xs ≤ i → made ++ filter test (drop i xs) ≡ all → made ≡ all
all_filtered test xs i made all le is = sym (append-nil made) ∙ sym (ap (λ ys. made ++ ys) (at_drop_all (filter test) xs i le)) ∙ is
