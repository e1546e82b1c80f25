-- Lists to which what is made of each element is pushed, as the elements are gone over.
use Rattle.std.proofs.Common.{◌≡◌, ℕ, ◌+◌, ◌<◌, ◌≤◌, List, [], ◌∷◌, ◌++◌, length, get_or, map, take, ap, sym, ◌∙◌, append_assoc}
use Rattle.std.proofs.lemmas.List.{take_more, map_more, take_all}

-- behind what stood in the list before
pub mapped_behind : {X Y : Type 0} (f : X → Y) (d : X) (start old new : List Y) (xs : List X) (i : ℕ) (y : Y) → i < length xs → old ≡ start ++ map f (take i xs)
    → new ≡ old ++ y ∷ [] → y ≡ f (get_or xs i d) → new ≡ start ++ map f (take (i + 1) xs)
mapped_behind f d start old new xs i y lt so_far now here =
    now
    ∙ ap (λ ys. ys ++ y ∷ []) so_far
    ∙ append_assoc start (map f (take i xs)) (y ∷ [])
    ∙ ap (λ z. start ++ (map f (take i xs) ++ z ∷ [])) here
    ∙ ap (λ ys. start ++ ys) (sym (map_more f xs i d lt))

pub mapped_push : {X Y : Type 0} (f : X → Y) (xs : List X) (i : ℕ) (d : X) (y : Y) (before after : List Y) → i < length xs
    → before ≡ map f (take i xs) → after ≡ before ++ y ∷ [] → y ≡ f (get_or xs i d) → after ≡ map f (take (i + 1) xs)
mapped_push f xs i d y before after = mapped_behind f d [] before after xs i y

pub mapped_all : {X Y : Type 0} (f : X → Y) (xs : List X) (i : ℕ) (ys : List Y) → length xs ≤ i → ys ≡ map f (take i xs) → ys ≡ map f xs
mapped_all f xs i ys le so_far = so_far ∙ ap (map f) (take_all i xs le)

pub copied_push : {X : Type 0} (xs : List X) (i : ℕ) (d y : X) (before after : List X) → i < length xs
    → before ≡ take i xs → after ≡ before ++ y ∷ [] → y ≡ get_or xs i d → after ≡ take (i + 1) xs
copied_push xs i d y before after lt so_far now here =
    now ∙ ap (λ ys. ys ++ y ∷ []) so_far ∙ ap (λ z. take i xs ++ z ∷ []) here ∙ sym (take_more xs i d lt)
