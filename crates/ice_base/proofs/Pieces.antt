-- Texts that are written piece by piece.
use Rattle.std.proofs.Common.{◌≡◌, ℕ, ◌+◌, ◌<◌, ◌++◌, ◌∷◌, [], List, length, map, take, get_or, ap, sym, ◌∙◌, append_assoc, append-nil}
use Rattle.std.specs.List.{flat_map}
use Rattle.std.proofs.lemmas.List.{take_more, map_more}
use Rattle.std.proofs.lemmas.List.Concat.{flat_map-append}
use Rattle.ice_base.specs.Lines.{text_of_lines}

-- lines behind lines
pub text_join : (a b : List (List ℕ)) → text_of_lines a ++ text_of_lines b ≡ text_of_lines (a ++ b)
text_join a b = sym (flat_map-append (λ (line : List ℕ). line ++ 10 ∷ []) a b)

-- a text that was written further
pub further : (start old new a b whole : List ℕ) → old ≡ start ++ a → new ≡ old ++ b → a ++ b ≡ whole → new ≡ start ++ whole
further start old new a b whole before put e =
    put ∙ ap (λ t. t ++ b) before ∙ append_assoc start a b ∙ ap (λ t. start ++ t) e

-- the line of one thing further
pub line_more : {X : Type 0} (f : X → List ℕ) (xs : List X) (i : ℕ) (d : X) → i < length xs
    → text_of_lines (map f (take i xs)) ++ text_of_lines (f (get_or xs i d) ∷ []) ≡ text_of_lines (map f (take (i + 1) xs))
line_more f xs i d below = text_join (map f (take i xs)) (f (get_or xs i d) ∷ []) ∙ ap text_of_lines (sym (map_more f xs i d below))

-- one thing further in a list that is made from others
pub part_more : {X A : Type 0} (f : X → List A) (xs : List X) (i : ℕ) (d : X) → i < length xs → flat_map f (take i xs) ++ f (get_or xs i d) ≡ flat_map f (take (i + 1) xs)
part_more f xs i d below =
    ap (λ ys. flat_map f (take i xs) ++ ys) (sym (append-nil (f (get_or xs i d))))
    ∙ sym (flat_map-append f (take i xs) (get_or xs i d ∷ [])) ∙ ap (flat_map f) (sym (take_more xs i d below))

-- the lines of one thing further
pub lines_more : {X : Type 0} (f : X → List (List ℕ)) (xs : List X) (i : ℕ) (d : X) → i < length xs
    → text_of_lines (flat_map f (take i xs)) ++ text_of_lines (f (get_or xs i d)) ≡ text_of_lines (flat_map f (take (i + 1) xs))
lines_more f xs i d below = text_join (flat_map f (take i xs)) (f (get_or xs i d)) ∙ ap text_of_lines (part_more f xs i d below)
