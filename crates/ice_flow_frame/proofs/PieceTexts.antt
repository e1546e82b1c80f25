-- The pieces of a line, one after another.
use Rattle.std.specs.Prelude.{decimal}
use Rattle.std.proofs.Common.{◌≡◌, ◌<◌, ◌+◌, ◌++◌, ℕ, zero, suc, map, get_or, List, [], ◌∷◌, length, take, drop, refl, sym, ap, ◌∙◌, arith, append_assoc, append-nil}
use Rattle.ice_base.specs.declared.number.WireNo.{WireNo}
use Rattle.ice_flow_frame.specs.Causes.{joined, spaced, wire_text}

-- one piece more
pub joined_more : {X : Type 0} (f : X → List ℕ) (xs : List X) (i : ℕ) (d : X) → i < length xs → joined (map f (take (i + 1) xs)) ≡ joined (map f (take i xs)) ++ f (get_or xs i d)
joined_more f [] i d lt = absurd (omega arith)
joined_more f (x ∷ xs) zero d lt = append-nil (f x)
joined_more f (x ∷ xs) (suc i) d lt =
    let e : suc i + 1 ≡ suc (i + 1) = omega arith in
    rw e (ap (λ ys. f x ++ ys) (joined_more f xs i d (omega arith)) ∙ sym (append_assoc (f x) (joined (map f (take i xs))) (f (get_or xs i d))))

-- the pieces before one, that piece, and those behind it
pub joined_all : {X : Type 0} (f : X → List ℕ) (xs : List X) (i : ℕ) (d : X) → i < length xs → joined (map f xs) ≡ (joined (map f (take i xs)) ++ f (get_or xs i d)) ++ joined (map f (drop (suc i) xs))
joined_all f [] i d lt = absurd (omega arith)
joined_all f (x ∷ xs) zero d lt = refl
joined_all f (x ∷ xs) (suc i) d lt =
    ap (λ ys. f x ++ ys) (joined_all f xs i d (omega arith))
    ∙ sym (append_assoc (f x) (joined (map f (take i xs)) ++ f (get_or xs i d)) (joined (map f (drop (suc i) xs))))
    ∙ ap (λ ys. ys ++ joined (map f (drop (suc i) xs))) (sym (append_assoc (f x) (joined (map f (take i xs))) (f (get_or xs i d))))

-- pieces and one more at their end
pub joined_last : (pieces : List (List ℕ)) (last : List ℕ) → joined (pieces ++ last ∷ []) ≡ joined pieces ++ last
joined_last [] last = append-nil last
joined_last (piece ∷ pieces) last = ap (λ xs. piece ++ xs) (joined_last pieces last) ∙ sym (append_assoc piece (joined pieces) last)

-- two pieces and one more
pub joined_third : (a b c : List ℕ) → joined (a ∷ b ∷ c ∷ []) ≡ joined (a ∷ b ∷ []) ++ c
joined_third a b c = joined_last (a ∷ b ∷ []) c

pub joined_pair : (a b : List ℕ) → joined (a ∷ b ∷ []) ≡ a ++ b
joined_pair a b = ap (λ xs. a ++ xs) (append-nil b)

-- the numbers of wires, each after a blank
pub wires_spaced : (wires : List WireNo) → joined (map wire_text wires) ≡ spaced (map decimal (map (λ (w : WireNo). w.0) wires))
wires_spaced [] = refl
wires_spaced (w ∷ wires) = ap (λ xs. wire_text w ++ xs) (wires_spaced wires)
