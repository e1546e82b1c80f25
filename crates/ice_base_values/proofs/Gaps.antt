-- The laws of systems in which inputs may be connected to nothing.
use Rattle.std.proofs.Common.{◌≡◌, ℕ, zero, suc, Option, None, Some, List, [], ◌∷◌, ◌++◌, ◌+◌, ◌<◌, length, get_or, take, map, refl, ap, sym, ◌∙◌, append_assoc}
use Rattle.std.specs.Prelude.{option_map}
use Rattle.std.proofs.lemmas.List.{take_more}
use Rattle.ice_base.specs.Lists.{all_known}
use Rattle.ice_base_values.specs.System.{value, present, reading, filled_inputs, gapped}
use Rattle.ice_base_values.specs.Simulations.{try_reading}
use Rattle.ice_base_values.specs.Order.{At}

-- what the inputs read, by an assignment to the connected points
pub filled_map : {P A : Type 0} (bare : A) (v : P → A) (inputs : List (Option P)) → filled_inputs bare inputs (map v (present inputs)) ≡ map (reading bare v) inputs
filled_map bare v [] = refl
filled_map bare v (None ∷ inputs) = ap (λ xs. bare ∷ xs) (filled_map bare v inputs)
filled_map bare v (Some p ∷ inputs) = ap (λ xs. v p ∷ xs) (filled_map bare v inputs)

pub option_map_twice : {A B C : Type 0} (f : B → C) (g : A → B) (o : Option A) → option_map f (option_map g o) ≡ option_map (λ x. f (g x)) o
option_map_twice f g None = refl
option_map_twice f g (Some x) = refl

one_more : {P A : Type 0} (bare : A) (w : P → Option A) (p : P) (inputs : List (Option P)) (o : Option A)
    → all_known (map (try_reading bare w) inputs) ≡ option_map (filled_inputs bare inputs) (all_known (map w (present inputs)))
    → all_known (o ∷ map (try_reading bare w) inputs) ≡ option_map (filled_inputs bare (Some p ∷ inputs)) (all_known (o ∷ map w (present inputs)))
one_more bare w p inputs None same = refl
one_more bare w p inputs (Some x) same =
    ap (option_map (λ xs. x ∷ xs)) same
    ∙ option_map_twice (λ xs. x ∷ xs) (filled_inputs bare inputs) (all_known (map w (present inputs)))
    ∙ sym (option_map_twice (filled_inputs bare (Some p ∷ inputs)) (λ xs. x ∷ xs) (all_known (map w (present inputs))))

-- all inputs have something to read where all connected points have a value
pub together_present : {P A : Type 0} (bare : A) (w : P → Option A) (inputs : List (Option P))
    → all_known (map (try_reading bare w) inputs) ≡ option_map (filled_inputs bare inputs) (all_known (map w (present inputs)))
together_present bare w [] = refl
together_present bare w (None ∷ inputs) =
    ap (option_map (λ xs. bare ∷ xs)) (together_present bare w inputs)
    ∙ option_map_twice (λ xs. bare ∷ xs) (filled_inputs bare inputs) (all_known (map w (present inputs)))
together_present bare w (Some p ∷ inputs) = one_more bare w p inputs (w p) (together_present bare w inputs)

-- a point's value, by what its inputs read
pub value_gapped : {P A : Type 0} (inputs : P → List (Option P)) (bare : A) (local : P → List A → A) (f : ℕ) (p : P)
    → value (gapped inputs bare local) (suc f) p
    ≡ option_map (local p) (all_known (map (try_reading bare (λ q. value (gapped inputs bare local) f q)) (inputs p)))
value_gapped inputs bare local f p =
    sym (ap (option_map (local p)) (together_present bare (λ q. value (gapped inputs bare local) f q) (inputs p))
    ∙ option_map_twice (local p) (filled_inputs bare (inputs p)) (all_known (map (λ q. value (gapped inputs bare local) f q) (present (inputs p)))))

-- what `local` makes of an assignment, by what the inputs read
pub local_gapped : {P A : Type 0} (inputs : P → List (Option P)) (bare : A) (local : P → List A → A) (v : P → A) (p : P)
    → (gapped inputs bare local).local p (map v ((gapped inputs bare local).depends p)) ≡ local p (map (reading bare v) (inputs p))
local_gapped inputs bare local v p = ap (local p) (filled_map bare v (inputs p))

-- the connected inputs of two lists, one behind the other
pub present_append : {P : Type 0} (xs ys : List (Option P)) → present (xs ++ ys) ≡ present xs ++ present ys
present_append [] ys = refl
present_append (None ∷ xs) ys = present_append xs ys
present_append (Some p ∷ xs) ys = ap (λ ps. p ∷ ps) (present_append xs ys)

-- one more input
pub present_more : {P : Type 0} (xs : List (Option P)) (i : ℕ) (d : Option P) → i < length xs
    → present (take (i + 1) xs) ≡ present (take i xs) ++ present (get_or xs i d ∷ [])
present_more xs i d lt = rw (take_more xs i d lt) (present_append (take i xs) (get_or xs i d ∷ []))

-- for a loop that takes the inputs one by one
pub ruleset presents = (present_more, append_assoc)

-- what is among the inputs that are there is an input
pub present_at : {P : Type 0} (inputs : List (Option P)) (k : ℕ) (p : P) → At (present inputs) k p → (j : ℕ) × At inputs j (Some p)
present_at [] k p at = cc
present_at (None ∷ inputs) k p at = let rest = present_at inputs k p at in (suc rest.0, rest.1)
present_at (Some q ∷ inputs) zero p at = (0, ap Some at)
present_at (Some q ∷ inputs) (suc k) p at = let rest = present_at inputs k p at in (suc rest.0, rest.1)
