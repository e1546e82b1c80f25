-- Lists of values that are all known, read from the front.
use Rattle.std.proofs.Common.{◌≡◌, ℕ, ◌<◌, ◌≤◌, ◌+◌, List, [], ◌∷◌, ◌++◌, length, get_or, drop, map, refl, sym, ap, ◌∙◌, Bool, Option, None, Some, option_map, append-nil, append_assoc}
use Rattle.std.proofs.lemmas.List.{at_drop_more, at_drop_all}
use Rattle.ice_base.specs.Lists.{all_known}
use Rattle.ice_base.specs.Places.{digit_value, values_in}

-- nothing was read yet
pub all_begin : {A : Type 0} (o : Option (List A)) → o ≡ option_map (λ xs. [] ++ xs) o
all_begin None = refl
all_begin (Some xs) = refl

-- a value that is known joins those before it
pub known_joins : {A : Type 0} (front : List A) (x : A) (o : Option (List A)) → option_map (λ xs. front ++ xs) (option_map (λ xs. x ∷ xs) o) ≡ option_map (λ xs. (front ++ x ∷ []) ++ xs) o
known_joins front x None = refl
known_joins front x (Some xs) = ap Some (sym (append_assoc front (x ∷ []) xs))

-- the value of the next digit joins those before it
pub value_joins : (digits : List ℕ) (i : ℕ) (values : List Bool) (value : Bool) → all_known (map digit_value digits) ≡ option_map (λ xs. values ++ xs) (all_known (map digit_value (drop i digits))) → i < length digits → digit_value (get_or digits i 0) ≡ Some value
    → all_known (map digit_value digits) ≡ option_map (λ xs. (values ++ value ∷ []) ++ xs) (all_known (map digit_value (drop (i + 1) digits)))
value_joins digits i values value so_far lt is =
    so_far
    ∙ ap (option_map (λ xs. values ++ xs)) (at_drop_more values_in digits i 0 lt ∙ known_first (get_or digits i 0) (drop (i + 1) digits) value is)
    ∙ known_joins values value (values_in (drop (i + 1) digits))
  where
    known_first : (d : ℕ) (ds : List ℕ) (v : Bool) → digit_value d ≡ Some v → values_in (d ∷ ds) ≡ option_map (λ xs. v ∷ xs) (values_in ds)
    known_first d ds v e = rw e refl

-- a digit without a value ends the list
pub value_stops : (digits : List ℕ) (i : ℕ) (values : List Bool) → all_known (map digit_value digits) ≡ option_map (λ xs. values ++ xs) (all_known (map digit_value (drop i digits))) → i < length digits → digit_value (get_or digits i 0) ≡ None
    → all_known (map digit_value digits) ≡ None
value_stops digits i values so_far lt is =
    so_far ∙ ap (option_map (λ xs. values ++ xs)) (at_drop_more values_in digits i 0 lt ∙ unknown_first (get_or digits i 0) (drop (i + 1) digits) is)
  where
    unknown_first : (d : ℕ) (ds : List ℕ) → digit_value d ≡ None → values_in (d ∷ ds) ≡ None
    unknown_first d ds e = rw e refl

-- all digits were read
pub values_end : (digits : List ℕ) (i : ℕ) (values : List Bool) → all_known (map digit_value digits) ≡ option_map (λ xs. values ++ xs) (all_known (map digit_value (drop i digits))) → length digits ≤ i
    → all_known (map digit_value digits) ≡ Some values
values_end digits i values so_far le =
    so_far ∙ ap (option_map (λ xs. values ++ xs)) (at_drop_all values_in digits i le) ∙ ap Some (append-nil values)
