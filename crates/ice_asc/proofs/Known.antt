-- Values of digits that are all known, read from the front.
use Rattle.std.proofs.Common.{◌≡◌, ℕ, ◌<◌, ◌≤◌, ◌+◌, List, [], ◌∷◌, ◌++◌, length, get_or, drop, map, refl, ap, ◌∙◌, Option, None, Some, option_map, append-nil}
use Rattle.std.proofs.lemmas.List.{at_drop_more, at_drop_all}
use Rattle.ice_base.specs.Lists.{all_known}
use Rattle.ice_base.proofs.KnownLists.{known_joins}

module _ {A : Type 0} (value : ℕ → Option A) where
  abbrev pub all_in : List ℕ → Option (List A)
  all_in digits = all_known (map value digits)

  known_first : (d : ℕ) (ds : List ℕ) (x : A) → value d ≡ Some x → all_in (d ∷ ds) ≡ option_map (λ xs. x ∷ xs) (all_in ds)
  known_first d ds x e = rw e refl

  unknown_first : (d : ℕ) (ds : List ℕ) → value d ≡ None → all_in (d ∷ ds) ≡ None
  unknown_first d ds e = rw e refl

  -- a value that is known joins those before it
  pub one_joins : (digits : List ℕ) (i : ℕ) (front : List A) (x : A) → all_in digits ≡ option_map (λ xs. front ++ xs) (all_in (drop i digits)) → i < length digits → value (get_or digits i 0) ≡ Some x
      → all_in digits ≡ option_map (λ xs. (front ++ x ∷ []) ++ xs) (all_in (drop (i + 1) digits))
  one_joins digits i front x so_far lt is =
      so_far
      ∙ ap (option_map (λ xs. front ++ xs)) (at_drop_more all_in digits i 0 lt ∙ known_first (get_or digits i 0) (drop (i + 1) digits) x is)
      ∙ known_joins front x (all_in (drop (i + 1) digits))

  -- a digit without a value ends the list
  pub one_stops : (digits : List ℕ) (i : ℕ) (front : List A) → all_in digits ≡ option_map (λ xs. front ++ xs) (all_in (drop i digits)) → i < length digits → value (get_or digits i 0) ≡ None → all_in digits ≡ None
  one_stops digits i front so_far lt is =
      so_far ∙ ap (option_map (λ xs. front ++ xs)) (at_drop_more all_in digits i 0 lt ∙ unknown_first (get_or digits i 0) (drop (i + 1) digits) is)

  -- all digits were read
  pub all_end : (digits : List ℕ) (i : ℕ) (front : List A) → all_in digits ≡ option_map (λ xs. front ++ xs) (all_in (drop i digits)) → length digits ≤ i → all_in digits ≡ Some front
  all_end digits i front so_far le = so_far ∙ ap (option_map (λ xs. front ++ xs)) (at_drop_all all_in digits i le) ∙ ap Some (append-nil front)
