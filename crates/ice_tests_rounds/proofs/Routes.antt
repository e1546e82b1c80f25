-- The routes of the two rounds, and what events leave as it is.
use Rattle.std.proofs.Common.{◌≡◌, ℕ, zero, suc, ◌+◌, ◌-◌, ◌≤◌, ◌<◌, true, false, List, [], ◌∷◌, length, length-set, slice_index, refl, sym, ap, subst, arith, inl, inr, ◌∙◌}
use Rattle.std.proofs.lemmas.Bool.{cases_eq}
use Rattle.std.specs.List.{AllByRecursion}
use Rattle.ice_graph.specs.declared.tree.Tree.{Tree}
use Rattle.ice_core.specs.declared.event.Event.{Event}
use Rattle.ice_core.specs.declared.event.Event.TheVariants.{Claim, Release, Hold, Post}
use Rattle.ice_core.specs.Machine.{CoreState, next}
use Rattle.ice_core.specs.Routes.{numbers, times, tree_wires, wires_of}
use Rattle.ice_core.proofs.Sums.{at_itself, at_other, is_at, times_cons}
use Rattle.ice_tests_rounds.specs.Routes.{AreRoutes}
use Rattle.ice_tests_rounds.proofs.Short.{wire}

-- numbers that rise, from n on
abbrev Rise : ℕ → List ℕ → Type 0
Rise n [] = Unit {0}
Rise n (x ∷ xs) = (n ≤ x) × Rise (suc x) xs

none_below : (n w : ℕ) (xs : List ℕ) → Rise n xs → w < n → times w xs ≡ 0
none_below n w [] rise lt = refl
none_below n w (x ∷ xs) rise lt = (let le = rise.0 in omega (arith, times_cons w x xs, at_other x w (λ e. absurd (omega (arith, le, lt, e))), none_below (suc x) w xs rise.1 (omega arith)))

rise_once : (n : ℕ) (xs : List ℕ) → Rise n xs → (w : ℕ) → times w xs ≤ 1
rise_once n [] rise w = omega arith
rise_once n (x ∷ xs) rise w = elim (cases_eq x w) [
  | inl same ↦ (let one : is_at x w ≡ 1 = ap (λ y. is_at y w) same ∙ at_itself w in omega (arith, times_cons w x xs, one, none_below (suc x) w xs rise.1 (omega (arith, same))))
  | inr other ↦ omega (arith, times_cons w x xs, at_other x w other, rise_once (suc x) xs rise.1 w)
]

pub first_routes : (t u : Tree) → t.wires.items ≡ wire 0 ∷ wire 2 ∷ wire 5 ∷ [] → u.wires.items ≡ wire 1 ∷ wire 2 ∷ wire 6 ∷ [] → AreRoutes 7 (tree_wires (t ∷ u ∷ []))
first_routes t u one other = subst (AreRoutes 7) (sym routes) (record { within = within; once = once })
  where
    routes : tree_wires (t ∷ u ∷ []) ≡ (0 ∷ 2 ∷ 5 ∷ []) ∷ (1 ∷ 2 ∷ 6 ∷ []) ∷ []
    routes = λ k. numbers (one k) ∷ numbers (other k) ∷ []

    within : (n : ℕ) → AllByRecursion (λ w. w < 7) (wires_of ((0 ∷ 2 ∷ 5 ∷ []) ∷ (1 ∷ 2 ∷ 6 ∷ []) ∷ []) n)
    within zero = (omega arith, (omega arith, (omega arith, tt)))
    within (suc zero) = (omega arith, (omega arith, (omega arith, tt)))
    within (suc (suc n)) = tt

    once : (n w : ℕ) → times w (wires_of ((0 ∷ 2 ∷ 5 ∷ []) ∷ (1 ∷ 2 ∷ 6 ∷ []) ∷ []) n) ≤ 1
    once zero w = rise_once 0 (0 ∷ 2 ∷ 5 ∷ []) (omega arith, (omega arith, (omega arith, tt))) w
    once (suc zero) w = rise_once 0 (1 ∷ 2 ∷ 6 ∷ []) (omega arith, (omega arith, (omega arith, tt))) w
    once (suc (suc n)) w = omega arith

pub second_routes : (t : Tree) → t.wires.items ≡ wire 0 ∷ wire 3 ∷ wire 4 ∷ wire 5 ∷ [] → AreRoutes 7 (tree_wires (t ∷ []))
second_routes t one = subst (AreRoutes 7) (sym routes) (record { within = within; once = once })
  where
    routes : tree_wires (t ∷ []) ≡ (0 ∷ 3 ∷ 4 ∷ 5 ∷ []) ∷ []
    routes = λ k. numbers (one k) ∷ []

    within : (n : ℕ) → AllByRecursion (λ w. w < 7) (wires_of ((0 ∷ 3 ∷ 4 ∷ 5 ∷ []) ∷ []) n)
    within zero = (omega arith, (omega arith, (omega arith, (omega arith, tt))))
    within (suc n) = tt

    once : (n w : ℕ) → times w (wires_of ((0 ∷ 3 ∷ 4 ∷ 5 ∷ []) ∷ []) n) ≤ 1
    once zero w = rise_once 0 (0 ∷ 3 ∷ 4 ∷ 5 ∷ []) (omega arith, (omega arith, (omega arith, (omega arith, tt)))) w
    once (suc n) w = omega arith

-- no event changes how many counts there are
pub counts_stay : (olds news : List (List ℕ)) (s : CoreState) (e : Event) → length (next olds news s e).counts ≡ length s.counts
counts_stay olds news s (Claim k) = refl
counts_stay olds news s (Release k w) = length-set s.counts w.0 (slice_index s.counts w.0 - 1)
counts_stay olds news s (Hold k w) = length-set s.counts w.0 (slice_index s.counts w.0 + 1)
counts_stay olds news s (Post k true) = refl
counts_stay olds news s (Post k false) = refl
