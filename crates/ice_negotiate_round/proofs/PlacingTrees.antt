-- Trees are put at their tasks.
use Rattle.std.proofs.Common.{◌≡◌, ◌≢◌, ℕ, zero, suc, ◌+◌, ◌≤◌, ◌<◌, List, [], ◌∷◌, ◌++◌, length, cond, eqb, set, slice_get, Some, inl, inr, refl, sym, ap, subst, arith}
use Rattle.std.proofs.lemmas.Bool.{cases_eq}
use Rattle.std.proofs.lemmas.Option.{slice_get_within}
use Rattle.std.proofs.lemmas.List.Sums.{sum_by_push}
use Rattle.ice_graph.specs.declared.tree.Tree.{Tree}
use Rattle.ice_graph.specs.Network.{Network}
use Rattle.ice_core.specs.declared.round_prices.RoundPrices.{RoundPrices}
use Rattle.ice_core.specs.declared.task.Task.{Task}
use Rattle.ice_core.proofs.Sums.{is_at, at_other}
use Rattle.ice_core.proofs.Counting.{some_same}
use Rattle.ice_worker.specs.Tasks.{IsMade}
use Rattle.ice_worker.specs.Kits.{made_by}
use Rattle.ice_negotiate_round.specs.declared.jobs.Done.{Done}
use Rattle.ice_negotiate_round.specs.Played.{AreTrees, Covers, made_at, made_in}

get_set_same : {A : Type 0} (xs : List A) (i : ℕ) (a b : A) → slice_get (set xs i a) i ≡ Some b → b ≡ a
get_set_same [] i a b at = absurd (let lt = slice_get_within [] i b at in omega arith)
get_set_same (x ∷ xs) zero a b at = some_same (a ∷ xs) 0 b a at refl
get_set_same (x ∷ xs) (suc i) a b at = get_set_same xs i a b at

get_set_other : {A : Type 0} (xs : List A) (i j : ℕ) (a b : A) → j ≢ i → slice_get (set xs i a) j ≡ Some b → slice_get xs j ≡ Some b
get_set_other [] i j a b other at = at
get_set_other (x ∷ xs) zero zero a b other at = absurd (other refl)
get_set_other (x ∷ xs) zero (suc j) a b other at = at
get_set_other (x ∷ xs) (suc i) zero a b other at = at
get_set_other (x ∷ xs) (suc i) (suc j) a b other at = get_set_other xs i j a b (λ e. other (ap suc e)) at

module _ (graph : Network) (r : RoundPrices) (tasks : List Task) where
  pub placed : (news : List Tree) (m : ℕ × Tree) (wanted : ℕ → ℕ) → IsMade graph r tasks m → Covers graph r tasks (λ t. is_at m.0 t + wanted t) news → Covers graph r tasks wanted (set news m.0 m.1)
  placed news m wanted made covers t tree there = elim (cases_eq t m.0) [
    | inl same ↦
        let there' : slice_get (set news m.0 m.1) m.0 ≡ Some tree = subst (λ k. slice_get (set news m.0 m.1) k ≡ Some tree) same there in
        let is : tree ≡ m.1 = get_set_same news m.0 m.1 tree there' in
        inr (subst (λ k. IsMade graph r tasks (k, tree)) (sym same) (subst (λ (u : Tree). IsMade graph r tasks (m.0, u)) (sym is) made))
    | inr other ↦
        elim (covers t tree (get_set_other news m.0 t m.1 tree other there)) [
          | inl more ↦ inl (omega (arith, more, at_other m.0 t (λ e. other (sym e))))
          | inr is ↦ inr is
        ]
  ]

  -- the same where as much is wanted
  pub covers_same : (news : List Tree) (wanted other : ℕ → ℕ) → ((t : ℕ) → wanted t ≡ other t) → Covers graph r tasks wanted news → Covers graph r tasks other news
  covers_same news wanted other same covers t tree there = elim (covers t tree there) [
    | inl more ↦ inl (omega (arith, more, same t))
    | inr is ↦ inr is
  ]

  -- where each task is wanted, and then none is, each has its tree
  pub covers_first : (news : List Tree) (wanted : ℕ → ℕ) → length news ≡ length tasks → ((t : ℕ) → t < length tasks → 1 ≤ wanted t) → Covers graph r tasks wanted news
  covers_first news wanted long each t tree there = inl (each t (omega (arith, long, slice_get_within news t tree there)))

  pub covered : (news : List Tree) → length news ≡ length tasks → Covers graph r tasks (λ t. 0) news → AreTrees graph r tasks news
  covered news long covers = record {
    long = long;
    each = λ t tree there. elim (covers t tree there) [
      | inl more ↦ absurd (omega (arith, more))
      | inr is ↦ is
    ];
  }

pub made_push : (t : ℕ) (trees : List (ℕ × Tree)) (m : ℕ × Tree) → made_at t (trees ++ m ∷ []) ≡ made_at t trees + is_at m.0 t
made_push t trees m = sum_by_push (λ (m : ℕ × Tree). cond (eqb m.0 t) 1 0) trees m

pub dones_push : (t : ℕ) (dones : List Done) (d : Done) → made_in t (dones ++ d ∷ []) ≡ made_in t dones + made_at t (made_by d.kit)
dones_push t dones d = sum_by_push (λ (d : Done). made_at t (made_by d.kit)) dones d

pub made_none : (t : ℕ) (trees : List (ℕ × Tree)) → length trees ≤ 0 → made_at t trees ≡ 0
made_none t [] le = refl
made_none t (m ∷ trees) le = absurd (omega arith)

pub dones_none : (t : ℕ) (dones : List Done) → length dones ≤ 0 → made_in t dones ≡ 0
dones_none t [] le = refl
dones_none t (d ∷ dones) le = absurd (omega arith)
