-- No cell stands in the runs of first carries twice.
use Rattle.std.proofs.Common.{◌≡◌, ◌⊎◌, ℕ, suc, ◌+◌, ◌<◌, ◌≤◌, true, List, [], ◌∷◌, length, refl, ap, sym, ◌∙◌, subst, arith, inl, inr}
use Rattle.std.specs.List.{flat_map}
use Rattle.std.proofs.lemmas.Option.{none-some}
use Rattle.ice_base_values.specs.Order.{At, Has, StandOnce}
use Rattle.ice_base_values.proofs.Once.{once_append}
use Rattle.ice_cells.specs.declared.design.Run.{Run}
use Rattle.ice_cells.specs.declared.follow.Follow.{Follow}
use Rattle.ice_cells.specs.Chains.{Head, chain, takes_in, passes_out, one_if, feeds, feed_cells, run_from, runs_from}
use Rattle.ice_carry_chains.proofs.ChainLaws.{IsHead, FollowsOne, chain_at, one_head}
use Rattle.ice_carry_chains.proofs.RunLists.{feeds_before, feeds_within, run_back, run_parts, flat_back, run_once}

-- the cells of all runs
abbrev pub cells_from : List Follow → ℕ → List Head → List ℕ
cells_from marks k heads = flat_map (λ (run : Run). run.cells) (runs_from marks k heads)

-- ---- where a cell of the runs comes from: a number from k on, or the chain of a first carry
pub data CellFrom (marks : List Follow) (k : ℕ) (heads : List Head) (c : ℕ) : Type 0 where
  Fed : k ≤ c → c < k + length (flat_map (feed_cells marks) heads) → CellFrom marks k heads c
  Carried : (r : ℕ) (x : Head) (j : ℕ) → At heads r x → At (chain marks (length marks) x.0) j c → CellFrom marks k heads c

takes_one : (marks : List Follow) (x : Head) → takes_in x ≡ true → 1 ≤ feeds marks x
takes_one marks x e = let one : one_if (takes_in x) ≡ 1 = ap one_if e in omega arith

passes_one : (marks : List Follow) (x : Head) → passes_out marks x ≡ true → one_if (takes_in x) + 1 ≤ feeds marks x
passes_one marks x e = let one : one_if (passes_out marks x) ≡ 1 = ap one_if e in omega arith

number_within : (k b f t more : ℕ) → b + f ≤ t → more + 1 ≤ f → k + b + more < k + t
number_within k b f t more le lt = omega arith

number_from : (k b more : ℕ) → k ≤ k + b + more
number_from k b more = omega arith

fed_at : (marks : List Follow) (k : ℕ) (heads : List Head) (c r : ℕ) (x : Head) (more : ℕ) → At heads r x → more + 1 ≤ feeds marks x → k + feeds_before marks heads r + more ≡ c → CellFrom marks k heads c
fed_at marks k heads c r x more at le e =
    Fed (subst (λ m. k ≤ m) e (number_from k (feeds_before marks heads r) more))
    (subst (λ m. m < k + length (flat_map (feed_cells marks) heads)) e
    (number_within k (feeds_before marks heads r) (feeds marks x) (length (flat_map (feed_cells marks) heads)) more (feeds_within marks heads r x at) le))

none_more : (k : ℕ) → k + 0 ≡ k
none_more k = omega arith

pub from_where : (marks : List Follow) (k : ℕ) (heads : List Head) (c : ℕ) → Has (cells_from marks k heads) c → CellFrom marks k heads c
from_where marks k heads c has =
    let one = flat_back (λ (run : Run). run.cells) (runs_from marks k heads) c has in
    let back = run_back marks k heads one.row one.item one.at in
    by one.row back.0 one.place back.1 (run_parts marks (k + feeds_before marks heads one.row) back.0 one.place c (subst (λ (run : Run). At run.cells one.place c) (sym back.2) one.inside))
  where
    by : (r : ℕ) (x : Head) (i : ℕ) → At heads r x
        → ((takes_in x ≡ true) × (i ≡ 0) × (k + feeds_before marks heads r ≡ c)) ⊎ (((j : ℕ) × (i ≡ one_if (takes_in x) + j) × At (chain marks (length marks) x.0) j c)
        ⊎ ((passes_out marks x ≡ true) × (i ≡ one_if (takes_in x) + length (chain marks (length marks) x.0)) × (k + feeds_before marks heads r + one_if (takes_in x) ≡ c)))
        → CellFrom marks k heads c
    by r x i at (inl (e, f, g)) = fed_at marks k heads c r x 0 at (takes_one marks x e) (none_more (k + feeds_before marks heads r) ∙ g)
    by r x i at (inr (inl (j, e, inside))) = Carried r x j at inside
    by r x i at (inr (inr (e, f, g))) = fed_at marks k heads c r x (one_if (takes_in x)) at (passes_one marks x e) g

-- ---- none stands twice
-- first carries that stand behind no other, each once
pub record AreHeads (marks : List Follow) (heads : List Head) : Type 0 where
  pub first : (r : ℕ) (x : Head) → At heads r x → IsHead marks x.0
  pub once : (r s : ℕ) (x y : Head) → At heads r x → At heads s y → x.0 ≡ y.0 → r ≡ s

rest_heads : (marks : List Follow) (x : Head) (heads : List Head) → AreHeads marks (x ∷ heads) → AreHeads marks heads
rest_heads marks x heads are = record { first = λ r y at. are.first (suc r) y at; once = λ r s y z at there e. same r s (are.once (suc r) (suc s) y z at there e) }
  where
    same : (r s : ℕ) → suc r ≡ suc s → r ≡ s
    same r s e = omega arith

pub chain_once : (marks : List Follow) → FollowsOne marks → (h : ℕ) → IsHead marks h → (k : ℕ) → StandOnce (chain marks k h)
chain_once marks one h is k i j c at there = (one_head marks one h h is is i j c (chain_at marks k h i c at) (chain_at marks k h j c there)).1

pub zero_not : (s : ℕ) → 0 ≡ suc s → ⊥
zero_not s e = omega arith

two_fed : (k f c more : ℕ) → k + more ≡ c → more + 1 ≤ f → k + f ≤ c → ⊥
two_fed k f c more e few le = omega arith

fed_carried : (n k c more : ℕ) → n ≤ k → k + more ≡ c → c < n → ⊥
fed_carried n k c more le e lt = omega arith

carried_fed : (n k f c : ℕ) → n ≤ k → k + f ≤ c → c < n → ⊥
carried_fed n k f c le more lt = omega arith

module _ (marks : List Follow) (one : FollowsOne marks) where
  -- the carries of their chains have numbers below n
  abbrev AreLow : ℕ → List Head → Type 0
  AreLow n heads = (r : ℕ) (x : Head) (j c : ℕ) → At heads r x → At (chain marks (length marks) x.0) j c → c < n

  pub cells_once : (n k : ℕ) (heads : List Head) → n ≤ k → AreHeads marks heads → AreLow n heads → StandOnce (cells_from marks k heads)
  cells_once n k [] le are low = λ i j c at there. absurd (none-some c at)
  cells_once n k (x ∷ heads) le are low =
      once_append (run_from marks k x).cells (cells_from marks (k + feeds marks x) heads)
      (run_once (takes_in x) (passes_out marks x) k (k + one_if (takes_in x)) (chain marks (length marks) x.0) refl (chain_once marks one x.0 (are.first 0 x refl) (length marks)) (λ c has. below c (low 0 x has.0 c refl has.1)))
      (cells_once n (k + feeds marks x) heads (further (feeds marks x)) (rest_heads marks x heads are) (λ r y j c at inside. low (suc r) y j c at inside))
      apart
    where
      below : (c : ℕ) → c < n → c < k
      below c lt = omega arith

      further : (f : ℕ) → n ≤ k + f
      further f = omega arith

      -- a cell that the run has beside its carries
      fed : (c more : ℕ) → k + more ≡ c → more + 1 ≤ feeds marks x → CellFrom marks (k + feeds marks x) heads c → ⊥
      fed c more e few (Fed a b) = two_fed k (feeds marks x) c more e few a
      fed c more e few (Carried r y j at inside) = fed_carried n k c more le e (low (suc r) y j c at inside)

      carried : (c j : ℕ) → At (chain marks (length marks) x.0) j c → CellFrom marks (k + feeds marks x) heads c → ⊥
      carried c j at (Fed a b) = carried_fed n k (feeds marks x) c le a (low 0 x j c refl at)
      carried c j at (Carried r y l there inside) =
          let same = one_head marks one x.0 y.0 (are.first 0 x refl) (are.first (suc r) y there) j l c (chain_at marks (length marks) x.0 j c at) (chain_at marks (length marks) y.0 l c inside) in
          zero_not r (are.once 0 (suc r) x y refl there same.0)

      by : (i c : ℕ) → ((takes_in x ≡ true) × (i ≡ 0) × (k ≡ c)) ⊎ (((j : ℕ) × (i ≡ one_if (takes_in x) + j) × At (chain marks (length marks) x.0) j c)
          ⊎ ((passes_out marks x ≡ true) × (i ≡ one_if (takes_in x) + length (chain marks (length marks) x.0)) × (k + one_if (takes_in x) ≡ c)))
          → CellFrom marks (k + feeds marks x) heads c → ⊥
      by i c (inl (e, f, g)) whence = fed c 0 (none_more k ∙ g) (takes_one marks x e) whence
      by i c (inr (inl (j, e, inside))) whence = carried c j inside whence
      by i c (inr (inr (e, f, g))) whence = fed c (one_if (takes_in x)) g (passes_one marks x e) whence

      apart : (c : ℕ) → Has (run_from marks k x).cells c → Has (cells_from marks (k + feeds marks x) heads) c → ⊥
      apart c (i, at) has = by i c (run_parts marks k x i c at) (from_where marks (k + feeds marks x) heads c has)
