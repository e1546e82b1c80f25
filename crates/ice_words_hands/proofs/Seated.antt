-- What steps, splits and joins keep of how views stand, and what the main view knows once no other is out.
use Rattle.std.proofs.Common.{◌≡◌, ℕ, ◌+◌, ◌-◌, ◌≤◌, ◌<◌, List, [], ◌∷◌, ◌++◌, length, set, length-set, length-append, refl, sym, ap, subst, ◌∙◌, arith}
use mathlib.Core.Option.{some}
use lib.ListN.{get_elem?}
use Rattle.atomic_table.proofs.Lists.{set_else}
use Rattle.std.proofs.lemmas.List.Sums.{sum_by-cons, sum_by_push}
use Rattle.std.specs.List.{sum_by, AllByRecursion}
use Rattle.ice_core.proofs.Sums.{sum_set, sum_at, each_set, each_at, each_any, each_append, sum_add, sum_at_most}
use Rattle.ice_words_hands.specs.Parts.{total_in, total_of_all}
use Rattle.ice_words_hands.specs.Standing.{Standing, IsStanding, AreSeated, first_standing, worker_standing, spent_standing, split_standing, joined_standing}
use Rattle.ice_words_hands.proofs.Lists.{nothing_of}
use Rattle.ice_words_hands.proofs.Parts.{no_parts}

spent_is : IsStanding spent_standing
spent_is = record { many = refl; few = omega arith; fits = omega arith }

-- what a view is that the main one takes in, and that the main one counts it
pub record IsTaken (st other : Standing) : Type 0 where
  pub main : other.main ≡ 0
  pub splits : other.splits ≡ 0
  pub out : other.out ≡ 0
  pub parts : other.parts ≡ 1
  pub counted : 1 ≤ st.out

module _ {V : Type 0} (standing_of : V → Standing) (spent : V) (is_spent : standing_of spent ≡ spent_standing) where
  -- the first view
  pub seated_first : (v : V) → standing_of v ≡ first_standing → AreSeated standing_of (v ∷ [])
  seated_first v is = record {
    mains = ap (λ st. 0 + st.main) is;
    opens = ap (λ st. 0 + st.out) is ∙ sym (ap (λ st. 0 + st.worker) is);
    splits = ap (λ st. 0 + st.splits + 1) is;
    each = (subst IsStanding (sym is) (record { many = refl; few = omega arith; fits = omega arith }), tt);
  }

  -- a step that leaves the standing of its view
  pub seated_step : (views : List V) (id : ℕ) (v w : V) → AreSeated standing_of views → get_elem? views id ≡ some v → standing_of w ≡ standing_of v → AreSeated standing_of (set views id w)
  seated_step views id v w h at same =
      let change = λ (k : Standing → ℕ). sum_set (λ u. k (standing_of u)) views id v w at in
      record {
        mains = omega (arith, change (λ st. st.main), ap (λ st. st.main) same, h.mains);
        opens = omega (arith, change (λ st. st.out), change (λ st. st.worker), ap (λ st. st.out) same, ap (λ st. st.worker) same, h.opens);
        splits = omega (arith, change (λ st. st.splits), ap (λ st. st.splits) same, length-set views id w, h.splits);
        each = each_set (λ u. IsStanding (standing_of u)) views id w h.each (subst IsStanding (sym same) (each_at (λ u. IsStanding (standing_of u)) views id v h.each at));
      }

  -- ---- how much is counted at most
  pub few_splits : (views : List V) → AreSeated standing_of views → sum_by (λ v. (standing_of v).splits) views ≤ 65535
  few_splits views h = omega (arith, h.mains, sum_at_most (λ v. IsStanding (standing_of v)) (λ v. (standing_of v).splits) (λ v. (standing_of v).main) 65535 (λ v is. is.few) views h.each)

  parts_and_out : (views : List V) → AllByRecursion (λ v. IsStanding (standing_of v)) views
      → sum_by (λ v. (standing_of v).parts) views + sum_by (λ v. (standing_of v).out) views ≤ sum_by (λ v. (standing_of v).splits) views + (sum_by (λ v. (standing_of v).main) views + sum_by (λ v. (standing_of v).worker) views)
  parts_and_out views each = omega (
    arith,
    sum_at_most (λ v. IsStanding (standing_of v)) (λ v. (standing_of v).parts + (standing_of v).out) (λ v. (standing_of v).splits + ((standing_of v).main + (standing_of v).worker)) 1 (λ v is. (let many = is.many in omega arith)) views each,
    sum_add (λ v. (standing_of v).parts) (λ v. (standing_of v).out) views,
    sum_add (λ v. (standing_of v).splits) (λ v. (standing_of v).main + (standing_of v).worker) views,
    sum_add (λ v. (standing_of v).main) (λ v. (standing_of v).worker) views,
  )

  pub few_parts : (views : List V) → AreSeated standing_of views → sum_by (λ v. (standing_of v).parts) views ≤ 65536
  few_parts views h = omega (arith, parts_and_out views h.each, few_splits views h, h.mains, h.opens)

  -- ---- the views beside the main one
  abbrev others : List V → ℕ → List V
  others views id = set views id spent

  each_other : (views : List V) (id : ℕ) → AreSeated standing_of views → AllByRecursion (λ u. IsStanding (standing_of u)) (others views id)
  each_other views id h = each_set (λ u. IsStanding (standing_of u)) views id spent h.each (subst IsStanding (sym is_spent) spent_is)

  -- what all views count is what this one and the others do
  beside : (k : Standing → ℕ) (views : List V) (id : ℕ) (v : V) → get_elem? views id ≡ some v → sum_by (λ u. k (standing_of u)) (others views id) + k (standing_of v) ≡ sum_by (λ u. k (standing_of u)) views + k spent_standing
  beside k views id v at = omega (arith, sum_set (λ u. k (standing_of u)) views id v spent at, ap k is_spent)

  others_main : (views : List V) (id : ℕ) (v : V) → AreSeated standing_of views → get_elem? views id ≡ some v → (standing_of v).main ≡ 1 → sum_by (λ u. (standing_of u).main) (others views id) ≡ 0
  others_main views id v h at main = omega (arith, beside (λ st. st.main) views id v at, h.mains, main)

  others_splits : (views : List V) (id : ℕ) (v : V) → AreSeated standing_of views → get_elem? views id ≡ some v → (standing_of v).main ≡ 1 → sum_by (λ u. (standing_of u).splits) (others views id) ≡ 0
  others_splits views id v h at main = omega (arith, others_main views id v h at main, sum_at_most (λ u. IsStanding (standing_of u)) (λ u. (standing_of u).splits) (λ u. (standing_of u).main) 65535 (λ u is. is.few) (others views id) (each_other views id h))

  others_out : (views : List V) (id : ℕ) (v : V) → AreSeated standing_of views → get_elem? views id ≡ some v → (standing_of v).main ≡ 1 → sum_by (λ u. (standing_of u).out) (others views id) ≡ 0
  others_out views id v h at main = omega (arith, others_splits views id v h at main, sum_at_most (λ u. IsStanding (standing_of u)) (λ u. (standing_of u).out) (λ u. (standing_of u).splits) 1 (λ u is. (let fits = is.fits in omega arith)) (others views id) (each_other views id h))

  -- ---- the main view that has no others out knows all that was done
  pub alone : (k : V → ℕ) → ((u : V) → (standing_of u).parts ≡ 0 → k u ≡ 0) → (views : List V) (id : ℕ) (v : V) → AreSeated standing_of views → get_elem? views id ≡ some v → (standing_of v).main ≡ 1 → (standing_of v).out ≡ 0 → sum_by k views ≡ k v
  alone k bare views id v h at main none =
      let rest : List V = others views id in
      let workers : sum_by (λ u. (standing_of u).worker) rest ≡ 0 = omega (arith, h.opens, beside (λ st. st.out) views id v at, beside (λ st. st.worker) views id v at, others_out views id v h at main, none) in
      let gone : sum_by (λ u. (standing_of u).parts) rest ≡ 0 = omega (arith, parts_and_out rest (each_other views id h), others_splits views id v h at main, others_main views id v h at main, workers) in
      omega (arith, sum_set k views id v spent at, nothing_of k (λ u. (standing_of u).parts) bare rest gone, bare spent (ap (λ st. st.parts) is_spent))

  -- ---- a view is split off, and joined
  pub seated_split : (views : List V) (id : ℕ) (v left right : V) → AreSeated standing_of views → get_elem? views id ≡ some v → (standing_of v).main ≡ 1 → (standing_of v).splits < 65535 → standing_of left ≡ split_standing (standing_of v) → standing_of right ≡ worker_standing
      → AreSeated standing_of (set views id left ++ right ∷ [])
  seated_split views id v left right h at main few to_left to_right =
      let more : List V = set views id left in
      let is = each_at (λ u. IsStanding (standing_of u)) views id v h.each at in
      let change = λ (k : Standing → ℕ). sum_set (λ u. k (standing_of u)) views id v left at in
      let pushed = λ (k : Standing → ℕ). sum_by_push (λ u. k (standing_of u)) more right in
      let on_left = λ (k : Standing → ℕ). ap k to_left in
      let on_right = λ (k : Standing → ℕ). ap k to_right in
      record {
        mains = omega (arith, change (λ st. st.main), pushed (λ st. st.main), on_left (λ st. st.main), on_right (λ st. st.main), h.mains);
        opens = omega (arith, change (λ st. st.out), pushed (λ st. st.out), on_left (λ st. st.out), on_right (λ st. st.out), change (λ st. st.worker), pushed (λ st. st.worker), on_left (λ st. st.worker), on_right (λ st. st.worker), h.opens);
        splits = omega (arith, change (λ st. st.splits), pushed (λ st. st.splits), on_left (λ st. st.splits), on_right (λ st. st.splits), length-append more (right ∷ []), length-set views id left, h.splits);
        each = each_append (λ u. IsStanding (standing_of u)) more (right ∷ [])
            (each_set (λ u. IsStanding (standing_of u)) views id left h.each (subst IsStanding (sym to_left) (record { many = omega (arith, is.many); few = omega (arith, main, few); fits = omega (arith, is.fits) })))
            (subst IsStanding (sym to_right) (record { many = refl; few = omega arith; fits = omega arith }), tt);
      }

  pub taken_in : (views : List V) (id other : ℕ) (v u both : V) → AreSeated standing_of views → get_elem? views id ≡ some v → ¬ (other ≡ id) → get_elem? (set views id both) other ≡ some u → (standing_of v).main ≡ 1 → (standing_of u).worker ≡ 1
      → IsTaken (standing_of v) (standing_of u)
  taken_in views id other v u both h at apart there main worker =
      let at_other : get_elem? views other ≡ some u = sym (set_else views id other both apart) ∙ there in
      let at_rest : get_elem? (others views id) other ≡ some u = set_else views id other spent apart ∙ at_other in
      let is = each_at (λ w. IsStanding (standing_of w)) views other u h.each at_other in
      let no_main : (standing_of u).main ≡ 0 = omega (arith, sum_at (λ w. (standing_of w).main) (others views id) other u at_rest, others_main views id v h at main) in
      let no_splits : (standing_of u).splits ≡ 0 = omega (arith, no_main, is.few) in
      let some_worker : 1 ≤ sum_by (λ w. (standing_of w).worker) views = omega (arith, sum_at (λ w. (standing_of w).worker) views other u at_other, worker) in
      record {
        main = no_main;
        splits = no_splits;
        out = omega (arith, no_splits, is.fits);
        parts = omega (arith, is.many, is.fits, no_main, no_splits, worker);
        counted = omega (arith, some_worker, h.opens, beside (λ st. st.out) views id v at, others_out views id v h at main);
      }

  pub seated_join : (views : List V) (id other : ℕ) (v u both : V) → AreSeated standing_of views → get_elem? views id ≡ some v → ¬ (other ≡ id) → get_elem? (set views id both) other ≡ some u → (standing_of v).main ≡ 1 → (standing_of u).worker ≡ 1 → standing_of both ≡ joined_standing (standing_of v) (standing_of u)
      → AreSeated standing_of (set (set views id both) other spent)
  seated_join views id other v u both h at apart there main worker to_both =
      let more : List V = set views id both in
      let is = each_at (λ w. IsStanding (standing_of w)) views id v h.each at in
      let taken = taken_in views id other v u both h at apart there main worker in
      let change = λ (k : Standing → ℕ). sum_set (λ w. k (standing_of w)) views id v both at in
      let gone = λ (k : Standing → ℕ). sum_set (λ w. k (standing_of w)) more other u spent there in
      let on_both = λ (k : Standing → ℕ). ap k to_both in
      let on_spent = λ (k : Standing → ℕ). ap k is_spent in
      record {
        mains = omega (arith, change (λ st. st.main), gone (λ st. st.main), on_both (λ st. st.main), on_spent (λ st. st.main), taken.main, h.mains);
        opens = omega (arith, change (λ st. st.out), gone (λ st. st.out), on_both (λ st. st.out), on_spent (λ st. st.out), change (λ st. st.worker), gone (λ st. st.worker), on_both (λ st. st.worker), on_spent (λ st. st.worker), taken.out, taken.counted, worker, h.opens);
        splits = omega (arith, change (λ st. st.splits), gone (λ st. st.splits), on_both (λ st. st.splits), on_spent (λ st. st.splits), taken.splits, length-set more other spent, length-set views id both, h.splits);
        each = each_set (λ w. IsStanding (standing_of w)) more other spent
            (each_set (λ w. IsStanding (standing_of w)) views id both h.each (subst IsStanding (sym to_both) (record { many = omega (arith, is.many, taken.parts, taken.counted); few = is.few; fits = omega (arith, is.fits) })))
            (subst IsStanding (sym is_spent) spent_is);
      }

-- the same, where a view's parts are a list
module _ {V P : Type 0} (standing_of : V → Standing) (spent : V) (is_spent : standing_of spent ≡ spent_standing) (parts_of : V → List P) (counted : (v : V) → (standing_of v).parts ≡ length (parts_of v)) where
  pub alone_in : (k : P → ℕ) (views : List V) (id : ℕ) (v : V) → AreSeated standing_of views → get_elem? views id ≡ some v → (standing_of v).main ≡ 1 → (standing_of v).out ≡ 0 → total_of_all parts_of k views ≡ total_in parts_of k v
  alone_in k = alone standing_of spent is_spent (total_in parts_of k) (λ u none. no_parts k (parts_of u) (sym (counted u) ∙ none))

  -- a number of each part that is at most 1
  pub few_in : (k : P → ℕ) → ((p : P) → k p ≤ 1) → (views : List V) → AreSeated standing_of views → total_of_all parts_of k views ≤ 65536
  few_in k low views h = omega (arith, few_parts standing_of spent is_spent views h, sum_at_most (λ (v : V). Unit {0}) (total_in parts_of k) (λ v. (standing_of v).parts) 1 (λ v here. omega (arith, at_most (parts_of v), counted v)) views (each_any (λ (v : V). Unit {0}) (λ v. tt) views))
    where
      at_most : (ps : List P) → sum_by k ps ≤ length ps
      at_most [] = omega arith
      at_most (p ∷ ps) = omega (arith, sum_by-cons k p ps, low p, at_most ps)
