-- Counting nets on wires, and which of them move.
use Rattle.std.proofs.Common.{◌≡◌, ◌≢◌, ℕ, zero, suc, ◌+◌, ◌≤◌, ◌<◌, Bool, true, false, cond, ◌||◌, List, [], ◌∷◌, ◌++◌, Some, length, take, drop, get_or, slice_get, slice_set, slice_index, eqb, refl, sym, ap, ◌∙◌, subst, arith, inl, inr, get_or-set_same, get_or-set_other, length-set, add-one}
use Rattle.std.proofs.lemmas.Bool.{cases_eq, eq-eqb, ne_eqb}
use Rattle.std.proofs.lemmas.List.{drop_more, drop_all, append_assoc, append-nil, take_all, length-take-le}
use Rattle.std.proofs.lemmas.List.Sums.{count_by_more_yes, count_by_more_no, count_by-le-length}
use Rattle.std.specs.List.{list_any}
use Rattle.ice_base.specs.declared.number.WireNo.{WireNo}
use Rattle.ice_base.specs.declared.number.NetNo.{NetNo}
use Rattle.ice_graph.specs.declared.tree.Tree.{Tree}
use Rattle.ice_core.specs.Moves.{stands_in, holds, occupancy, place, leaves, moves, movers_from, IsOccupancy, AreWithin, leaves_at, HaveCounted, AreCounted}

pub any_more : (p : WireNo → Bool) (wires : List WireNo) (i : ℕ) (d : WireNo) → i < length wires → p (get_or wires i d) ≡ false → list_any p (drop i wires) ≡ list_any p wires → list_any p (drop (i + 1) wires) ≡ list_any p wires
any_more p wires i d lt is h =
    let e : list_any p (get_or wires i d ∷ drop (i + 1) wires) ≡ list_any p wires = ap (list_any p) (sym (drop_more wires i d lt)) ∙ h in
    ap (λ b. b || list_any p (drop (i + 1) wires)) (sym is) ∙ e

pub any_here : (p : WireNo → Bool) (wires : List WireNo) (i : ℕ) (d : WireNo) → i < length wires → p (get_or wires i d) ≡ true → list_any p (drop i wires) ≡ list_any p wires → true ≡ list_any p wires
any_here p wires i d lt is h =
    let e : list_any p (get_or wires i d ∷ drop (i + 1) wires) ≡ list_any p wires = ap (list_any p) (sym (drop_more wires i d lt)) ∙ h in
    ap (λ b. b || list_any p (drop (i + 1) wires)) (sym is) ∙ e

pub any_none : (p : WireNo → Bool) (wires : List WireNo) (i : ℕ) → length wires ≤ i → list_any p (drop i wires) ≡ list_any p wires → false ≡ list_any p wires
any_none p wires i le h = ap (list_any p) (sym (drop_all i wires le)) ∙ h

pub wire_at : (wires : List WireNo) (k : ℕ) (d : WireNo) → k < length wires → slice_get wires k ≡ Some (get_or wires k d)
wire_at [] k d lt = absurd (omega arith)
wire_at (v ∷ wires) zero d lt = refl
wire_at (v ∷ wires) (suc k) d lt = wire_at wires k d (omega arith)

-- one wire more: w stands among the first k + 1 where it stands among the first k or is the next
stands_more : (wires : List WireNo) (k : ℕ) (v : WireNo) (w : ℕ) → slice_get wires k ≡ Some v → stands_in (take (suc k) wires) w ≡ (stands_in (take k wires) w || eqb v.0 w)
stands_more [] k v w at = absurd (cc)
stands_more (u ∷ wires) zero v w at = (let same : u ≡ v = (cc) in by_head (eqb u.0 w) (eqb v.0 w) (ap (λ (x : WireNo). eqb x.0 w) same))
  where
    by_head : (a b : Bool) → a ≡ b → (a || false) ≡ (false || b)
    by_head true b e = e
    by_head false b e = e
stands_more (u ∷ wires) (suc k) v w at = by_head (eqb u.0 w) (stands_more wires k v w at)
  where
    by_head : (a : Bool) → stands_in (take (suc k) wires) w ≡ (stands_in (take k wires) w || eqb v.0 w) → (a || stands_in (take (suc k) wires) w) ≡ ((a || stands_in (take k wires) w) || eqb v.0 w)
    by_head true e = refl
    by_head false e = e

or_false : (a b : Bool) → b ≡ false → (a || b) ≡ a
or_false true b e = refl
or_false false b e = e

or_true : (a b : Bool) → b ≡ true → (a || b) ≡ true
or_true true b e = refl
or_true false b e = e

pub stands_other : (wires : List WireNo) (k : ℕ) (v : WireNo) (w : ℕ) → slice_get wires k ≡ Some v → w ≢ v.0 → stands_in (take (k + 1) wires) w ≡ stands_in (take k wires) w
stands_other wires k v w at other = ap (λ n. stands_in (take n wires) w) (add-one k) ∙ stands_more wires k v w at ∙ or_false (stands_in (take k wires) w) (eqb v.0 w) (ne_eqb v.0 w (λ e. other (sym e)))

pub stands_same : (wires : List WireNo) (k : ℕ) (v : WireNo) (w : ℕ) → slice_get wires k ≡ Some v → w ≡ v.0 → stands_in (take (k + 1) wires) w ≡ true
stands_same wires k v w at same = ap (λ n. stands_in (take n wires) w) (add-one k) ∙ stands_more wires k v w at ∙ or_true (stands_in (take k wires) w) (eqb v.0 w) (eq-eqb v.0 w (sym same))

pub counted_again : (places : List ℕ) (net : ℕ) (wires : List WireNo) (k : ℕ) (seen marks : List ℕ) (v : WireNo) (wire : ℕ) → slice_get wires k ≡ Some v → v.0 ≡ wire → wire < length seen → slice_index marks wire ≡ net + 1
    → HaveCounted places net wires k seen marks → HaveCounted places net wires (k + 1) seen marks
counted_again places net wires k seen marks v wire at is lt mark h =
    let long = h.long.0 in
    let there : stands_in (take k wires) wire ≡ true = sym (h.mark wire (omega arith)) ∙ eq-eqb (slice_index marks wire) (net + 1) mark in
    let same : (w : ℕ) → stands_in (take (k + 1) wires) w ≡ stands_in (take k wires) w = (λ w. elim (cases_eq w wire) [
      | inl eq ↦ stands_same wires k v w at (eq ∙ sym is) ∙ sym (ap (stands_in (take k wires)) eq ∙ there)
      | inr other ↦ stands_other wires k v w at (λ e. other (e ∙ is))
    ]) in
    record {
      long = h.long;
      each = λ w w_lt. h.each w w_lt ∙ ap (λ b. slice_index places w + cond b 1 0) (sym (same w));
      mark = λ w w_lt. h.mark w w_lt ∙ sym (same w);
      low = h.low;
    }

pub counted_new : (places : List ℕ) (net : ℕ) (wires : List WireNo) (k : ℕ) (seen marks : List ℕ) (v : WireNo) (wire : ℕ) → slice_get wires k ≡ Some v → v.0 ≡ wire → wire < length seen → slice_index marks wire ≢ net + 1
    → HaveCounted places net wires k seen marks → HaveCounted places net wires (k + 1) (slice_set seen wire (slice_index seen wire + 1)) (slice_set marks wire (net + 1))
counted_new places net wires k seen marks v wire at is lt mark h =
    let long = h.long.0 in
    let long' = h.long.1 in
    let absent : stands_in (take k wires) wire ≡ false = sym (h.mark wire (omega arith)) ∙ ne_eqb (slice_index marks wire) (net + 1) mark in
    let was : slice_index seen wire ≡ slice_index places wire + cond false 1 0 = h.each wire (omega arith) ∙ ap (λ b. slice_index places wire + cond b 1 0) absent in
    record {
      long = (length-set seen wire (slice_index seen wire + 1) ∙ h.long.0, length-set marks wire (net + 1) ∙ h.long.1);
      each = λ w w_lt. elim (cases_eq w wire) [
        | inl eq ↦ subst (λ x. slice_index (slice_set seen wire (slice_index seen wire + 1)) x ≡ slice_index places x + cond (stands_in (take (k + 1) wires) x) 1 0) (sym eq)
            (get_or-set_same seen wire (slice_index seen wire + 1) 0 lt ∙ (let e : slice_index seen wire + 1 ≡ slice_index places wire + cond true 1 0 = omega arith in e) ∙ ap (λ b. slice_index places wire + cond b 1 0) (sym (stands_same wires k v wire at (sym is))))
        | inr other ↦ get_or-set_other seen wire w (slice_index seen wire + 1) 0 other ∙ h.each w w_lt ∙ ap (λ b. slice_index places w + cond b 1 0) (sym (stands_other wires k v w at (λ e. other (e ∙ is))))
      ];
      mark = λ w w_lt. elim (cases_eq w wire) [
        | inl eq ↦ ap (λ x. eqb (slice_index (slice_set marks wire (net + 1)) x) (net + 1)) eq ∙ eq-eqb (slice_index (slice_set marks wire (net + 1)) wire) (net + 1) (get_or-set_same marks wire (net + 1) 0 (omega arith)) ∙ sym (stands_same wires k v w at (eq ∙ sym is))
        | inr other ↦ ap (λ x. eqb x (net + 1)) (get_or-set_other marks wire w (net + 1) 0 other) ∙ h.mark w w_lt ∙ sym (stands_other wires k v w at (λ e. other (e ∙ is)))
      ];
      low = λ w w_lt. elim (cases_eq w wire) [
        | inl eq ↦ (let e : slice_index (slice_set marks wire (net + 1)) w ≡ net + 1 = ap (λ x. slice_index (slice_set marks wire (net + 1)) x) eq ∙ get_or-set_same marks wire (net + 1) 0 (omega arith) in omega arith)
        | inr other ↦ (let e = get_or-set_other marks wire w (net + 1) 0 other in let f = h.low w w_lt in omega arith)
      ];
    }

pub counted_none : (places marks : List ℕ) (net : ℕ) (wires : List WireNo) → length marks ≡ length places → ((w : ℕ) → w < length places → slice_index marks w ≤ net) → HaveCounted places net wires 0 places marks
counted_none places marks net wires long low = record {
  long = (refl, long);
  each = λ w lt. omega arith;
  mark = λ w lt. ne_eqb (slice_index marks w) (net + 1) (λ e. (let le = low w lt in omega arith));
  low = λ w lt. (let le = low w lt in omega arith);
}

-- a count is at most one above the place
pub counted_fits : (places seen marks : List ℕ) (net : ℕ) (wires : List WireNo) (k w : ℕ) → HaveCounted places net wires k seen marks → w < length places → slice_index places w ≤ net → slice_index seen w ≤ net + 1
counted_fits places seen marks net wires k w h lt le = let e = h.each w lt in by_cases (stands_in (take k wires) w) e
  where
    by_cases : (b : Bool) → slice_index seen w ≡ slice_index places w + cond b 1 0 → slice_index seen w ≤ net + 1
    by_cases true e = omega arith
    by_cases false e = omega arith

-- no net before the first is counted anywhere
pub counted_first : (trees : List Tree) (seen marks : List ℕ) → length marks ≡ length seen → ((w : ℕ) → slice_index seen w ≡ 0) → ((w : ℕ) → slice_index marks w ≡ 0) → AreCounted trees 0 seen marks
counted_first trees seen marks long s m = record {
  long = long;
  each = λ w lt. s w;
  low = λ w lt. (let e = m w in omega arith);
}

pub tree_at : (trees : List Tree) (n : ℕ) (tree d : Tree) → slice_get trees n ≡ Some tree → get_or trees n d ≡ tree
tree_at [] n tree d at = absurd (cc)
tree_at (t ∷ trees) zero tree d at = (cc)
tree_at (t ∷ trees) (suc n) tree d at = tree_at trees n tree d at

tree_within : (trees : List Tree) (n : ℕ) (tree : Tree) → slice_get trees n ≡ Some tree → n < length trees
tree_within [] n tree at = absurd (cc)
tree_within (t ∷ trees) zero tree at = omega arith
tree_within (t ∷ trees) (suc n) tree at = omega (arith, tree_within trees n tree at)

place_more : (trees : List Tree) (n : ℕ) (tree : Tree) (w : ℕ) → slice_get trees n ≡ Some tree → (b : Bool) → holds w tree ≡ b → place trees (n + 1) w ≡ place trees n w + cond b 1 0
place_more trees n tree w at true is = count_by_more_yes (holds w) trees n tree (tree_within trees n tree at) (ap (holds w) (tree_at trees n tree tree at) ∙ is)
place_more trees n tree w at false is = (let e = count_by_more_no (holds w) trees n tree (tree_within trees n tree at) (ap (holds w) (tree_at trees n tree tree at) ∙ is) in omega arith)

-- one net more is counted
pub counted_next : (trees : List Tree) (n : ℕ) (tree : Tree) (seen marks new news : List ℕ) → slice_get trees n ≡ Some tree → AreCounted trees n seen marks → HaveCounted seen n tree.wires.items (length tree.wires.items) new news
    → AreCounted trees (n + 1) new news
counted_next trees n tree seen marks new news at h c =
    let long = c.long.0 in
    let long' = c.long.1 in
    record {
      long = omega arith;
      each = λ w lt. c.each w (omega arith) ∙ ap (λ xs. slice_index seen w + cond (stands_in xs w) 1 0) (take_all (length tree.wires.items) tree.wires.items (omega arith))
          ∙ ap (λ x. x + cond (holds w tree) 1 0) (h.each w (omega arith)) ∙ sym (place_more trees n tree w at (holds w tree) refl);
      low = λ w lt. c.low w (omega arith);
    }

-- a place is at most the number of the nets before
pub counted_low : (trees : List Tree) (n : ℕ) (seen marks : List ℕ) → n ≤ length trees → AreCounted trees n seen marks → (w : ℕ) → w < length seen → slice_index seen w ≤ n
counted_low trees n seen marks le h w lt =
    let e = h.each w lt in
    let most = count_by-le-length (holds w) (take n trees) in
    let long = length-take-le n trees le in
    omega arith

any_agree : (p q : WireNo → Bool) (wires : List WireNo) → ((k : ℕ) (v : WireNo) → slice_get wires k ≡ Some v → p v ≡ q v) → list_any p wires ≡ list_any q wires
any_agree p q [] h = refl
any_agree p q (v ∷ wires) h = ap (λ b. b || list_any p wires) (h 0 v refl) ∙ ap (λ b. q v || b) (any_agree p q wires (λ k u at. h (suc k) u at))

-- by counts and places a net moves as by the trees
pub moves_is : (round : ℕ) (counts : List ℕ) (trees : List Tree) (n : ℕ) (tree : Tree) (seen marks : List ℕ) → IsOccupancy counts trees → length seen ≡ length counts → slice_get trees n ≡ Some tree → AreCounted trees n seen marks
    → list_any (leaves_at round counts seen) tree.wires.items ≡ moves round trees n tree
moves_is round counts trees n tree seen marks o long at h =
    any_agree (leaves_at round counts seen) (λ v. leaves round (occupancy trees v.0) (place trees n v.0)) tree.wires.items
    (λ k v here. (let lt = o.within n tree at k v here in ap (λ x. leaves round x (slice_index seen v.0)) (o.each v.0 lt) ∙ ap (leaves round (occupancy trees v.0)) (h.each v.0 (omega arith))))

-- the movers so far, one net more
pub movers_next : (round : ℕ) (trees : List Tree) (n : ℕ) (tree : Tree) (all nets next : List NetNo) (b : Bool) → slice_get trees n ≡ Some tree → b ≡ moves round trees n tree
    → all ≡ nets ++ movers_from round trees n (drop n trees) → next ≡ cond b (nets ++ record { 0 = n } ∷ []) nets → all ≡ next ++ movers_from round trees (n + 1) (drop (n + 1) trees)
movers_next round trees n tree all nets next b at is so_far e =
    let rest : List NetNo = movers_from round trees (n + 1) (drop (n + 1) trees) in
    let split : drop n trees ≡ tree ∷ drop (n + 1) trees = drop_more trees n tree (tree_within trees n tree at) ∙ ap (λ t. t ∷ drop (n + 1) trees) (tree_at trees n tree tree at) in
    let head : all ≡ nets ++ cond b (record { 0 = n } ∷ rest) rest = so_far ∙ ap (λ ts. nets ++ movers_from round trees n ts) split ∙ ap (λ t. nets ++ cond t (record { 0 = n } ∷ rest) rest) (sym is) in
    by_cases b head e
  where
    by_cases : (b : Bool) → all ≡ nets ++ cond b (record { 0 = n } ∷ movers_from round trees (n + 1) (drop (n + 1) trees)) (movers_from round trees (n + 1) (drop (n + 1) trees)) → next ≡ cond b (nets ++ record { 0 = n } ∷ []) nets → all ≡ next ++ movers_from round trees (n + 1) (drop (n + 1) trees)
    by_cases true head e = head ∙ sym (append_assoc nets (record { 0 = n } ∷ []) (movers_from round trees (n + 1) (drop (n + 1) trees))) ∙ ap (λ xs. xs ++ movers_from round trees (n + 1) (drop (n + 1) trees)) (sym e)
    by_cases false head e = head ∙ ap (λ xs. xs ++ movers_from round trees (n + 1) (drop (n + 1) trees)) (sym e)

pub movers_all : (round : ℕ) (trees : List Tree) (n : ℕ) (all nets : List NetNo) → length trees ≤ n → all ≡ nets ++ movers_from round trees n (drop n trees) → nets ≡ all
movers_all round trees n all nets le h = sym (h ∙ ap (λ ts. nets ++ movers_from round trees n ts) (drop_all n trees le) ∙ append-nil nets)

-- the tree at a place
pub tree_there : (trees : List Tree) (n : ℕ) (d : Tree) → n < length trees → slice_get trees n ≡ Some (get_or trees n d)
tree_there [] n d lt = absurd (omega arith)
tree_there (t ∷ trees) zero d lt = refl
tree_there (t ∷ trees) (suc n) d lt = tree_there trees n d (omega arith)

-- all trees are counted
pub counted_all : (trees : List Tree) (n : ℕ) (seen marks : List ℕ) → length trees ≤ n → AreWithin (length seen) trees → AreCounted trees n seen marks → IsOccupancy seen trees
counted_all trees n seen marks le within h = record {
  each = λ w lt. h.each w lt ∙ ap (λ ts. occupancy ts w) (take_all n trees le);
  within = within;
}
