-- The first carries of runs: each stands among them once, and follows no other.
use Rattle.std.proofs.Common.{◌≡◌, ℕ, zero, suc, true, Option, None, Some, List, [], ◌∷◌, length, refl, ap, sym, ◌∙◌, arith}
use Rattle.std.specs.List.{filter_map, cons_option, range_with_len}
use Rattle.std.proofs.lemmas.Option.{same_Some, slice_get_within}
use Rattle.std.proofs.lemmas.List.FromFn.{length-range_with_len}
use Rattle.ice_base_values.specs.Order.{At, StandOnce}
use Rattle.ice_cells.specs.Chains.{Head, is_first, lowest, leads, leader, heads}
use Rattle.ice_cells.specs.declared.follow.Follow.{Follow}
use Rattle.ice_cells.specs.Tables.{is_place}
use Rattle.ice_carry_chains.proofs.ChainLaws.{IsHead}
use Rattle.ice_carry_chains.proofs.HeadLaws.{IsFound, find_back, leads_back, range_at}
use Rattle.ice_carry_chains.proofs.RunsOnce.{AreHeads, zero_not}

-- ---- lists
pub record FromItem {X : Type 0} (f : ℕ → Option X) (xs : List ℕ) (x : X) : Type 0 where
  pub place : ℕ
  pub item : ℕ
  pub at : At xs place item
  pub gives : f item ≡ Some x

further : {X : Type 0} (f : ℕ → Option X) (z : ℕ) (xs : List ℕ) (x : X) → FromItem f xs x → FromItem f (z ∷ xs) x
further f z xs x old = record { place = suc old.place; item = old.item; at = old.at; gives = old.gives }

pub mapped_back : {X : Type 0} (f : ℕ → Option X) (xs : List ℕ) (i : ℕ) (x : X) → At (filter_map f xs) i x → FromItem f xs x
mapped_back f [] i x at = cc
mapped_back {X} f (z ∷ xs) i x at = by (f z) refl i at (mapped_back f xs)
  where
    by : (o : Option X) → f z ≡ o → (i : ℕ) → At (cons_option o (filter_map f xs)) i x → ((i : ℕ) (x : X) → At (filter_map f xs) i x → FromItem f xs x) → FromItem f (z ∷ xs) x
    by None e i at rest = further f z xs x (rest i x at)
    by (Some w) e zero at rest = record { place = 0; item = z; at = refl; gives = e ∙ at }
    by (Some w) e (suc i) at rest = further f z xs x (rest i x at)

rest_once : (z : ℕ) (xs : List ℕ) → StandOnce (z ∷ xs) → StandOnce xs
rest_once z xs once i j x at there = same i j (once (suc i) (suc j) x at there)
  where
    same : (i j : ℕ) → suc i ≡ suc j → i ≡ j
    same i j e = omega arith

-- where items that give the same are the same
mapped_once : {X : Type 0} (f : ℕ → Option X) (key : X → ℕ) → ((a b : ℕ) (x y : X) → f a ≡ Some x → f b ≡ Some y → key x ≡ key y → a ≡ b) → (xs : List ℕ) → StandOnce xs → (i j : ℕ) (x y : X)
    → At (filter_map f xs) i x → At (filter_map f xs) j y → key x ≡ key y → i ≡ j
mapped_once f key same [] once i j x y at there e = cc
mapped_once {X} f key same (z ∷ xs) once i j x y at there e = by (f z) refl i j at there (mapped_once f key same xs (rest_once z xs once))
  where
    -- the first item gives one, and an item behind it another
    never : (w v u : X) (k : ℕ) → f z ≡ Some w → w ≡ v → At (filter_map f xs) k u → key v ≡ key u → ⊥
    never w v u k g is at e =
        let back = mapped_back f xs k u at in
        let equal : z ≡ back.item = same z back.item w u g back.gives (ap key is ∙ e) in
        zero_not back.place (once 0 (suc back.place) z refl (back.at ∙ ap Some (sym equal)))

    by : (o : Option X) → f z ≡ o → (i j : ℕ) → At (cons_option o (filter_map f xs)) i x → At (cons_option o (filter_map f xs)) j y
        → ((i j : ℕ) (x y : X) → At (filter_map f xs) i x → At (filter_map f xs) j y → key x ≡ key y → i ≡ j) → i ≡ j
    by None g i j at there rest = rest i j x y at there e
    by (Some w) g zero zero at there rest = refl
    by (Some w) g zero (suc j) at there rest = absurd (never w x y j g (same_Some w x at) there e)
    by (Some w) g (suc i) zero at there rest = absurd (never w y x i g (same_Some w y there) at (sym e))
    by (Some w) g (suc i) (suc j) at there rest = ap suc (rest i j x y at there e)

range_place : (n i c : ℕ) → At (range_with_len 0 n) i c → i ≡ c
range_place n i c at =
    let lt = slice_get_within (range_with_len 0 n) i c at in
    let long = length-range_with_len 0 n in
    same_Some i c (sym (range_at n i (omega arith)) ∙ at)

range_once : (n : ℕ) → StandOnce (range_with_len 0 n)
range_once n i j c at there = range_place n i c at ∙ sym (range_place n j c there)

-- ---- heads
led_by : (marks : List Follow) (carries : List Head) (low : ℕ) (x : Head) → leader marks carries low ≡ Some x → IsFound (λ (head : Head). is_place low (leads marks head)) carries x
led_by marks carries low x e = find_back (λ (head : Head). is_place low (leads marks head)) carries x e

-- a first carry of a run is one that follows no other
pub record IsHeadOf (marks : List Follow) (carries : List Head) (x : Head) : Type 0 where
  pub place : ℕ
  pub at : At carries place x
  pub first : is_first marks x.0 x.1 ≡ true

pub head_back : (marks : List Follow) (carries : List Head) (r : ℕ) (x : Head) → At (heads marks carries) r x → IsHeadOf marks carries x
head_back marks carries r x at =
    let back = mapped_back (leader marks carries) (range_with_len 0 (length marks)) r x at in
    let found = led_by marks carries back.item x back.gives in
    record { place = found.place; at = found.at; first = (leads_back marks x back.item found.passes).0 }

same_place : (marks : List Follow) (carries : List Head) (a b : ℕ) (x y : Head) → leader marks carries a ≡ Some x → leader marks carries b ≡ Some y → x.0 ≡ y.0 → a ≡ b
same_place marks carries a b x y e f g =
    sym (leads_back marks x a (led_by marks carries a x e).passes).1 ∙ ap (lowest marks) g ∙ (leads_back marks y b (led_by marks carries b y f).passes).1

pub are_heads : (marks : List Follow) (carries : List Head) → ((i : ℕ) (x : Head) → At carries i x → is_first marks x.0 x.1 ≡ true → IsHead marks x.0) → AreHeads marks (heads marks carries)
are_heads marks carries firsts = record {
  first = λ r x at. (let back = head_back marks carries r x at in firsts back.place x back.at back.first);
  once = λ r s x y at there e. mapped_once (leader marks carries) (λ (z : Head). z.0) (same_place marks carries) (range_with_len 0 (length marks)) (range_once (length marks)) r s x y at there e;
}
