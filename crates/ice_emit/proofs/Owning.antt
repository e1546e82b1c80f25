-- Which tree holds a wire.
use Rattle.std.proofs.Common.{◌≡◌, ◌⊎◌, ℕ, zero, suc, ◌+◌, ◌<◌, ◌≤◌, Bool, true, false, Option, None, Some, List, [], ◌∷◌, inl, inr, refl, sym, ap, ◌∙◌, subst, arith}
use Rattle.std.specs.Prelude.{nat_eq, slice_get, slice_index_or, if◌then◌else◌}
use Rattle.std.specs.Option.{option_map_or, option_and_then}
use Rattle.std.proofs.lemmas.Bool.{eqb-true, eq-eqb, ne_eqb}
use Rattle.std.proofs.lemmas.Option.{same_Some}
use Rattle.ice_base.specs.declared.number.WireNo.{WireNo}
use Rattle.ice_base_values.specs.Order.{At, Has}
use Rattle.ice_base_values.proofs.Members.{any_Has, Has_any}
use Rattle.ice_graph.specs.Leading.{Route}
use Rattle.ice_emit_nets.specs.Ends.{wire_no}
use Rattle.ice_emit_defs.specs.Arrivals.{holds}
use Rattle.ice_emit_defs.specs.Written.{starts_at, tree_from, held_from}
use Rattle.ice_emit.specs.Owners.{begins_at, number_if, tree_no, is_number, is_in}
use Rattle.ice_emit.specs.Routed.{AreApart, IsRouted, owner_from, routes_in}
use Rattle.ice_emit.specs.declared.routed.Routed.{Routed}
use Rattle.ice_emit.proofs.Rooted.{table_look}

-- a list that holds a wire has it
pub holds_Has : (wires : List WireNo) (w : WireNo) → holds wires (Some w) ≡ true → Has wires w
holds_Has wires w e =
    let found = any_Has (λ (v : WireNo). nat_eq v.0 w.0) wires e in
    subst (λ (x : WireNo). Has wires x) (ap wire_no (eqb-true found.0.0 w.0 found.2)) found.1

pub Has_holds : (wires : List WireNo) (w : WireNo) → Has wires w → holds wires (Some w) ≡ true
Has_holds wires w has = Has_any (λ (v : WireNo). nat_eq v.0 w.0) wires w has.0 has.1 (eq-eqb w.0 w.0 refl)

-- ---- owners
pub owner_some : (n : ℕ) (routes : List Route) (w m : ℕ) → owner_from n routes w ≡ Some m → (k : ℕ) × (route : Route) × (m ≡ n + k) × At routes k route × (holds route.wires (Some (wire_no w)) ≡ true)
owner_some n [] w m e = absurd (cc)
owner_some n (route ∷ routes) w m e = by (holds route.wires (Some (wire_no w))) refl e (λ f. owner_some (suc n) routes w m f)
  where
    by : (x : Bool) → holds route.wires (Some (wire_no w)) ≡ x → (if x then Some n else owner_from (suc n) routes w) ≡ Some m
        → (owner_from (suc n) routes w ≡ Some m → (k : ℕ) × (r : Route) × (m ≡ suc n + k) × At routes k r × (holds r.wires (Some (wire_no w)) ≡ true))
        → (k : ℕ) × (r : Route) × (m ≡ n + k) × At (route ∷ routes) k r × (holds r.wires (Some (wire_no w)) ≡ true)
    by true has f rest = (0, route, (let same : n ≡ m = same_Some n m f in omega arith), refl, has)
    by false not_here f rest = let r = rest f in (suc r.0, r.1, (let e : m ≡ suc n + r.0 = r.2 in omega arith), r.3, r.4)

pub owner_none : (n : ℕ) (routes : List Route) (w : ℕ) → owner_from n routes w ≡ None → (k : ℕ) (route : Route) → At routes k route → holds route.wires (Some (wire_no w)) ≡ true → ⊥
owner_none n [] w e k route at has = cc at
owner_none n (first ∷ routes) w e k route at has = by (holds first.wires (Some (wire_no w))) refl e (λ f j r a h. owner_none (suc n) routes w f j r a h) k at
  where
    by : (x : Bool) → holds first.wires (Some (wire_no w)) ≡ x → (if x then Some n else owner_from (suc n) routes w) ≡ None
        → (owner_from (suc n) routes w ≡ None → (j : ℕ) (r : Route) → At routes j r → holds r.wires (Some (wire_no w)) ≡ true → ⊥) → (k : ℕ) → At (first ∷ routes) k route → ⊥
    by true f g rest k a = cc g
    by false f g rest zero a = let same : first ≡ route = same_Some first route a in cc (f, ap (λ (r : Route). holds r.wires (Some (wire_no w))) same, has)
    by false f g rest (suc k) a = rest g k route a has

module _ (routes : List Route) (apart : AreApart routes) where
  pub owner_is : (k : ℕ) (route : Route) (w : WireNo) → At routes k route → holds route.wires (Some w) ≡ true → owner_from 0 routes w.0 ≡ Some k
  owner_is k route w at has = by (owner_from 0 routes w.0) refl
    where
      by : (o : Option ℕ) → owner_from 0 routes w.0 ≡ o → o ≡ Some k
      by None e = absurd (owner_none 0 routes w.0 e k route at has)
      by (Some m) e =
          let found = owner_some 0 routes w.0 m e in
          let same : found.0 ≡ k = apart found.0 k found.1 route w found.3 at (holds_Has found.1.wires w found.4) (holds_Has route.wires w has) in
          ap (λ (n : ℕ). Some n) (let p : m ≡ 0 + found.0 = found.2 in omega arith)

  first_has : (wires : List WireNo) (v : ℕ) → starts_at wires v ≡ true → holds wires (Some (wire_no v)) ≡ true
  first_has [] v e = absurd (cc)
  first_has (w ∷ wires) v e = Has_holds (w ∷ wires) (wire_no v) (0, ap (λ n. Some (wire_no n)) (eqb-true w.0 v e))

  -- the tree that begins at a wire, or there is none
  abbrev Begun : ℕ → List Route → Type 0
  Begun v rs = ((k : ℕ) × (route : Route) × At rs k route × (starts_at route.wires v ≡ true) × (tree_from rs v ≡ route.wires)) ⊎ ((tree_from rs v ≡ []) × ((k : ℕ) (route : Route) → At rs k route → starts_at route.wires v ≡ true → ⊥))

  begun : (rs : List Route) (v : ℕ) → Begun v rs
  begun [] v = inr (refl, (λ k route at e. cc at))
  begun (r ∷ rs) v = by (starts_at r.wires v) refl (begun rs v)
    where
      none : (starts_at r.wires v ≡ false) → ((k : ℕ) (route : Route) → At rs k route → starts_at route.wires v ≡ true → ⊥) → (k : ℕ) (route : Route) → At (r ∷ rs) k route → starts_at route.wires v ≡ true → ⊥
      none e rest zero route at s = let same : r ≡ route = same_Some r route at in cc (e, ap (λ (x : Route). starts_at x.wires v) same, s)
      none e rest (suc k) route at s = rest k route at s

      by : (x : Bool) → starts_at r.wires v ≡ x → Begun v rs → Begun v (r ∷ rs)
      by true e rest = inl (0, r, refl, e, ap (λ x. if x then r.wires else tree_from rs v) e)
      by false e (inl found) = inl (suc found.0, found.1, found.2, found.3, ap (λ x. if x then r.wires else tree_from rs v) e ∙ found.4)
      by false e (inr never) = inr (ap (λ x. if x then r.wires else tree_from rs v) e ∙ never.0, none e never.1)

  begins_is : (k : ℕ) (route : Route) (v : ℕ) → At routes k route → begins_at routes k v ≡ starts_at route.wires v
  begins_is k route v at = ap (λ o. option_map_or (λ (r : Route). starts_at r.wires v) o false) at

  -- a wire is in the tree of that number
  in_tree : (k : ℕ) (route : Route) (w : WireNo) → At routes k route → is_in routes (Some k) (Some w) ≡ holds route.wires (Some w)
  in_tree k route w at = by (holds route.wires (Some w)) refl
    where
      other : (o : Option ℕ) → owner_from 0 routes w.0 ≡ o → holds route.wires (Some w) ≡ false → option_map_or (is_number k) o false ≡ false
      other None e f = refl
      other (Some m) e f = ne_eqb m k (λ same.
          let found = owner_some 0 routes w.0 m e in
          let place : found.0 ≡ k = (let p : m ≡ 0 + found.0 = found.2 in omega arith) in
          let here : At routes k found.1 = subst (λ n. At routes n found.1) place found.3 in
          let r : found.1 ≡ route = same_Some found.1 route (sym here ∙ at) in
          cc (f, ap (λ (x : Route). holds x.wires (Some w)) r, found.4))

      by : (x : Bool) → holds route.wires (Some w) ≡ x → is_in routes (Some k) (Some w) ≡ holds route.wires (Some w)
      by true e = ap (λ o. option_map_or (is_number k) o false) (owner_is k route w at e) ∙ eq-eqb k k refl ∙ sym e
      by false e = other (owner_from 0 routes w.0) refl e ∙ sym e

  none_held : (w : Option WireNo) → holds [] w ≡ false
  none_held None = refl
  none_held (Some w) = refl

  no_tree_is : (v : ℕ) → ((k : ℕ) (route : Route) → At routes k route → starts_at route.wires v ≡ true → ⊥) → tree_no routes (Some v) ≡ None
  no_tree_is v never = by (owner_from 0 routes v) refl
    where
      missing : (n : ℕ) (o : Option Route) → slice_get routes n ≡ o → number_if routes v n ≡ None
      missing n None e = ap (λ p. if option_map_or (λ (r : Route). starts_at r.wires v) p false then Some n else None) e
      missing n (Some route) e = ap (λ x. if x then Some n else None) (begins_is n route v e ∙ not_there (starts_at route.wires v) refl)
        where
          not_there : (x : Bool) → starts_at route.wires v ≡ x → x ≡ false
          not_there true f = absurd (never n route e f)
          not_there false f = refl

      by : (o : Option ℕ) → owner_from 0 routes v ≡ o → option_and_then (number_if routes v) o ≡ None
      by None e = refl
      by (Some n) e = missing n (slice_get routes n) refl

  -- what the tree of a root holds
  pub held_is : (v : Option ℕ) (w : Option WireNo) → is_in routes (tree_no routes v) w ≡ holds (held_from routes v) w
  held_is None w = sym (none_held w)
  held_is (Some v) w = elim (begun routes v) [
    | inl found ↦ here found.0 found.1 found.2 found.3 found.4
    | inr never ↦ ap (λ t. is_in routes t w) (no_tree_is v never.1) ∙ sym (none_held w) ∙ ap (λ ws. holds ws w) (sym never.0)
  ]
    where
      in_it : (k : ℕ) (route : Route) → At routes k route → (o : Option WireNo) → is_in routes (Some k) o ≡ holds route.wires o
      in_it k route at None = refl
      in_it k route at (Some x) = in_tree k route x at

      here : (k : ℕ) (route : Route) → At routes k route → starts_at route.wires v ≡ true → tree_from routes v ≡ route.wires → is_in routes (tree_no routes (Some v)) w ≡ holds (held_from routes (Some v)) w
      here k route at starts from =
          let own : owner_from 0 routes v ≡ Some k = owner_is k route (wire_no v) at (first_has route.wires v starts) in
          let number : number_if routes v k ≡ Some k = ap (λ x. if x then Some k else None) (begins_is k route v at ∙ starts) in
          ap (λ t. is_in routes t w) (ap (option_and_then (number_if routes v)) own ∙ number) ∙ in_it k route at w ∙ ap (λ ws. holds ws w) (sym from)

-- ---- as it is looked up
pub owner_read : (routed : Routed) → IsRouted routed → (w : ℕ) → slice_index_or routed.owners.now w None ≡ owner_from 0 (routes_in routed) w
owner_read routed is w =
    ap (λ os. slice_index_or os w None) is.owners ∙ table_look (owner_from 0 (routes_in routed)) routed.placed.chip.now.wires w (λ le. by (owner_from 0 (routes_in routed) w) refl le)
  where
    by : (o : Option ℕ) → owner_from 0 (routes_in routed) w ≡ o → routed.placed.chip.now.wires ≤ w → o ≡ None
    by None e le = refl
    by (Some m) e le =
        let found = owner_some 0 (routes_in routed) w m e in
        let below : w < routed.placed.chip.now.wires = is.within found.0 found.1 (wire_no w) found.3 (holds_Has found.1.wires (wire_no w) found.4) in
        absurd (omega arith)
