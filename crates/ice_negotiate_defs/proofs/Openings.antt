-- What nets begin with, and which of them move in the first round.
use Rattle.std.proofs.Common.{◌≡◌, ℕ, zero, suc, ◌+◌, ◌<◌, ◌⊎◌, List, [], ◌∷◌, Option, None, Some, length, slice_get, refl, sym, ap, ◌∙◌, subst, arith, inl, inr}
use Rattle.ice_base.specs.declared.number.NetNo.{NetNo}
use Rattle.ice_graph.specs.declared.tree.Tree.{Tree}
use Rattle.ice_negotiate_defs.specs.Trees.{Route, route_of}
use Rattle.ice_negotiate_defs.specs.Rounds.{BeginsWith, IsBegun, IsOneOf, left_from}

abbrev numbered : ℕ → NetNo
numbered n = record { 0 = n }

first : (k : ℕ) → k ≡ k + 0
first k = omega arith

later : (k l : ℕ) → k + 1 + l ≡ k + suc l
later k l = omega arith

none_more : (k : ℕ) → 0 + k ≡ k
none_more k = omega arith

-- a net that keeps no tree moves
left_has : (m : ℕ) (kept : List (Option Tree)) (n : ℕ) → slice_get kept n ≡ Some None → IsOneOf (left_from m kept) (m + n)
left_has m [] n at = absurd (cc)
left_has m (None ∷ kept) zero at = (0, ap (λ k. Some (numbered k)) (first m))
left_has m (Some tree ∷ kept) zero at = absurd (cc)
left_has m (None ∷ kept) (suc n) at = let t = left_has (m + 1) kept n at in (suc t.0, t.1 ∙ ap (λ k. Some (numbered k)) (later m n))
left_has m (Some tree ∷ kept) (suc n) at = let t = left_has (m + 1) kept n at in (t.0, t.1 ∙ ap (λ k. Some (numbered k)) (later m n))

entry_at : (kept : List (Option Tree)) (n : ℕ) → n < length kept → (one : Option Tree) × (slice_get kept n ≡ Some one)
entry_at [] n lt = absurd (omega arith)
entry_at (one ∷ kept) zero lt = (one, refl)
entry_at (one ∷ kept) (suc n) lt = entry_at kept n (omega (arith, lt))

-- a net moves, or it keeps a tree
pub left_or_kept : (kept : List (Option Tree)) (n : ℕ) → n < length kept → IsOneOf (left_from 0 kept) n ⊎ ((tree : Tree) × (slice_get kept n ≡ Some (Some tree)))
left_or_kept kept n lt = by_entry (entry_at kept n lt).0 (entry_at kept n lt).1
  where
    by_entry : (one : Option Tree) → slice_get kept n ≡ Some one → IsOneOf (left_from 0 kept) n ⊎ ((tree : Tree) × (slice_get kept n ≡ Some (Some tree)))
    by_entry None at = inl (subst (IsOneOf (left_from 0 kept)) (none_more n) (left_has 0 kept n at))
    by_entry (Some tree) at = inr (tree, at)

pub stays_kept : (kept : List (Option Tree)) (n : ℕ) → n < length kept → (IsOneOf (left_from 0 kept) n → ⊥) → (tree : Tree) × (slice_get kept n ≡ Some (Some tree))
stays_kept kept n lt stays = elim (left_or_kept kept n lt) [
  | inl moves ↦ absurd (stays moves)
  | inr keeps ↦ keeps
]

-- what a net that keeps a tree begins with
pub begun_kept : (kept : List (Option Tree)) (before : List Tree) (n : ℕ) (tree now : Tree) → BeginsWith (Some kept) before → slice_get kept n ≡ Some (Some tree) → slice_get before n ≡ Some now → route_of now ≡ route_of tree
begun_kept kept before n tree now begins at here = subst (λ (e : Option (Option Tree)). IsBegun e now) at (begins.1 n now here)

-- two trees with which a net may begin have the same wires
begun_same : (entry : Option (Option Tree)) (a b : Tree) → IsBegun entry a → IsBegun entry b → a.wires.items ≡ b.wires.items
begun_same None a b one other = one ∙ sym other
begun_same (Some None) a b one other = one ∙ sym other
begun_same (Some (Some kept)) a b one other = ap (λ (r : Route). r.wires) (one ∙ sym other)

pub begin_same : (opening : Option (List (Option Tree))) (before before' : List Tree) (n : ℕ) (a b : Tree) → BeginsWith opening before → BeginsWith opening before' → slice_get before n ≡ Some a → slice_get before' n ≡ Some b → a.wires.items ≡ b.wires.items
begin_same None before before' n a b one other at to = one n a at ∙ sym (other n b to)
begin_same (Some kept) before before' n a b one other at to = begun_same (slice_get kept n) a b (one.1 n a at) (other.1 n b to)
