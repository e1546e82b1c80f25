-- One round after another.
use Rattle.std.proofs.Common.{◌≡◌, ℕ, ◌≤◌, List, Some, length, slice_index, arith, inl, inr}
use Rattle.std.proofs.lemmas.Bool.{cases_lt}
use Rattle.std.proofs.lemmas.List.Sums.{count_by-le-length}
use Rattle.ice_graph.specs.declared.tree.Tree.{Tree}
use Rattle.ice_core.specs.Moves.{IsOccupancy, holds}
use Rattle.ice_negotiate_defs.proofs.Advancing.{beyond_end}

pub some_same : {X : Type 0} (x y : X) → Some x ≡ Some y → x ≡ y
some_same x y e = cc

pub count_low : (counts : List ℕ) (trees : List Tree) → IsOccupancy counts trees → length trees ≤ 65536 → (w : ℕ) → slice_index counts w ≤ 65536
count_low counts trees o few w = elim (cases_lt w (length counts)) [
  | inl lt ↦ (let e = o.each w lt in let le = count_by-le-length (holds w) trees in omega arith)
  | inr le ↦ (let e = beyond_end counts w le in omega arith)
]
