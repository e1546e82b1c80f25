-- Looking back from the targets by price, one wire after another.
use Rattle.std.specs.Prelude.{◌≡◌, ℕ, ◌+◌, ◌≤◌, ◌<◌, ◌⊎◌, min, Bool, true, false, Option, Some, None, List, length, slice_get, slice_index, slice_set}
use Rattle.ice_base.specs.declared.number.WireNo.{WireNo}
use Rattle.ice_graph.specs.declared.edge.Edge.{Edge}
use Rattle.ice_path.specs.Search.{AtMost, done, label}
use Rattle.ice_path.specs.Walks.{HasEdge, IsTarget}

-- the wire w, which has no label, gets the label c, or all is as before and it has one
abbrev pub Meets : List (Option ℕ) → List (Option ℕ) → ℕ → ℕ → Type 0
Meets old new w c = (new ≡ slice_set old w (Some c)) × (label old w ≡ None) × (w < length old) ⊎ (new ≡ old) × ((l : ℕ) × (label old w ≡ Some l))

-- the first n targets have the label 0, and no other wire has a label
pub record AreMet (targets : List WireNo) (n : ℕ) (near : List (Option ℕ)) : Type 0 where
  pub first : (k : ℕ) (v : WireNo) → k < n → slice_get targets k ≡ Some v → label near v.0 ≡ Some 0
  pub only : (w l : ℕ) → label near w ≡ Some l → IsTarget targets w × (l ≡ 0)

-- the sources of the first n rows have labels: those that had none the label c
pub record Widens (rows : List Edge) (c n : ℕ) (old new : List (Option ℕ)) : Type 0 where
  pub kept : (w l : ℕ) → label old w ≡ Some l → label new w ≡ Some l
  pub met : (k : ℕ) (e : Edge) → k < n → slice_get rows k ≡ Some e → (l : ℕ) × (label new e.from.0 ≡ Some l)
  pub made : (w l : ℕ) → label new w ≡ Some l → (label old w ≡ Some l) ⊎ ((e : Edge) × HasEdge rows e × (e.from.0 ≡ w) × (l ≡ c))

-- how far one has looked back: the sources of the edges into a widened wire have labels of at most its price more, no label is above `far`, and no wire that waits makes less with its price
pub record Spreads (edges : List Edge) (price : ℕ → ℕ) (far : ℕ) (near : List (Option ℕ)) (widened : List Bool) : Type 0 where
  pub closed : (w : ℕ) → done widened w ≡ true → (c : ℕ) × (label near w ≡ Some c) × ((e : Edge) → HasEdge edges e → e.to.0 ≡ w → AtMost near e.from.0 (price w + c))
  pub shut : (w c : ℕ) → label near w ≡ Some c → c ≤ far
  pub waits : (w c : ℕ) → done widened w ≡ false → label near w ≡ Some c → far ≤ c + price w

-- wires with a label lead on, and the targets, and no other wire, have the label 0
pub record AreLed (targets : List WireNo) (rest : ℕ → Option ℕ) (near : List (Option ℕ)) : Type 0 where
  pub on : (w c : ℕ) → label near w ≡ Some c → (k : ℕ) × (rest w ≡ Some k)
  pub home : (w : ℕ) → IsTarget targets w → label near w ≡ Some 0
  pub away : (w : ℕ) → label near w ≡ Some 0 → IsTarget targets w

-- from each of the first n marked wires that still waits label and price are at least what a walk of one row more costs
abbrev pub Reaches : List ℕ → ℕ → (ℕ → ℕ) → (ℕ → Option ℕ) → List (Option ℕ) → List Bool → List ℕ → Type 0
Reaches marked n price rest near widened beyond = (j w c k : ℕ) → j < n → slice_get marked j ≡ Some w → done widened w ≡ false → label near w ≡ Some c → rest w ≡ Some k → slice_index beyond (min (k + 1) 63) ≤ c + price w

-- no cost is below `far`
abbrev pub AreFar : ℕ → List ℕ → Type 0
AreFar far beyond = (k : ℕ) → k < 64 → far ≤ slice_index beyond k

-- the costs rise with the number of rows, by at most one each, and none is higher than before
pub record LevelsOut (old new : List ℕ) : Type 0 where
  pub rises : (k : ℕ) → k < 63 → slice_index new k ≤ slice_index new (k + 1)
  pub slope : (k : ℕ) → k < 63 → slice_index new (k + 1) ≤ slice_index new k + 1
  pub lower : (k : ℕ) → k < 64 → slice_index new k ≤ slice_index old k
