-- Levels of sets of wires: from which wires a set is reached by so many rows, a bit for each set.
use Rattle.std.specs.Prelude.{◌≡◌, ℕ, ◌+◌, ◌≤◌, ◌<◌, ◌⊎◌, List, Some, length, slice_get, slice_index, map, Vec}
use Rattle.std.specs.Int.{bit_at}
use Rattle.std.specs.declared.alloc.Global.{Global}
use Rattle.ice_graph.specs.declared.edge.Edge.{Edge}
use Rattle.ice_graph.specs.Walks.{HasEdge}

-- of this level the wire reaches the set of the bit b
abbrev pub Reaches : List ℕ → ℕ → ℕ → Type 0
Reaches level w b = bit_at (slice_index level w) b ≡ 1

-- the first n rows are drawn back: a wire reaches what it did before and what the targets of rows from it did, and nothing else
pub record Draws (edges : List Edge) (n : ℕ) (level next : List ℕ) : Type 0 where
  pub long : length next ≡ length level
  pub kept : (w b : ℕ) → Reaches level w b → Reaches next w b
  pub drawn : (k b : ℕ) (e : Edge) → k < n → slice_get edges k ≡ Some e → Reaches level e.to.0 b → Reaches next e.from.0 b
  pub made : (w b : ℕ) → Reaches next w b → Reaches level w b ⊎ ((e : Edge) × HasEdge edges e × (e.from.0 ≡ w) × Reaches level e.to.0 b)

abbrev pub lists_of : List (Vec ℕ Global) → List (List ℕ)
lists_of lists = map (λ list. list.items) lists

-- the first level is this one, and each other one is drawn back from the one before
pub record AreLevels (edges : List Edge) (homes : List ℕ) (levels : List (List ℕ)) : Type 0 where
  pub some : 1 ≤ length levels
  pub few : length levels ≤ 255
  pub long : (k : ℕ) (level : List ℕ) → slice_get levels k ≡ Some level → length level ≡ length homes
  pub first : slice_get levels 0 ≡ Some homes
  pub next : (k : ℕ) (level next : List ℕ) → slice_get levels k ≡ Some level → slice_get levels (k + 1) ≡ Some next → Draws edges (length edges) level next

-- behind the last level nothing more is reached
abbrev pub AreAll : List Edge → List (List ℕ) → Type 0
AreAll edges levels = (k : ℕ) (last : List ℕ) → k + 1 ≡ length levels → slice_get levels k ≡ Some last → Draws edges (length edges) last last

-- the number of the first level of which the wire reaches the set, or 255 where it does of none
pub record IsFirstLevel (levels : List (List ℕ)) (w b n : ℕ) : Type 0 where
  pub there : (n ≡ 255) ⊎ ((level : List ℕ) × (slice_get levels n ≡ Some level) × Reaches level w b)
  pub first : (k : ℕ) (level : List ℕ) → k < n → slice_get levels k ≡ Some level → Reaches level w b → ⊥

-- one number for each wire, that of its first level
pub record IsColumnOf (levels : List (List ℕ)) (wires b : ℕ) (column : List ℕ) : Type 0 where
  pub long : length column ≡ wires
  pub each : (w : ℕ) → w < wires → IsFirstLevel levels w b (slice_index column w)
