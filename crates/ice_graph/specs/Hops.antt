-- How many rows lead at least from each wire to one of a set of wires.
use Rattle.std.specs.Prelude.{◌≡◌, ℕ, ◌+◌, ◌≤◌, ◌<◌, eqb, if◌then◌else◌, List, Option, Some, None, length, slice_get, slice_index, slice_index_or, Vec}
use Rattle.std.specs.declared.alloc.Global.{Global}
use Rattle.ice_base.specs.declared.number.WireNo.{WireNo}
use Rattle.ice_graph.specs.declared.edge.Edge.{Edge}
use Rattle.ice_graph.specs.declared.table.Hops.{Hops}
use Rattle.ice_graph.specs.Walks.{HasEdge, IsTarget, IsWalk}

-- how many rows a number of a column says: 255 says that no walk leads to the set
abbrev pub said : ℕ → Option ℕ
said n = if eqb n 255 then None else Some n

-- how many rows the column says of the wire: none of a wire beyond its end
abbrev pub hop : List ℕ → ℕ → Option ℕ
hop column w = said (slice_index column w)

-- along each row what the column says falls by at most one, and where it says nothing of the row's source it says nothing of its target
abbrev pub HopsFall : List Edge → List ℕ → Type 0
HopsFall edges column = (e : Edge) (k : ℕ) → HasEdge edges e → hop column e.to.0 ≡ Some k → (l : ℕ) × (hop column e.from.0 ≡ Some l) × (l ≤ k + 1)

-- a walk from a wire to one of the targets has at least as many rows as the column says of the wire, and none leads there where it says nothing
pub record AreHops (edges : List Edge) (targets : List WireNo) (column : List ℕ) : Type 0 where
  pub home : (w : ℕ) → IsTarget targets w → hop column w ≡ Some 0
  pub falls : HopsFall edges column

-- the set of the wire
abbrev pub set_at : List (Option ℕ) → ℕ → Option ℕ
set_at sets w = slice_index_or sets w None

-- the column of a set: its wires have 0 rows, the numbers fall by at most one along each row, and from each wire of the column a walk of no more rows leads to the set. A column may be empty, and says nothing
pub record IsColumn (edges : List Edge) (sets : List (Option ℕ)) (s : ℕ) (column : List ℕ) : Type 0 where
  pub home : (w : ℕ) → set_at sets w ≡ Some s → hop column w ≡ Some 0
  pub falls : HopsFall edges column
  pub met : (w k : ℕ) → w < length column → hop column w ≡ Some k → (t : ℕ) × (walk : List Edge) × (set_at sets t ≡ Some s) × IsWalk edges w walk t × (length walk ≤ k)

-- each column is that of its set
abbrev pub AreColumns : List Edge → List (Option ℕ) → List (Vec ℕ Global) → Type 0
AreColumns edges sets columns = (s : ℕ) (column : Vec ℕ Global) → slice_get columns s ≡ Some column → IsColumn edges sets s column.items

-- the table is for these edges
abbrev pub IsTable : List Edge → Hops → Type 0
IsTable edges hops = AreColumns edges hops.sets.items hops.columns.items

-- each walk to a target has at least as many rows as the column says
abbrev pub HopsAreLeast : Type 0
HopsAreLeast = (edges : List Edge) (targets : List WireNo) (column : List ℕ) (w t : ℕ) (walk : List Edge) → AreHops edges targets column → IsTarget targets t → IsWalk edges w walk t → (k : ℕ) × (hop column w ≡ Some k) × (k ≤ length walk)
