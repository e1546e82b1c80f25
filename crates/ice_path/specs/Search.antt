-- Tentative labels of wires, and what the search keeps of them.
use Rattle.std.specs.Prelude.{◌≡◌, ℕ, ◌+◌, ◌*◌, ◌≤◌, ◌<◌, ◌⊎◌, Bool, true, false, not, count_by, eqb, nat_lt, if◌then◌else◌, List, Option, Some, None, length, slice_index_or, slice_get, slice_set}
use Rattle.std.specs.List.{All, Contains}
use Rattle.ice_base.specs.declared.number.WireNo.{WireNo}
use Rattle.ice_graph.specs.declared.edge.Edge.{Edge}
use Rattle.ice_path.specs.declared.queue.Queue.{Queue}
use Rattle.ice_path.specs.Queue.{Listed, Waits, done}
pub use Rattle.ice_path.specs.Queue.{done}
use Rattle.ice_path.specs.Walks.{HasEdge, HasWalk, IsLabel, InTree, IsTarget, FallsBy}

abbrev pub label : List (Option ℕ) → ℕ → Option ℕ
label labels w = slice_index_or labels w None

-- a label of at most c
abbrev pub AtMost : List (Option ℕ) → ℕ → ℕ → Type 0
AtMost labels w c = (l : ℕ) × (label labels w ≡ Some l) × (l ≤ c)

-- an open wire of which label and bound make the least sum, with that sum, or none where each wire with a label is settled
abbrev pub IsLeastOpen : (ℕ → ℕ) → List (Option ℕ) → List Bool → Option (ℕ × ℕ) → Type 0
IsLeastOpen bound labels settled None = (w k : ℕ) → label labels w ≡ Some k → done settled w ≡ true
IsLeastOpen bound labels settled (Some r) =
    ((l : ℕ) × (label labels r.0 ≡ Some l) × (l + bound r.0 ≡ r.1)) × (done settled r.0 ≡ false)
    × ((w k : ℕ) → label labels w ≡ Some k → done settled w ≡ false → r.1 ≤ k + bound w)

-- the open wire u, which has the label c, is the next to be settled
pub record IsNext (bound : ℕ → ℕ) (labels : List (Option ℕ)) (settled : List Bool) (u c : ℕ) : Type 0 where
  pub has : label labels u ≡ Some c
  pub unsettled : done settled u ≡ false
  pub least : (w k : ℕ) → label labels w ≡ Some k → done settled w ≡ false → c + bound u ≤ k + bound w

-- the label of w is lowered to d, unless it is no more than that
abbrev pub Lowers : List (Option ℕ) → List (Option ℕ) → ℕ → ℕ → Type 0
Lowers old new w d = (new ≡ slice_set old w (Some d)) × ((l : ℕ) → label old w ≡ Some l → d < l) ⊎ (new ≡ old) × AtMost old w d

-- the first n of the rows that leave a wire of label c have lowered the labels of wires that lead on and aren't settled
pub record Relaxes (rows : List Edge) (price : ℕ → ℕ) (leads : ℕ → Bool) (settled : List Bool) (c n : ℕ) (old new : List (Option ℕ)) : Type 0 where
  pub lower : (w l : ℕ) → label old w ≡ Some l → AtMost new w l
  pub fixed : (w : ℕ) → done settled w ≡ true → label new w ≡ label old w
  pub reached : (k : ℕ) (e : Edge) → k < n → slice_get rows k ≡ Some e → leads e.to.0 ≡ true → done settled e.to.0 ≡ false → AtMost new e.to.0 (c + price e.to.0)
  pub made : (w l : ℕ) → label new w ≡ Some l → (label old w ≡ Some l) ⊎ ((e : Edge) × HasEdge rows e × (e.to.0 ≡ w) × (l ≡ c + price w))

-- the search so far, with this many wires settled; of wires that lead to no target nothing is known
pub record Searches (edges : List Edge) (price : ℕ → ℕ) (tree : List WireNo) (bound : ℕ → ℕ) (leads : ℕ → Bool) (most count : ℕ) (labels : List (Option ℕ)) (settled : List Bool) : Type 0 where
  pub attained : (w l : ℕ) → label labels w ≡ Some l → HasWalk edges price tree w l
  pub closed : (w : ℕ) → done settled w ≡ true → (l : ℕ) × (label labels w ≡ Some l) × ((e : Edge) → HasEdge edges e → e.from.0 ≡ w → leads e.to.0 ≡ true → AtMost labels e.to.0 (l + price e.to.0))
  pub rooted : (w : ℕ) → InTree tree w → leads w ≡ true → label labels w ≡ Some 0
  pub order : (a b la lb : ℕ) → done settled a ≡ true → done settled b ≡ false → label labels a ≡ Some la → label labels b ≡ Some lb → la + bound a ≤ lb + bound b
  pub low : (w l : ℕ) → label labels w ≡ Some l → l ≤ count * most

-- those of the first n wires of the tree that lead on have the label 0, no other wire has one, and none is settled
pub record Starts (tree : List WireNo) (leads : ℕ → Bool) (n : ℕ) (labels : List (Option ℕ)) (settled : List Bool) : Type 0 where
  pub rooted : (k : ℕ) (v : WireNo) → k < n → slice_get tree k ≡ Some v → leads v.0 ≡ true → label labels v.0 ≡ Some 0
  pub made : (w l : ℕ) → label labels w ≡ Some l → InTree tree w × (l ≡ 0)
  pub fresh : (w : ℕ) → done settled w ≡ false

-- how many edges leave a wire that isn't settled
abbrev pub open_edges : List Bool → List Edge → ℕ
open_edges settled edges = count_by (λ e. not (done settled e.from.0)) edges

-- the wire has a label that makes with its bound at most c
abbrev pub SumsToAtMost : (ℕ → ℕ) → List (Option ℕ) → ℕ → ℕ → Type 0
SumsToAtMost bound labels w c = (l : ℕ) × (label labels w ≡ Some l) × (l + bound w ≤ c)

-- each open wire with a label waits in the queue under the sum of label and bound, no entry is below its wire's sum, and below the low sum the lists have settled wires alone
pub record Queues (bound : ℕ → ℕ) (settled : List Bool) (labels : List (Option ℕ)) (queue : Queue) : Type 0 where
  pub waits : (w l : ℕ) → label labels w ≡ Some l → done settled w ≡ false → Waits queue (l + bound w) w
  pub sound : (s w : ℕ) → Waits queue s w → SumsToAtMost bound labels w s
  pub low : (s w : ℕ) → s < queue.low → Listed queue.heads.items queue.entries.items s w → done settled w ≡ true

-- how many wires aren't settled
abbrev pub opens : List Bool → ℕ
opens settled = count_by not settled

-- the settled wires, each once, and there is room for each other wire
pub record Lists (order : List WireNo) (settled : List Bool) : Type 0 where
  pub once : (j k : ℕ) (v : WireNo) → slice_get order j ≡ Some v → slice_get order k ≡ Some v → j ≡ k
  pub each : (k : ℕ) (v : WireNo) → slice_get order k ≡ Some v → done settled v.0 ≡ true
  pub all : (w : ℕ) → done settled w ≡ true → InTree order w
  pub room : length order + opens settled ≡ length settled

-- the label of the nearest target so far: none where no target is settled; else a settled target has it, no other less, and no settled wire makes more
abbrev pub IsNearest : (ℕ → ℕ) → List WireNo → List (Option ℕ) → List Bool → Option ℕ → Type 0
IsNearest bound targets labels settled None = (w : ℕ) → IsTarget targets w → done settled w ≡ false
IsNearest bound targets labels settled (Some c) =
    ((w : ℕ) × IsTarget targets w × (done settled w ≡ true) × (label labels w ≡ Some c))
    × ((w l : ℕ) → IsTarget targets w → done settled w ≡ true → label labels w ≡ Some l → c ≤ l)
    × ((w l : ℕ) → done settled w ≡ true → label labels w ≡ Some l → l + bound w ≤ c)

-- the nearest target's label once a wire of this label and this sum is settled, too
abbrev pub nearest_after : Option ℕ → ℕ → ℕ → Option ℕ
nearest_after (Some c) cost sum = Some c
nearest_after None cost sum = if eqb sum cost then Some cost else None

-- whether the sum is beyond the nearest target's label
abbrev pub is_beyond : Option ℕ → ℕ → Bool
is_beyond (Some c) sum = nat_lt c sum
is_beyond None sum = false

abbrev pub unlabelled : Option ℕ → Bool
unlabelled None = true
unlabelled (Some l) = false

-- each wire with a label is among those that were touched, and there is room for each other wire
pub record Touches (labels : List (Option ℕ)) (touched : List ℕ) : Type 0 where
  pub covers : (w l : ℕ) → label labels w ≡ Some l → Contains touched w
  pub room : length touched + count_by unlabelled labels ≡ length labels
  pub within : All (λ w. w < length labels) touched

-- only these wires have a label or are settled
pub record IsOnlyAt (wires : List ℕ) (labels : List (Option ℕ)) (settled : List Bool) : Type 0 where
  pub labelled : (w l : ℕ) → label labels w ≡ Some l → Contains wires w
  pub closed : (w : ℕ) → done settled w ≡ true → Contains wires w

-- each label is the cost of a walk, and where label and bound make at most c, it is the label of the definition
pub record AreExact (edges : List Edge) (price : ℕ → ℕ) (tree : List WireNo) (bound : ℕ → ℕ) (c : ℕ) (labels : List (Option ℕ)) : Type 0 where
  pub attained : (w l : ℕ) → label labels w ≡ Some l → HasWalk edges price tree w l
  pub there : (w l : ℕ) → IsLabel edges price tree w l → l + bound w ≤ c → label labels w ≡ Some l

-- the labels are exact as far as one goes back from the wire w, which has the label d
pub record AreExactBehind (edges : List Edge) (price : ℕ → ℕ) (tree : List WireNo) (labels : List (Option ℕ)) (w d : ℕ) : Type 0 where
  pub bound : ℕ → ℕ
  pub most : ℕ
  pub falls : FallsBy edges price bound
  pub exact : AreExact edges price tree bound most labels
  pub near : d + bound w ≤ most

-- the first of the rows whose source has the label l, or none where no source has it
abbrev pub IsFirstFrom : List (Option ℕ) → ℕ → List Edge → Option Edge → Type 0
IsFirstFrom labels l rows None = (k : ℕ) (e : Edge) → slice_get rows k ≡ Some e → label labels e.from.0 ≡ Some l → ⊥
IsFirstFrom labels l rows (Some e) = (k : ℕ) × (slice_get rows k ≡ Some e) × (label labels e.from.0 ≡ Some l)
    × ((j : ℕ) (d : Edge) → j < k → slice_get rows j ≡ Some d → label labels d.from.0 ≡ Some l → ⊥)

-- the first of the targets that has the label l, or none where no target has it
abbrev pub IsFirstLabelled : List (Option ℕ) → ℕ → List WireNo → Option WireNo → Type 0
IsFirstLabelled labels l targets None = (k : ℕ) (t : WireNo) → slice_get targets k ≡ Some t → label labels t.0 ≡ Some l → ⊥
IsFirstLabelled labels l targets (Some t) = (k : ℕ) × (slice_get targets k ≡ Some t) × (label labels t.0 ≡ Some l)
    × ((j : ℕ) (u : WireNo) → j < k → slice_get targets j ≡ Some u → label labels u.0 ≡ Some l → ⊥)
