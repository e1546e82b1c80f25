-- The taken path: of all the cheapest walks from the tree to a wire the one that goes back by the first row each time.
use Rattle.std.specs.Prelude.{◌≡◌, ℕ, ◌+◌, ◌<◌, ◌≤◌, List, [], ◌∷◌, Some, slice_get, reverse}
use Rattle.ice_base.specs.declared.number.WireNo.{WireNo}
use Rattle.ice_graph.specs.declared.edge.Edge.{Edge}
use Rattle.ice_graph.specs.Rows.{rows_into}
use Rattle.ice_path.specs.Walks.{InTree, IsWalk, HasWalk, IsLabel, IsLeast, IsTarget, IsCostTo, cost}

-- the label of the edge's source and the price of the wire w make the label of w
abbrev pub MakesLabel : List Edge → (ℕ → ℕ) → List WireNo → ℕ → Edge → Type 0
MakesLabel edges price tree w e = (c : ℕ) × IsLabel edges price tree e.from.0 c × IsLabel edges price tree w (c + price w)

-- the first of the rows into the wire w that makes its label
pub record IsStepBack (edges : List Edge) (price : ℕ → ℕ) (tree : List WireNo) (w : ℕ) (e : Edge) : Type 0 where
  pub place : ℕ
  pub stands : slice_get (rows_into edges w) place ≡ Some e
  pub makes : MakesLabel edges price tree w e
  pub first : (k : ℕ) (d : Edge) → k < place → slice_get (rows_into edges w) k ≡ Some d → MakesLabel edges price tree w d → ⊥

-- the edges lead back from the wire w: none from a wire of the tree, and else the step back and those from its source
abbrev pub LeadBack : List Edge → (ℕ → ℕ) → List WireNo → ℕ → List Edge → Type 0
LeadBack edges price tree w [] = InTree tree w
LeadBack edges price tree w (e ∷ back) = (InTree tree w → ⊥) × IsStepBack edges price tree w e × LeadBack edges price tree e.from.0 back

-- the taken path from the tree to the wire w: the edges that lead back, the last one first
abbrev pub IsTaken : List Edge → (ℕ → ℕ) → List WireNo → ℕ → List Edge → Type 0
IsTaken edges price tree w path = LeadBack edges price tree w (reverse path)

-- the target taken: the first in the list with the least label, which is c
pub record IsTargetTaken (edges : List Edge) (price : ℕ → ℕ) (tree targets : List WireNo) (t : WireNo) (c : ℕ) : Type 0 where
  pub place : ℕ
  pub stands : slice_get targets place ≡ Some t
  pub has : HasWalk edges price tree t.0 c
  pub least : (w : ℕ) → IsTarget targets w → IsLeast edges price tree w c
  pub first : (k : ℕ) (u : WireNo) → k < place → slice_get targets k ≡ Some u → HasWalk edges price tree u.0 c → ⊥

-- the taken path from the tree to a list of targets: the one to the target taken
abbrev pub IsTakenTo : List Edge → (ℕ → ℕ) → List WireNo → List WireNo → List Edge → Type 0
IsTakenTo edges price tree targets path = (t : WireNo) × (c : ℕ) × IsTargetTaken edges price tree targets t c × IsTaken edges price tree t.0 path

-- where no price is 0, there is a taken path to each list of targets to one of which a walk leads
abbrev pub TakenPathsAreThere : Type 0
TakenPathsAreThere = (edges : List Edge) (price : ℕ → ℕ) (tree targets : List WireNo) (w c : ℕ) → ((v : ℕ) → 1 ≤ price v)
    → IsTarget targets w → HasWalk edges price tree w c → (path : List Edge) × IsTakenTo edges price tree targets path

-- there is no more than one
abbrev pub TakenPathsAreUnique : Type 0
TakenPathsAreUnique = (edges : List Edge) (price : ℕ → ℕ) (tree targets : List WireNo) (one other : List Edge)
    → IsTakenTo edges price tree targets one → IsTakenTo edges price tree targets other → one ≡ other

-- it is a walk from the tree to one of the targets, and no walk to any of them costs less
abbrev pub TakenPathsAreCheapest : Type 0
TakenPathsAreCheapest = (edges : List Edge) (price : ℕ → ℕ) (tree targets : List WireNo) (path : List Edge) → IsTakenTo edges price tree targets path
    → ((start : ℕ) × (w : ℕ) × InTree tree start × IsTarget targets w × IsWalk edges start path w) × IsCostTo edges price tree targets (cost price path)
