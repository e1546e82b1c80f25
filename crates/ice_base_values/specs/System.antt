-- Systems of points that depend on one another, and the value of a point. A point is what carries a level or a number
-- at one moment: a signal of a netlist, the output of a cell of a design, a wire of a chip, a carry between two cells.
use Rattle.std.specs.Prelude.{ℕ, Option, None, List, map, option_map, Some, [], ◌∷◌}
use Rattle.std.proofs.Common.{zero, suc}
use Rattle.ice_base.specs.Lists.{all_known}

-- What the points of a circuit read, and what they make of it. P names the points, A is what a point has for a value: a
-- level, or the time at which it arrives. A source, as a pad, a constant or the output of a flip-flop, depends on nothing.
pub record System (P A : Type 0) : Type 0 where
  -- the points that a point reads, in the order in which `local` takes their values; a point that is read twice stands twice
  pub depends : P → List P
  -- the local function of a point: the value that it makes of the values that it reads
  pub local : P → List A → A

-- The value of a point, found by walking back over at most `steps` points, itself included. It is `None` where the walk would
-- be longer, so a point on a loop, or behind one, has no value for any number of steps.
abbrev pub value : {P A : Type 0} → System P A → ℕ → P → Option A
value system zero point = None
value system (suc steps) point = option_map (system.local point) (all_known (map (λ read. value system steps read) (system.depends point)))

-- ---- inputs that nothing may be connected to
-- the points that the connected inputs read
abbrev pub present : {P : Type 0} → List (Option P) → List P
present [] = []
present (None ∷ inputs) = present inputs
present (Some point ∷ inputs) = point ∷ present inputs

-- what an input reads: the value of the point that it is connected to, or `bare` where it is connected to nothing
abbrev pub reading : {P A : Type 0} → A → (P → A) → Option P → A
reading bare v None = bare
reading bare v (Some point) = v point

-- what all the inputs read, where `xs` are the values of the connected ones
abbrev pub filled_inputs : {P A : Type 0} → A → List (Option P) → List A → List A
filled_inputs bare [] xs = []
filled_inputs bare (None ∷ inputs) xs = bare ∷ filled_inputs bare inputs xs
filled_inputs bare (Some point ∷ inputs) [] = bare ∷ filled_inputs bare inputs []
filled_inputs bare (Some point ∷ inputs) (x ∷ xs) = x ∷ filled_inputs bare inputs xs

-- The system of points with these inputs: an input that is connected to nothing reads `bare`, and `local` takes what all the
-- inputs read. So the dependences are the connected inputs alone.
abbrev pub gapped : {P A : Type 0} → (P → List (Option P)) → A → (P → List A → A) → System P A
gapped inputs bare local = record { depends = λ point. present (inputs point); local = λ point xs. local point (filled_inputs bare (inputs point) xs) }

-- ---- machines, which go step by step from state to state
-- What a machine shows, step by step, for a list of levels at its inputs. In a state and for the levels of one step, `step`
-- gives the state after the step, and what the outputs show in it.
abbrev pub machine_shows : {S L O : Type 0} → (S → L → S × O) → S → List L → List O
machine_shows step state [] = []
machine_shows step state (levels ∷ later) = (step state levels).1 ∷ machine_shows step (step state levels).0 later
