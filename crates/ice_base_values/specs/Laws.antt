-- The laws of values, of orders and of machines, each as one sentence. P names points, and A is what a point has for a value.
use Rattle.std.specs.Prelude.{◌≡◌, ℕ, ◌+◌, ◌<◌, Bool, true, None, Some, Option, List, [], length, map, option_map}
use Rattle.std.specs.List.{AllByRecursion}
use Rattle.std.proofs.Common.{◌⊎◌, suc}
use Rattle.ice_base.specs.Lists.{all_known}
use Rattle.ice_base_values.specs.System.{System, value, gapped, machine_shows}
use Rattle.ice_base_values.specs.Simulations.{MeetsEquation, try_reading, Simulates}
use Rattle.ice_base_values.specs.Order.{Has, IsOrder, IsCycle, IsCycleBelow}

-- more steps change no value that is there
abbrev pub MoreStepsKeepValues : Type 0 → Type 0 → Type 0
MoreStepsKeepValues P A = (system : System P A) (steps more : ℕ) (point : P) (x : A)
    → value system steps point ≡ Some x → value system (steps + more) point ≡ Some x

-- with an order of all points each has a value, and as many steps as there are points, and one more, are enough
abbrev pub OrderedPointsHaveValues : Type 0 → Type 0
OrderedPointsHaveValues A = (system : System ℕ A) (points : ℕ) (order : List ℕ) → IsOrder points system.depends order
    → (point : ℕ) → point < points → (x : A) × (value system (points + 1) point ≡ Some x)

-- with an order of all points an assignment that meets each point's equation is the value
abbrev pub ValuesAreUnique : Type 0 → Type 0
ValuesAreUnique A = (system : System ℕ A) (points : ℕ) (order : List ℕ) (v : ℕ → A) → IsOrder points system.depends order
    → ((point : ℕ) → point < points → MeetsEquation system v point)
    → (point : ℕ) → point < points → value system (points + 1) point ≡ Some (v point)

-- Without an order too, as many steps as there are points, and one more, are enough for each point that has a value with any
-- number of steps. The list has all points but sources.
abbrev pub PointsAndOneAreEnough : Type 0 → Type 0 → Type 0
PointsAndOneAreEnough P A = (system : System P A) (points : List P)
    → ((point read : P) → Has points point → Has (system.depends point) read → Has points read ⊎ (system.depends read ≡ []))
    → (steps : ℕ) (point : P) (x : A) → Has points point → value system steps point ≡ Some x → value system (length points + 1) point ≡ Some x

-- no point of a cycle has a value, whatever the steps
abbrev pub CyclesHaveNoValue : Type 0 → Type 0 → Type 0
CyclesHaveNoValue P A = (system : System P A) (cycle : List P) → IsCycle system.depends cycle
    → (steps : ℕ) (point : P) → Has cycle point → value system steps point ≡ None

-- points that have an order have no cycle
abbrev pub OrdersHaveNoCycle : Type 0
OrdersHaveNoCycle = (points : ℕ) (depends : ℕ → List ℕ) (order cycle : List ℕ) → IsOrder points depends order → IsCycleBelow points depends cycle → ⊥

-- where inputs may be connected to nothing, the local function takes the values of the connected ones, and `bare` for the others
abbrev pub BareInputsReadBare : Type 0 → Type 0 → Type 0
BareInputsReadBare P A = (inputs : P → List (Option P)) (bare : A) (local : P → List A → A) (steps : ℕ) (point : P)
    → value (gapped inputs bare local) (suc steps) point
    ≡ option_map (local point) (all_known (map (try_reading bare (λ read. value (gapped inputs bare local) steps read)) (inputs point)))

-- Two machines show the same for every list of levels that are allowed, where each step from states that are tied shows the
-- same and leads to states that are tied. `tied` and `allowed` tell which they are.
abbrev pub SimulationsShowTheSame : Type 0 → Type 0 → Type 0 → Type 0 → Type 0
SimulationsShowTheSame S T L O = (first : S → L → S × O) (second : T → L → T × O) (tied : S → T → Bool) (allowed : L → Bool)
    → Simulates first second (λ s t. tied s t ≡ true) (λ l. allowed l ≡ true)
    → (s : S) (t : T) → tied s t ≡ true → (levels : List L) → AllByRecursion (λ l. allowed l ≡ true) levels
    → machine_shows first s levels ≡ machine_shows second t levels
