-- Equations of points, inputs that may be without a value, and simulations of machines.
use Rattle.std.specs.Prelude.{◌≡◌, Option, None, map, Some}
use Rattle.ice_base_values.specs.System.{System}

-- each point has the value that its local function makes of the values that it reads
abbrev pub MeetsEquation : {P A : Type 0} → System P A → (P → A) → P → Type 0
MeetsEquation system v point = v point ≡ system.local point (map v (system.depends point))

-- what an input reads, where its point may be without a value: `bare` where it is connected to nothing
abbrev pub try_reading : {P A : Type 0} → A → (P → Option A) → Option P → Option A
try_reading bare v None = Some bare
try_reading bare v (Some point) = v point

-- A simulation of one machine by another: R ties the states of the one to those of the other. For levels that are allowed and
-- states that are tied, both show the same in the step, and the states after it are tied again.
abbrev pub Simulates : {S T L O : Type 0} → (S → L → S × O) → (T → L → T × O) → (S → T → Type 0) → (L → Type 0) → Type 0
Simulates {S} {T} {L} first second R Allowed =
    (s : S) (t : T) (levels : L) → Allowed levels → R s t
    → R (first s levels).0 (second t levels).0 × ((first s levels).1 ≡ (second t levels).1)
