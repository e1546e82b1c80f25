-- The names of the files of what words ask for.
use Rattle.std.specs.Prelude.{ℕ, Option, None, Some, List}
use Rattle.ice_flow_words.specs.Requests.{Asked, ForBuild, ForBack, ForPlayNet, ForPlayBits, ForTime, ForSample}

-- the name of a file that may be asked for passes the desk's test
abbrev pub MayIfAsked : (List ℕ → Type 0) → Option (List ℕ) → Type 0
MayIfAsked may None = Unit {0}
MayIfAsked may (Some name) = may name

-- the names of the files pass the desk's tests
abbrev pub MayUse : (List ℕ → Type 0) → (List ℕ → Type 0) → Option Asked → Type 0
MayUse may_read may_write None = Unit {0}
MayUse may_read may_write (Some (ForBuild w)) = may_read w.chip × may_read w.pcf × may_read w.blif × may_write w.asc × MayIfAsked may_write w.pins × MayIfAsked may_write w.report
MayUse may_read may_write (Some (ForBack w)) = may_read w.chip × may_read w.asc × may_write w.blif
MayUse may_read may_write (Some (ForPlayNet w)) = may_read w.blif × may_read w.levels
MayUse may_read may_write (Some (ForPlayBits w)) = may_read w.chip × may_read w.asc × may_read w.levels
MayUse may_read may_write (Some (ForTime w)) = may_read w.chip × may_read w.asc × may_read w.delays
MayUse may_read may_write (Some (ForSample w)) = Unit {0}
