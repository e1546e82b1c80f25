-- What calls answer of what the definitions say.
use Rattle.std.specs.Prelude.{◌≡◌, Result, Ok, Err}
use Rattle.ice_place.specs.declared.fault.PlaceFault.{PlaceFault}
use Rattle.ice_place.specs.declared.fault.PlaceFault.TheVariants.{RunTooLong, Overfull, RunUnplaced, NoMemory}

-- want of memory may come at any time, and every other fault is what is said
abbrev pub Stops : {A : Type 0} → PlaceFault → Result A PlaceFault → Type 0
Stops NoMemory said = Unit {0}
Stops (RunTooLong length tallest) said = said ≡ Err (RunTooLong length tallest)
Stops (Overfull need have) said = said ≡ Err (Overfull need have)
Stops (RunUnplaced run length) said = said ≡ Err (RunUnplaced run length)

-- the value, or the fault, that is said, unless memory ran out
abbrev pub Answers : {A : Type 0} → Result A PlaceFault → Result A PlaceFault → Type 0
Answers (Ok value) said = said ≡ Ok value
Answers (Err fault) said = Stops fault said
