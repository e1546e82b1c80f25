-- What calls answer of what the definitions say.
use Rattle.std.specs.Prelude.{◌≡◌, Result, Ok, Err, List}
use Rattle.std.specs.Global.{Vec}
use Rattle.ice_pads.specs.declared.fault.PinFault.{PinFault}
use Rattle.ice_pads.specs.declared.fault.PinFault.TheVariants.{NoMemory}

-- want of memory may come at any time, and every other fault is what is said
abbrev pub Stops : {A : Type 0} → PinFault → Result A PinFault → Type 0
Stops NoMemory said = Unit {0}
Stops fault said = said ≡ Err fault

-- the value, or the fault, that is said, unless memory ran out
abbrev pub Answers : {A : Type 0} → Result A PinFault → Result A PinFault → Type 0
Answers (Ok value) said = said ≡ Ok value
Answers (Err fault) said = Stops fault said

-- the same of a list in memory
abbrev pub Lists : {A : Type 0} → Result (Vec A) PinFault → Result (List A) PinFault → Type 0
Lists (Ok value) said = said ≡ Ok value.items
Lists (Err fault) said = Stops fault said

-- the same of a call that changes what is kept
abbrev pub Extends : {A : Type 0} → Result (Unit {0}) PinFault → A → Result A PinFault → Type 0
Extends (Ok done) now said = said ≡ Ok now
Extends (Err fault) now said = Stops fault said
