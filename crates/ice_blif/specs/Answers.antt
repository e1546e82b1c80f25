-- What a reader answers of what the grammar says.
use Rattle.std.specs.Prelude.{◌≡◌, ◌≢◌, ℕ, List, Option, Some, None, Result, Ok, Err}
use Rattle.std.specs.Borrow.{Bor}
use Rattle.ice_blif.specs.declared.fault.BlifFault.{BlifFault}
use Rattle.ice_blif.specs.declared.fault.BlifFault.TheVariants.{NoMemory}

-- what a call answered, seen by a view, is the value or the fault that the text says, unless memory ran out
abbrev pub Gives : {X Y : Type 0} → (X → Y) → Result X BlifFault → Result Y BlifFault → Type 0
Gives view (Ok x) said = said ≡ Ok (view x)
Gives view (Err e) said = e ≢ NoMemory → said ≡ Err e

-- two slices are these bytes, where there are any
abbrev pub ArePartsOf : Option (Bor (List ℕ) × Bor (List ℕ)) → Option (List ℕ × List ℕ) → Type 0
ArePartsOf None said = said ≡ None
ArePartsOf (Some parts) said = said ≡ Some (parts.0.now, parts.1.now)
