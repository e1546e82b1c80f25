-- A value, or the first fault.
use Rattle.std.specs.Prelude.{Result, Ok, Err}
use Rattle.ice_asc.specs.declared.fault.AscFault.{AscFault}

infixl 10 ◌>>=◌
-- the second part reads on from what the first gives; a fault of the first is the fault of both
abbrev pub ◌>>=◌ : {A B : Type 0} → Result A AscFault → (A → Result B AscFault) → Result B AscFault
(Ok x) >>= f = f x
(Err e) >>= f = Err e
