-- A value, or the first fault.
use Rattle.std.specs.Prelude.{Result, Ok, Err}
use Rattle.ice_chip.specs.declared.fault.ChipFault.{ChipFault}

infixl 10 ◌>>=◌
-- the second part reads on from what the first gives; a fault of the first is the fault of both
abbrev pub ◌>>=◌ : {A B : Type 0} → Result A ChipFault → (A → Result B ChipFault) → Result B ChipFault
(Ok x) >>= f = f x
(Err e) >>= f = Err e
