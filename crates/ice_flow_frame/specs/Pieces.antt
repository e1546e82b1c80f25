-- The text of a piece of a line, and which lines are of pieces alone.
use Rattle.std.specs.Prelude.{ℕ, List, decimal}
use Rattle.ice_flow_frame.specs.declared.cause.Cause.{Cause}
use Rattle.ice_flow_frame.specs.declared.cause.Cause.TheVariants.{BadNet, BadPin, BadBits}
use Rattle.ice_check.specs.declared.fault.NetFault.{NetFault}
use Rattle.ice_check.specs.declared.fault.NetFault.TheVariants.{Undriven, DrivenTwice, Loop, PadShared, PinTypeOut, PinNotPort, InoutBare, NoMemory}
use Rattle.ice_decode.specs.declared.fault.DecodeFault.{DecodeFault}
use Rattle.ice_decode.specs.declared.fault.DecodeFault.TheVariants as decode_fault
use Rattle.ice_pads.specs.declared.fault.PinFault.{PinFault}
use Rattle.ice_pads.specs.declared.fault.PinFault.TheVariants as pin_fault
use Rattle.ice_flow_frame.specs.declared.say.Piece.{Piece}
use Rattle.ice_flow_frame.specs.declared.say.Piece.TheVariants.{Text, Number}

abbrev pub piece_text : Piece → List ℕ
piece_text (Text text) = text.now
piece_text (Number number) = decimal number

-- the cause is no fault of a netlist, of pins or of bits, so its line has no name of a signal or a port, and no list of wires
abbrev pub IsPlain : Cause → Type 0
IsPlain (BadNet fault) = ⊥
IsPlain (BadPin fault) = ⊥
IsPlain (BadBits fault) = ⊥
IsPlain cause = Unit {0}

-- the fault tells a line, and no signal and no port
abbrev pub IsNameless : NetFault → Type 0
IsNameless (Undriven signal) = ⊥
IsNameless (DrivenTwice signal) = ⊥
IsNameless (Loop signals) = ⊥
IsNameless (PadShared port) = ⊥
IsNameless (PinTypeOut line value) = Unit {0}
IsNameless (PinNotPort line) = Unit {0}
IsNameless (InoutBare port) = ⊥
IsNameless NoMemory = Unit {0}

-- the fault names no port
abbrev pub IsPortless : PinFault → Type 0
IsPortless (pin_fault.NoPadLeft port) = ⊥
IsPortless (pin_fault.PadLacks port) = ⊥
IsPortless fault = Unit {0}

-- the fault is no loop, so its line has no list of wires
abbrev pub IsLoopless : DecodeFault → Type 0
IsLoopless (decode_fault.ChipLoop wires) = ⊥
IsLoopless fault = Unit {0}
