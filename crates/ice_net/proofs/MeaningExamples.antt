-- The meaning of small netlists, found by computing.
use Rattle.std.proofs.Common.{◌≡◌, ℕ, Bool, true, false, List, [], ◌∷◌, Option, Some, None, refl}
use Rattle.ice_base.specs.declared.number.SignalNo.{SignalNo}
use Rattle.ice_net.specs.declared.driver.Drive.{Drive}
use Rattle.ice_net.specs.declared.driver.Drive.TheVariants.{Off, Low, High}
use Rattle.ice_net.specs.declared.kind.Reset.{Reset}
use Rattle.ice_net.specs.declared.kind.Reset.TheVariants.{SyncSet, AsyncSet, AsyncReset}
use Rattle.ice_net.specs.declared.kind.CellKind.TheVariants.{Flop, Carry, PadCell}
use Rattle.ice_net.specs.declared.port.Port.{Port}
use Rattle.ice_net.specs.declared.port.Way.TheVariants.{Input, Output}
use Rattle.ice_net.specs.NetlistData.{NetlistData}
use Rattle.ice_net.specs.Meaning.{shows}

abbrev wire : ℕ → Option SignalNo
wire s = Some (record { 0 = s })

abbrev input : ℕ → Port
input s = record { signal = record { 0 = s }; way = Input }

abbrev output : ℕ → Port
output s = record { signal = record { 0 = s }; way = Output }

-- a flip-flop of the signals 0 to 3 and the output 4
abbrev flop : Bool → Reset → NetlistData
flop falling reset = record {
  names = [] ∷ [] ∷ [] ∷ [] ∷ [] ∷ [];
  ports = input 0 ∷ input 1 ∷ input 2 ∷ input 3 ∷ output 4 ∷ [];
  cells = (record { kind = Flop falling true reset; line = 1; ins = wire 0 ∷ wire 3 ∷ wire 1 ∷ wire 2 ∷ []; outs = wire 4 ∷ [] }) ∷ [];
}

-- the levels of the clock, the enable, the set or reset, and the data
abbrev at : Bool → Bool → Bool → Bool → List Bool
at c e s d = c ∷ e ∷ s ∷ d ∷ false ∷ []

-- the drives of four inputs and an output
abbrev low : List Drive
low = Off ∷ Off ∷ Off ∷ Off ∷ Low ∷ []

abbrev high : List Drive
high = Off ∷ Off ∷ Off ∷ Off ∷ High ∷ []

-- a flip-flop with a falling clock, an enable and a synchronous set, which does nothing while the enable is 0
falling_set : shows (flop true SyncSet)
    (at true false true false ∷ at false false true false ∷ at true true true false ∷ at false true true false
    ∷ at false true false false ∷ at true true false false ∷ at false true false false ∷ at false true false false ∷ [])
    ≡ low ∷ low ∷ low ∷ low ∷ high ∷ high ∷ high ∷ low ∷ []
falling_set = refl

-- a flip-flop with an enable and an asynchronous reset
rising_reset : shows (flop false AsyncReset)
    (at false true false true ∷ at true true false true ∷ at true false true true ∷ at true false false true ∷ [])
    ≡ low ∷ low ∷ high ∷ low ∷ []
rising_reset = refl

-- the same with an asynchronous set in the first step, which acts while the enable is 0
forced_set : shows (flop true AsyncSet) (at false false true false ∷ at false false false false ∷ []) ≡ low ∷ high ∷ []
forced_set = refl

-- the first step has no edge, though the clock is 1 in it
no_edge_at_first : shows (flop false AsyncSet) (at true true false true ∷ at true true false true ∷ []) ≡ low ∷ low ∷ []
no_edge_at_first = refl

-- a flip-flop whose enable is missing is enabled
abbrev enabled : NetlistData
enabled = record {
  names = [] ∷ [] ∷ [] ∷ [];
  ports = input 0 ∷ input 1 ∷ output 2 ∷ [];
  cells = (record { kind = Flop false true SyncSet; line = 1; ins = wire 0 ∷ wire 1 ∷ None ∷ None ∷ []; outs = wire 2 ∷ [] }) ∷ [];
}

missing_enable : shows enabled ((false ∷ true ∷ false ∷ []) ∷ (true ∷ true ∷ false ∷ []) ∷ (true ∷ true ∷ false ∷ []) ∷ [])
    ≡ (Off ∷ Off ∷ Low ∷ []) ∷ (Off ∷ Off ∷ Low ∷ []) ∷ (Off ∷ Off ∷ High ∷ []) ∷ []
missing_enable = refl

-- a carry of the inputs 0 to 2
abbrev carry : NetlistData
carry = record {
  names = [] ∷ [] ∷ [] ∷ [] ∷ [];
  ports = input 0 ∷ input 1 ∷ input 2 ∷ output 3 ∷ [];
  cells = (record { kind = Carry; line = 1; ins = wire 0 ∷ wire 1 ∷ wire 2 ∷ []; outs = wire 3 ∷ [] }) ∷ [];
}

carries : shows carry ((true ∷ false ∷ true ∷ false ∷ []) ∷ (false ∷ false ∷ true ∷ false ∷ []) ∷ (false ∷ true ∷ true ∷ false ∷ []) ∷ [])
    ≡ (Off ∷ Off ∷ Off ∷ High ∷ []) ∷ (Off ∷ Off ∷ Off ∷ Low ∷ []) ∷ (Off ∷ Off ∷ Off ∷ High ∷ []) ∷ []
carries = refl

-- a pad that is driven while its enable is 1, and read by another port
abbrev tristate : NetlistData
tristate = record {
  names = [] ∷ [] ∷ [] ∷ [] ∷ [];
  ports = input 0 ∷ input 1 ∷ output 2 ∷ output 3 ∷ [];
  cells = (record {
    kind = PadCell 41 false;
    line = 1;
    ins = wire 2 ∷ wire 0 ∷ wire 1 ∷ None ∷ None ∷ None ∷ None ∷ None ∷ [];
    outs = wire 3 ∷ None ∷ [];
  }) ∷ [];
}

tristate_pad : shows tristate ((true ∷ false ∷ true ∷ false ∷ []) ∷ (true ∷ true ∷ false ∷ false ∷ []) ∷ [])
    ≡ (Off ∷ Off ∷ Off ∷ High ∷ []) ∷ (Off ∷ Off ∷ High ∷ Low ∷ []) ∷ []
tristate_pad = refl
