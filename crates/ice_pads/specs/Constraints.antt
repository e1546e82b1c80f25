-- What constraints give to ports, or their first fault.
use Rattle.std.specs.Prelude.{ℕ, ◌==◌, Bool, false, Option, None, Some, Result, Ok, Err, List, [], ◌∷◌, ◌++◌, find, position, bytes_eq, length, slice_get, slice_index_or, if◌then◌else◌, zero, suc, ◌+◌, ◌≡◌}
use Rattle.std.specs.Map.{lookup}
use Rattle.std.specs.Option.{option_and_then}
use Rattle.ice_net.specs.NetlistData.{NetlistData, is_at}
use Rattle.ice_net.specs.declared.port.Port.{Port}
use Rattle.ice_pcf.specs.declared.constraint.Constraint.{Constraint}
use Rattle.ice_chip.specs.Database.{Parts, same_pad, PackageRows}
use Rattle.ice_chip.specs.declared.rows.Pad.{Pad}
use Rattle.ice_pads.specs.declared.want.Want.{Want}
use Rattle.ice_pads.specs.declared.given.Given.{Given}
use Rattle.ice_pads.specs.declared.fault.PinFault.{PinFault}
use Rattle.ice_pads.specs.declared.fault.PinFault.TheVariants.{UnknownPin, UnknownPort, PinTwice, PortTwice, PadLacks}
use Rattle.ice_pads.specs.PadWires.{suits}
use Rattle.ice_base_values.specs.Order.{At, Has, StandOnce}

-- ---- the first number that passes a test
-- the first of so many numbers from this one that passes a test
unfoldable pub first_passing : (ℕ → Bool) → ℕ → ℕ → Option ℕ
first_passing test n zero = None
first_passing test n (suc left) = if test n then Some n else first_passing test (n + 1) left

-- the next part, unless there was a fault
infixl 10 ◌>>=◌
abbrev pub ◌>>=◌ : {A B : Type 0} → Result A PinFault → (A → Result B PinFault) → Result B PinFault
(Ok value) >>= next = next value
(Err fault) >>= next = Err fault

-- ---- ports
abbrev pub is_of_signal : ℕ → Option Port → Bool
is_of_signal s None = false
is_of_signal s (Some port) = is_at s port

-- the place of the first port of a signal
abbrev pub place_of_port : List Port → ℕ → Option ℕ
place_of_port ports s = first_passing (λ k. is_of_signal s (slice_get ports k)) 0 (length ports)

-- the place of the port of a name
abbrev pub port_named : NetlistData → List ℕ → Option ℕ
port_named n name = option_and_then (place_of_port n.ports) (position (bytes_eq name) n.names)

abbrev pub name_at : NetlistData → Option Port → List ℕ
name_at n None = []
name_at n (Some port) = slice_index_or n.names port.signal.0 []

-- the name of the port at a place
abbrev pub port_name : NetlistData → ℕ → List ℕ
port_name n k = name_at n (slice_get n.ports k)

-- what the port at a place needs of its pad
abbrev pub want_of : List Want → ℕ → Want
want_of wants k = slice_index_or wants k (record { input = false; output = false; enable = false; pullup = false })

-- ---- what earlier lines gave
abbrev pub of_port : List Given → ℕ → Option Given
of_port given k = find (λ g. g.port == k) given

abbrev pub of_pad : List Given → Pad → Option Given
of_pad given pad = find (λ g. same_pad pad g.pad) given

-- ---- one line
-- an earlier line has the pad, or none has it
abbrev pub unless_pad : Constraint → Pad → Option Given → Result Pad PinFault
unless_pad c pad (Some earlier) = Err (PinTwice earlier.line c.line)
unless_pad c pad None = Ok pad

-- an earlier line has the port, or none has it
abbrev pub unless_port : List Given → Constraint → Pad → Option Given → Result Pad PinFault
unless_port given c pad (Some earlier) = Err (PortTwice earlier.line c.line)
unless_port given c pad None = unless_pad c pad (of_pad given pad)

-- the package has the pin, or lacks it
abbrev pub by_pin : List Given → Constraint → ℕ → Option Pad → Result Pad PinFault
by_pin given c k None = Err (UnknownPin c.line)
by_pin given c k (Some pad) = unless_port given c pad (of_port given k)

-- the pad that a line gives to the port at a place: one that no earlier line gave, as no earlier line gave that port one
abbrev pub free_pad : List (List ℕ × Pad) → List Given → Constraint → ℕ → Result Pad PinFault
free_pad pins given c k = by_pin given c k (lookup (bytes_eq c.pin) pins)

abbrev pub given_to : Constraint → ℕ → Pad → Given
given_to c k pad = record { port = k; pad = pad; line = c.line; pullup = c.pullup }

-- the pad has the wires that the port needs, or lacks one
abbrev pub with_pad : Parts → NetlistData → List Want → List Given → Constraint → ℕ → Pad → Result (List Given) PinFault
with_pad parts n wants given c k pad = if suits parts (want_of wants k) pad then Ok (given ++ given_to c k pad ∷ []) else Err (PadLacks (port_name n k))

-- the name is that of a port, or of none: then a lenient line is skipped
abbrev pub by_port : Parts → List (List ℕ × Pad) → NetlistData → List Want → List Given → Constraint → Option ℕ → Result (List Given) PinFault
by_port parts pins n wants given c None = if c.lenient then Ok given else Err (UnknownPort c.line)
by_port parts pins n wants given c (Some k) = free_pad pins given c k >>= with_pad parts n wants given c k

-- what a line gives behind those before it, or its fault
abbrev pub with_line : Parts → List (List ℕ × Pad) → NetlistData → List Want → List Given → Constraint → Result (List Given) PinFault
with_line parts pins n wants given c = by_port parts pins n wants given c (port_named n c.name)

-- what all lines give, or the first fault
abbrev pub given_by : Parts → List (List ℕ × Pad) → NetlistData → List Want → List Given → List Constraint → Result (List Given) PinFault
given_by parts pins n wants given [] = Ok given
given_by parts pins n wants given (c ∷ cs) = with_line parts pins n wants given c >>= (λ more. given_by parts pins n wants more cs)

-- ---- pads by what they are
-- The ports of the netlist have these pads, in port order, in the package with these rows.
pub record HavePads (bonded : PackageRows) (constraints : List Constraint) (n : NetlistData) (ports : List Pad) : Type 0 where
  -- there are as many as ports, all of the package, and none stands twice
  pub each : length ports ≡ length n.ports
  pub of_package : (k : ℕ) (pad : Pad) → At ports k pad → Has bonded.pads pad
  pub apart : StandOnce ports
  -- a port that a constraint names has the pad of the constraint's pin
  pub constrained : (c : Constraint) (k : ℕ) (pad : Pad) → Has constraints c → port_named n c.name ≡ Some k → At ports k pad → lookup (bytes_eq c.pin) bonded.pins ≡ Some pad
