-- The pads, pull-ups and globals of a design, or the fault.
use Rattle.std.specs.Prelude.{◌≡◌, ℕ, ◌+◌, Bool, false, Option, None, Some, Result, Ok, Err, List, [], ◌∷◌, map, length, take, drop, nat_lt, slice_get, if◌then◌else◌}
use Rattle.ice_net.specs.NetlistData.{NetlistData}
use Rattle.ice_pcf.specs.declared.constraint.Constraint.{Constraint}
use Rattle.ice_chip.specs.Database.{Parts, PackageRows}
use Rattle.ice_chip.specs.Lookups.{package_of}
use Rattle.ice_chip.specs.declared.rows.Pad.{Pad}
use Rattle.ice_chip_rams.specs.Sites.{sites}
use Rattle.ice_chip_sockets.specs.Pins.{first_pins}
use Rattle.ice_pads.specs.Closings.{with_first}
use Rattle.ice_pads.specs.declared.closing.Closing.{Closing}
use Rattle.ice_pads.specs.declared.want.Want.{Want}
use Rattle.ice_pads.specs.declared.want.Buffer.{Buffer}
use Rattle.ice_pads.specs.declared.given.Chosen.{Chosen}
use Rattle.ice_pads.specs.declared.fault.PinFault.{PinFault}
use Rattle.ice_pads.specs.declared.fault.PinFault.TheVariants.{NoPackage, NoPadLeft, PadLacks, TooManyRams}
use Rattle.ice_pads.specs.Constraints.{given_by, port_name, ◌>>=◌}
use Rattle.ice_pads.specs.PadWires.{suits}
use Rattle.ice_pads.specs.Ports.{with_next, all_chosen}
use Rattle.ice_pads.specs.Globals.{TakenData, globals_of}
use Rattle.ice_pads.specs.Wants.{wants, buffers}
use Rattle.ice_cells.specs.declared.design.Design.{Design}
use Rattle.ice_cells.specs.Runs.{design_of}

-- a pad and whether it has a pull-up for each port; a global for each global buffer, and whether it is direct
pub record PadsData : Type 0 where
  pub ports : List Pad
  pub pullups : List Bool
  pub globals : List ℕ
  pub direct : List Bool

abbrev pub chosen_pads : List Chosen → List Pad
chosen_pads chosen = map (λ (c : Chosen). c.pad) chosen

abbrev pub pads_with : List Chosen → TakenData → PadsData
pads_with chosen taken = record { ports = chosen_pads chosen; pullups = map (λ (c : Chosen). c.pullup) chosen; globals = taken.numbers; direct = taken.direct }

-- ---- the ports that are seen from outside
-- first the constraints, line by line; then the other ports, in port order
abbrev pub chosen_by : Parts → PackageRows → List Constraint → NetlistData → List Want → Result (List Chosen) PinFault
chosen_by parts bonded constraints n ws = given_by parts bonded.pins n ws [] constraints >>= (λ given. all_chosen parts bonded.pads n given [] ws)

abbrev pub outer_chosen : Parts → PackageRows → List Constraint → NetlistData → ℕ → List Want → Result (List Chosen) PinFault
outer_chosen parts bonded constraints n first ws = chosen_by parts bonded constraints (with_first first n) (take first ws)

-- ---- the ports of block RAMs
-- what a port gets at a pin, unless the pin lacks a wire that the port needs
abbrev pub pin_for : Parts → NetlistData → ℕ → Want → Option Pad → Result Chosen PinFault
pin_for parts n k want None = Err (NoPadLeft (port_name n k))
pin_for parts n k want (Some pin) = if suits parts want pin then Ok (record { pad = pin; pullup = false }) else Err (PadLacks (port_name n k))

-- each port gets the next of the pins behind what those before it got, and the first the pin at this place
abbrev pub with_pins : Parts → NetlistData → List Pad → ℕ → List Chosen → List Want → Result (List Chosen) PinFault
with_pins parts n pins place chosen [] = Ok chosen
with_pins parts n pins place chosen (want ∷ ws) =
    with_next chosen (pin_for parts n (length chosen) want (slice_get pins place)) >>= (λ more. with_pins parts n pins (place + 1) more ws)

-- block RAM j of the netlist stands at site j of the chip, unless there are too few sites
abbrev pub with_rams : Parts → NetlistData → List Chosen → ℕ → List Want → Result (List Chosen) PinFault
with_rams parts n chosen rams ws =
    if nat_lt (length (sites parts)) rams then Err (TooManyRams rams (length (sites parts))) else with_pins parts n (first_pins parts rams) 0 chosen ws

-- ---- all
-- what the ports get that are seen from outside, then the globals, and then what the ports of block RAMs get; what global buffers need
-- follows from the pads of the former ports
abbrev pub assigned : Parts → List Constraint → NetlistData → Closing → List Want → (List Pad → List Buffer) → Option PackageRows → Result PadsData PinFault
assigned parts constraints n closing ws buffers None = Err NoPackage
assigned parts constraints n closing ws buffers (Some bonded) =
    outer_chosen parts bonded constraints n closing.first ws >>= (λ chosen.
    globals_of parts (buffers (chosen_pads chosen)) >>= (λ taken.
    with_rams parts n chosen closing.rams (drop closing.first ws) >>= (λ all. Ok (pads_with all taken))))

-- the same, of what the ports and the global buffers of a design need
abbrev pub assign_by : Parts → List ℕ → List Constraint → NetlistData → Closing → List Want → (List Pad → List Buffer) → Result PadsData PinFault
assign_by parts name constraints n closing ws buffers = assigned parts constraints n closing ws buffers (package_of parts name)

-- the pads, pull-ups and globals of a design of the netlist, or the fault
abbrev pub assign_of : Parts → List ℕ → List Constraint → NetlistData → Closing → Design → Result PadsData PinFault
assign_of parts name constraints n closing d = assign_by parts name constraints n closing (wants d) (buffers d)

-- by the netlist's own design the constraints give the same pads and pull-ups, with some globals
abbrev pub IsGivenAlike : Parts → List ℕ → List Constraint → NetlistData → Closing → PadsData → Type 0
IsGivenAlike parts name constraints n closing pads =
    (taken : TakenData) × (assign_of parts name constraints n closing (design_of n) ≡ Ok (record { ports = pads.ports; pullups = pads.pullups; globals = taken.numbers; direct = taken.direct }))
