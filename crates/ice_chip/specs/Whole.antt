-- The faults of a database as a whole, in their order.
use Rattle.std.specs.Prelude.{ℕ, Option, None, Some, []}
use Rattle.ice_chip.specs.Database.{Parts}
use Rattle.ice_chip.specs.WholeFaults.{group_without_tile, name_of_two_wires, group_beyond_tile}
use Rattle.ice_chip.specs.LacksFunction.{lacks_function}
use Rattle.ice_chip.specs.SharedFunction.{shared_function}
use Rattle.ice_chip.specs.SharedPins.{shared_pin}
use Rattle.ice_chip.specs.declared.fault.ChipFault.{ChipFault}
use Rattle.ice_chip.specs.declared.fault.ChipFault.TheVariants.{OutOfRange, Twice, BadBit, SharedFunction, LacksFunction, SharedPin}

-- the fault at the line where there is one, or another fault
abbrev pub at_line : (ℕ → ChipFault) → Option ℕ → Option ChipFault → Option ChipFault
at_line fault None other = other
at_line fault (Some line) other = Some (fault line)

-- the fault of the two lines where there are some, or another fault
abbrev pub of_lines : (ℕ → ℕ → ChipFault) → Option (ℕ × ℕ) → Option ChipFault → Option ChipFault
of_lines fault None other = other
of_lines fault (Some lines) other = Some (fault lines.0 lines.1)

-- the first fault of the whole: a group without a tile, then one name of two wires in a tile, then a group's bit that its
-- tile doesn't have, then a shared bit of a read function, then a kind that lacks a function, then a wire of two pins
abbrev pub whole_fault : Parts → Option ChipFault
whole_fault parts =
    at_line OutOfRange (group_without_tile parts.tiles parts.groups)
    (of_lines Twice (name_of_two_wires parts.tiles [] parts.names)
    (at_line BadBit (group_beyond_tile parts.tiles parts.groups)
    (of_lines SharedFunction (shared_function parts)
    (at_line LacksFunction (lacks_function parts)
    (of_lines SharedPin (shared_pin parts) None)))))
