-- The ports of a netlist with promoted clocks, and their pads.
use Rattle.std.specs.Prelude.{◌≡◌, ℕ, List}
use Rattle.ice_base.specs.declared.number.SignalNo.{SignalNo}
use Rattle.ice_net.specs.Formed.{IsFormed}
use Rattle.ice_net.specs.NetlistData.{NetlistData}
use Rattle.ice_chip.specs.Database.{Parts, PackageRows}
use Rattle.ice_chip.specs.declared.rows.Pad.{Pad}
use Rattle.ice_cells.specs.declared.design.Design.{Design}
use Rattle.ice_pcf.specs.declared.constraint.Constraint.{Constraint}
use Rattle.ice_pads.specs.Assign.{assign_of}
use Rattle.ice_pads.specs.declared.closing.Closing.{Closing}
use Rattle.ice_report.specs.PinReport.{pin_text}
use Rattle.ice_check_promote.specs.Promoted.{promoted}

-- of any design the ports get the same pads and globals, or the same fault
abbrev pub PinsStay : Type 0
PinsStay = (n : NetlistData) (outer : List SignalNo) (free : ℕ) (parts : Parts) (name : List ℕ) (constraints : List Constraint) (closing : Closing) (d : Design) → IsFormed n
    → assign_of parts name constraints (promoted n outer free) closing d ≡ assign_of parts name constraints n closing d

-- the lines on the ports are the same
abbrev pub PinReportsStay : Type 0
PinReportsStay = (n : NetlistData) (outer : List SignalNo) (free : ℕ) (bonded : PackageRows) (pads : List Pad) → IsFormed n → pin_text (promoted n outer free) bonded pads ≡ pin_text n bonded pads
