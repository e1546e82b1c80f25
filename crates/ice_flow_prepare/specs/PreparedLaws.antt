-- The laws of prepared netlists.
use Rattle.std.specs.Prelude.{◌≡◌, ℕ, ◌<◌, ◌≤◌, Bool, List, length, Ok}
use Rattle.ice_base.specs.declared.number.SignalNo.{SignalNo}
use Rattle.ice_net.specs.Formed.{IsFormed}
use Rattle.ice_net.specs.Limits.{most_signals}
use Rattle.ice_net.specs.Meaning.{shows}
use Rattle.ice_net.specs.NetlistData.{NetlistData}
use Rattle.ice_chip.specs.Database.{Parts, PackageRows}
use Rattle.ice_chip.specs.declared.rows.Pad.{Pad}
use Rattle.ice_cells.specs.declared.design.Design.{Design}
use Rattle.ice_cells.specs.Runs.{design_of}
use Rattle.ice_pcf.specs.declared.constraint.Constraint.{Constraint}
use Rattle.ice_pads.specs.Assign.{IsGivenAlike, PadsData, assign_of}
use Rattle.ice_pads.specs.declared.closing.Closing.{Closing}
use Rattle.ice_report.specs.PinReport.{pin_text}
use Rattle.ice_flow_prepare.specs.Prepared.{most_cells, prepared_on}

-- the ports drive, step by step, what those of the netlist do, for each list of levels
abbrev pub PreparedShowTheSame : Type 0
PreparedShowTheSame = (parts : Parts) (n : NetlistData) (outer : List SignalNo) → IsFormed n → length n.cells < most_cells → (levels : List (List Bool)) → shows (prepared_on parts n outer) levels ≡ shows n levels

-- of any design the ports get the same pads and globals, or the same fault
abbrev pub PreparedPinsStay : Type 0
PreparedPinsStay = (parts : Parts) (n : NetlistData) (outer : List SignalNo) (name : List ℕ) (constraints : List Constraint) (closing : Closing) (d : Design) → IsFormed n
    → assign_of parts name constraints (prepared_on parts n outer) closing d ≡ assign_of parts name constraints n closing d

-- the lines on the ports are the same
abbrev pub PreparedReportsStay : Type 0
PreparedReportsStay = (parts : Parts) (n : NetlistData) (outer : List SignalNo) (bonded : PackageRows) (pads : List Pad) → IsFormed n → pin_text (prepared_on parts n outer) bonded pads ≡ pin_text n bonded pads

-- where the constraints give ports pads by the design of the prepared netlist, they give the same pads by that of the netlist itself
abbrev pub PreparedAreGivenAlike : Type 0
PreparedAreGivenAlike = (parts : Parts) (n : NetlistData) (outer : List SignalNo) (name : List ℕ) (constraints : List Constraint) (closing : Closing) (pads : PadsData) → IsFormed n → length n.cells < most_cells
    → assign_of parts name constraints n closing (design_of (prepared_on parts n outer)) ≡ Ok pads → IsGivenAlike parts name constraints n closing pads

-- it has no more signals than may be placed, where the netlist has not
abbrev pub PreparedAreFew : Type 0
PreparedAreFew = (parts : Parts) (n : NetlistData) (outer : List SignalNo) → length n.names ≤ most_signals → length (prepared_on parts n outer).names ≤ most_signals
