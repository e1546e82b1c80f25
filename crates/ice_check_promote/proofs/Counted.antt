-- The clocks and the outputs that need no buffer are signals of the netlist.
use Rattle.std.proofs.Common.{ℕ, List, length, map, Bool, true, false, Option, None, All, if◌then◌else◌}
use Rattle.std.proofs.lemmas.List.Elements.{All-map, All-weaker}
use Rattle.ice_base.specs.declared.number.SignalNo.{SignalNo}
use Rattle.ice_net.specs.declared.cell.Cell.{Cell}
use Rattle.ice_net.specs.declared.kind.CellKind.{CellKind}
use Rattle.ice_net.specs.declared.kind.CellKind.TheVariants.{Lut, Cover, Carry, Flop, PadCell, Global}
use Rattle.ice_net.specs.NetlistData.{NetlistData}
use Rattle.ice_net.specs.Drivers.{output_of}
use Rattle.ice_net.specs.Formed.{IsBelow, IsFormedCell, IsFormed}
use Rattle.ice_check.proofs.ListsBelow.{at_below}
use Rattle.ice_check_promote.specs.Promoted.{clock_by, clock_of, is_settled, settled_of}

clock_below : (n : ℕ) (kind : CellKind) (ins : List (Option SignalNo)) → All (IsBelow n) ins → IsBelow n (clock_by kind ins)
clock_below n (Lut table) ins all = tt
clock_below n (Cover table width) ins all = tt
clock_below n Carry ins all = tt
clock_below n (Flop falling enable reset) ins all = at_below n ins 0 all
clock_below n (PadCell pin_type pullup) ins all = tt
clock_below n Global ins all = tt

pub clocks_below : (n : NetlistData) → IsFormed n → All (IsBelow (length n.names)) (map clock_of n.cells)
clocks_below n f =
    All-map (IsBelow (length n.names)) clock_of n.cells
    (All-weaker (IsFormedCell (length n.names)) (λ (cell : Cell). IsBelow (length n.names) (clock_of cell))
    (λ (cell : Cell) formed. clock_below (length n.names) cell.kind cell.ins formed.ins_below) n.cells f.cells)

output_below : (n : ℕ) (settled : Bool) (x : Option SignalNo) → IsBelow n x → IsBelow n (if settled then x else None)
output_below n true x below = below
output_below n false x below = tt

pub settled_below : (n : NetlistData) → IsFormed n → All (IsBelow (length n.names)) (map settled_of n.cells)
settled_below n f =
    All-map (IsBelow (length n.names)) settled_of n.cells
    (All-weaker (IsFormedCell (length n.names)) (λ (cell : Cell). IsBelow (length n.names) (settled_of cell))
    (λ (cell : Cell) formed. output_below (length n.names) (is_settled cell.kind) (output_of cell) (at_below (length n.names) cell.outs 0 formed.outs_below)) n.cells f.cells)
