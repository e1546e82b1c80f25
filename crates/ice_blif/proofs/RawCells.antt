-- Cells as their lines say them, as signals are added.
use Rattle.std.proofs.Common.{◌≡◌, ℕ, ◌≤◌, List, [], ◌∷◌, ◌++◌, length, All, refl, ◌∙◌}
use Rattle.std.proofs.lemmas.List.Elements.{All-nil, All-push, All-weaker}
use Rattle.ice_net.specs.declared.cell.Cell.{Cell}
use Rattle.ice_net.specs.NetlistData.{NetlistData, empty_netlist}
use Rattle.ice_net.proofs.NetlistLaws.{formed_more}
use Rattle.ice_blif.specs.Cells.{IsReadCell, IsRaw}
use Rattle.ice_blif.specs.State.{own_cell}
use Rattle.ice_blif.proofs.Wirings.{all_below_more}

pub read_more : (m n : ℕ) → m ≤ n → (cell : Cell) → IsReadCell m cell → IsReadCell n cell
read_more m n le cell h = record { own = formed_more m n le (own_cell cell) h.own; outs_below = all_below_more m n cell.outs le h.outs_below }

pub all_read_more : (m n : ℕ) → m ≤ n → (cells : List Cell) → All (IsReadCell m) cells → All (IsReadCell n) cells
all_read_more m n le cells h = All-weaker (IsReadCell m) (IsReadCell n) (read_more m n le) cells h

pub empty_raw : IsRaw empty_netlist []
empty_raw = record { none = refl; read = All-nil (IsReadCell 0) }

-- signals are as many or more, and no cell is made yet
pub later_raw : (n m : NetlistData) (cells : List Cell) → IsRaw n cells → m.cells ≡ n.cells → length n.names ≤ length m.names → IsRaw m cells
later_raw n m cells h same le = record { none = same ∙ h.none; read = all_read_more (length n.names) (length m.names) le cells h.read }

-- one cell more
pub cell_raw : (n : NetlistData) (cells : List Cell) (cell : Cell) → IsRaw n cells → IsReadCell (length n.names) cell → IsRaw n (cells ++ cell ∷ [])
cell_raw n cells cell h read = record { none = h.none; read = All-push (IsReadCell (length n.names)) cells cell h.read read }
