-- The carries that are added, one behind the other.
use Rattle.std.proofs.Common.{◌≡◌, ℕ, ◌+◌, Option, List, [], ◌∷◌, length, refl}
use Rattle.ice_base.specs.declared.number.SignalNo.{SignalNo}
use Rattle.ice_base_values.specs.Order.{At}
use Rattle.ice_net.specs.declared.cell.Cell.{Cell}
use Rattle.ice_net.specs.declared.kind.CellKind.TheVariants.{Carry}
use Rattle.ice_net.specs.NetlistData.{NetlistData}
use Rattle.ice_net_additions.proofs.AddedCells.{IsAddable, length_added, at_added}
use Rattle.ice_net_additions.proofs.Growths.{InPairs, IsTurned, Growth}
use Rattle.ice_carry_tails.specs.Tails.{tail, tails}

abbrev pub Ins : Type 0
Ins = List (Option SignalNo)

pub length_tails : (next : ℕ) (lists : List Ins) → length (tails next lists) ≡ length lists
length_tails = length_added Carry

-- each of them reads one of the lists
pub at_tail : (next : ℕ) (lists : List Ins) (j : ℕ) (cell : Cell) → At (tails next lists) j cell → (ins : Ins) × At lists j ins × (cell ≡ tail (next + j) ins)
at_tail = at_added Carry

pub addable : IsAddable Carry
addable = record {
  pin = λ ins. refl;
  reads = λ ins. refl;
  uses = λ ins. refl;
  kept = λ v ins level clock. refl;
  clock = λ v ins. refl;
  pin_type = refl;
  portless = λ ports pin. refl;
}

pub same_cells : (count : ℕ) (cells : List Cell) → InPairs (IsTurned count) cells cells
same_cells count [] = tt
same_cells count (cell ∷ cells) = (record { kind = refl; pin = refl; out = refl; reads = refl; uses = λ s i lt at. at }, same_cells count cells)

-- the netlist with these names and with carries that read these lists
abbrev pub growth : NetlistData → List (List ℕ) → List Ins → Growth
growth n names lists = record {
  before = n;
  names = names;
  olds = n.cells;
  kind = Carry;
  lists = lists;
  addable = addable;
  turned = same_cells (length n.names) n.cells;
}
