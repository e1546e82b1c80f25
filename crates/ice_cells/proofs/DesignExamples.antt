-- The designs of small netlists, found by computing.
use Rattle.std.proofs.Common.{◌≡◌, ℕ, true, false, List, [], ◌∷◌, Option, Some, None, length, map, refl}
use Rattle.ice_base.specs.declared.number.SignalNo.{SignalNo}
use Rattle.ice_net.specs.declared.cell.Cell.{Cell}
use Rattle.ice_net.specs.declared.driver.Drive.TheVariants.{Off, Low, High}
use Rattle.ice_net.specs.declared.kind.Reset.TheVariants.{Nothing, SyncReset}
use Rattle.ice_net.specs.declared.kind.CellKind.{CellKind}
use Rattle.ice_net.specs.declared.kind.CellKind.TheVariants.{Lut, Cover, Carry, Flop}
use Rattle.ice_net.specs.declared.port.Port.{Port}
use Rattle.ice_net.specs.declared.port.Way.TheVariants.{Input, Output}
use Rattle.ice_net.specs.NetlistData.{NetlistData}
use Rattle.ice_lut.specs.Tables.{table_of}
use Rattle.ice_cells.specs.declared.cell.LogicCell.{LogicCell}
use Rattle.ice_cells.specs.declared.root.Root.{Root}
use Rattle.ice_cells.specs.declared.root.Root.TheVariants.{PadIn, CellOut}
use Rattle.ice_cells.specs.Clusters.{need}
use Rattle.ice_cells.specs.Meaning.{shows}
use Rattle.ice_cells.specs.Runs.{design_of}

abbrev wire : ℕ → Option SignalNo
wire s = Some (record { 0 = s })

abbrev input : ℕ → Port
input s = record { signal = record { 0 = s }; way = Input }

abbrev output : ℕ → Port
output s = record { signal = record { 0 = s }; way = Output }

abbrev gate : CellKind → List (Option SignalNo) → ℕ → Cell
gate kind ins out = record { kind = kind; line = 1; ins = ins; outs = wire out ∷ [] }

-- a look-up table of the inputs 0 to 3 and the output 4
abbrev parity : NetlistData
parity = record {
  names = [] ∷ [] ∷ [] ∷ [] ∷ [] ∷ [];
  ports = input 0 ∷ input 1 ∷ input 2 ∷ input 3 ∷ output 4 ∷ [];
  cells = gate (Lut 27030) (wire 0 ∷ wire 1 ∷ wire 2 ∷ wire 3 ∷ []) 4 ∷ [];
}

parity_cells : (design_of parity).cells ≡ (record {
  table = 27030;
  ins = Some (PadIn 0) ∷ Some (PadIn 1) ∷ Some (PadIn 2) ∷ Some (PadIn 3) ∷ [];
  carry = false;
  carry_to_in3 = false;
  flop = None;
}) ∷ []
parity_cells = refl

parity_need : need (design_of parity) ≡ 1
parity_need = refl

-- inputs 0 and 1, an output 2 of constant 1, and a flip-flop 3 that is never enabled; 4 is constant 1, and 5 is constant 0
abbrev constants : NetlistData
constants = record {
  names = [] ∷ [] ∷ [] ∷ [] ∷ [] ∷ [] ∷ [];
  ports = input 0 ∷ input 1 ∷ output 2 ∷ output 3 ∷ [];
  cells = gate (Cover 1 0) [] 4 ∷ gate (Cover 0 0) [] 5 ∷ gate (Cover 2 1) (wire 4 ∷ []) 2 ∷ gate (Flop false true Nothing) (wire 0 ∷ wire 1 ∷ wire 5 ∷ []) 3 ∷ [];
}

abbrev none : List (Option Root)
none = None ∷ None ∷ None ∷ None ∷ []

constants_cells : (design_of constants).cells ≡ (record {
  table = 43690;
  ins = Some (PadIn 1) ∷ None ∷ None ∷ None ∷ [];
  carry = false;
  carry_to_in3 = false;
  flop = Some (record { clock = Some (PadIn 0); falling = false; enable = Some (CellOut 1); reset = None }, Nothing);
}) ∷ (record { table = 0; ins = none; carry = false; carry_to_in3 = false; flop = None })
    ∷ (record { table = 65535; ins = none; carry = false; carry_to_in3 = false; flop = None }) ∷ []
constants_cells = refl

constants_need : need (design_of constants) ≡ 1
constants_need = refl

constants_show : shows (design_of constants) ((false ∷ true ∷ false ∷ false ∷ []) ∷ (true ∷ true ∷ false ∷ false ∷ []) ∷ (true ∷ true ∷ false ∷ false ∷ []) ∷ [])
    ≡ (Off ∷ Off ∷ High ∷ Low ∷ []) ∷ (Off ∷ Off ∷ High ∷ Low ∷ []) ∷ (Off ∷ Off ∷ High ∷ Low ∷ []) ∷ []
constants_show = refl

-- two flip-flops, of which one has a reset
abbrev two_sets : NetlistData
two_sets = record {
  names = [] ∷ [] ∷ [] ∷ [] ∷ [] ∷ [];
  ports = input 0 ∷ input 1 ∷ input 2 ∷ output 3 ∷ output 4 ∷ [];
  cells = gate (Flop false false Nothing) (wire 0 ∷ wire 1 ∷ []) 3 ∷ gate (Flop false false SyncReset) (wire 0 ∷ wire 1 ∷ wire 2 ∷ []) 4 ∷ [];
}

two_sets_cells : length (design_of two_sets).cells ≡ 2
two_sets_cells = refl

two_sets_need : need (design_of two_sets) ≡ 2
two_sets_need = refl

-- An adder of two bits: the inputs 0 to 4, the sums 5 and 6, and the carry 7 out of it, with the carry 8 between the bits.
abbrev adder : NetlistData
adder = record {
  names = [] ∷ [] ∷ [] ∷ [] ∷ [] ∷ [] ∷ [] ∷ [] ∷ [] ∷ [];
  ports = input 0 ∷ input 1 ∷ input 2 ∷ input 3 ∷ input 4 ∷ output 5 ∷ output 6 ∷ output 7 ∷ [];
  cells = gate (Lut 27030) (None ∷ wire 0 ∷ wire 1 ∷ wire 4 ∷ []) 5 ∷ gate Carry (wire 0 ∷ wire 1 ∷ wire 4 ∷ []) 8
      ∷ gate (Lut 27030) (None ∷ wire 2 ∷ wire 3 ∷ wire 8 ∷ []) 6 ∷ gate Carry (wire 2 ∷ wire 3 ∷ wire 8 ∷ []) 7 ∷ [];
}

-- the cells 2 and 3 take the carry in and pass it on
adder_runs : (design_of adder).runs ≡ (record { cells = 2 ∷ 0 ∷ 1 ∷ 3 ∷ []; set = true }) ∷ []
adder_runs = refl

adder_cells : (design_of adder).cells
    ≡ (record { table = 27030; ins = None ∷ Some (PadIn 0) ∷ Some (PadIn 1) ∷ Some (PadIn 4) ∷ []; carry = true; carry_to_in3 = false; flop = None })
    ∷ (record { table = 27030; ins = None ∷ Some (PadIn 2) ∷ Some (PadIn 3) ∷ None ∷ []; carry = true; carry_to_in3 = true; flop = None })
    ∷ (record { table = 0; ins = None ∷ Some (PadIn 4) ∷ None ∷ None ∷ []; carry = true; carry_to_in3 = false; flop = None })
    ∷ (record { table = 65280; ins = none; carry = false; carry_to_in3 = true; flop = None }) ∷ []
adder_cells = refl

-- one and two, with a carry in
adder_shows : shows (design_of adder) ((true ∷ false ∷ false ∷ true ∷ true ∷ false ∷ false ∷ false ∷ []) ∷ []) ≡ (Off ∷ Off ∷ Off ∷ Off ∷ Off ∷ Low ∷ Low ∷ High ∷ []) ∷ []
adder_shows = refl

-- A flip-flop 3 takes a flip-flop 2 and stands before it: each has a cell of its own. An inverter 4 of one input ignores the others.
abbrev shift : NetlistData
shift = record {
  names = [] ∷ [] ∷ [] ∷ [] ∷ [] ∷ [];
  ports = input 0 ∷ input 1 ∷ output 3 ∷ output 4 ∷ [];
  cells = gate (Flop false false Nothing) (wire 0 ∷ wire 2 ∷ []) 3 ∷ gate (Flop false false Nothing) (wire 0 ∷ wire 1 ∷ []) 2 ∷ gate (Cover 1 1) (wire 1 ∷ []) 4 ∷ [];
}

shift_cells : map (λ (cell : LogicCell). cell.ins) (design_of shift).cells
    ≡ (Some (CellOut 1) ∷ None ∷ None ∷ None ∷ []) ∷ (Some (PadIn 1) ∷ None ∷ None ∷ None ∷ []) ∷ (Some (PadIn 1) ∷ None ∷ None ∷ None ∷ []) ∷ []
shift_cells = refl

shift_tables : map (λ (cell : LogicCell). cell.table) (design_of shift).cells ≡ 43690 ∷ 43690 ∷ 21845 ∷ []
unfolding table_of
shift_tables = refl
