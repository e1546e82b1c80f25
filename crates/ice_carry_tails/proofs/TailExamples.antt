-- Carries at the ends of chains, and what packing makes of them, found by computing.
use Rattle.std.proofs.Common.{◌≡◌, ℕ, false, List, [], ◌∷◌, ◌++◌, Option, Some, None, length, map, drop, codes, refl}
use Rattle.ice_base.specs.declared.number.SignalNo.{SignalNo}
use Rattle.ice_net.specs.declared.cell.Cell.{Cell}
use Rattle.ice_net.specs.declared.kind.Reset.TheVariants.{Nothing}
use Rattle.ice_net.specs.declared.kind.CellKind.{CellKind}
use Rattle.ice_net.specs.declared.kind.CellKind.TheVariants.{Lut, Cover, Carry, Flop}
use Rattle.ice_net.specs.declared.port.Port.{Port}
use Rattle.ice_net.specs.declared.port.Way.TheVariants.{Input, Output}
use Rattle.ice_net.specs.NetlistData.{NetlistData}
use Rattle.ice_cells.specs.declared.design.Run.{Run}
use Rattle.ice_cells.specs.Runs.{design_of}
use Rattle.ice_carry_tails.specs.Ends.{chain_ends, tables_of, tailed}

abbrev wire : ℕ → Option SignalNo
wire s = Some (record { 0 = s })

abbrev input : ℕ → Port
input s = record { signal = record { 0 = s }; way = Input }

abbrev output : ℕ → Port
output s = record { signal = record { 0 = s }; way = Output }

abbrev gate : CellKind → List (Option SignalNo) → ℕ → Cell
gate kind ins out = record { kind = kind; line = 1; ins = ins; outs = wire out ∷ [] }

-- a look-up table by its second, third and last input
abbrev lut : ℕ → Option SignalNo → Option SignalNo → Option SignalNo → ℕ → Cell
lut table second third last out = gate (Lut table) (None ∷ second ∷ third ∷ last ∷ []) out

abbrev carry : Option SignalNo → Option SignalNo → Option SignalNo → ℕ → Cell
carry first second into out = gate Carry (first ∷ second ∷ into ∷ []) out

-- the cells of each run
abbrev run_cells : NetlistData → List (List ℕ)
run_cells n = map (λ (run : Run). run.cells) (design_of n).runs

-- ---- the top bit of an adder
-- a0 (0), b0 (1), a1 (2) and b1 (3); the carries 4 and 5, and the sum 6, 7 and 8
abbrev adder_ports : List Port
adder_ports = input 0 ∷ input 1 ∷ input 2 ∷ input 3 ∷ output 6 ∷ output 7 ∷ output 8 ∷ []

abbrev adder_cells : List Cell
adder_cells =
    lut 15420 (wire 0) (wire 1) None 6 ∷ carry (wire 0) (wire 1) None 4
    ∷ lut 49980 (wire 2) (wire 3) (wire 4) 7 ∷ carry (wire 2) (wire 3) (wire 4) 5
    ∷ lut 65280 None None (wire 5) 8 ∷ []

abbrev adder : NetlistData
adder = record {
  names = codes "a" ∷ codes "b" ∷ codes "c" ∷ codes "d" ∷ codes "e" ∷ codes "f" ∷ codes "g" ∷ codes "h" ∷ codes "i" ∷ [];
  ports = adder_ports;
  cells = adder_cells;
}

adder_tables : tables_of adder ≡ 4 ∷ []
adder_tables = refl

adder_tail : drop 5 (tailed adder).cells ≡ (record { kind = Carry; line = 0; ins = None ∷ None ∷ wire 5 ∷ []; outs = wire 9 ∷ [] }) ∷ []
adder_tail = refl

adder_name : drop 9 (tailed adder).names ≡ codes "a tail" ∷ []
adder_name = refl

-- the run ended with a cell behind the others, and ends with that of the table now: it is as long, and the design has a cell less
adder_before : run_cells adder ≡ (0 ∷ 1 ∷ 3 ∷ []) ∷ []
adder_before = refl

adder_after : run_cells (tailed adder) ≡ (0 ∷ 1 ∷ 2 ∷ []) ∷ []
adder_after = refl

adder_cells_before : length (design_of adder).cells ≡ 4
adder_cells_before = refl

adder_cells_after : length (design_of (tailed adder)).cells ≡ 3
adder_cells_after = refl

-- ---- a counter of three bits
-- the clock 0, the counter 1 to 3, what its bits take 4 to 6, and the carry 7; a missing input reads 0
abbrev counter : NetlistData
counter = record {
  names = codes "a" ∷ codes "b" ∷ codes "c" ∷ codes "d" ∷ codes "e" ∷ codes "f" ∷ codes "g" ∷ codes "h" ∷ [];
  ports = input 0 ∷ output 1 ∷ output 2 ∷ output 3 ∷ [];
  cells = lut 3855 None (wire 1) None 4 ∷ lut 4080 None (wire 2) (wire 1) 5 ∷ carry None (wire 2) (wire 1) 7 ∷ lut 4080 None (wire 3) (wire 7) 6
      ∷ gate (Flop false false Nothing) (wire 0 ∷ wire 4 ∷ []) 1 ∷ gate (Flop false false Nothing) (wire 0 ∷ wire 5 ∷ []) 2 ∷ gate (Flop false false Nothing) (wire 0 ∷ wire 6 ∷ []) 3 ∷ [];
}

counter_tables : tables_of counter ≡ 3 ∷ []
counter_tables = refl

-- the flip-flop of the last bit is in the run, too
counter_before : run_cells counter ≡ (3 ∷ 1 ∷ 4 ∷ []) ∷ []
counter_before = refl

counter_after : run_cells (tailed counter) ≡ (3 ∷ 1 ∷ 2 ∷ []) ∷ []
counter_after = refl

counter_cells_after : length (design_of (tailed counter)).cells ≡ 4
counter_cells_after = refl

-- ---- chains that stay as they are
-- a carry that is read twice
abbrev read_twice : NetlistData
read_twice = record adder { names = adder.names ++ codes "j" ∷ []; cells = adder_cells ++ lut 65280 None None (wire 5) 9 ∷ [] }

twice_ends : chain_ends read_twice ≡ []
twice_ends = refl

-- a carry that is a port
abbrev shown : NetlistData
shown = record adder { ports = adder_ports ++ output 5 ∷ [] }

shown_ends : chain_ends shown ≡ []
shown_ends = refl

-- a table that a carry shares: it would read its own
abbrev shared : NetlistData
shared = record {
  names = codes "a" ∷ codes "b" ∷ codes "c" ∷ codes "d" ∷ [];
  ports = input 0 ∷ input 1 ∷ output 3 ∷ [];
  cells = carry (wire 0) (wire 1) None 2 ∷ lut 49980 (wire 0) (wire 1) (wire 2) 3 ∷ [];
}

shared_ends : chain_ends shared ≡ 1 ∷ []
shared_ends = refl

shared_tables : tables_of shared ≡ []
shared_tables = refl

-- a table behind another one that reads the same at its second and third input: a carry would share that
abbrev behind_another : NetlistData
behind_another = record adder { names = adder.names ++ codes "j" ∷ []; ports = adder_ports ++ output 9 ∷ []; cells = lut 255 None None (wire 0) 9 ∷ adder_cells }

behind_ends : chain_ends behind_another ≡ 5 ∷ []
behind_ends = refl

behind_tables : tables_of behind_another ≡ []
behind_tables = refl

-- ---- a constant 1 among the inputs
-- its carry would need the cell of constant 1
abbrev with_one : NetlistData
with_one = record {
  names = codes "a" ∷ codes "b" ∷ codes "c" ∷ codes "d" ∷ codes "e" ∷ [];
  ports = input 0 ∷ input 1 ∷ output 4 ∷ [];
  cells = gate (Cover 1 0) [] 2 ∷ carry (wire 0) (wire 1) None 3 ∷ lut 49980 (wire 2) (wire 0) (wire 3) 4 ∷ [];
}

one_ends : chain_ends with_one ≡ 2 ∷ []
one_ends = refl

one_tables : tables_of with_one ≡ []
one_tables = refl
