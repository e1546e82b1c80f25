-- Promoted netlists, found by computing.
use Rattle.std.proofs.Common.{◌≡◌, ℕ, zero, suc, ◌+◌, false, List, [], ◌∷◌, ◌++◌, map, length, Option, Some, codes, refl, replicate, take, drop}
use Rattle.ice_base.specs.declared.number.SignalNo.{SignalNo}
use Rattle.ice_net.specs.declared.cell.Cell.{Cell}
use Rattle.ice_net.specs.declared.kind.CellKind.TheVariants.{Cover, Flop, Global}
use Rattle.ice_net.specs.declared.kind.Reset.TheVariants.{Nothing}
use Rattle.ice_net.specs.declared.port.Way.TheVariants.{Input}
use Rattle.ice_net.specs.NetlistData.{NetlistData}
use Rattle.ice_check_promote.specs.Free.{free_beside}
use Rattle.ice_check_promote.specs.Promoted.{promoted_clocks, promoted}

abbrev wire : ℕ → Option SignalNo
wire s = Some (record { 0 = s })

abbrev flop : ℕ → ℕ → ℕ → Cell
flop clock datum out = record { kind = Flop false false Nothing; line = 1; ins = wire clock ∷ wire datum ∷ []; outs = wire out ∷ [] }

-- so many flip-flops with this clock and datum, whose outputs are the signals from `out` on
abbrev flops : ℕ → ℕ → ℕ → ℕ → List Cell
flops clock datum out zero = []
flops clock datum out (suc more) = flop clock datum out ∷ flops clock datum (out + 1) more

-- the inputs c (0) and d (1), and behind them the outputs of so many cells
abbrev netlist : List Cell → NetlistData
netlist cells = record {
  names = codes "c" ∷ codes "d" ∷ replicate 32 (codes "q");
  ports = (record { signal = record { 0 = 0 }; way = Input }) ∷ (record { signal = record { 0 = 1 }; way = Input }) ∷ [];
  cells = cells;
}

-- without outer clocks
abbrev promoted_alone : NetlistData → ℕ → NetlistData
promoted_alone n free = promoted n [] free

-- sixteen flip-flops take a global network, fifteen do not
sixteen : promoted_clocks (netlist (flops 0 1 2 16)) 8 ≡ 0 ∷ []
sixteen = refl

fifteen : promoted_clocks (netlist (flops 0 1 2 15)) 8 ≡ []
fifteen = refl

fifteen_stay : promoted_alone (netlist (flops 0 1 2 15)) 8 ≡ netlist (map (λ cell. cell) (flops 0 1 2 15))
fifteen_stay = refl

-- no network is free
none_free : promoted_clocks (netlist (flops 0 1 2 16)) 0 ≡ []
none_free = refl

-- two clocks and one network: the one of the lower number takes it
two_clocks : promoted_clocks (netlist (flops 1 0 2 16 ++ flops 0 1 18 16)) 1 ≡ 0 ∷ []
two_clocks = refl

both_clocks : promoted_clocks (netlist (flops 1 0 2 16 ++ flops 0 1 18 16)) 2 ≡ 0 ∷ 1 ∷ []
both_clocks = refl

-- a clock that is a global network already, and one that never changes
abbrev global : Cell
global = record { kind = Global; line = 1; ins = wire 1 ∷ []; outs = wire 33 ∷ [] }

abbrev constant : Cell
constant = record { kind = Cover 1 0; line = 1; ins = []; outs = wire 33 ∷ [] }

already_global : promoted_clocks (netlist (global ∷ flops 33 1 2 16)) 8 ≡ []
already_global = refl

constant_clock : promoted_clocks (netlist (constant ∷ flops 33 1 2 16)) 8 ≡ []
constant_clock = refl

-- a clock that is read as data too keeps its other readers
read_too : take 1 (promoted_alone (netlist (flop 1 0 17 ∷ flops 0 0 2 16)) 8).cells ≡ flop 1 0 17 ∷ []
read_too = refl

read_behind : take 1 (drop 1 (promoted_alone (netlist (flop 1 0 17 ∷ flops 0 0 2 16)) 8).cells) ≡ flop 34 0 2 ∷ []
read_behind = refl

buffer_last : drop 17 (promoted_alone (netlist (flop 1 0 17 ∷ flops 0 0 2 16)) 8).cells
    ≡ (record { kind = Global; line = 0; ins = wire 0 ∷ []; outs = wire 34 ∷ [] }) ∷ []
buffer_last = refl

name_last : drop 34 (promoted_alone (netlist (flops 0 1 2 16)) 8).names ≡ codes "c gb" ∷ []
name_last = refl

-- with sixteen flip-flops two inputs, sixteen outputs and the buffer's signal, and with fifteen no buffer's signal
abbrev few_names : ℕ → List Cell → NetlistData
few_names outs cells = record (netlist cells) { names = codes "c" ∷ codes "d" ∷ replicate outs (codes "q") }

sixteen_signals : length (promoted_alone (few_names 16 (flops 0 1 2 16)) 8).names ≡ 19
sixteen_signals = refl

sixteen_cells : length (promoted_alone (few_names 16 (flops 0 1 2 16)) 8).cells ≡ 17
sixteen_cells = refl

fifteen_signals : length (promoted_alone (few_names 15 (flops 0 1 2 15)) 8).names ≡ 17
fifteen_signals = refl

-- each buffer of the netlist takes one of the eight globals, and eight leave none
seven_free : free_beside 8 (netlist (global ∷ flops 33 1 2 16)) ≡ 7
seven_free = refl

none_left : free_beside 8 (netlist (replicate 9 global)) ≡ 0
none_left = refl

-- a cover that passes the clock on to signal 20 reads the buffer where that is an outer clock, and does not count; another cover reads the clock itself
abbrev passed : ℕ → Cell
passed out = record { kind = Cover 2 1; line = 1; ins = wire 0 ∷ []; outs = wire out ∷ [] }

abbrev behind : ℕ → Cell
behind out = record { kind = Cover 2 1; line = 1; ins = wire 34 ∷ []; outs = wire out ∷ [] }

outer_clock : take 2 (promoted (netlist (passed 20 ∷ passed 21 ∷ flops 0 1 2 16)) ((record { 0 = 20 }) ∷ []) 8).cells ≡ behind 20 ∷ passed 21 ∷ []
outer_clock = refl

no_outer_clock : take 2 (promoted_alone (netlist (passed 20 ∷ passed 21 ∷ flops 0 1 2 16)) 8).cells ≡ passed 20 ∷ passed 21 ∷ []
no_outer_clock = refl

outer_alone : promoted_clocks (netlist (passed 20 ∷ flops 0 1 2 15)) 8 ≡ []
outer_alone = refl
