-- Cells that are made of what was read.
use Rattle.std.proofs.Common.{◌≡◌, ℕ, ◌+◌, ◌-◌, ◌<◌, ◌≤◌, ◌%◌, ◌^◌, Bool, true, false, [], ◌∷◌, length, length-append, Option, Some, None, refl, sym, arith, zero, suc, lit≤, subst}
use Rattle.std.proofs.lemmas.List.{take_all}
use Rattle.std.proofs.lemmas.Nat.{pow_pos}
use Rattle.std.proofs.Math.Nat.{mod-lt}
use Rattle.std.proofs.lemmas.List.Elements.{All-weaker}
use Rattle.ice_base.specs.declared.number.SignalNo.{SignalNo}
use Rattle.ice_net.specs.Formed.{IsBelow, IsPresent, IsFormedCell}
use Rattle.ice_blif.specs.State.{OpenCover, LastCell, Nothing, Gate, Rows, cover_cell, finished, Memory}
use Rattle.ice_blif.specs.Reading.{NetReading}
use Rattle.ice_blif.specs.Covers.{table_of}
use Rattle.ice_net.specs.NetlistData.{NetlistData}
use Rattle.ice_blif.specs.Cells.{IsOpenCover, IsReadCell, IsFormedLast, IsReady, IsWithin, IsRawWithin, count_of}
use Rattle.ice_blif.specs.Grammar.{with_last}

some_tables : (width : ℕ) → 0 < 2 ^ (2 ^ width)
some_tables width = pow_pos (2 ^ width)

rest_below : (n m : ℕ) → 0 < m → n % m < m
rest_below n m some = mod-lt n some

tables_at_most : (width : ℕ) → width ≤ 4 → 2 ^ (2 ^ width) ≤ 65536
tables_at_most zero le = lit≤ tt
tables_at_most (suc zero) le = lit≤ tt
tables_at_most (suc (suc zero)) le = lit≤ tt
tables_at_most (suc (suc (suc zero))) le = lit≤ tt
tables_at_most (suc (suc (suc (suc zero)))) le = lit≤ tt
tables_at_most (suc (suc (suc (suc (suc width))))) le = absurd (omega arith)

-- the rest is a number of sixteen bits
pub small_rest : (n width : ℕ) → width ≤ 4 → n % 2 ^ (2 ^ width) < 65536
small_rest n width le = let lt = rest_below n (2 ^ (2 ^ width)) (some_tables width) in omega (arith, lt, tables_at_most width le)

table_fits : (width : ℕ) (level : Option Bool) (covered : ℕ) → table_of width level covered < 2 ^ (2 ^ width)
table_fits width None covered = some_tables width
table_fits width (Some true) covered = rest_below covered (2 ^ (2 ^ width)) (some_tables width)
table_fits width (Some false) covered = rest_below (65535 - covered) (2 ^ (2 ^ width)) (some_tables width)

present_below : (n : ℕ) (s : Option SignalNo) → IsPresent n s → IsBelow n s
present_below n None h = tt
present_below n (Some s) h = h

cover_formed : (signals : ℕ) (c : OpenCover) → IsOpenCover signals c → IsFormedCell signals (cover_cell c)
cover_formed signals c h = record {
  ins_long = refl;
  outs_long = h.single;
  ins_below = All-weaker (IsPresent signals) (IsBelow signals) (present_below signals) c.ins h.ins_present;
  outs_below = All-weaker (IsPresent signals) (IsBelow signals) (present_below signals) c.outs h.outs_present;
  kind = record {
    narrow = h.narrow;
    fits = table_fits (length c.ins) c.level c.covered;
    ins_present = h.ins_present;
    outs_present = h.outs_present;
  };
}

-- the cell of a cover is well formed
pub cover_read : (signals : ℕ) (c : OpenCover) → IsOpenCover signals c → IsReadCell signals (cover_cell c)
cover_read signals c h = record {
  own = subst (λ outs. IsFormedCell signals (record (cover_cell c) { outs = outs })) (sym (take_all 1 c.outs (omega (arith, h.single)))) (cover_formed signals c h);
  outs_below = (cover_formed signals c h).outs_below;
}

pub finished_names : (n : NetlistData) (last : LastCell) → (finished n last).names ≡ n.names
finished_names n Nothing = refl
finished_names n (Gate cell) = refl
finished_names n Memory = refl
finished_names n (Rows cover) = refl

finished_few : (n : NetlistData) (last : LastCell) → length (finished n last).cells ≤ length n.cells + 1
finished_few n Nothing = omega arith
finished_few n Memory = omega arith
finished_few n (Gate cell) = omega (arith, length-append n.cells (cell ∷ []))
finished_few n (Rows cover) = omega (arith, length-append n.cells (cover_cell cover ∷ []))

-- a reader with a new last cell is ready, with one cell more
pub last_ready : (n : NetlistData) (before now : LastCell) (rows : Bool) → length n.cells ≤ 1048576 → IsFormedLast (length n.names) now
    → IsReady 1048577 (with_last n before now rows)
last_ready n before now rows few formed = record {
  few = omega (arith, finished_few n before, few);
  formed = subst (λ names. IsFormedLast (length names) now) (sym (finished_names n before)) formed;
}

pub finished_count : (n : NetlistData) (last : LastCell) → length (finished n last).cells ≡ length n.cells + count_of last
finished_count n Nothing = omega arith
finished_count n Memory = omega arith
finished_count n (Gate cell) = length-append n.cells (cell ∷ [])
finished_count n (Rows cover) = length-append n.cells (cover_cell cover ∷ [])

-- the netlist with the last cell is within the limits
pub finished_within : (r : NetReading) → IsWithin r → IsRawWithin (finished r.netlist r.last)
finished_within r h = record {
  signals = rw (finished_names r.netlist r.last) h.signals;
  cells = omega (arith, finished_count r.netlist r.last, h.cells);
}
