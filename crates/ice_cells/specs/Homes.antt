-- Which logic cell each cell of the netlist goes to.
use Rattle.std.specs.Prelude.{ℕ, ◌==◌, ◌&&◌, Bool, true, false, List, map, length, filter, find, min, Option, None, Some, if◌then◌else◌, slice_index_or, unwrap_or, option_map}
use Rattle.std.specs.List.{range_with_len, enumerate_from}
use Rattle.ice_base.specs.declared.number.SignalNo.{SignalNo}
use Rattle.ice_net.specs.declared.cell.Cell.{Cell}
use Rattle.ice_net.specs.declared.kind.CellKind.{CellKind}
use Rattle.ice_net.specs.declared.kind.CellKind.TheVariants as kind
use Rattle.ice_net.specs.declared.port.Port.{Port}
use Rattle.ice_cells.specs.declared.origin.Origin.{Origin}
use Rattle.ice_cells.specs.declared.share.Part.{Part}
use Rattle.ice_cells.specs.declared.share.Part.TheVariants.{Table, Flop, Carry, Nothing}
use Rattle.ice_cells.specs.Origins.{is_table_kind, input_origin}
use Rattle.ice_cells.specs.Pairs.{luts_of, roles_of}
use Rattle.ice_cells.specs.Tables.{table, is_place, keep, scattered}
use Rattle.ice_cells.specs.Uses.{dropped, maker, uses, taker_of}

-- What is known of the cells: what each is in a logic cell, the flip-flop that alone takes its output, and the look-up table that a carry shares.
pub record Facts : Type 0 where
  pub parts : List Part
  pub takers : List (Option ℕ)
  pub luts : List (Option ℕ)

abbrev pub part_by : List Origin → CellKind → List (Option SignalNo) → List (Option SignalNo) → Part
part_by os (kind.Lut t) ins outs = Table
part_by os (kind.Cover t width) ins outs = if is_table_kind (kind.Cover t width) then Table else Nothing
part_by os kind.Carry ins outs = if dropped outs then Nothing else Carry
part_by os (kind.Flop falling enable reset) ins outs = Flop (maker (input_origin os (slice_index_or ins 1 None)))
part_by os (kind.PadCell pin_type pullup) ins outs = Nothing
part_by os kind.Global ins outs = Nothing

abbrev pub part_of : List Origin → Cell → Part
part_of os cell = part_by os cell.kind cell.ins cell.outs

abbrev pub facts_of : List Origin → List Cell → List Port → Facts
facts_of os cells bare = record {
  parts = map (part_of os) cells;
  takers = map taker_of (uses os cells bare);
  luts = luts_of (roles_of os cells);
}

-- ---- by which cell a cell goes
abbrev pub part : Facts → ℕ → Part
part n j = slice_index_or n.parts j Nothing

abbrev pub is_table : Part → Bool
is_table Table = true
is_table (Flop taken) = false
is_table Carry = false
is_table Nothing = false

-- the flip-flop that alone takes a look-up table
abbrev pub taker : Facts → ℕ → Option ℕ
taker n j = if is_table (part n j) then slice_index_or n.takers j None else None

abbrev pub is_kept : Part → Bool
is_kept Table = true
is_kept (Flop taken) = true
is_kept Carry = true
is_kept Nothing = false

-- the look-up table whose output a flip-flop alone reads, as the level that it takes, or the flip-flop itself
abbrev pub taken_anchor : Facts → ℕ → Option ℕ → ℕ
taken_anchor n j None = j
taken_anchor n j (Some k) = if is_table (part n k) && is_place j (taker n k) then k else j

-- the cell by which a cell goes: the look-up table whose logic cell it shares, or itself
abbrev pub anchor_by : Facts → ℕ → Part → ℕ
anchor_by n j Table = j
anchor_by n j (Flop taken) = taken_anchor n j taken
anchor_by n j Carry = unwrap_or (slice_index_or n.luts j None) j
anchor_by n j Nothing = j

abbrev pub anchor : Facts → ℕ → ℕ
anchor n j = anchor_by n j (part n j)

-- ---- the carry that shares a look-up table
abbrev pub Shared : Type 0
Shared = ℕ × Option ℕ

abbrev pub lut_at : Shared → Option ℕ
lut_at shared = shared.1

abbrev pub carry_at : Shared → ℕ
carry_at shared = shared.0

abbrev pub carrier_by : List (Option ℕ) → ℕ → Option ℕ
carrier_by luts a = option_map carry_at (find (λ shared. is_place a (lut_at shared)) (enumerate_from 0 luts))

abbrev pub carriers_of : Facts → List (Option ℕ)
carriers_of n = table (carrier_by n.luts) (length n.parts)

-- ---- where cells of the design are opened
-- the first of the cells that go by an anchor
abbrev pub least_of : Option ℕ → ℕ → ℕ
least_of None k = k
least_of (Some j) k = min j k

abbrev pub first_by : Facts → List (Option ℕ) → ℕ → ℕ
first_by n carriers a = least_of (taker n a) (least_of (slice_index_or carriers a None) a)

abbrev pub first_member : Facts → ℕ → ℕ
first_member n j = first_by n (carriers_of n) (anchor n j)

-- a logic cell is opened at the first of those that go there
abbrev pub opens : Facts → ℕ → Bool
opens n j = is_kept (part n j) && (first_member n j == j)

abbrev pub openers_before : Facts → ℕ → List ℕ
openers_before n i = filter (opens n) (range_with_len 0 i)

abbrev pub openers : Facts → List ℕ
openers n = openers_before n (length n.parts)

-- how many are opened before each
abbrev pub counts : Facts → List ℕ
counts n = table (λ i. length (openers_before n i)) (length n.parts)

-- the number of the logic cell that a cell goes to
abbrev pub home : Facts → ℕ → ℕ
home n j = slice_index_or (counts n) (first_member n j) 0

abbrev pub homes : Facts → List ℕ
homes n = table (home n) (length n.parts)

-- ---- the same, all cells at once
abbrev pub no_carrier : Option ℕ
no_carrier = None

abbrev pub all_shared : List (Option ℕ) → List Shared → List (Option ℕ)
all_shared carriers shared = scattered lut_at (keep carry_at) None carriers shared
