-- Carries take look-up tables with the same two inputs, the first the first, the second the second.
use Rattle.std.specs.Prelude.{ℕ, Bool, false, List, map, length, filter, Option, None, slice_get, slice_index_or, if◌then◌else◌}
use Rattle.std.specs.List.{range_with_len}
use Rattle.ice_base.specs.declared.number.SignalNo.{SignalNo}
use Rattle.ice_net.specs.declared.cell.Cell.{Cell}
use Rattle.ice_net.specs.declared.kind.CellKind.{CellKind}
use Rattle.ice_net.specs.declared.kind.CellKind.TheVariants.{Lut, Cover, Carry, Flop, PadCell, Global}
use Rattle.ice_cells.specs.declared.origin.Origin.{Origin}
use Rattle.ice_cells.specs.declared.share.Pair.{Pair}
use Rattle.ice_cells.specs.declared.share.Role.{Role}
use Rattle.ice_cells.specs.declared.share.Role.TheVariants.{Gives, Takes, Neither}
use Rattle.ice_cells.specs.Origins.{is_table_kind, input_origin}
use Rattle.ice_cells.specs.Same.{same_pair}
use Rattle.ice_cells.specs.Tables.{table}
use Rattle.ice_cells.specs.Uses.{dropped}

-- ---- what each cell is
-- the pair of the inputs at two places; a missing input is compared as the constant 0
abbrev pub pair_of : List Origin → List (Option SignalNo) → ℕ → ℕ → Pair
pair_of os ins a b = record { first = input_origin os (slice_index_or ins a None); second = input_origin os (slice_index_or ins b None) }

-- a look-up table is compared by I1 and I2, and a carry that is not dropped by I0 and I1
abbrev pub role_by : List Origin → CellKind → List (Option SignalNo) → List (Option SignalNo) → Role
role_by os (Lut t) ins outs = Gives (pair_of os ins 1 2)
role_by os (Cover t width) ins outs = if is_table_kind (Cover t width) then Gives (pair_of os ins 1 2) else Neither
role_by os Carry ins outs = if dropped outs then Neither else Takes (pair_of os ins 0 1)
role_by os (Flop falling enable reset) ins outs = Neither
role_by os (PadCell pin_type pullup) ins outs = Neither
role_by os Global ins outs = Neither

abbrev pub role_of : List Origin → Cell → Role
role_of os cell = role_by os cell.kind cell.ins cell.outs

abbrev pub roles_of : List Origin → List Cell → List Role
roles_of os cells = map (role_of os) cells

-- ---- who shares
-- a look-up table with that pair
abbrev pub gives : Pair → Role → Bool
gives p (Gives q) = same_pair q p
gives p (Takes q) = false
gives p Neither = false

-- a carry with that pair
abbrev pub takes : Pair → Role → Bool
takes p (Gives q) = false
takes p (Takes q) = same_pair q p
takes p Neither = false

-- what a cell does
abbrev pub role : List Role → ℕ → Role
role roles j = slice_index_or roles j Neither

-- the look-up tables of a pair among the first cells
abbrev pub givers : List Role → Pair → ℕ → List ℕ
givers roles p n = filter (λ j. gives p (role roles j)) (range_with_len 0 n)

-- the carries of a pair among the first cells
abbrev pub takers : List Role → Pair → ℕ → List ℕ
takers roles p n = filter (λ j. takes p (role roles j)) (range_with_len 0 n)

-- The look-up table whose cell a carry shares: where i earlier carries have its pair, the table of that pair that has i before it.
abbrev pub lut_by : List Role → ℕ → Role → Option ℕ
lut_by roles c (Gives p) = None
lut_by roles c (Takes p) = slice_get (givers roles p (length roles)) (length (takers roles p c))
lut_by roles c Neither = None

abbrev pub lut_of : List Role → ℕ → Option ℕ
lut_of roles c = lut_by roles c (role roles c)

abbrev pub luts_of : List Role → List (Option ℕ)
luts_of roles = table (lut_of roles) (length roles)
