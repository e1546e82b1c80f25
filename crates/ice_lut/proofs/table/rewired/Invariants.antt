use Rattle.std.proofs.Common.{◌≡◌, ℕ, ◌<◌, false, length, get_or}
use Rattle.ice_net.specs.Meaning.{number_of, table_bit}
use Rattle.ice_lut.specs.Tables.{levels_of, levels_from}
use Rattle.ice_lut.proofs.table.rewired.Given as goal

abbrev pub invariant-loop-j : goal.invariant-loop-j
invariant-loop-j l = record {
  long : length l.entries ≡ 16;
  entries : (k : ℕ) → k < l.j → get_or l.entries k false ≡ table_bit l.table (number_of (levels_from l.from (levels_of k)));
}
