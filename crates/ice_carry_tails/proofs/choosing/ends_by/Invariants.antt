use Rattle.std.proofs.Common.{◌≡◌}
use Rattle.std.specs.List.{filter, range_with_len}
use Rattle.ice_carry_tails.specs.Ends.{is_end}
use Rattle.ice_carry_tails.proofs.choosing.ends_by.Given as goal

abbrev pub invariant-loop-i : goal.invariant-loop-i
invariant-loop-i l = l.ends.items ≡ filter (is_end l.netlist) (range_with_len 0 l.i)
