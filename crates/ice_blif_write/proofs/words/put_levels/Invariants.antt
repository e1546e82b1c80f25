use Rattle.std.proofs.Common.{◌≡◌, ◌-◌, ◌++◌}
use Rattle.ice_blif_write.specs.Text.{levels_of}
use Rattle.ice_blif_write.proofs.words.put_levels.Given as goal

abbrev pub invariant-loop : goal.invariant-loop
invariant-loop l = l.out.items ++ levels_of (l.width - l.counter) l.rest ≡ l.fn.out.items ++ levels_of l.width l.number
