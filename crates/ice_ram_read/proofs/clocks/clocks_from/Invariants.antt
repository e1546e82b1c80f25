use Rattle.std.proofs.Common.{◌≡◌}
use Rattle.ice_ram_read.specs.RamClocks.{clocks_from}
use Rattle.ice_ram_read.proofs.clocks.clocks_from.Given as goal

abbrev pub invariant-loop-ram : goal.invariant-loop-ram
invariant-loop-ram l = l.signals.items ≡ clocks_from l.ports l.place l.ram
