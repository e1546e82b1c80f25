use Rattle.std.proofs.Common.{◌≡◌, ◌++◌, map}
use Rattle.std.specs.List.{range_with_len}
use Rattle.ice_chip_rams.specs.Sites.{ram_pin}
use Rattle.ice_chip_sockets.proofs.pins.add_own.Given as goal

abbrev pub invariant-loop-wire : goal.invariant-loop-wire
invariant-loop-wire l = l.pins.items ≡ l.fn.pins.items ++ map (ram_pin l.site) (range_with_len 0 l.wire)
