use Rattle.std.proofs.Common.{◌≡◌, ◌++◌, drop}
use Rattle.std.specs.List.{flat_map}
use Rattle.ice_chip_rams.specs.Sites.{ram_pins}
use Rattle.ice_chip_sockets.proofs.pins.add_pins.Given as goal

abbrev pub invariant-loop-site : goal.invariant-loop-site
invariant-loop-site l = l.fn.pins.items ++ flat_map ram_pins l.sites ≡ l.pins.items ++ flat_map ram_pins (drop l.site-index l.sites)
