use Rattle.std.proofs.Common.{◌≡◌, drop}
use Rattle.std.specs.List.{list_any}
use Rattle.ice_bits_rows.specs.Bundles.{shares_bit}
use Rattle.ice_bits_rows.specs.Lists.{views}
use Rattle.ice_bits_rows.specs.Alone.{in_tile}
use Rattle.ice_bits_rows.proofs.bundle.some_shares.Given as goal

abbrev pub invariant-loop-group : goal.invariant-loop-group
invariant-loop-group l = list_any (shares_bit l.fn.index.chip.now) (in_tile l.tile (views l.groups)) ≡ list_any (shares_bit l.fn.index.chip.now) (in_tile l.tile (views (drop l.group-index l.groups)))
