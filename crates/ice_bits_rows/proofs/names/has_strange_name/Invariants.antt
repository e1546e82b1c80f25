use Rattle.std.proofs.Common.{◌≡◌, drop}
use Rattle.std.specs.List.{list_any}
use Rattle.ice_chip.specs.Lookups.{kind_at}
use Rattle.ice_bits_rows.specs.WireNames.{is_strange_in, has_strange_name}
use Rattle.ice_bits_rows.proofs.names.has_strange_name.Given as goal

abbrev pub invariant-loop-placed : goal.invariant-loop-placed
invariant-loop-placed l = has_strange_name l.chip l.fn.wire.0 ≡ list_any (λ n. is_strange_in (kind_at l.chip n.tile) n.name) (drop l.placed-index l.placed-items)
