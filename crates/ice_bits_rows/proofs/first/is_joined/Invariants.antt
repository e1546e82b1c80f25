use Rattle.std.proofs.Common.{◌≡◌, drop}
use Rattle.std.specs.List.{list_any}
use Rattle.ice_bits_rows.specs.FirstSound.{some_usable, is_joined}
use Rattle.ice_bits_rows.specs.Lists.{views}
use Rattle.ice_bits_rows.proofs.first.is_joined.Given as goal

abbrev pub invariant-loop-group : goal.invariant-loop-group
invariant-loop-group l = is_joined l.fn.index.chip.now l.source.0 l.fn.target.0 ≡ list_any (λ g. some_usable l.fn.index.chip.now l.source.0 g g.first g.rows) (views (drop l.group-index l.group-items))
