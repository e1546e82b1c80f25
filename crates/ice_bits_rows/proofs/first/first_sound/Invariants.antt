use Rattle.std.proofs.Common.{◌≡◌, drop}
use Rattle.ice_bits_rows.specs.FirstSound.{first_among, first_sound}
use Rattle.ice_bits_rows.specs.Lists.{views}
use Rattle.ice_bits_rows.proofs.first.first_sound.Given as goal

abbrev pub invariant-loop-group : goal.invariant-loop-group
invariant-loop-group l = first_sound l.fn.index.chip.now l.source.0 l.fn.target.0 ≡ first_among l.fn.index.chip.now l.source.0 (views (drop l.group-index l.group-items))
