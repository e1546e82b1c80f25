use Rattle.std.proofs.Common.{◌≡◌, false, drop}
use Rattle.ice_chip.specs.Views.{group_view}
use Rattle.ice_bits_rows.specs.Lists.{views}
use Rattle.ice_bits_rows.specs.Plain.{meets_one}
use Rattle.ice_bits_rows.proofs.plain.meets_one.Given as goal

abbrev pub invariant-loop-other : goal.invariant-loop-other
invariant-loop-other l = meets_one (group_view l.group) false (views l.groups) ≡ meets_one (group_view l.group) l.met (views (drop l.other-index l.groups))
