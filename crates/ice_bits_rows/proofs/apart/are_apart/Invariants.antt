use Rattle.std.proofs.Common.{map, take}
use Rattle.ice_chip.specs.Views.{group_view}
use Rattle.ice_bits_rows.specs.Apart.{AreApart, HasMet}
use Rattle.ice_bits_rows.proofs.apart.are_apart.Given as goal

abbrev pub invariant-loop-group : goal.invariant-loop-group
invariant-loop-group l = record {
  met : HasMet l.chip (map group_view (take l.group-index l.group-items)) l.met;
  apart : AreApart l.chip (map group_view (take l.group-index l.group-items));
}
