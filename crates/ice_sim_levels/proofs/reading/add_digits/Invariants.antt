use Rattle.std.proofs.Common.{◌≡◌, drop, map}
use Rattle.ice_base.specs.Lists.{all_known}
use Rattle.ice_sim_levels.specs.LevelTexts.{digit_level, levels_and}
use Rattle.ice_sim_levels.proofs.reading.add_digits.Given as goal

abbrev pub invariant-loop-digit : goal.invariant-loop-digit
invariant-loop-digit l = levels_and l.fn.levels.items (all_known (map digit_level l.word)) ≡ levels_and l.levels.items (all_known (map digit_level (drop l.digit-index l.word)))
