use Rattle.std.proofs.Common.{length, map}
use Rattle.ice_carry_tails.specs.Tails.{tail_names, read_behind}
use Rattle.ice_carry_tails.proofs.NewSteps.{shows_same}
use Rattle.ice_carry_tails.proofs.laws.tails_show_the_same.Goals as goal

pub returns : goal.returns
returns c n tables formed can levels = shows_same n (tail_names n.names (length tables)) (map (read_behind n.cells) tables) formed levels
