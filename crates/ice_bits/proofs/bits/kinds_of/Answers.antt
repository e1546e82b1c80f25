use Rattle.std.proofs.Common.{map, ap, ◌∙◌, rules}
use Rattle.std.proofs.lemmas.List.{take_all}
use Rattle.ice_bits.specs.TileForms.{kind_of}
use Rattle.ice_bits.proofs.bits.kinds_of.Goals as goal

pub returns : goal.returns
returns c = c.loop-tile.invariant ∙ ap (map kind_of) (take_all c.loop-tile.tile-index c.args.tiles.now (search rules))
