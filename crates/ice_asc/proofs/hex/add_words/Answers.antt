use Rattle.ice_asc.specs.Hex.{row_words}
use Rattle.ice_asc.proofs.hex.add_words.Goals as goal

pub returns : goal.returns
unfolding row_words
returns c = c.push_words.ensures
