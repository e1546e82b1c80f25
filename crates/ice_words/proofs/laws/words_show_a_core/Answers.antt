use Rattle.ice_words.proofs.Showing.{words_show_core}
use Rattle.ice_words.proofs.laws.words_show_a_core.Goals as goal

pub returns : goal.returns
returns c = words_show_core
