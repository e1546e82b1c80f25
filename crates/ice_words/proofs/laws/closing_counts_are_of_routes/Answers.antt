use Rattle.ice_words.proofs.Closing.{closing_law}
use Rattle.ice_words.proofs.laws.closing_counts_are_of_routes.Goals as goal

pub returns : goal.returns
returns c = closing_law
