use Rattle.ice_words.proofs.Fronts.{lawful_all_along}
use Rattle.ice_words.proofs.laws.lawful_parts_were_lawful.Goals as goal

pub returns : goal.returns
returns c = lawful_all_along
