use Rattle.ice_blif_laws.proofs.TextNetlists.{text_netlists}
use Rattle.ice_blif_laws.proofs.laws.netlist_texts_say_netlists.Goals as goal

pub returns : goal.returns
returns c = text_netlists
