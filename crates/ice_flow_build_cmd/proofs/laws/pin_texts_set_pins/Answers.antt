use Rattle.ice_flow_build_cmd.proofs.Pinned.{text_sets}
use Rattle.ice_flow_build_cmd.proofs.laws.pin_texts_set_pins.Goals as goal

pub returns : goal.returns
returns c = text_sets
