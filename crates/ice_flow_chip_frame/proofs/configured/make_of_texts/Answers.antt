use Rattle.std.proofs.Common.{◌∷◌}
use Rattle.ice_flow_chip_frame.proofs.Looks.{chip_refused}
use Rattle.ice_flow_chip_frame.proofs.configured.make_of_texts.Goals as goal

pub make_on_chip-made-requires : goal.make_on_chip-made-requires
make_on_chip-made-requires g c = (c.requires.0, c.in-Ok.ensures.chip c.requires.0 c.requires.1)

pub returns-in-Ok-clause-given : goal.returns-in-Ok-clause-given
returns-in-Ok-clause-given g c = λ chip_text stands. c.make_on_chip-made.ensures.given chip_text (c.in-Ok.ensures.chip chip_text stands)

pub returns-in-Ok-clause-refused : goal.returns-in-Ok-clause-refused
returns-in-Ok-clause-refused g c = λ chip_text stands. c.make_on_chip-made.ensures.refused chip_text (c.in-Ok.ensures.chip chip_text stands)

pub returns-in-Err-clause-refused : goal.returns-in-Err-clause-refused
returns-in-Err-clause-refused g c = λ chip_text stands.
    let texts = chip_text ∷ c.args.texts.now in
    chip_refused (g.M.ChipMaking.rams c.args.making.now) (g.M.ChipMaking.stands c.args.making.now texts) c.args.package_name.now texts c.in-Err.fault c.chip_refusal.result (c.in-Err.ensures.chip chip_text stands) c.chip_refusal.ensures
