use Rattle.std.proofs.Common.{◌∷◌}
use Rattle.ice_flow_frame.specs.Texts.{files_view}
use Rattle.ice_flow_frame.proofs.Ended.{made_of_texts}
use Rattle.ice_flow_chip_frame.specs.ChipFiles.{with_chip}
use Rattle.ice_flow_chip_frame.specs.Standing.{command_on_bits}
use Rattle.ice_flow_chip_frame.proofs.making.make_of.Goals as goal

pub make_of_texts-requires : goal.make_of_texts-requires
make_of_texts-requires g c = (c.in-Ok.ensures.texts.chip_text, c.in-Ok.ensures.texts.stands)

pub returns-in-Ok-clause-made : goal.returns-in-Ok-clause-made
returns-in-Ok-clause-made g c = λ output.
    let D = g.D.Desk in
    let making = c.args.making.now in
    let e = c.in-Ok.ensures in
    let k = command_on_bits (g.M.ChipMaking.rams making) (with_chip c.args.chip.now (files_view c.args.files.now)) c.args.package_name.now (g.M.ChipMaking.stands making) (g.M.ChipMaking.gives making) output in
    made_of_texts k (D.seen c.args.desk.now) (D.seen c.read_chip_and_texts.new.desk) (e.texts.chip_text ∷ c.in-Ok.field-0.texts) c.make_of_texts.result e.texts.are_texts e.same.makes
    (c.make_of_texts.ensures.given e.texts.chip_text e.texts.stands) (c.make_of_texts.ensures.refused e.texts.chip_text e.texts.stands)
