use Rattle.std.proofs.Common.{◌∷◌}
use Rattle.ice_flow_words.specs.Views.{build_view}
use Rattle.ice_flow_build_cmd.proofs.Making.{made_so, reported_so}
use Rattle.ice_flow_build_cmd.proofs.building.make.Goals as goal

pub returns-in-Ok-clause-made : goal.returns-in-Ok-clause-made
returns-in-Ok-clause-made g c =
    let D = g.D.Desk in
    let e = c.in-Ok.ensures in
    let read = e.texts in
    made_so (build_view c.args.request.now) (D.seen c.args.desk.now) (D.seen c.read_chip_and_texts.new.desk) (read.chip_text ∷ c.in-Ok.field-0.texts) c.build_texts.result read.are_texts e.same.makes
    (c.build_texts.ensures.made read.chip_text read.stands) (c.build_texts.ensures.refused read.chip_text read.stands)

pub returns-in-Ok-clause-reported : goal.returns-in-Ok-clause-reported
returns-in-Ok-clause-reported g c =
    let read = c.in-Ok.ensures.texts in
    reported_so (build_view c.args.request.now) (g.D.Desk.seen c.args.desk.now) (read.chip_text ∷ c.in-Ok.field-0.texts) c.build_texts.result read.are_texts (c.build_texts.ensures.refused read.chip_text read.stands)
