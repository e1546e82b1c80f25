use Rattle.std.proofs.Common.{◌∷◌}
use Rattle.ice_flow_words.specs.Views.{build_view}
use Rattle.ice_flow_build_cmd.proofs.Refusing.{read_refused}
use Rattle.ice_flow_build_cmd.proofs.building.build_texts.Goals as goal

pub returns-in-Ok-clause-made : goal.returns-in-Ok-clause-made
returns-in-Ok-clause-made g c = λ chip_text stands.
    let b = build_view c.args.request.now in
    c.build_task-made.ensures.made (chip_text ∷ c.args.texts.now) (c.in-Ok.ensures.task b.package_name chip_text stands)

pub returns-in-Ok-clause-refused : goal.returns-in-Ok-clause-refused
returns-in-Ok-clause-refused g c = λ chip_text stands.
    let b = build_view c.args.request.now in
    c.build_task-made.ensures.refused (chip_text ∷ c.args.texts.now) (c.in-Ok.ensures.task b.package_name chip_text stands)

pub returns-in-Err-clause-refused : goal.returns-in-Err-clause-refused
returns-in-Err-clause-refused g c = λ chip_text stands.
    let b = build_view c.args.request.now in
    read_refused b (chip_text ∷ c.args.texts.now) c.in-Err.cause c.without_report.result (c.in-Err.ensures.refused b chip_text stands) c.without_report.ensures.cause c.without_report.ensures.report
