use Rattle.ice_flow_build.specs.Laid.{task_of}
use Rattle.ice_flow_words.specs.Views.{build_view}
use Rattle.ice_flow_build_cmd.proofs.Refusing.{refused, made_of_built, made_refused}
use Rattle.ice_flow_build_cmd.proofs.building.build_task.Goals as goal

pub returns-in-Err-clause-refused : goal.returns-in-Err-clause-refused
returns-in-Err-clause-refused g c = λ texts read.
    let b = build_view c.args.request.now in
    let task = task_of c.args.task.now.chip b.package_name c.args.task.now.pcf c.args.task.now.sound in
    refused b texts task c.in-Err.fault c.build_refusal.result read.is_asked (rw c.as_bytes-name.ensures.value at c.in-Err.ensures.fault) c.build_refusal.ensures

pub returns-in-Ok-clause-refused : goal.returns-in-Ok-clause-refused
returns-in-Ok-clause-refused g c = λ texts read. made_refused (build_view c.args.request.now) texts c.made_of.result c.made_of.ensures.stop c.made_of.ensures.unreported

pub returns-in-Ok-clause-made : goal.returns-in-Ok-clause-made
returns-in-Ok-clause-made g c = λ texts read.
    let b = build_view c.args.request.now in
    let task = task_of c.args.task.now.chip b.package_name c.args.task.now.pcf c.args.task.now.sound in
    let e = c.made_of.ensures in
    made_of_built b texts task c.in-Ok.built read.is_asked read.is_formed read.has_room
    (record { pins = c.prepared_pins_stay.ensures; reports = c.prepared_reports_stay.ensures; shows = c.prepared_show_the_same.ensures; given = c.prepared_are_given_alike.ensures }) (rw c.as_bytes-name.ensures.value at c.in-Ok.ensures.built)
    c.made_of.result c.in-Ok.ensures.circuit (rw c.netlist.ensures.netlist at e.texts) e.arrangement e.told e.read_back
