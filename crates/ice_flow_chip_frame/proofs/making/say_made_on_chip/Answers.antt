use Rattle.ice_flow_frame.specs.Commands.{Aloud}
use Rattle.ice_flow_frame.specs.Texts.{files_view}
use Rattle.ice_flow_frame.proofs.Ended.{end_is_aloud}
use Rattle.ice_flow_chip_frame.specs.ChipFiles.{with_chip}
use Rattle.ice_flow_chip_frame.specs.Standing.{command_on_bits}
use Rattle.ice_flow_chip_frame.proofs.making.say_made_on_chip.Goals as goal

pub returns-clause-cause : goal.returns-clause-cause
returns-clause-cause g c =
    let D = g.D.Desk in
    let made = c.make_of-made in
    let k = command_on_bits (g.M.ChipMaking.rams c.args.making.now) (with_chip c.args.chip.now (files_view c.args.files.now)) c.args.package_name.now (g.M.ChipMaking.stands c.args.making.now) (g.M.ChipMaking.gives c.args.making.now) Aloud in
    (end_is_aloud k (D.seen c.args.desk.now) (D.seen made.new.desk) (D.seen c.end_aloud.new.desk) made.result c.end_aloud.result.cause made.ensures.same (made.ensures.made Aloud) c.end_aloud.ensures.end).is_true

pub returns-clause-said : goal.returns-clause-said
returns-clause-said g c =
    let D = g.D.Desk in
    let made = c.make_of-made in
    let k = command_on_bits (g.M.ChipMaking.rams c.args.making.now) (with_chip c.args.chip.now (files_view c.args.files.now)) c.args.package_name.now (g.M.ChipMaking.stands c.args.making.now) (g.M.ChipMaking.gives c.args.making.now) Aloud in
    (end_is_aloud k (D.seen c.args.desk.now) (D.seen made.new.desk) (D.seen c.end_aloud.new.desk) made.result c.end_aloud.result.cause made.ensures.same (made.ensures.made Aloud) c.end_aloud.ensures.end).said

pub returns-clause-tells : goal.returns-clause-tells
returns-clause-tells g c =
    let D = g.D.Desk in
    let made = c.make_of-made in
    let k = command_on_bits (g.M.ChipMaking.rams c.args.making.now) (with_chip c.args.chip.now (files_view c.args.files.now)) c.args.package_name.now (g.M.ChipMaking.stands c.args.making.now) (g.M.ChipMaking.gives c.args.making.now) Aloud in
    (end_is_aloud k (D.seen c.args.desk.now) (D.seen made.new.desk) (D.seen c.end_aloud.new.desk) made.result c.end_aloud.result.cause made.ensures.same (made.ensures.made Aloud) c.end_aloud.ensures.end).tells
