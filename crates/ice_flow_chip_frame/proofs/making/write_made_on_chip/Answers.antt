use Rattle.std.proofs.Common.{Result, refl, sym, subst}
use Rattle.ice_flow_frame.specs.declared.cause.Cause.{Cause}
use Rattle.ice_flow_frame.specs.declared.giving.Made.{Made}
use Rattle.ice_flow_frame.specs.Commands.{InFiles}
use Rattle.ice_flow_frame.specs.Ends.{IsMadeOf}
use Rattle.ice_flow_frame.specs.Texts.{files_view}
use Rattle.ice_flow_frame.proofs.Ended.{none_reported, end_is_in_files}
use Rattle.ice_flow_frame.proofs.TextFacts.{still_permitted}
use Rattle.ice_flow_chip_frame.specs.ChipFiles.{with_chip}
use Rattle.ice_flow_chip_frame.specs.Standing.{command_on_bits}
use Rattle.ice_flow_chip_frame.proofs.making.write_made_on_chip.Goals as goal

pub end_in_files-requires-clause-outputs : goal.end_in_files-requires-clause-outputs
end_in_files-requires-clause-outputs g c =
    let D = g.D.Desk in
    still_permitted (D.may_write c.args.desk.now) (D.may_write c.make_of-made.new.desk) (files_view c.args.outputs.now) c.make_of-made.ensures.names_written c.requires.outputs

pub returns-clause-cause : goal.returns-clause-cause
returns-clause-cause g c =
    let D = g.D.Desk in
    let made = c.make_of-made in
    let end = c.end_in_files in
    let outputs = files_view c.args.outputs.now in
    let k = command_on_bits (g.M.ChipMaking.rams c.args.making.now) (with_chip c.args.chip.now (files_view c.args.files.now)) c.args.package_name.now (g.M.ChipMaking.stands c.args.making.now) (g.M.ChipMaking.gives c.args.making.now) (InFiles outputs) in
    (end_is_in_files k outputs (D.seen c.args.desk.now) (D.seen made.new.desk) (D.seen end.new.desk) c.without_report.result end.result.cause made.ensures.same
    (subst (λ (r : Result Made Cause). IsMadeOf k (D.seen c.args.desk.now) (D.seen made.new.desk) r) (sym c.without_report.ensures.same) (made.ensures.made (InFiles outputs)))
    (none_reported k (D.seen c.args.desk.now) c.without_report.result refl c.without_report.ensures.none) end.ensures.end).is_true

pub returns-clause-kept : goal.returns-clause-kept
returns-clause-kept g c =
    let D = g.D.Desk in
    let made = c.make_of-made in
    let end = c.end_in_files in
    let outputs = files_view c.args.outputs.now in
    let k = command_on_bits (g.M.ChipMaking.rams c.args.making.now) (with_chip c.args.chip.now (files_view c.args.files.now)) c.args.package_name.now (g.M.ChipMaking.stands c.args.making.now) (g.M.ChipMaking.gives c.args.making.now) (InFiles outputs) in
    (end_is_in_files k outputs (D.seen c.args.desk.now) (D.seen made.new.desk) (D.seen end.new.desk) c.without_report.result end.result.cause made.ensures.same
    (subst (λ (r : Result Made Cause). IsMadeOf k (D.seen c.args.desk.now) (D.seen made.new.desk) r) (sym c.without_report.ensures.same) (made.ensures.made (InFiles outputs)))
    (none_reported k (D.seen c.args.desk.now) c.without_report.result refl c.without_report.ensures.none) end.ensures.end).kept

pub returns-clause-made : goal.returns-clause-made
returns-clause-made g c =
    let D = g.D.Desk in
    let made = c.make_of-made in
    let end = c.end_in_files in
    let outputs = files_view c.args.outputs.now in
    let k = command_on_bits (g.M.ChipMaking.rams c.args.making.now) (with_chip c.args.chip.now (files_view c.args.files.now)) c.args.package_name.now (g.M.ChipMaking.stands c.args.making.now) (g.M.ChipMaking.gives c.args.making.now) (InFiles outputs) in
    (end_is_in_files k outputs (D.seen c.args.desk.now) (D.seen made.new.desk) (D.seen end.new.desk) c.without_report.result end.result.cause made.ensures.same
    (subst (λ (r : Result Made Cause). IsMadeOf k (D.seen c.args.desk.now) (D.seen made.new.desk) r) (sym c.without_report.ensures.same) (made.ensures.made (InFiles outputs)))
    (none_reported k (D.seen c.args.desk.now) c.without_report.result refl c.without_report.ensures.none) end.ensures.end).made

pub returns-clause-tells : goal.returns-clause-tells
returns-clause-tells g c =
    let D = g.D.Desk in
    let made = c.make_of-made in
    let end = c.end_in_files in
    let outputs = files_view c.args.outputs.now in
    let k = command_on_bits (g.M.ChipMaking.rams c.args.making.now) (with_chip c.args.chip.now (files_view c.args.files.now)) c.args.package_name.now (g.M.ChipMaking.stands c.args.making.now) (g.M.ChipMaking.gives c.args.making.now) (InFiles outputs) in
    (end_is_in_files k outputs (D.seen c.args.desk.now) (D.seen made.new.desk) (D.seen end.new.desk) c.without_report.result end.result.cause made.ensures.same
    (subst (λ (r : Result Made Cause). IsMadeOf k (D.seen c.args.desk.now) (D.seen made.new.desk) r) (sym c.without_report.ensures.same) (made.ensures.made (InFiles outputs)))
    (none_reported k (D.seen c.args.desk.now) c.without_report.result refl c.without_report.ensures.none) end.ensures.end).tells
