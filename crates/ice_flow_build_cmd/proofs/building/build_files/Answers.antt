use Rattle.ice_flow_frame.proofs.Ended.{told_in_files}
use Rattle.ice_flow_frame.proofs.TextFacts.{still_permitted}
use Rattle.ice_flow_build_cmd.specs.Asked.{outputs_of, parting_of}
use Rattle.ice_flow_words.specs.Views.{build_view}
use Rattle.ice_flow_build_cmd.proofs.BuildLaws.{answers, ends, headline_row}
use Rattle.ice_flow_build_cmd.proofs.building.build_files.Goals as goal

pub give-requires : goal.give-requires
give-requires g c =
    let D = g.D.Desk in
    still_permitted (D.may_write c.args.desk.now) (D.may_write c.make-made.new.desk) (outputs_of (build_view c.args.request.now)) c.make-made.ensures.names_written c.requires.outputs

pub returns-clause-rows : goal.returns-clause-rows
returns-clause-rows g c =
    let D = g.D.Desk in
    let made = c.make-made in
    let end = c.give in
    let b = build_view c.args.request.now in
    let mid = D.seen made.new.desk in
    let new = D.seen end.new.desk in
    let is = ends b (D.seen c.args.desk.now) mid new made.result end.result.cause made.ensures.same made.ensures.made made.ensures.reported end.ensures.end in
    answers b (D.seen c.args.desk.now) new end.result is.is_true end.ensures.status
    (told_in_files (outputs_of b) (parting_of b) mid new made.result end.result.cause made.ensures.given end.ensures.end) is.parted

pub returns-clause-headline : goal.returns-clause-headline
returns-clause-headline g c =
    let D = g.D.Desk in
    let made = c.make-made in
    let end = c.give in
    let b = build_view c.args.request.now in
    let is = ends b (D.seen c.args.desk.now) (D.seen made.new.desk) (D.seen end.new.desk) made.result end.result.cause made.ensures.same made.ensures.made made.ensures.reported end.ensures.end in
    headline_row b (D.seen c.args.desk.now) (D.seen end.new.desk) end.result.cause end.result.status is.is_true end.ensures.status

pub returns-clause-given : goal.returns-clause-given
returns-clause-given g c =
    let D = g.D.Desk in
    let made = c.make-made in
    let end = c.give in
    let b = build_view c.args.request.now in
    told_in_files (outputs_of b) (parting_of b) (D.seen made.new.desk) (D.seen end.new.desk) made.result end.result.cause made.ensures.given end.ensures.end

pub returns-clause-cause : goal.returns-clause-cause
returns-clause-cause g c =
    let D = g.D.Desk in
    let made = c.make-made in
    let end = c.give in
    (ends (build_view c.args.request.now) (D.seen c.args.desk.now) (D.seen made.new.desk) (D.seen end.new.desk) made.result end.result.cause made.ensures.same made.ensures.made made.ensures.reported end.ensures.end).is_true

pub returns-clause-said : goal.returns-clause-said
returns-clause-said g c =
    let D = g.D.Desk in
    let made = c.make-made in
    let end = c.give in
    (ends (build_view c.args.request.now) (D.seen c.args.desk.now) (D.seen made.new.desk) (D.seen end.new.desk) made.result end.result.cause made.ensures.same made.ensures.made made.ensures.reported end.ensures.end).said

pub returns-clause-kept : goal.returns-clause-kept
returns-clause-kept g c =
    let D = g.D.Desk in
    let made = c.make-made in
    let end = c.give in
    (ends (build_view c.args.request.now) (D.seen c.args.desk.now) (D.seen made.new.desk) (D.seen end.new.desk) made.result end.result.cause made.ensures.same made.ensures.made made.ensures.reported end.ensures.end).kept

pub returns-clause-made : goal.returns-clause-made
returns-clause-made g c =
    let D = g.D.Desk in
    let made = c.make-made in
    let end = c.give in
    (ends (build_view c.args.request.now) (D.seen c.args.desk.now) (D.seen made.new.desk) (D.seen end.new.desk) made.result end.result.cause made.ensures.same made.ensures.made made.ensures.reported end.ensures.end).made

pub returns-clause-silent : goal.returns-clause-silent
returns-clause-silent g c =
    let D = g.D.Desk in
    let made = c.make-made in
    let end = c.give in
    (ends (build_view c.args.request.now) (D.seen c.args.desk.now) (D.seen made.new.desk) (D.seen end.new.desk) made.result end.result.cause made.ensures.same made.ensures.made made.ensures.reported end.ensures.end).silent

pub returns-clause-parted : goal.returns-clause-parted
returns-clause-parted g c =
    let D = g.D.Desk in
    let made = c.make-made in
    let end = c.give in
    (ends (build_view c.args.request.now) (D.seen c.args.desk.now) (D.seen made.new.desk) (D.seen end.new.desk) made.result end.result.cause made.ensures.same made.ensures.made made.ensures.reported end.ensures.end).parted

pub returns-clause-tells : goal.returns-clause-tells
returns-clause-tells g c =
    let D = g.D.Desk in
    let made = c.make-made in
    let end = c.give in
    (ends (build_view c.args.request.now) (D.seen c.args.desk.now) (D.seen made.new.desk) (D.seen end.new.desk) made.result end.result.cause made.ensures.same made.ensures.made made.ensures.reported end.ensures.end).tells
