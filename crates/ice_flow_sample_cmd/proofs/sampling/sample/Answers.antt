use Rattle.ice_flow_sample_cmd.proofs.SampleLaws.{answers, ends, same}
use Rattle.ice_flow_words.specs.Views.{sample_view}
use Rattle.ice_flow_sample_cmd.proofs.sampling.sample.Goals as goal

pub returns-clause-same : goal.returns-clause-same
returns-clause-same g c =
    let D = g.D.Desk in
    let end = c.end_aloud in
    same (D.seen c.args.desk.now) (D.seen end.new.desk) c.make-made.result end.result.cause end.ensures.end

pub returns-clause-cause : goal.returns-clause-cause
returns-clause-cause g c =
    let D = g.D.Desk in
    let made = c.make-made in
    let end = c.end_aloud in
    (ends (sample_view c.args.request.now) (D.seen c.args.desk.now) (D.seen end.new.desk) made.result end.result.cause made.ensures.made made.ensures.refused end.ensures.end).is_true

pub returns-clause-rows : goal.returns-clause-rows
returns-clause-rows g c =
    let D = g.D.Desk in
    let made = c.make-made in
    let end = c.end_aloud in
    let s = sample_view c.args.request.now in
    let new = D.seen end.new.desk in
    answers s (D.seen c.args.desk.now) new end.result (ends s (D.seen c.args.desk.now) new made.result end.result.cause made.ensures.made made.ensures.refused end.ensures.end).is_true end.ensures.status

pub returns-clause-said : goal.returns-clause-said
returns-clause-said g c =
    let D = g.D.Desk in
    let made = c.make-made in
    let end = c.end_aloud in
    (ends (sample_view c.args.request.now) (D.seen c.args.desk.now) (D.seen end.new.desk) made.result end.result.cause made.ensures.made made.ensures.refused end.ensures.end).said

pub returns-clause-kept : goal.returns-clause-kept
returns-clause-kept g c =
    let D = g.D.Desk in
    let made = c.make-made in
    let end = c.end_aloud in
    (ends (sample_view c.args.request.now) (D.seen c.args.desk.now) (D.seen end.new.desk) made.result end.result.cause made.ensures.made made.ensures.refused end.ensures.end).kept

pub returns-clause-made : goal.returns-clause-made
returns-clause-made g c =
    let D = g.D.Desk in
    let made = c.make-made in
    let end = c.end_aloud in
    (ends (sample_view c.args.request.now) (D.seen c.args.desk.now) (D.seen end.new.desk) made.result end.result.cause made.ensures.made made.ensures.refused end.ensures.end).made

pub returns-clause-tells : goal.returns-clause-tells
returns-clause-tells g c =
    let D = g.D.Desk in
    let end = c.end_aloud in
    (same (D.seen c.args.desk.now) (D.seen end.new.desk) c.make-made.result end.result.cause end.ensures.end).tells
