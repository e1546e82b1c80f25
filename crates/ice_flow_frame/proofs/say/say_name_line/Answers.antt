use Rattle.std.proofs.Common.{codes, [], ◌∷◌}
use Rattle.ice_flow_frame.specs.Causes.{joined, named_line}
use Rattle.ice_desk.proofs.Saying.{said_both, whole}
use Rattle.ice_flow_frame.proofs.PieceTexts.{joined_third}
use Rattle.ice_flow_frame.proofs.say.say_name_line.Goals as goal

pub returns-clause-said : goal.returns-clause-said
returns-clause-said g c =
    let D = g.D.Desk in
    let old = D.seen c.args.desk.now in
    let mid = D.seen c.say_named.new.desk in
    let new = D.seen c.say_all.new.desk in
    let front = joined (c.args.head.now ∷ c.args.name.now ∷ []) in
    said_both old mid new front (codes "\n") (named_line c.args.head.now c.args.name.now) c.say_all.result (joined_third c.args.head.now c.args.name.now (codes "\n")) c.say_named.ensures.same.tells
    (whole old mid front c.say_named.result c.if-not-say_named.false c.say_named.ensures.said) c.say_all.ensures.said
