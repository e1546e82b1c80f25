use Rattle.std.proofs.Common.{List, [], ◌∷◌, ℕ, subst}
use Rattle.ice_desk.specs.Said.{IsSaid}
use Rattle.ice_flow_frame.specs.Causes.{joined}
use Rattle.ice_desk.proofs.Saying.{said_both, whole}
use Rattle.ice_flow_frame.proofs.PieceTexts.{joined_pair}
use Rattle.ice_flow_frame.proofs.say.say_named.Goals as goal

pub returns-clause-said : goal.returns-clause-said
returns-clause-said g c =
    let D = g.D.Desk in
    let old = D.seen c.args.desk.now in
    let mid = D.seen c.say_all.new.desk in
    let new = D.seen c.say_all-2.new.desk in
    said_both old mid new c.args.head.now c.args.name.now (joined (c.args.head.now ∷ c.args.name.now ∷ [])) c.say_all-2.result (joined_pair c.args.head.now c.args.name.now) c.say_all.ensures.same.tells
    (whole old mid c.args.head.now c.say_all.result c.if-not-say_all.false c.say_all.ensures.said)
    (subst (λ (xs : List ℕ). IsSaid mid new xs c.say_all-2.result) c.as_bytes.ensures c.say_all-2.ensures.said)
