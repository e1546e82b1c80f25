use Rattle.std.proofs.Common.{codes, [], ◌∷◌, ◌∙◌, true, false}
use Rattle.ice_flow_frame.specs.Causes.{joined, spaced, names_line}
use Rattle.ice_desk.proofs.Saying.{said_both, cut_first, whole, cut}
use Rattle.ice_flow_frame.proofs.PieceTexts.{joined_pair, joined_third}
use Rattle.ice_flow_frame.proofs.say.say_names_line.Goals as goal

pub returns-then-not-say_names-clause-said : goal.returns-then-not-say_names-clause-said
returns-then-not-say_names-clause-said g c =
    let D = g.D.Desk in
    let old = D.seen c.args.desk.now in
    let mid = D.seen c.say_all.new.desk in
    let new = D.seen c.say_names.new.desk in
    let head = c.args.head.now in
    let names = spaced c.args.names.now in
    cut_first old new (joined (head ∷ names ∷ [])) (codes "\n") (names_line head c.args.names.now) (joined_third head names (codes "\n"))
    (said_both old mid new head names (joined (head ∷ names ∷ [])) false (joined_pair head names) c.say_all.ensures.same.tells
    (whole old mid head c.say_all.result c.if-not-say_all.false c.say_all.ensures.said)
    (cut mid new names c.say_names.result c.if-not-say_names.true c.say_names.ensures.said))

pub returns-clause-said : goal.returns-clause-said
returns-clause-said g c =
    let D = g.D.Desk in
    let old = D.seen c.args.desk.now in
    let first = D.seen c.say_all.new.desk in
    let mid = D.seen c.say_names.new.desk in
    let new = D.seen c.say_all-2.new.desk in
    let head = c.args.head.now in
    let names = spaced c.args.names.now in
    said_both old mid new (joined (head ∷ names ∷ [])) (codes "\n") (names_line head c.args.names.now) c.say_all-2.result (joined_third head names (codes "\n")) (c.say_names.ensures.same.tells ∙ c.say_all.ensures.same.tells)
    (said_both old first mid head names (joined (head ∷ names ∷ [])) true (joined_pair head names) c.say_all.ensures.same.tells
    (whole old first head c.say_all.result c.if-not-say_all.false c.say_all.ensures.said)
    (whole first mid names c.say_names.result c.if-not-say_names.false c.say_names.ensures.said))
    c.say_all-2.ensures.said
