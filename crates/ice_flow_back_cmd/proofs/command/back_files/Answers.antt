use Rattle.std.proofs.Common.{arith}
use Rattle.ice_flow_words.specs.Views.{back_view}
use Rattle.ice_flow_back_cmd.proofs.BackLaws.{answers}
use Rattle.ice_flow_back_cmd.proofs.command.back_files.Goals as goal

pub returns-clause-rows : goal.returns-clause-rows
returns-clause-rows g c =
    let D = g.D.Desk in
    let e = c.write_made_on_chip.ensures in
    answers (back_view c.args.request.now) (D.seen c.args.desk.now) (D.seen c.write_made_on_chip.new.desk) c.write_made_on_chip.result e.cause e.status (e.given (omega arith))
