use Rattle.std.proofs.Common.{map, string_bytes}
use Rattle.std.specs.declared.alloc.Global.{Global}
use Rattle.ice_desk.specs.Desk.{Meaning}
use Rattle.ice_flow_words.specs.Views.{request_view}
use Rattle.ice_flow_frame.specs.declared.cause.Cause.TheVariants.{NoMemory}
use Rattle.ice_flow.proofs.RowLaws.{done_so, done_rows_so, forgotten_so, forgotten_rows_so, refusal_told}
use Rattle.ice_flow.proofs.top_call.run.Goals as goal

pub returns-in-Ok-clause-answer : goal.returns-in-Ok-clause-answer
returns-in-Ok-clause-answer g c =
    done_so (map (string_bytes {Z = Global}) c.args.words.now) (request_view c.in-Ok.request) (g.D.Desk.seen c.args.desk.now) (g.D.Desk.seen c.do_request.new.desk) c.do_request.result
    c.in-Ok.ensures.ok c.do_request.ensures.done

pub returns-in-Ok-clause-rows : goal.returns-in-Ok-clause-rows
returns-in-Ok-clause-rows g c =
    done_rows_so (map (string_bytes {Z = Global}) c.args.words.now) (request_view c.in-Ok.request) (g.D.Desk.seen c.args.desk.now) (g.D.Desk.seen c.do_request.new.desk) c.do_request.result
    c.in-Ok.ensures.ok c.do_request.ensures.done

pub returns-in-Err-NoMemory-clause-answer : goal.returns-in-Err-NoMemory-clause-answer
returns-in-Err-NoMemory-clause-answer g c =
    let end = c.finish-in-Err-NoMemory.ensures in
    let old : Meaning = g.D.Desk.seen c.args.desk.now in
    let new : Meaning = g.D.Desk.seen c.finish-in-Err-NoMemory.new.desk in
    forgotten_so (map (string_bytes {Z = Global}) c.args.words.now) old new c.finish-in-Err-NoMemory.result
    (refusal_told NoMemory old new c.finish-in-Err-NoMemory.result end.cause end.status end.same end.said end.silent)

pub returns-in-Err-NoMemory-clause-rows : goal.returns-in-Err-NoMemory-clause-rows
returns-in-Err-NoMemory-clause-rows g c =
    let end = c.finish-in-Err-NoMemory.ensures in
    let old : Meaning = g.D.Desk.seen c.args.desk.now in
    let new : Meaning = g.D.Desk.seen c.finish-in-Err-NoMemory.new.desk in
    forgotten_rows_so (map (string_bytes {Z = Global}) c.args.words.now) old new c.finish-in-Err-NoMemory.result
    (refusal_told NoMemory old new c.finish-in-Err-NoMemory.result end.cause end.status end.same end.said end.silent)
