use Rattle.std.proofs.Common.{sym, subst}
use Rattle.std.proofs.lemmas.Option.{none-some}
use Rattle.ice_flow_words.specs.Views.{request_view}
use Rattle.ice_flow_words.specs.declared.request.Request.{Request}
use Rattle.ice_flow.specs.Ends.{IsDoneAs}
use Rattle.ice_flow.proofs.top_call.do_request.Goals as goal

pub returns-in-Build-clause-done : goal.returns-in-Build-clause-done
returns-in-Build-clause-done g c =
    let D = g.D.Desk in
    let e = c.build_files.ensures in
    subst (λ (r : Request). IsDoneAs (request_view r) (D.seen c.args.desk.now) (D.seen c.build_files.new.desk) c.build_files.result) (sym c.in-Build.is) (record {
      status = e.status;
      end_is = record { is_true = e.cause; tells = e.tells; said = e.said; kept = e.kept; made = e.made; silent = e.silent; parted = e.parted };
      long = e.given;
    })

pub returns-in-Back-clause-done : goal.returns-in-Back-clause-done
returns-in-Back-clause-done g c =
    let D = g.D.Desk in
    let e = c.back_files.ensures in
    subst (λ (r : Request). IsDoneAs (request_view r) (D.seen c.args.desk.now) (D.seen c.back_files.new.desk) c.back_files.result) (sym c.in-Back.is) (record {
      status = e.status;
      end_is = record { is_true = e.cause; tells = e.tells; said = e.said; kept = e.kept; made = e.made; silent = e.silent; parted = λ file is. absurd (none-some file is) };
      long = e.given;
    })

pub returns-in-Sample-clause-done : goal.returns-in-Sample-clause-done
returns-in-Sample-clause-done g c =
    let D = g.D.Desk in
    let e = c.sample.ensures in
    subst (λ (r : Request). IsDoneAs (request_view r) (D.seen c.args.desk.now) (D.seen c.sample.new.desk) c.sample.result) (sym c.in-Sample.is) (record {
      status = e.status;
      end_is = record { is_true = e.cause; tells = e.tells; said = e.said; kept = e.kept; made = e.made; silent = tt; parted = λ file is. absurd (none-some file is) };
      long = tt;
    })
