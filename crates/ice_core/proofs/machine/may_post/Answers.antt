use Rattle.std.proofs.Common.{◌≡◌, Some, length, slice_get, refl}
use Rattle.std.proofs.lemmas.Option.{slice_get_read}
use Rattle.ice_core.specs.declared.progress.Progress.{Progress}
use Rattle.ice_core.specs.Routes.{lists_of}
use Rattle.ice_core.specs.Program.{worker_by}
use Rattle.ice_core.proofs.Stepping.{some_posts, none_posts}
use Rattle.ice_core.proofs.machine.may_post.Goals as goal

pub returns-in-Some : goal.returns-in-Some
returns-in-Some c =
    let ws = c.args.workers.now in
    let p : Progress = c.in-Some._progress.now in
    let at : slice_get ws c.args.worker ≡ Some p = slice_get_read ws (length ws) c.args.worker p refl c.in-Some.ensures.lookup.3.0 c.in-Some.ensures.lookup.1 in
    some_posts (worker_by (lists_of c.args.olds.now) (lists_of c.args.news.now)) ws c.args.worker p at

pub returns-in-None : goal.returns-in-None
returns-in-None c = none_posts (worker_by (lists_of c.args.olds.now) (lists_of c.args.news.now)) c.args.workers.now c.args.worker c.in-None.ensures.lookup.3
