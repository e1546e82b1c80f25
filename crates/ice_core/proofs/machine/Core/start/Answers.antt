use Rattle.std.proofs.Common.{length}
use Rattle.std.proofs.lemmas.List.{length-map}
use Rattle.ice_core.specs.declared.task.Task.{Task}
use Rattle.ice_core.specs.Routes.{numbers, lists_of, old_wires, tree_wires}
use Rattle.ice_core.proofs.Stepping.{start_program}
use Rattle.ice_core.proofs.machine.Core.start.Goals as goal

pub invariant_of-result : goal.invariant_of-result
invariant_of-result c =
    let tasks = c.args.tasks.now in
    let many = length-map tasks (λ (t : Task). numbers t.old.items) in
    (start_program (old_wires tasks) (tree_wires c.args.news.now) (lists_of c.in_ok-olds.olds.items) (lists_of c.in_ok-news.news.items) c.args.counts.now c.in_ok-counts_of.field-0.items (length tasks) c.args.workers c.in_ok-all.all.items c.in_ok-olds.ensures c.in_ok-news.ensures c.in_ok-counts_of.ensures many
    c.requires.opening c.requires.news c.in_ok-all.ensures.long c.requires.workers.1 c.in_ok-all.ensures.each).0

pub returns-clause-start : goal.returns-clause-start
returns-clause-start c =
    let tasks = c.args.tasks.now in
    let many = length-map tasks (λ (t : Task). numbers t.old.items) in
    (start_program (old_wires tasks) (tree_wires c.args.news.now) (lists_of c.in_ok-olds.olds.items) (lists_of c.in_ok-news.news.items) c.args.counts.now c.in_ok-counts_of.field-0.items (length tasks) c.args.workers c.in_ok-all.all.items c.in_ok-olds.ensures c.in_ok-news.ensures c.in_ok-counts_of.ensures many
    c.requires.opening c.requires.news c.in_ok-all.ensures.long c.requires.workers.1 c.in_ok-all.ensures.each).1
