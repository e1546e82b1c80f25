use Rattle.std.proofs.Common.{◌≡◌, ℕ, ◌≤◌, ◌++◌, [], ◌∷◌, List, Some, slice_get, length, refl, sym, ap, subst, ◌∙◌}
use Rattle.std.proofs.lemmas.Option.{slice_get_read}
use Rattle.ice_graph.specs.declared.tree.Tree.{Tree}
use Rattle.ice_core.specs.declared.task.Task.{Task}
use Rattle.ice_core.specs.Routes.{numbers, times, wires_of}
use Rattle.ice_path.specs.Room.{AreWires}
use Rattle.ice_words.specs.Views.{with_own, posted}
use Rattle.ice_negotiate_defs.proofs.Wires.{once_times}
use Rattle.ice_worker.specs.Work.{changing, finished_as}
use Rattle.ice_worker.specs.Tasks.{IsTaskOf, KeepsBounds}
use Rattle.ice_worker.specs.Kits.{Stops}
use Rattle.ice_worker.proofs.Working.{hand_opening, old_of, old_within, stops_as, task_at}
use Rattle.ice_worker.proofs.worker.do_task.Goals as goal

pub task_tree-requires-clause-old : goal.task_tree-requires-clause-old
task_tree-requires-clause-old g c =
    let task : Task = c.index-tasks-number.result in
    let old = old_of c.args.hand.now.view.olds c.args.tasks.now c.args.number task c.requires.tasks c.index-tasks-number.is c.requires.number in
    subst (λ (counts : List ℕ). AreWires (length counts) task.old.items) c.requires.counts (old_within c.args.hand.now.view.olds c.args.hand.now.view.counts c.args.number task.old.items (hand_opening c.args.hand.now.view c.args.graph.now c.args.prices.now c.args.tasks.now c.requires.playable c.requires.tasks c.requires.counts) old)

pub task_tree-requires-clause-task : goal.task_tree-requires-clause-task
task_tree-requires-clause-task g c = task_at (IsTaskOf c.args.graph.now) c.args.tasks.now c.args.number c.index-tasks-number.result c.index-tasks-number.is c.requires.number c.requires.playable.wires

pub task_tree-requires-clause-bounded : goal.task_tree-requires-clause-bounded
task_tree-requires-clause-bounded g c = task_at (KeepsBounds c.args.prices.now) c.args.tasks.now c.args.number c.index-tasks-number.result c.index-tasks-number.is c.requires.number c.requires.playable.bounded

pub returns-in-Err-clause-stop : goal.returns-in-Err-clause-stop
returns-in-Err-clause-stop g c =
    let task : Task = c.index-tasks-number.result in
    let at : slice_get c.args.tasks.now c.args.number ≡ Some task = slice_get_read c.args.tasks.now (length c.args.tasks.now) c.args.number task refl c.requires.number c.index-tasks-number.is in
    (subst (Stops c.args.graph.now c.args.tasks.now c.args.number) (sym c.stop_of.ensures) (stops_as c.args.graph.now c.args.tasks.now c.args.number task c.in-Err.stop at c.in-Err.ensures.stop), refl, c.reserve.ensures.items)

pub replace-requires-clause-wires : goal.replace-requires-clause-wires
replace-requires-clause-wires g c = ap numbers c.deref.ensures.value ∙ old_of c.args.hand.now.view.olds c.args.tasks.now c.args.number c.index-tasks-number.result c.requires.tasks c.index-tasks-number.is c.requires.number

pub replace-requires-clause-within : goal.replace-requires-clause-within
replace-requires-clause-within g c =
    old_within c.args.hand.now.view.olds c.args.hand.now.view.counts c.args.number c.deref.result.now (hand_opening c.args.hand.now.view c.args.graph.now c.args.prices.now c.args.tasks.now c.requires.playable c.requires.tasks c.requires.counts)
    (ap numbers c.deref.ensures.value ∙ old_of c.args.hand.now.view.olds c.args.tasks.now c.args.number c.index-tasks-number.result c.requires.tasks c.index-tasks-number.is c.requires.number)

pub replace-requires-clause-once : goal.replace-requires-clause-once
replace-requires-clause-once g c = λ w. subst (λ ws. times w (numbers ws) ≤ 1) (sym c.deref-2.ensures.value) (once_times c.in-Ok.tree.wires.items c.in-Ok.ensures.apart w)

pub replace-requires-clause-within_new : goal.replace-requires-clause-within_new
replace-requires-clause-within_new g c =
    subst (λ ws. AreWires (length c.args.hand.now.view.counts) ws) (sym c.deref-2.ensures.value)
    (subst (λ n. AreWires n c.in-Ok.tree.wires.items) (sym (ap length c.requires.counts ∙ c.requires.playable.counts)) c.in-Ok.ensures.rooted.within)

pub returns-clause-done : goal.returns-clause-done
returns-clause-done g c =
    let task : Task = c.index-tasks-number.result in
    let at : slice_get c.args.tasks.now c.args.number ≡ Some task = slice_get_read c.args.tasks.now (length c.args.tasks.now) c.args.number task refl c.requires.number c.index-tasks-number.is in
    let old : numbers c.deref.result.now ≡ wires_of c.args.hand.now.view.olds c.args.number = ap numbers c.deref.ensures.value ∙ old_of c.args.hand.now.view.olds c.args.tasks.now c.args.number task c.requires.tasks c.index-tasks-number.is c.requires.number in
    let tree : Tree = c.in-Ok.tree in
    let m : ℕ × Tree = (c.args.number, tree) in (
      m,
      refl,
      record { task = task; at = at; tree = c.in-Ok.ensures.tree; rooted = c.in-Ok.ensures.rooted; once = c.in-Ok.ensures.apart; reached = c.in-Ok.ensures.reached },
      c.replace.ensures.view ∙ (ap (λ ws. posted (with_own (changing (finished_as ws (numbers c.deref-2.result.now))) c.args.hand.now.view)) old
          ∙ ap (λ ws. posted (with_own (changing (finished_as (wires_of c.args.hand.now.view.olds c.args.number) (numbers ws))) c.args.hand.now.view)) c.deref-2.ensures.value),
      c.push_reserved.ensures.items ∙ ap (λ (ms : List (ℕ × Tree)). ms ++ m ∷ []) c.reserve.ensures.items,
    )
