use Rattle.std.proofs.Common.{◌≡◌, take}
use Rattle.ice_core.specs.Routes.{lists_of, old_wires}
use Rattle.ice_core.proofs.copies.old_routes.Given as goal

abbrev pub invariant-loop-task : goal.invariant-loop-task
invariant-loop-task l = lists_of l.lists.items ≡ old_wires (take l.task-index l.tasks)
