use Rattle.std.proofs.Common.{◌≡◌, take}
use Rattle.ice_core.specs.Routes.{numbers}
use Rattle.ice_words.specs.Views.{with_own, posted}
use Rattle.ice_words.specs.Grips.{IsHandOf}
use Rattle.ice_worker.specs.Work.{changing, held_as}
use Rattle.ice_worker.proofs.steps.hold_all.Given as goal

abbrev pub invariant-loop-wire : goal.invariant-loop-wire
invariant-loop-wire l = record {
  of : IsHandOf l.words l.hand;
  view : posted l.hand.view ≡ posted (with_own (changing (held_as (take l.wire-index (numbers l.wires)))) l.fn.hand.view);
}
