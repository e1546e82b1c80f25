use Rattle.std.proofs.Common.{◌≡◌, ◌≤◌, ◌+◌, ℕ, List, [], length, sym, subst, rules}
use Rattle.std.specs.Prelude.{reverse}
use Rattle.ice_bits.specs.Configuration.{bits_of}
use Rattle.ice_decode.specs.declared.point.Point.{Point}
use Rattle.ice_decode.specs.Reads.{depends_on}
use Rattle.ice_timing.specs.Arriving.{IsBefore}
use Rattle.ice_timing.specs.Timed.{IsTimedTo}
use Rattle.ice_timing.proofs.Walked.{IsWalked, walk_begins, walk_goes_on, walk_ends_so, walk_there, walk_over, turned}
use Rattle.ice_timing.proofs.longest_path.points_back.Goals as goal

pub loop-step-init : goal.loop-step-init
loop-step-init c = λ long right.
    (let none : c.new-points.result.items ≡ [] = search rules in
    subst (λ (l : List (Point × ℕ)). IsWalked c.args.chip.now (bits_of c.args.circuit.now.configuration) c.args.circuit.now.configuration.extras c.args.delays.now c.args.circuit.now.order c.args.last long 0 c.args.last (reverse l)) (sym none)
    (walk_begins c.args.chip.now (bits_of c.args.circuit.now.configuration) c.args.circuit.now.configuration.extras c.args.delays.now c.args.circuit.now.order c.requires.circuit.ordered c.args.arrivals.now c.requires.arrivals c.args.last long
    c.requires.last right))

pub of-requires : goal.of-requires
of-requires c =
    walk_there c.args.chip.now (bits_of c.args.circuit.now.configuration) c.args.circuit.now.configuration.extras c.args.delays.now c.args.circuit.now.order c.requires.circuit.ordered c.args.arrivals.now c.requires.arrivals c.args.last c.loop-step._step-index c.loop-step.point (reverse c.loop-step.points.items)
    c.requires.last c.loop-step.invariant

pub before-requires-clause-point : goal.before-requires-clause-point
before-requires-clause-point c =
    walk_there c.args.chip.now (bits_of c.args.circuit.now.configuration) c.args.circuit.now.configuration.extras c.args.delays.now c.args.circuit.now.order c.requires.circuit.ordered c.args.arrivals.now c.requires.arrivals c.args.last c.loop-step._step-index c.loop-step.point (reverse c.loop-step.points.items)
    c.requires.last c.loop-step.invariant

pub before-requires-clause-points : goal.before-requires-clause-points
before-requires-clause-points c = c.requires.arrivals.points

pub loop-step-preserved : goal.loop-step-preserved
loop-step-preserved c = λ long right.
    subst (IsWalked c.args.chip.now (bits_of c.args.circuit.now.configuration) c.args.circuit.now.configuration.extras c.args.delays.now c.args.circuit.now.order c.args.last long (c.loop-step._step-index + 1) c.in-Some.before)
    (turned c.loop-step.points.items c.push.new.self.items (c.loop-step.point, c.of.result) c.in_ok-push.ensures.items)
    (walk_goes_on c.args.chip.now (bits_of c.args.circuit.now.configuration) c.args.circuit.now.configuration.extras c.args.delays.now c.args.circuit.now.order c.requires.circuit.ordered c.args.arrivals.now c.requires.arrivals c.args.last long c.loop-step._step-index c.loop-step.point c.in-Some.before c.of.result
    (reverse c.loop-step.points.items) (c.loop-step.invariant long right) c.of.ensures.arrives
    (subst (IsBefore c.args.arrivals.now (depends_on c.args.chip.now (bits_of c.args.circuit.now.configuration) c.args.circuit.now.configuration.extras c.loop-step.point)) c.in-Some.is c.in_ok-before.ensures))

pub returns-in_default : goal.returns-in_default
returns-in_default c =
    subst (IsTimedTo c.args.chip.now (bits_of c.args.circuit.now.configuration) c.args.circuit.now.configuration.extras c.args.delays.now c.args.last)
    (turned c.loop-step.points.items c.push.new.self.items (c.loop-step.point, c.of.result) c.in_ok-push.ensures.items)
    (walk_ends_so c.args.chip.now (bits_of c.args.circuit.now.configuration) c.args.circuit.now.configuration.extras c.args.delays.now c.args.circuit.now.order c.requires.circuit.ordered c.args.arrivals.now c.requires.arrivals c.args.last c.loop-step._step-index c.loop-step.point c.of.result
    (reverse c.loop-step.points.items) c.requires.last c.loop-step.invariant c.of.ensures.arrives
    (subst (IsBefore c.args.arrivals.now (depends_on c.args.chip.now (bits_of c.args.circuit.now.configuration) c.args.circuit.now.configuration.extras c.loop-step.point)) c.in_default.is c.in_ok-before.ensures))

pub returns : goal.returns
returns c =
    walk_over c.args.chip.now (bits_of c.args.circuit.now.configuration) c.args.circuit.now.configuration.extras c.args.delays.now c.args.circuit.now.order c.requires.circuit.ordered c.args.arrivals.now c.requires.arrivals c.args.last c.loop-step._step-index c.loop-step.point (reverse c.loop-step.points.items)
    c.requires.last c.loop-step.invariant (subst (λ (l : List Point). length l ≤ c.loop-step._step-index) c.order-step-items.ensures c.loop-step-test.false)
