use Rattle.std.proofs.Common.{◌≡◌, None, length, subst, rules}
use Rattle.ice_base_values.specs.Order.{IsOrder}
use Rattle.ice_net.specs.Meaning.{depends_on}
use Rattle.ice_check.specs.Faults.{undriven, driven_twice}
use Rattle.ice_check.specs.Loops.{IsLoop, IsSearched}
use Rattle.ice_check.proofs.Faulty.{loop_within, ordered_loopless}
use Rattle.ice_check.proofs.checking.check_signals.Goals as goal

pub names_of-requires-clause-signals : goal.names_of-requires-clause-signals
names_of-requires-clause-signals c =
    let n = c.args.netlist.now in
    let told : IsSearched n c.in_ok-order.field-0 = c.in_ok-order.ensures in
    let loop : IsLoop n c.in-Cycle.cycle.items = subst (IsSearched n) c.in-Cycle.is told in
    loop_within n c.in-Cycle.cycle.items c.deref.result.now c.deref.ensures.value loop

pub returns-in-Order-clause-sound : goal.returns-in-Order-clause-sound
returns-in-Order-clause-sound c =
    let n = c.args.netlist.now in
    let driven : undriven n ≡ None = search rules in
    let driven_once : driven_twice n ≡ None = search rules in
    let told : IsSearched n c.in_ok-order.field-0 = c.in_ok-order.ensures in
    let order : IsOrder (length n.names) (depends_on n) c.in-Order.order.items = subst (IsSearched n) c.in-Order.is told in
    record { driven = driven; driven_once = driven_once; loopless = ordered_loopless n c.in-Order.order.items order }
