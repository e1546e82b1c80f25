use Rattle.std.proofs.Common.{rules, ◌≡◌, ◌≢◌, ◌<◌, ◌++◌, ◌∷◌, [], true, false, length}
use Rattle.ice_check_promote.specs.Promoted.{is_promotable}
use Rattle.ice_check_promote.proofs.Chosen.{chosen, then_chosen, then_passed}
use Rattle.ice_check_promote.proofs.choosing.first_promotable.Goals as goal
use Rattle.ice_check_promote.proofs.choosing.first_promotable.Goals.{then-is_promotable+in_ok-push, else-is_promotable}

pub loop-signal-preserved : goal.loop-signal-preserved
loop-signal-preserved c =
    let n = c.args.netlist.now in
    let lt : c.loop-signal.signal < length n.names = search rules in
    let whole = chosen (is_promotable n) c.args.most [] 0 (length n.names) in
    elim c.if-is_promotable.branch [
      | then-is_promotable+in_ok-push w ↦
          let ne : length c.loop-signal.clocks.items ≢ c.args.most = search rules in
          let passes : true ≡ is_promotable n c.loop-signal.signal = search rules in
          let now : c.if-is_promotable.clocks.items ≡ c.loop-signal.clocks.items ++ c.loop-signal.signal ∷ [] = search rules in
          then_chosen (is_promotable n) c.args.most c.loop-signal.signal (length n.names) c.loop-signal.clocks.items c.if-is_promotable.clocks.items whole lt c.loop-signal.invariant.1 ne passes now c.loop-signal.invariant.0
      | else-is_promotable w ↦
          let fails : false ≡ is_promotable n c.loop-signal.signal = search rules in
          let same : c.if-is_promotable.clocks.items ≡ c.loop-signal.clocks.items = search rules in
          rw same (then_passed (is_promotable n) c.args.most c.loop-signal.signal (length n.names) c.loop-signal.clocks.items whole lt fails c.loop-signal.invariant.0, c.loop-signal.invariant.1)
    ]
