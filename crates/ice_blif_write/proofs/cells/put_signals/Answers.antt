use Rattle.std.proofs.Common.{None, ◌++◌, ap, arith, sym, ◌∙◌, append-nil}
use Rattle.std.specs.List.{flat_map}
use Rattle.ice_blif_write.specs.Text.{behind_space, signal_words}
use Rattle.ice_blif_write.proofs.Joining.{signals_step, signal_put}
use Rattle.ice_blif_write.proofs.cells.put_signals.Goals as goal
use Rattle.ice_blif_write.proofs.cells.put_signals.Goals.{in-Some+in_ok-put_word, in_default}

pub loop-signal-preserved : goal.loop-signal-preserved
loop-signal-preserved c =
    signals_step c.args.netlist.now.names c.args.signals.now c.loop-signal.signal-index None c.args.out.now.items c.loop-signal.out.items c.match-signal.out.items (omega arith) c.loop-signal.invariant
    (elim c.match-signal.branch [
      | in-Some+in_ok-put_word w ↦
          signal_put c.args.netlist.now.names _ w.in-Some.signal w.name.result.now c.loop-signal.out.items c.match-signal.out.items w.in-Some.is (c.requires c.loop-signal.signal-index None (omega arith))
          w.name.ensures (ap (λ out. out.items) w.out-is ∙ w.in_ok-put_word.ensures)
      | in_default w ↦
          ap (λ out. out.items) w.out-is ∙ sym (append-nil c.loop-signal.out.items)
          ∙ ap (λ signal. c.loop-signal.out.items ++ flat_map behind_space (signal_words c.args.netlist.now.names signal)) (sym w.in_default.is)
    ])
