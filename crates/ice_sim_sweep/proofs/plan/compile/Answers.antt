use Rattle.std.proofs.Common.{length, ap, ◌∙◌}
use Rattle.ice_sim_sweep.specs.Feeds.{keepers_of}
use Rattle.ice_sim_sweep.proofs.plan.compile.Goals as goal

pub returns : goal.returns
returns c = record {
  order = c.args.order.now;
  formed = c.cells.ensures.formed;
  ordered = c.requires.order;
  wired = c.in_ok-wiring.ensures;
  taps_are = c.in_ok-taps.ensures;
  keepers_are = c.in_ok-keepers.ensures ∙ ap (λ k. keepers_of k 0 c.cells.result.now) c.signals.ensures.count
      ∙ ap (keepers_of (length c.args.netlist.now.names) 0) c.cells.ensures.cells;
}
