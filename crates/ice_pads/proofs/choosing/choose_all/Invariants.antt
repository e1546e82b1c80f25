use Rattle.std.proofs.Common.{◌≡◌, drop}
use Rattle.ice_pads.specs.Closings.{with_first}
use Rattle.ice_pads.specs.Ports.{all_chosen}
use Rattle.ice_pads.specs.Tables.{AreDone}
use Rattle.ice_pads.proofs.choosing.choose_all.Given as goal

abbrev pub invariant-loop-want : goal.invariant-loop-want
invariant-loop-want l = record {
  done : AreDone l.chip l.pads l.tables.given.items l.progress;
  left : all_chosen l.chip l.pads (with_first l.fn.outer.first l.fn.outer.netlist.now) l.tables.given.items l.progress.chosen.items (drop l.want-index l.wants) ≡ all_chosen l.chip l.pads (with_first l.fn.outer.first l.fn.outer.netlist.now) l.tables.given.items l.fn.progress.chosen.items l.wants;
}
