use Rattle.std.proofs.Common.{◌≡◌, drop}
use Rattle.ice_pads.specs.Closings.{with_first}
use Rattle.ice_pads.specs.Constraints.{given_by}
use Rattle.ice_pads.specs.Tables.{AreKept}
use Rattle.ice_pads.proofs.lines.give_all.Given as goal

abbrev pub invariant-loop-line : goal.invariant-loop-line
invariant-loop-line l = record {
  kept : AreKept l.tables;
  left : given_by l.chip l.pins.entries (with_first l.fn.outer.first l.fn.outer.netlist.now) l.wants l.tables.given.items (drop l.line-index l.lines) ≡ given_by l.chip l.pins.entries (with_first l.fn.outer.first l.fn.outer.netlist.now) l.wants l.fn.tables.given.items l.lines;
}
