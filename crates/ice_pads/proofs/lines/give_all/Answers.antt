use Rattle.std.proofs.Common.{sym, ap, ◌∙◌}
use Rattle.ice_pads.specs.Closings.{with_first}
use Rattle.ice_pads.specs.Constraints.{with_line, by_port, port_named}
use Rattle.ice_pads.proofs.GivenLines.{given_more}
use Rattle.ice_pads.proofs.lines.give_all.Goals as goal

pub loop-line-preserved : goal.loop-line-preserved
loop-line-preserved c =
    let port = c.port_named-port.ensures ∙ ap (port_named (with_first c.args.outer.now.first c.args.outer.now.netlist.now)) c.as_bytes.ensures in
    record {
      kept = c.in_ok-give_line.ensures.kept;
      left = given_more c.args.chip.now c.args.pins.now.entries (with_first c.args.outer.now.first c.args.outer.now.netlist.now) c.args.wants.now c.args.lines.now c.loop-line.line-index c.line-item.result c.loop-line.tables.given.items c.give_line.new.tables.given.items _ c.loop-line-test.true
          (sym (ap (with_line c.args.chip.now c.args.pins.now.entries (with_first c.args.outer.now.first c.args.outer.now.netlist.now) c.args.wants.now c.loop-line.tables.given.items) c.line-item.is)
          ∙ sym (ap (by_port c.args.chip.now c.args.pins.now.entries (with_first c.args.outer.now.first c.args.outer.now.netlist.now) c.args.wants.now c.loop-line.tables.given.items c.line-item.result) port)
          ∙ c.in_ok-give_line.ensures.given)
          c.loop-line.invariant.left;
    }
