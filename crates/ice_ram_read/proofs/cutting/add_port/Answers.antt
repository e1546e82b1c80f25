use Rattle.std.proofs.Common.{◌∙◌}
use Rattle.std.proofs.lemmas.Result.{on_ok_weaker}
use Rattle.ice_ram_read.proofs.Cuts.{port_added}
use Rattle.ice_ram_read.proofs.cutting.add_port.Goals as goal

pub returns-clause-netlist : goal.returns-clause-netlist
returns-clause-netlist c =
    let n = c.args.netlist.now in
    on_ok_weaker c.add_cover.result
    (λ is. port_added n c.hidden_signal.new.netlist c.port.new.self c.add_cover.new.netlist c.args.ram.now c.args.k c.line.result c.deref.result.now c.in_ok-hidden.hidden c.port_way.result c.in_ok-cover.cover
    c.line.ensures (c.deref.ensures.value ∙ c.in_ok-word.ensures) c.in_ok-hidden.ensures.named c.in_ok-hidden.ensures.signal c.in_ok-cover.ensures c.port_way.ensures c.in_ok-port.ensures.added is)
    c.add_cover.ensures.netlist
