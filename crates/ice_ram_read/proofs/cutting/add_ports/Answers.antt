use Rattle.std.proofs.Common.{◌≡◌, ◌+◌, ◌-◌, sym, ap, ◌∙◌, arith}
use Rattle.ice_net.specs.NetlistData.{NetlistData}
use Rattle.ice_ram_read.specs.ClosedNetlists.{with_ports}
use Rattle.ice_ram_read.proofs.Cuts.{ports_none, ports_more}
use Rattle.ice_ram_read.proofs.cutting.add_ports.Goals as goal

pub loop-k-preserved : goal.loop-k-preserved
loop-k-preserved c =
    let ram = c.args.ram.now in
    let k = c.loop-k.k in
    c.loop-k.invariant
    ∙ ports_more c.loop-k.netlist ram k (omega (arith, c.loop-k-test.true))
    ∙ ap (λ (n : NetlistData). with_ports n ram (k + 1) (74 - (k + 1))) (sym c.in_ok-add_port.ensures.netlist)

pub returns-clause-netlist : goal.returns-clause-netlist
returns-clause-netlist c =
    let ram = c.args.ram.now in
    let k = c.loop-k.k in
    let none : 74 - k ≡ 0 = omega (arith, c.loop-k-test.false) in
    sym (c.loop-k.invariant ∙ ap (λ count. with_ports c.loop-k.netlist ram k count) none ∙ ports_none c.loop-k.netlist ram k)
