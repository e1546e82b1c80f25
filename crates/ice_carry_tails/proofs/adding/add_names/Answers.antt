use Rattle.std.proofs.Common.{◌≡◌, ◌∙◌, ◌<◌, ◌≤◌, take, arith, rules}
use Rattle.ice_carry_tails.specs.Tails.{tail_names}
use Rattle.ice_net_additions.proofs.Added.{names_more, names_all, names_room}
use Rattle.ice_carry_tails.proofs.Grown.{names_long, name_made, name_there}
use Rattle.ice_carry_tails.proofs.adding.add_names.Goals as goal

pub name-requires : goal.name-requires
name-requires c =
    let n = c.args.netlist.now in
    let lt : c.loop-signal.signal < c.args.count = search rules in
    name_there n c.loop-signal.netlist (take c.loop-signal.signal (tail_names n.names c.args.count)) c.loop-signal.signal c.args.count lt c.requires.few c.loop-signal.invariant

pub signal-requires : goal.signal-requires
signal-requires c =
    let n = c.args.netlist.now in
    let lt : c.loop-signal.signal < c.args.count = search rules in
    let long = names_long n.names c.args.count c.requires.few in
    names_room n c.loop-signal.netlist (tail_names n.names c.args.count) c.loop-signal.signal c.requires.room (omega (arith, lt, long)) c.loop-signal.invariant

pub loop-signal-preserved : goal.loop-signal-preserved
loop-signal-preserved c =
    let n = c.args.netlist.now in
    let lt : c.loop-signal.signal < c.args.count = search rules in
    let long = names_long n.names c.args.count c.requires.few in
    let same : c.deref.result.now ≡ c.in_ok-name.name.items = c.deref.ensures.value in
    names_more n c.loop-signal.netlist c.signal.new.self (tail_names n.names c.args.count) c.loop-signal.signal c.deref.result.now c.requires.room (omega (arith, lt, long))
    (name_made n c.loop-signal.netlist c.args.count c.loop-signal.signal c.name.result.now c.deref.result.now lt c.requires.few c.loop-signal.invariant c.name.ensures (same ∙ c.in_ok-name.ensures))
    c.loop-signal.invariant c.in_ok-signal.ensures.appended

pub returns : goal.returns
returns c =
    let n = c.args.netlist.now in
    let le : c.args.count ≤ c.loop-signal.signal = search rules in
    let long = names_long n.names c.args.count c.requires.few in
    names_all n c.loop-signal.netlist (tail_names n.names c.args.count) c.loop-signal.signal (omega (arith, le, long)) c.loop-signal.invariant
