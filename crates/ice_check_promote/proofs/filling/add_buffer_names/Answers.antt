use Rattle.std.proofs.Common.{◌≡◌, ◌∙◌, ◌<◌, length, rules}
use Rattle.ice_check_promote.specs.Filling.{buffer_names}
use Rattle.ice_net_additions.proofs.Added.{names_more}
use Rattle.ice_check_promote.proofs.Filled.{name_made, names_long}
use Rattle.ice_check_promote.proofs.filling.add_buffer_names.Goals as goal

pub loop-clock-preserved : goal.loop-clock-preserved
loop-clock-preserved c =
    let n = c.args.netlist.now in
    let lt : c.loop-clock.clock-index < length c.args.clocks.now = search rules in
    let same : c.deref.result.now ≡ c.in_ok-name.name.items = c.deref.ensures.value in
    names_more c.args.made.now c.loop-clock.made c.signal.new.self (buffer_names n c.args.clocks.now) c.loop-clock.clock-index c.deref.result.now c.requires.room
    (names_long n c.args.clocks.now c.loop-clock.clock-index lt)
    (name_made n c.args.clocks.now c.loop-clock.clock-index _ c.name.result.now c.deref.result.now lt c.requires.below c.name.ensures (same ∙ c.in_ok-name.ensures)) c.loop-clock.invariant c.in_ok-signal.ensures.appended
