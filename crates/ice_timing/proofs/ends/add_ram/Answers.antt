use Rattle.std.proofs.Common.{◌≡◌, arith}
use Rattle.ice_timing.proofs.EntryLists.{ram_more, ram_whole}
use Rattle.ice_timing.proofs.ends.add_ram.Goals as goal

pub loop-wire-preserved : goal.loop-wire-preserved
loop-wire-preserved c =
    ram_more c.args.chip.now c.args.site c.loop-wire.wire c.ram_last.result c.args.entries.now.items c.loop-wire.entries.items c.add_entry.new.entries.items c.ram_last.ensures c.loop-wire.invariant
    c.in_ok-add_entry.ensures

pub returns : goal.returns
returns c =
    let all : c.loop-wire.wire ≡ 76 = omega (arith, c.loop-wire-test.false, c.loop-wire.auto.wire-end) in
    ram_whole c.args.chip.now c.args.site c.loop-wire.wire c.args.entries.now.items c.loop-wire.entries.items all c.loop-wire.invariant
