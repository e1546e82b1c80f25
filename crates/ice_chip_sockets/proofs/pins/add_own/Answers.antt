use Rattle.std.proofs.Common.{◌≡◌, arith}
use Rattle.ice_chip_sockets.proofs.PinLists.{pin_more, pins_whole}
use Rattle.ice_chip_sockets.proofs.pins.add_own.Goals as goal

pub loop-wire-preserved : goal.loop-wire-preserved
loop-wire-preserved c = pin_more c.args.site c.loop-wire.wire c.ram_pin.result c.args.pins.now.items c.loop-wire.pins.items c.push.new.self.items c.ram_pin.ensures c.loop-wire.invariant c.in_ok-push.ensures.items

pub returns : goal.returns
returns c =
    let all : c.loop-wire.wire ≡ 74 = omega (arith, c.loop-wire-test.false, c.loop-wire.auto.wire-end) in
    pins_whole c.args.site c.loop-wire.wire c.args.pins.now.items c.loop-wire.pins.items all c.loop-wire.invariant
