use Rattle.std.proofs.Common.{◌≡◌, ◌+◌, ◌*◌, ◌++◌, length, drop, ap, sym, ◌∙◌, arith}
use Rattle.std.specs.List.{flat_map}
use Rattle.ice_bits.specs.Configuration.{bits_of}
use Rattle.ice_decode.specs.Pads.{pad_stores}
use Rattle.ice_sim.specs.Layouts.{keepers_from}
use Rattle.ice_sim.proofs.StoreSteps.{feeds_more, keepers_more}
use Rattle.ice_sim.proofs.chip_registers.add_registers.Goals as goal

pub loop-number-preserved : goal.loop-number-preserved
loop-number-preserved c =
    let place : c.in_ok-place.place ≡ c.args.first + 2 * c.loop-number.number = (let e = c.in_ok-place.ensures in let f = c.in_ok-number.ensures in omega arith) in (
      feeds_more c.args.configured.now.parts (bits_of c.args.configured.now.configuration) c.args.configured.now.bonded c.args.slots.now pad_stores _ _ c.loop-number.feeds.items c.add_registers_of.new.feeds.items c.args.pads.now c.loop-number.number (omega arith) c.loop-number.invariant.0
          c.in_ok-add_registers_of.ensures.feeds,
      keepers_more c.args.configured.now.parts (bits_of c.args.configured.now.configuration) c.args.configured.now.bonded c.args.slots.now pad_stores _ _ c.loop-number.keepers.items c.add_registers_of.new.keepers.items c.loop-number.feeds.items c.add_registers_of.new.feeds.items c.args.pads.now
          c.loop-number.number c.in_ok-place.place (c.args.first + 2 * (c.loop-number.number + 1)) (omega arith)
          (c.loop-number.invariant.1
          ∙ ap (λ k. c.loop-number.keepers.items ++ keepers_from c.args.configured.now.parts (bits_of c.args.configured.now.configuration) c.args.configured.now.bonded c.args.slots.now k (length c.loop-number.feeds.items) (flat_map pad_stores (drop c.loop-number.number c.args.pads.now))) (sym place))
          c.in_ok-add_registers_of.ensures.feeds c.in_ok-add_registers_of.ensures.keepers (omega arith),
    )
