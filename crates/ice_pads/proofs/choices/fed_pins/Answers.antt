use Rattle.std.proofs.Common.{false, None, ap, ◌∙◌, arith}
use Rattle.ice_pads.specs.declared.want.Buffer.{Buffer}
use Rattle.ice_pads.proofs.FirstChoices.{fed_kept, fed_skipped, fed_ended}
use Rattle.ice_pads.proofs.choices.fed_pins.Goals.{in-None+in_ok-push-in-None, in-Some}
use Rattle.ice_pads.proofs.choices.fed_pins.Goals as goal

abbrev nothing : Buffer
nothing = record { pad = None; pins = record { enable = false; reset = false } }

pub loop-k-preserved : goal.loop-k-preserved
loop-k-preserved c =
    elim c.match-number.branch [
      | in-None+in_ok-push-in-None w ↦
          fed_kept c.args.direct.now c.args.buffers.now c.loop-k.k None nothing c.loop-k.pins.items c.match-number.pins.items _ (omega arith) (omega arith) w.in-None.is
          (ap (λ v. v.items) w.pins-is ∙ w.in_ok-push-in-None.ensures.items) c.loop-k.invariant
      | in-Some w ↦
          fed_skipped c.args.direct.now c.args.buffers.now c.loop-k.k None nothing _ c.loop-k.pins.items c.match-number.pins.items _ (omega arith) (omega arith) w.in-Some.is (ap (λ v. v.items) w.pins-is) c.loop-k.invariant
    ]

pub returns : goal.returns
returns c = fed_ended c.args.direct.now c.args.buffers.now c.loop-k.k c.loop-k.pins.items _ (omega arith) c.loop-k.invariant
