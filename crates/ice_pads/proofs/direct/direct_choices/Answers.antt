use Rattle.std.proofs.Common.{false, None, get_or, ap, ◌∙◌}
use Rattle.ice_pads.specs.declared.want.Buffer.{Buffer}
use Rattle.ice_pads.specs.Globals.{direct_on}
use Rattle.ice_pads.proofs.FirstChoices.{direct_more, all_direct}
use Rattle.ice_pads.proofs.direct.direct_choices.Goals as goal

abbrev nothing : Buffer
nothing = record { pad = None; pins = record { enable = false; reset = false } }

pub loop-buffer-preserved : goal.loop-buffer-preserved
loop-buffer-preserved c =
    let buffer : Buffer = get_or c.args.buffers.now c.loop-buffer.buffer-index nothing in
    direct_more c.args.index.now.chip.now c.args.buffers.now c.loop-buffer.buffer-index nothing c.direct_on-number.result c.loop-buffer.taken.items c.push.new.self.items _ c.loop-buffer-test.true
    (c.direct_on-number.ensures ∙ ap (λ taken. direct_on c.args.index.now.chip.now taken buffer.pins buffer.pad) c.deref.ensures.value)
    c.in_ok-push.ensures.items c.loop-buffer.invariant

pub returns : goal.returns
returns c = all_direct c.args.index.now.chip.now c.args.buffers.now c.loop-buffer.buffer-index c.loop-buffer.taken.items _ c.loop-buffer-test.false c.loop-buffer.invariant
