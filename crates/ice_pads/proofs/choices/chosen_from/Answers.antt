use Rattle.std.proofs.Common.{get_or, false, ap, ap₂, ◌∙◌}
use Rattle.std.proofs.lemmas.Result.{IfOk-weaker}
use Rattle.ice_pads.specs.Globals.{choice, without, other_choices}
use Rattle.ice_pads.proofs.FirstChoices.{chosen_more, all_chosen}
use Rattle.ice_pads.proofs.choices.chosen_from.Goals as goal

pub loop-buffer-preserved : goal.loop-buffer-preserved
loop-buffer-preserved c =
    chosen_more c.args.index.now.chip.now c.args.pins.now c.loop-buffer.buffer-index (record { enable = false; reset = false }) c.choice-number.result c.loop-buffer.taken.items c.push.new.self.items c.loop-buffer.free.items c.in_ok-free.free.items _ c.loop-buffer-test.true
    (c.choice-number.ensures ∙ ap (choice c.args.index.now.chip.now (get_or c.args.pins.now c.loop-buffer.buffer-index (record { enable = false; reset = false }))) c.deref.ensures.value)
    c.in_ok-push.ensures.items
    (c.in_ok-free.ensures ∙ ap (without c.choice-number.result) c.deref-in-loop-buffer.ensures.value)
    c.loop-buffer.invariant

pub returns : goal.returns
returns c =
    IfOk-weaker c.other_choices.result _ _
    (λ globals is. is ∙ ap₂ other_choices c.deref-2.ensures.value c.deref-3.ensures.value
    ∙ all_chosen c.args.index.now.chip.now c.args.pins.now c.loop-buffer.buffer-index c.loop-buffer.taken.items c.loop-buffer.free.items c.args.free.items c.loop-buffer-test.false c.loop-buffer.invariant)
    c.other_choices.ensures
