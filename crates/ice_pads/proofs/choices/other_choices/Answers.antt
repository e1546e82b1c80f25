use Rattle.std.proofs.Common.{◌+◌, ◌∷◌, drop, get_or, sym, ap, ap₂, ◌∙◌}
use Rattle.std.proofs.lemmas.List.{drop_more, drop_all}
use Rattle.ice_pads.specs.Globals.{other_choices}
use Rattle.ice_pads.proofs.FirstChoices.{other_more}
use Rattle.ice_pads.proofs.choices.other_choices.Goals.{in-Some+in_ok-push, in_default+then-next-free+in_ok-push-2, in_default+else-next-free+in_ok-push-3}
use Rattle.ice_pads.proofs.choices.other_choices.Goals as goal

pub loop-number-preserved : goal.loop-number-preserved
loop-number-preserved c =
    let rest = drop (c.loop-number.number-index + 1) c.args.taken.now in
    let free = drop c.loop-number.next c.args.free.now in
    elim c.match-number.branch [
      | in-Some+in_ok-push w ↦
          other_more c.args.taken.now c.loop-number.number-index _ w.in-Some.number free _ c.loop-number.globals.items c.match-number.globals.items _ c.loop-number-test.true
          (ap (λ o. other_choices (o ∷ rest) free) w.in-Some.is ∙ ap (λ k. w.in-Some.number ∷ other_choices rest (drop k c.args.free.now)) (sym w.next-is))
          (ap (λ v. v.items) w.globals-is ∙ w.in_ok-push.ensures.items) c.loop-number.invariant
      | in_default+then-next-free+in_ok-push-2 w ↦
          other_more c.args.taken.now c.loop-number.number-index _ (get_or c.args.free.now c.loop-number.next 0) free _ c.loop-number.globals.items c.match-number.globals.items _ c.loop-number-test.true
          (ap₂ (λ o numbers. other_choices (o ∷ rest) numbers) w.in_default.is (drop_more c.args.free.now c.loop-number.next 0 w.if-next-free.true)
          ∙ ap (λ k. get_or c.args.free.now c.loop-number.next 0 ∷ other_choices rest (drop k c.args.free.now)) (sym w.next-is))
          (ap (λ v. v.items) w.globals-is ∙ w.in_ok-push-2.ensures.items) c.loop-number.invariant
      | in_default+else-next-free+in_ok-push-3 w ↦
          let none = drop_all c.loop-number.next c.args.free.now w.if-next-free.false in
          other_more c.args.taken.now c.loop-number.number-index _ 0 free _ c.loop-number.globals.items c.match-number.globals.items _ c.loop-number-test.true
          (ap₂ (λ o numbers. other_choices (o ∷ rest) numbers) w.in_default.is none
          ∙ ap (λ numbers. 0 ∷ other_choices rest numbers) (sym none) ∙ ap (λ k. 0 ∷ other_choices rest (drop k c.args.free.now)) (sym w.next-is))
          (ap (λ v. v.items) w.globals-is ∙ w.in_ok-push-3.ensures.items) c.loop-number.invariant
    ]
