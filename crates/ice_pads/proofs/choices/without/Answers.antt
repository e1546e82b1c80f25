use Rattle.std.proofs.Common.{◌==◌, not, sym, ap, ◌∙◌, ne_eqb, eq-eqb}
use Rattle.ice_pads.specs.Globals.{without}
use Rattle.ice_pads.proofs.Turns.{kept, left_out, all_filtered}
use Rattle.ice_pads.proofs.choices.without.Goals.{then-other-number+in_ok-push, else-other-number}
use Rattle.ice_pads.proofs.choices.without.Goals as goal

pub loop-other-preserved : goal.loop-other-preserved
loop-other-preserved c =
    elim c.if-other-number.branch [
      | then-other-number+in_ok-push w ↦
          kept (λ m. not (m == c.in-Some.number)) c.args.free.now c.loop-other.other-index _ c.loop-other.rest.items c.if-other-number.rest.items _ c.loop-other-test.true
          (ap not (ne_eqb _ c.in-Some.number w.if-other-number.true)) c.loop-other.invariant (ap (λ v. v.items) w.rest-is ∙ w.in_ok-push.ensures.items)
      | else-other-number w ↦
          left_out (λ m. not (m == c.in-Some.number)) c.args.free.now c.loop-other.other-index _ c.loop-other.rest.items c.if-other-number.rest.items _ c.loop-other-test.true
          (ap not (eq-eqb _ c.in-Some.number w.if-other-number.false)) c.loop-other.invariant (ap (λ v. v.items) w.rest-is)
    ]

pub returns : goal.returns
returns c =
    all_filtered (λ m. not (m == c.in-Some.number)) c.args.free.now c.loop-other.other-index c.loop-other.rest.items _ c.loop-other-test.false c.loop-other.invariant
    ∙ sym (ap (λ n. without n c.args.free.now) c.in-Some.is)
