use Rattle.std.proofs.Common.{ℕ, length, sym, subst, ap, ◌∙◌}
use Rattle.ice_chip.specs.declared.uses.KindBit.{KindBit}
use Rattle.ice_chip_build.specs.Marks.{LeaveTo, with_mark}
use Rattle.ice_chip_build.proofs.MarkLaws.{long_with, marks_next}
use Rattle.ice_chip_build.proofs.marks.marks_of.Goals as goal

pub loop-place-preserved : goal.loop-place-preserved
loop-place-preserved c =
    let marks = c.loop-place.marks.items in
    let lines = c.args.lines.now.entries in
    let e : KindBit × ℕ = (c.in-Some.place.now, c.in-Some.field-0-1.now) in
    let i = c.loop-place.invariant in
    let next : LeaveTo c.next.new.self (with_mark marks e.0) lines = marks_next marks lines e c.next.new.self i.2 (subst (λ rest. LeaveTo rest marks lines) c.in-Some.ensures.steps i.3) in
    (tt, tt, ap length c.mark.ensures ∙ long_with marks e.0 ∙ i.2, subst (λ new. LeaveTo c.next.new.self new lines) (sym c.mark.ensures) next)
