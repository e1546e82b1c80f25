use Rattle.std.proofs.Common.{refl, subst}
use Rattle.ice_chip.specs.Views.{group_view}
use Rattle.ice_bits_rows.specs.Apart.{AreFresh, Marks}
use Rattle.ice_bits_rows.proofs.Marking.{met_apart, met_more}
use Rattle.ice_bits_rows.proofs.apart.meet.Goals as goal

pub returns : goal.returns
returns c = λ fresh groups has.
    let entered = c.in_ok-enter.ensures.entered c.if-not-branch.false groups has in
    let g = group_view c.args.group.now in
    let old = c.enter.new.met in
    let bits = subst (λ bs. AreFresh old.marks.items bs) c.as_slice.ensures (c.mark_all.ensures.fresh fresh) in
    let marks = subst (λ bs. Marks bs old.marks.items c.mark_all.new.marks.items) c.as_slice.ensures (c.mark_all.ensures.marked fresh) in
    (met_apart c.args.chip.now groups old old g entered.0 entered.1 c.requires.bits bits, met_more c.args.chip.now groups old _ g entered.0 entered.1 c.requires.bits bits marks refl refl)
