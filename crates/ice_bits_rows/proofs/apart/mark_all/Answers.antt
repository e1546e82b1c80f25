use Rattle.std.proofs.Common.{◌≡◌, ◌+◌, ◌++◌, [], ◌∷◌, true, false, take, get_or, sym, subst, ◌∙◌}
use Rattle.std.proofs.lemmas.List.{take_more}
use Rattle.ice_base.proofs.Booleans.{not_true}
use Rattle.ice_base.specs.declared.bit.BitAt.{BitAt}
use Rattle.ice_bits_rows.specs.Apart.{AreFresh, Marks, is_marked}
use Rattle.ice_bits_rows.specs.Owners.{is_within}
use Rattle.ice_bits_rows.proofs.Marking.{marks_none, marks_more, fresh_none, fresh_more, within_at}
use Rattle.ice_bits_rows.proofs.apart.mark_all.Goals as goal

abbrev none : BitAt
none = record { row = 0; col = 0 }

pub loop-bit-init : goal.loop-bit-init
loop-bit-init c = record { marks = marks_none c.args.marks.now.items; fresh = fresh_none c.args.marks.now.items }

pub loop-bit-preserved : goal.loop-bit-preserved
loop-bit-preserved c =
    let bits = c.args.bits.now in
    let k = c.loop-bit.bit-index in
    let bit : BitAt = get_or bits k none in
    let within : is_within bit ≡ true = within_at bits k none c.requires.within c.loop-bit-test.true in
    let more : take (k + 1) bits ≡ take k bits ++ bit ∷ [] = take_more bits k none c.loop-bit-test.true in
    let i = c.loop-bit.invariant in
    let new : is_marked c.loop-bit.marks.items bit ≡ false = not_true (is_marked c.loop-bit.marks.items bit) (sym c.mark.ensures.fresh ∙ c.if-not-mark.false) in
    record {
      marks = subst (λ xs. Marks xs c.args.marks.now.items c.mark.new.marks.items) (sym more) (marks_more (take k bits) bit c.args.marks.now.items c.loop-bit.marks.items c.mark.new.marks.items i.marks within c.requires.long c.mark.ensures.marks);
      fresh = subst (λ xs. AreFresh c.args.marks.now.items xs) (sym more) (fresh_more (take k bits) bit c.args.marks.now.items c.loop-bit.marks.items i.marks i.fresh within new);
    }
