use Rattle.std.proofs.Common.{sym, ap, ◌∙◌}
use Rattle.std.specs.Prelude.{◌&&◌, ◌||◌}
use Rattle.ice_base.proofs.Booleans.{or_false}
use Rattle.ice_bits_rows.specs.Bundles.{has_bit}
use Rattle.ice_bits_rows.proofs.ForeignBits.{bits_joined}
use Rattle.ice_bits_rows.proofs.foreign.add_function.Goals as goal

pub returns-then-not-is_foreign_of : goal.returns-then-not-is_foreign_of
returns-then-not-is_foreign_of c = λ b.
    sym (ap (λ own. has_bit c.args.bits.now.items b || (own && has_bit c.args.function.now.bits.items b)) (sym c.is_foreign_of.ensures ∙ c.if-not-is_foreign_of.true) ∙ or_false (has_bit c.args.bits.now.items b))

pub returns : goal.returns
returns c = λ b.
    ap (λ xs. has_bit xs b) c.in_ok-extend_from_slice.ensures.items
    ∙ bits_joined c.args.bits.now.items c.as_slice.result.now b
    ∙ ap (λ xs. has_bit c.args.bits.now.items b || has_bit xs b) c.as_slice.ensures
    ∙ ap (λ own. has_bit c.args.bits.now.items b || (own && has_bit c.args.function.now.bits.items b)) (sym (sym c.is_foreign_of.ensures ∙ c.if-not-is_foreign_of.false))
