use Rattle.std.proofs.Common.{◌≡◌, length, drop, sym, ap, ◌∙◌, arith}
use Rattle.std.specs.Prelude.{min}
use Rattle.std.specs.List.{list_any}
use Rattle.std.proofs.lemmas.List.{take_rest}
use Rattle.ice_bits_rows.specs.Plain.{is_above}
use Rattle.ice_bits_rows.proofs.Ascent.{above_passed, above_end}
use Rattle.ice_bits_rows.proofs.plain.is_above.Goals as goal

pub loop-k-preserved : goal.loop-k-preserved
loop-k-preserved c =
    c.loop-k.invariant
    ∙ above_passed c.args.values.now c.args.others.now c.loop-k.k _ _ (omega (arith, c.min-shared.ensures, c.loop-k-test.true)) (omega (arith, c.min-shared.ensures, c.loop-k-test.true)) c.if-values-k.false

pub returns : goal.returns
returns c =
    let shared : c.min-shared.result ≡ min (length c.args.values.now) (length c.args.others.now) = c.min-shared.ensures in
    let same : c.min-shared.result ≡ c.loop-k.k = omega (arith, c.loop-k.auto.k-end, c.loop-k-test.false) in
    c.has_one.ensures
    ∙ ap (list_any (λ v. v)) (take_rest c.args.values.now c.min-shared.result)
    ∙ sym (above_end c.args.values.now c.args.others.now c.min-shared.result (omega (arith, shared)))
    ∙ ap (λ n. is_above (drop n c.args.values.now) (drop n c.args.others.now)) same
    ∙ sym c.loop-k.invariant
