use Rattle.std.proofs.Common.{◌≡◌, ◌+◌, ◌-◌, ◌*◌, refl, sym, ap, ◌∙◌, arith, if◌then◌else◌}
use Rattle.std.proofs.Math.Pow.{pow_mono}
use Rattle.ice_net.specs.Meaning.{number_of}
use Rattle.ice_ram.specs.Ports.{taken_at, taken_from}
use Rattle.ice_ram.proofs.PortLists.{number_more, power_more}
use Rattle.ice_ram.proofs.ports.address_at.Goals as goal

pub loop-done-init : goal.loop-done-init
unfolding taken_from
loop-done-init c = record { number = refl; few = omega arith; room = omega arith }

pub loop-done-preserved : goal.loop-done-preserved
loop-done-preserved c =
    let n = c.loop-done.done in
    let k = c.args.k in
    let drives = c.args.drives.now in
    let here : k + (11 - (n + 1)) ≡ k + (10 - n) = omega arith in
    let next : k + (10 - n) + 1 ≡ k + (11 - n) = omega (arith, c.loop-done-test.true) in
    let level = c.digit.ensures.digit ∙ ap (λ b. if b then 1 else 0) c.taken_at.ensures in
    record {
      number =
          ap (λ a. 2 * a + c.digit.result) c.loop-done.invariant.number
          ∙ ap (λ d. 2 * number_of (taken_from drives (k + (11 - n)) n) + d) level
          ∙ ap (λ p. 2 * number_of (taken_from drives p n) + (if taken_at drives (k + (10 - n)) then 1 else 0)) (sym next)
          ∙ sym (number_more drives (k + (10 - n)) n)
          ∙ ap (λ p. number_of (taken_from drives p (n + 1))) (sym here);
      few = let double = power_more n in omega (arith, c.loop-done.invariant.few, c.digit.ensures.few, double);
      room = pow_mono {i = n + 1} {j = 11} (omega (arith, c.loop-done-test.true));
    }

pub returns : goal.returns
returns c =
    let over : c.loop-done.done ≡ 11 = omega arith in
    let first : c.args.k + (11 - 11) ≡ c.args.k = omega arith in
    c.loop-done.invariant.number
    ∙ ap (λ n. number_of (taken_from c.args.drives.now (c.args.k + (11 - n)) n)) over
    ∙ ap (λ k. number_of (taken_from c.args.drives.now k 11)) first
