use Rattle.std.proofs.Common.{◌-◌, ◌∷◌, ◌++◌, ap, sym, ◌∙◌, arith}
use Rattle.ice_blif_write.specs.Text.{digits_of}
use Rattle.ice_blif_write.proofs.Joining.{digits_step, put_digit}
use Rattle.ice_blif_write.proofs.words.put_digits.Goals as goal

pub loop-left-preserved : goal.loop-left-preserved
loop-left-preserved c = record {
  few = let le = c.loop-left.invariant.few in omega arith;
  written =
      put_digit (c.args.out.now.items ++ digits_of c.args.width c.args.number) c.loop-left.out.items c.push.new.self.items (digits_of (c.loop-left.left - 1) c.args.number) c.digit.result c.in_ok-push.ensures.items
      (ap (λ d. c.loop-left.out.items ++ d ∷ digits_of (c.loop-left.left - 1) c.args.number) c.digit.ensures
      ∙ ap (λ xs. c.loop-left.out.items ++ xs) (sym (digits_step c.loop-left.left c.args.number c.loop-left-test.true)) ∙ c.loop-left.invariant.written);
}
