use Rattle.std.proofs.Common.{◌≡◌, ◌++◌, [], sym, subst, arith}
use Rattle.std.proofs.lemmas.List.{nil_from_length}
use Rattle.std.proofs.lemmas.Bool.Decides.{nat_tests}
use Rattle.ice_base.specs.Lines.{text_of_lines}
use Rattle.ice_sample.specs.Groups.{groups_from, carry_groups}
use Rattle.ice_sample.proofs.Numbering.{nothing_more}
use Rattle.ice_sample.proofs.pins.put_carry_of.Goals as goal

pub returns-then-is_empty : goal.returns-then-is_empty
returns-then-is_empty c =
    let t = c.args.tile in
    let text = c.args.text.now.items in
    let none : c.args.carries.now ≡ [] = nil_from_length c.args.carries.now (grind (arith, nat_tests)) in
    subst (λ carries. text ≡ text ++ text_of_lines (groups_from t.kind t.at c.args.bit (carry_groups c.args.first carries))) (sym none) (nothing_more text)
