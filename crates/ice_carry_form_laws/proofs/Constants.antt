-- The cells of constants that must be driven.
use Rattle.std.proofs.Common.{◌≡◌, ℕ, ◌+◌, Bool, true, false, Some, List, [], ◌∷◌, ◌++◌, length, map, refl, sym, ap, ◌∙◌, subst, length-append, arith}
use Rattle.std.proofs.lemmas.List.{length-map}
use Rattle.ice_base_values.specs.Order.{At}
use Rattle.ice_base_values.proofs.Members.{At_left, At_right}
use Rattle.ice_net.specs.NetlistData.{NetlistData}
use Rattle.ice_cells.specs.declared.cell.LogicCell.{LogicCell}
use Rattle.ice_cells.specs.Homes.{openers}
use Rattle.ice_cells.specs.Origins.{origins}
use Rattle.ice_cells.specs.Packed.{PackPlan, plan_of, packed, cell_of, constant_cell, constant_if, needs_zero, needs_one, one_if}
use Rattle.ice_cells.specs.Uses.{bare_outputs}
use Rattle.ice_carry_form_laws.specs.Constants.{ConstantsAreMade}

first_of : (needed level : Bool) → needed ≡ true → At (constant_if needed level) 0 (constant_cell level)
first_of true level e = refl
first_of false level e = cc e

long : (needed level : Bool) → length (constant_if needed level) ≡ one_if needed
long true level = refl
long false level = refl

plus : (a b c : ℕ) → a ≡ b → a + 0 ≡ b
plus a b c e = omega arith

both : (a b c d : ℕ) → a ≡ b → c ≡ d → (a + c) + 0 ≡ b + d
both a b c d e f = omega arith

module _ (n : NetlistData) where
  abbrev p : PackPlan
  p = plan_of n

  abbrev opened : List LogicCell
  opened = map (cell_of p n.cells) (openers p.facts)

  abbrev zeros : List LogicCell
  zeros = constant_if (needs_zero (origins n) n.cells) false

  abbrev ones : List LogicCell
  ones = constant_if (needs_one (origins n) n.cells (bare_outputs n)) true

  count : length opened ≡ length (openers p.facts)
  count = length-map (openers p.facts) (cell_of p n.cells)

  pub made : ConstantsAreMade n
  made = record {
    zero = λ e. At_left (opened ++ zeros) ones p.zero (constant_cell false)
        (subst (λ i. At (opened ++ zeros) i (constant_cell false)) (plus (length opened) p.zero 0 count)
        (At_right opened zeros 0 (constant_cell false) (first_of (needs_zero (origins n) n.cells) false e)));
    one = λ e. subst (λ i. At ((opened ++ zeros) ++ ones) i (constant_cell true))
        (ap (λ k. k + 0) (length-append opened zeros) ∙ both (length opened) (length (openers p.facts)) (length zeros) (one_if (needs_zero (origins n) n.cells)) count (long (needs_zero (origins n) n.cells) false))
        (At_right (opened ++ zeros) ones 0 (constant_cell true) (first_of (needs_one (origins n) n.cells (bare_outputs n)) true e));
  }
