-- The derived `==` of control sets, as the definitions name it.
use Rattle.std.proofs.Common.{◌≡◌, Bool, true, false, Option, None, Some, refl, ap, ◌∙◌}
use Rattle.std.specs.Prelude.{◌&&◌}
use Rattle.std.proofs.Math.Path.{fun_ext}
use Rattle.std.proofs.lemmas.Bool.{eqb-true, eq-eqb}
use Rattle.ice_cells.specs.Same.{same_root, same_source, same_level, same_control}
use Rattle.ice_cells.specs.contracts.root.RootPartialEq.TheImpl as roots
use Rattle.ice_cells.specs.contracts.cell.ControlPartialEq.TheImpl as controls
use Rattle.ice_cells.specs.declared.root.Root.{Root}
use Rattle.ice_cells.specs.declared.root.Root.TheVariants.{PadIn, CellOut, GlobalOut, CarryOut}
use Rattle.ice_cells.specs.declared.cell.Control.{Control}
use Rattle.std.specs.Option.{option_eq}
use mathlib.Core.Bool.{beq}

roots_equal : (a b : Root) → (roots.eq-value).it a b ≡ same_root a b
roots_equal (PadIn j) (PadIn k) = refl
roots_equal (PadIn j) (CellOut k) = refl
roots_equal (PadIn j) (GlobalOut k) = refl
roots_equal (PadIn j) (CarryOut k) = refl
roots_equal (CellOut j) (PadIn k) = refl
roots_equal (CellOut j) (CellOut k) = refl
roots_equal (CellOut j) (GlobalOut k) = refl
roots_equal (CellOut j) (CarryOut k) = refl
roots_equal (GlobalOut j) (PadIn k) = refl
roots_equal (GlobalOut j) (CellOut k) = refl
roots_equal (GlobalOut j) (GlobalOut k) = refl
roots_equal (GlobalOut j) (CarryOut k) = refl
roots_equal (CarryOut j) (PadIn k) = refl
roots_equal (CarryOut j) (CellOut k) = refl
roots_equal (CarryOut j) (GlobalOut k) = refl
roots_equal (CarryOut j) (CarryOut k) = refl

sources_equal : (a b : Option Root) → option_eq (roots.eq-value).it a b ≡ same_source a b
sources_equal None None = refl
sources_equal None (Some b) = refl
sources_equal (Some a) None = refl
sources_equal (Some a) (Some b) = roots_equal a b

levels_equal : (a b : Bool) → beq a b ≡ same_level a b
levels_equal false false = refl
levels_equal false true = refl
levels_equal true false = refl
levels_equal true true = refl

controls_at : (a b : Control) → (controls.eq-value).it a b ≡ same_control a b
controls_at a b =
    ap (λ x. x && (beq a.falling b.falling && (option_eq (roots.eq-value).it a.enable b.enable && option_eq (roots.eq-value).it a.reset b.reset))) (sources_equal a.clock b.clock)
    ∙ ap (λ x. same_source a.clock b.clock && (x && (option_eq (roots.eq-value).it a.enable b.enable && option_eq (roots.eq-value).it a.reset b.reset))) (levels_equal a.falling b.falling)
    ∙ ap (λ x. same_source a.clock b.clock && (same_level a.falling b.falling && (x && option_eq (roots.eq-value).it a.reset b.reset))) (sources_equal a.enable b.enable)
    ∙ ap (λ x. same_source a.clock b.clock && (same_level a.falling b.falling && (same_source a.enable b.enable && x))) (sources_equal a.reset b.reset)

pub controls_equal : (controls.eq-value).it ≡ same_control
controls_equal = fun_ext (λ (a : Control). fun_ext (λ (b : Control). controls_at a b))

same_root_is : (a b : Root) → same_root a b ≡ true → a ≡ b
same_root_is (PadIn j) (PadIn k) e = ap PadIn (eqb-true j k e)
same_root_is (PadIn j) (CellOut k) e = cc
same_root_is (PadIn j) (GlobalOut k) e = cc
same_root_is (PadIn j) (CarryOut k) e = cc
same_root_is (CellOut j) (PadIn k) e = cc
same_root_is (CellOut j) (CellOut k) e = ap CellOut (eqb-true j k e)
same_root_is (CellOut j) (GlobalOut k) e = cc
same_root_is (CellOut j) (CarryOut k) e = cc
same_root_is (GlobalOut j) (PadIn k) e = cc
same_root_is (GlobalOut j) (CellOut k) e = cc
same_root_is (GlobalOut j) (GlobalOut k) e = ap GlobalOut (eqb-true j k e)
same_root_is (GlobalOut j) (CarryOut k) e = cc
same_root_is (CarryOut j) (PadIn k) e = cc
same_root_is (CarryOut j) (CellOut k) e = cc
same_root_is (CarryOut j) (GlobalOut k) e = cc
same_root_is (CarryOut j) (CarryOut k) e = ap CarryOut (eqb-true j k e)

same_root_self : (a : Root) → same_root a a ≡ true
same_root_self (PadIn j) = eq-eqb j j refl
same_root_self (CellOut j) = eq-eqb j j refl
same_root_self (GlobalOut j) = eq-eqb j j refl
same_root_self (CarryOut j) = eq-eqb j j refl

same_source_is : (a b : Option Root) → same_source a b ≡ true → a ≡ b
same_source_is None None e = refl
same_source_is None (Some b) e = cc
same_source_is (Some a) None e = cc
same_source_is (Some a) (Some b) e = ap Some (same_root_is a b e)

same_source_self : (a : Option Root) → same_source a a ≡ true
same_source_self None = refl
same_source_self (Some a) = same_root_self a

pub same_level_is : (a b : Bool) → same_level a b ≡ true → a ≡ b
same_level_is false false e = refl
same_level_is false true e = cc
same_level_is true false e = cc
same_level_is true true e = refl

pub same_level_self : (a : Bool) → same_level a a ≡ true
same_level_self false = refl
same_level_self true = refl

pub both : (a b : Bool) → (a && b) ≡ true → (a ≡ true) × (b ≡ true)
both true true e = (refl, refl)
both true false e = cc
both false b e = cc

pub same_control_is : (a b : Control) → same_control a b ≡ true → a ≡ b
same_control_is a b e =
    let one = both (same_source a.clock b.clock) (same_level a.falling b.falling && (same_source a.enable b.enable && same_source a.reset b.reset)) e in
    let two = both (same_level a.falling b.falling) (same_source a.enable b.enable && same_source a.reset b.reset) one.1 in
    let three = both (same_source a.enable b.enable) (same_source a.reset b.reset) two.1 in
    let f : a.clock ≡ b.clock = same_source_is a.clock b.clock one.0 in
    let g : a.falling ≡ b.falling = same_level_is a.falling b.falling two.0 in
    let h : a.enable ≡ b.enable = same_source_is a.enable b.enable three.0 in
    let k : a.reset ≡ b.reset = same_source_is a.reset b.reset three.1 in
    λ i. record { clock = f i; falling = g i; enable = h i; reset = k i }

pub same_control_self : (a : Control) → same_control a a ≡ true
same_control_self a = rw (same_source_self a.clock, same_level_self a.falling, same_source_self a.enable, same_source_self a.reset) refl
