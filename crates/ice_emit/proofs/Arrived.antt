-- At which input of a free cell a root arrives.
use Rattle.std.proofs.Common.{◌≡◌, ℕ, Bool, true, false, Option, None, Some, [], ◌∷◌, refl, sym, ap, ◌∙◌}
use Rattle.std.specs.Prelude.{position, option_map, if◌then◌else◌}
use Rattle.ice_base.specs.declared.number.TileAt.{TileAt}
use Rattle.ice_base.specs.declared.number.WireNo.{WireNo}
use Rattle.ice_cells.specs.declared.root.Root.{Root}
use Rattle.ice_place_defs.specs.Loads.{Pin, Input}
use Rattle.ice_emit_nets.specs.Ends.{wire_no, pin_wire}
use Rattle.ice_emit_nets.specs.Nets.{root_wire}
use Rattle.ice_place_defs.specs.Plan.{plan_in}
use Rattle.ice_emit_defs.specs.Arrivals.{holds, arrival}
use Rattle.ice_emit.specs.Owners.{tree_no, is_in, first_in}
use Rattle.ice_emit.specs.Routed.{IsRouted, held_in, routes_in}
use Rattle.ice_emit.specs.declared.routed.Routed.{Routed}
use Rattle.ice_emit.proofs.Owning.{held_is}

-- the first of four that passes a test
four_places : {A : Type 0} (test : A → Bool) (a b c d : A)
    → position test (a ∷ b ∷ c ∷ d ∷ []) ≡ (if test a then Some 0 else (if test b then Some 1 else (if test c then Some 2 else (if test d then Some 3 else None))))
four_places test a b c d = by (test a) (test b) (test c) (test d) refl refl refl refl
  where
    by : (w x y z : Bool) → test a ≡ w → test b ≡ x → test c ≡ y → test d ≡ z → position test (a ∷ b ∷ c ∷ d ∷ []) ≡ (if w then Some 0 else (if x then Some 1 else (if y then Some 2 else (if z then Some 3 else None))))
    by true x y z e f g h = rw e refl
    by false true y z e f g h = rw (e, f) refl
    by false false true z e f g h = rw (e, f, g) refl
    by false false false true e f g h = rw (e, f, g, h) refl
    by false false false false e f g h = rw (e, f, g, h) refl

number_of : (o : Option ℕ) → option_map (λ (w : WireNo). w.0) (option_map wire_no o) ≡ o
number_of None = refl
number_of (Some w) = refl

pub arrival_is : (routed : Routed) (t : TileAt) (i : ℕ) (root : Root) (wire : Option WireNo) (tree : Option ℕ) → IsRouted routed → wire ≡ option_map wire_no (root_wire routed.placed.chip.now (plan_in routed.placed) root)
    → tree ≡ tree_no (routes_in routed) (option_map (λ (w : WireNo). w.0) wire) → first_in (routes_in routed) tree routed.placed.chip.now t i ≡ arrival routed.placed.chip.now (held_in routed root) t i
arrival_is routed t i root wire tree is at numbered =
    let parts = routed.placed.chip.now in
    let found = root_wire parts (plan_in routed.placed) root in
    let same : tree ≡ tree_no (routes_in routed) found = numbered ∙ ap (λ o. tree_no (routes_in routed) (option_map (λ (w : WireNo). w.0) o)) at ∙ ap (tree_no (routes_in routed)) (number_of found) in
    let each : (pin : Pin) → is_in (routes_in routed) tree (pin_wire parts t pin) ≡ holds (held_in routed root) (pin_wire parts t pin) = (λ pin. ap (λ n. is_in (routes_in routed) n (pin_wire parts t pin)) same ∙ held_is (routes_in routed) is.apart found (pin_wire parts t pin)) in
    ap (λ x. if x then Some 0 else (if is_in (routes_in routed) tree (pin_wire parts t (Input i 1)) then Some 1 else (if is_in (routes_in routed) tree (pin_wire parts t (Input i 2)) then Some 2 else (if is_in (routes_in routed) tree (pin_wire parts t (Input i 3)) then Some 3 else None)))) (each (Input i 0))
    ∙ ap (λ x. if holds (held_in routed root) (pin_wire parts t (Input i 0)) then Some 0 else (if x then Some 1 else (if is_in (routes_in routed) tree (pin_wire parts t (Input i 2)) then Some 2 else (if is_in (routes_in routed) tree (pin_wire parts t (Input i 3)) then Some 3 else None)))) (each (Input i 1))
    ∙ ap (λ x. if holds (held_in routed root) (pin_wire parts t (Input i 0)) then Some 0 else (if holds (held_in routed root) (pin_wire parts t (Input i 1)) then Some 1 else (if x then Some 2 else (if is_in (routes_in routed) tree (pin_wire parts t (Input i 3)) then Some 3 else None)))) (each (Input i 2))
    ∙ ap (λ x. if holds (held_in routed root) (pin_wire parts t (Input i 0)) then Some 0 else (if holds (held_in routed root) (pin_wire parts t (Input i 1)) then Some 1 else (if holds (held_in routed root) (pin_wire parts t (Input i 2)) then Some 2 else (if x then Some 3 else None)))) (each (Input i 3))
    ∙ sym (four_places (λ pin. holds (held_in routed root) (pin_wire parts t pin)) (Input i 0) (Input i 1) (Input i 2) (Input i 3))
