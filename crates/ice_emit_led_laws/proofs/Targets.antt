-- The wires of pins: as the targets of sinks, and as those at which roots arrive.
use Rattle.std.proofs.Common.{◌≡◌, ℕ, zero, suc, ◌+◌, ◌<◌, Bool, true, false, cond, Option, None, Some, List, [], ◌∷◌, get_or, refl, sym, ap, ◌∙◌, subst, inl, inr, arith, eqb-true, eq-eqb}
use Rattle.std.specs.Prelude.{nat_eq, option_map}
use Rattle.std.specs.List.{position_from}
use Rattle.std.proofs.lemmas.Iterator.Adapters.{position_from-zero}
use Rattle.std.proofs.lemmas.List.Quantifiers.{position-Some}
use Rattle.std.proofs.lemmas.Option.{none-some, same_Some}
use Rattle.ice_base.specs.declared.number.TileAt.{TileAt}
use Rattle.ice_base.specs.declared.number.WireNo.{WireNo}
use Rattle.ice_base.proofs.Options.{option_map_some}
use Rattle.ice_base_values.specs.Order.{At, Has}
use Rattle.ice_base_values.proofs.Members.{Has_none, Has_cases, any_Has, Has_any}
use Rattle.ice_chip.specs.Database.{Parts}
use Rattle.ice_chip.specs.Lookups.{wire_named}
use Rattle.ice_chip.specs.Names.{input_name}
use Rattle.ice_place_defs.specs.Loads.{Pin, Input, pin_name}
use Rattle.ice_emit_nets.specs.Ends.{wire_no, pin_wire, pin_wires, inputs_of}
use Rattle.ice_emit_rows_laws.proofs.Mapped.{Has_mapped_by, mapped_by_Has}
use Rattle.ice_emit_defs.specs.Arrivals.{holds, arrival}

-- ---- targets
-- each target is the wire of a pin
pub wires_named : (parts : Parts) (t : TileAt) (ps : List Pin) (w : WireNo) → Has (pin_wires parts t ps) w → (pin : Pin) × Has ps pin × (wire_named parts t (pin_name pin) ≡ Some w.0)
wires_named parts t ps w has =
    let got = Has_mapped_by (pin_wire parts t) ps w has in
    let named = option_map_some wire_no (wire_named parts t (pin_name got.0)) w got.2 in
    (got.0, got.1, named.1 ∙ ap (λ (v : WireNo). Some v.0) named.2)

-- the wire of one pin
pub wire_named_of : (parts : Parts) (t : TileAt) (pin : Pin) (w : WireNo) → Has (pin_wires parts t (pin ∷ [])) w → wire_named parts t (pin_name pin) ≡ Some w.0
wire_named_of parts t pin w has =
    let got = wires_named parts t (pin ∷ []) w has in
    let same : pin ≡ got.0 = elim (Has_cases pin got.0 [] got.1) [ inl here ↦ here | inr none ↦ absurd (Has_none got.0 none) ] in
    ap (λ p. wire_named parts t (pin_name p)) same ∙ got.2

at_input : (i k : ℕ) → k < 4 → At (inputs_of i) k (Input i k)
at_input i zero lt = refl
at_input i (suc zero) lt = refl
at_input i (suc (suc zero)) lt = refl
at_input i (suc (suc (suc zero))) lt = refl
at_input i (suc (suc (suc (suc k)))) lt = absurd (omega (arith, lt))

-- the wire of each input of a free cell is a target
pub inputs_have : (parts : Parts) (t : TileAt) (i k w : ℕ) → k < 4 → wire_named parts t (input_name i k) ≡ Some w → Has (pin_wires parts t (inputs_of i)) (wire_no w)
inputs_have parts t i k w lt e = mapped_by_Has (pin_wire parts t) (inputs_of i) (Input i k) (wire_no w) (k, at_input i k lt) (ap (option_map wire_no) e)

-- ---- arrivals
found : {X : Type 0} (test : X → Bool) (n : ℕ) (xs : List X) (k : ℕ) (x : X) → At xs k x → test x ≡ true → (j : ℕ) × (position_from test n xs ≡ Some j)
found test n [] k x at e = absurd (none-some x at)
found test n (y ∷ xs) k x at e = by (test y) refl k at (found test (n + 1) xs)
  where
    by : (b : Bool) → test y ≡ b → (k : ℕ) → At (y ∷ xs) k x → ((k : ℕ) (x : _) → At xs k x → test x ≡ true → (j : ℕ) × (position_from test (n + 1) xs ≡ Some j))
        → (j : ℕ) × (cond b (Some n) (position_from test (n + 1) xs) ≡ Some j)
    by true s k at rest = (n, refl)
    by false s zero at rest = (let f : test y ≡ true = ap test (same_Some y x at) ∙ e in cc)
    by false s (suc k) at rest = rest k x at e

holds_Has : (wires : List WireNo) (o : Option ℕ) → holds wires (option_map wire_no o) ≡ true → (w : WireNo) × (o ≡ Some w.0) × Has wires w
holds_Has wires None e = cc
holds_Has wires (Some v) e = let one = any_Has (λ (x : WireNo). nat_eq x.0 v) wires e in (one.0, ap Some (sym (eqb-true one.0.0 v one.2)), one.1)

Has_holds : (wires : List WireNo) (o : Option ℕ) (w : WireNo) → o ≡ Some w.0 → Has wires w → holds wires (option_map wire_no o) ≡ true
Has_holds wires o w e has = ap (λ p. holds wires (option_map wire_no p)) e ∙ Has_any (λ (x : WireNo). nat_eq x.0 w.0) wires w has.0 has.1 (eq-eqb w.0 w.0 refl)

-- where something arrives the wire is held
pub arrival_held : (parts : Parts) (wires : List WireNo) (t : TileAt) (i j : ℕ) → arrival parts wires t i ≡ Some j → (j < 4) × (w : WireNo) × (wire_named parts t (input_name i j) ≡ Some w.0) × Has wires w
arrival_held parts wires t i j e =
    let at = position-Some (λ pin. holds wires (pin_wire parts t pin)) (inputs_of i) j (Input i 0) e in
    let lt : j < 4 = at.0 in
    let held = holds_Has wires (wire_named parts t (input_name i j)) (subst (λ pin. holds wires (pin_wire parts t pin) ≡ true) (is j lt) at.1) in
    (lt, held.0, held.1, held.2)
  where
    is : (j : ℕ) → j < 4 → get_or (inputs_of i) j (Input i 0) ≡ Input i j
    is zero lt = refl
    is (suc zero) lt = refl
    is (suc (suc zero)) lt = refl
    is (suc (suc (suc zero))) lt = refl
    is (suc (suc (suc (suc k)))) lt = absurd (omega (arith, lt))

-- where a wire of the inputs is held something arrives
pub held_arrives : (parts : Parts) (wires : List WireNo) (t : TileAt) (i k : ℕ) (w : WireNo) → k < 4 → wire_named parts t (input_name i k) ≡ Some w.0 → Has wires w → (j : ℕ) × (arrival parts wires t i ≡ Some j)
held_arrives parts wires t i k w lt e has =
    let one = found (λ pin. holds wires (pin_wire parts t pin)) 0 (inputs_of i) k (Input i k) (at_input i k lt) (Has_holds wires (wire_named parts t (input_name i k)) w e has) in
    (one.0, position_from-zero (λ pin. holds wires (pin_wire parts t pin)) (inputs_of i) ∙ one.1)
