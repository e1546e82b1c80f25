-- An SB_IO of a sound netlist reads the pad at its pin.
use Rattle.std.proofs.Common.{◌≡◌, ℕ, zero, suc, ◌+◌, ◌<◌, ◌≤◌, Bool, true, false, cond, Option, None, Some, List, [], ◌∷◌, length, map, inl, inr, refl, sym, ap, ◌∙◌, subst, arith, rules, tests}
use Rattle.std.specs.Prelude.{slice_index_or, option_map, position, ◌==◌, nat_lt, not}
use Rattle.std.specs.List.{position_or_len}
use Rattle.std.specs.Option.{option_map_or}
use Rattle.std.proofs.lemmas.Bool.{eqb-true, eq-eqb, cases_lt, lt-ltb}
use Rattle.std.proofs.lemmas.Option.{same_Some}
use Rattle.ice_base.specs.declared.number.SignalNo.{SignalNo}
use Rattle.ice_base_values.specs.Order.{At, IsOrder}
use Rattle.ice_base_values.specs.System.{reading}
use Rattle.ice_base_values.proofs.Members.{At_map, At_within}
use Rattle.ice_net.specs.declared.cell.Cell.{Cell}
use Rattle.ice_net.specs.declared.driver.SignalDriver.{SignalDriver}
use Rattle.ice_net.specs.declared.driver.SignalDriver.TheVariants as driver
use Rattle.ice_net.specs.declared.kind.CellKind.{CellKind}
use Rattle.ice_net.specs.declared.port.Port.{Port}
use Rattle.ice_net.specs.declared.port.Way.{Way}
use Rattle.ice_net.specs.declared.port.Way.TheVariants.{Input, Output, Both}
use Rattle.ice_net.specs.Drivers.{is_signal, place_of, is_there, pin_of, pin_by, has_buffer, pad_by, pad_of, outputs, driver_from, driver_of}
use Rattle.ice_net.specs.Formed.{IsFormed, IsFormedCell, IsBelow}
use Rattle.ice_net.specs.Meaning.{depends_on, level_by, pad_level}
use Rattle.ice_net.specs.NetlistData.{NetlistData, is_at, port_at}
use Rattle.ice_net.specs.Ways.{way_at}
use Rattle.ice_check.specs.Faults.{first_number, is_portless, is_no_port, is_no_way, pin_not_port}
use Rattle.ice_cells.specs.declared.origin.Origin.TheVariants.{Fixed, Pad}
use Rattle.ice_cells.specs.Origins.{aliases, origin_made, input_origin, origin}
use Rattle.ice_cells.specs.Packed.{PackPlan}
use Rattle.ice_pack_share.proofs.OriginSteps.{origin_meets}
use Rattle.ice_pack_laws.proofs.Inputs.{at_all, input_at}
use Rattle.ice_pack_laws.proofs.Values.{ReadsPads}

-- where no number passes a test, none does
never : (test : ℕ → Bool) (k more i : ℕ) → first_number test k more ≡ None → k ≤ i → i < k + more → test i ≡ false
never test k zero i e le lt = absurd (omega arith)
never test k (suc more) i e le lt = by (test k) refl e (λ f. never test (k + 1) more i f)
  where
    by : (b : Bool) → test k ≡ b → cond b (Some k) (first_number test (k + 1) more) ≡ None → (first_number test (k + 1) more ≡ None → k + 1 ≤ i → i < k + 1 + more → test i ≡ false) → test i ≡ false
    by true is f rest = cc f
    by false is f rest = elim (cases_lt k i) [
      | inl before ↦ rest f (omega arith) (omega arith)
      | inr here ↦ (let same : i ≡ k = omega arith in ap test same ∙ is)
    ]

-- ---- places
at_least : (a m : ℕ) → m ≤ a → nat_lt a m ≡ false
at_least a m le = search (rules, tests)

lt_suc : (a m : ℕ) → nat_lt (suc a) (suc m) ≡ nat_lt a m
lt_suc a m = elim (cases_lt a m) [
  | inl lt ↦ lt-ltb (suc a) (suc m) (omega arith) ∙ sym (lt-ltb a m lt)
  | inr ge ↦ at_least (suc a) (suc m) (omega arith) ∙ sym (at_least a m ge)
]

position_cons : {X : Type 0} (test : X → Bool) (x : X) (xs : List X) → position test (x ∷ xs) ≡ cond (test x) (Some 0) (option_map suc (position test xs))
position_cons test x xs = by (test x) (position_or_len test xs) (length xs)
  where
    later : (b : Bool) (a : ℕ) → cond b (Some (suc a)) None ≡ option_map suc (cond b (Some a) None)
    later true a = refl
    later false a = refl

    by : (b : Bool) (a m : ℕ) → cond (nat_lt (cond (not b) (1 + a) 0) (suc m)) (Some (cond (not b) (1 + a) 0)) None ≡ cond b (Some 0) (option_map suc (cond (nat_lt a m) (Some a) None))
    by true a m = ap (λ b. cond b (Some 0) None) (lt-ltb 0 (suc m) (omega arith))
    by false a m = ap (λ k. cond (nat_lt k (suc m)) (Some k) None) (let e : 1 + a ≡ suc a = omega arith in e) ∙ ap (λ b. cond b (Some (suc a)) None) (lt_suc a m) ∙ later (nat_lt a m) a

there_place : (s : ℕ) (xs : List (Option SignalNo)) (j : ℕ) (signal : SignalNo) → At xs j (Some signal) → signal.0 ≡ s → is_there (place_of s xs) ≡ true
there_place s [] j signal at e = cc at
there_place s (x ∷ xs) zero signal at e = ap (λ b. is_there (cond b (Some 0) (option_map suc (place_of s xs)))) (ap (is_signal s) (same_Some x (Some signal) at) ∙ eq-eqb signal.0 s e)
there_place s (x ∷ xs) (suc j) signal at e = by (is_signal s x) (place_of s xs) (there_place s xs j signal at e)
  where
    by : (b : Bool) (o : Option ℕ) → is_there o ≡ true → is_there (cond b (Some 0) (option_map suc o)) ≡ true
    by true o f = refl
    by false None f = f
    by false (Some k) f = refl

-- the pad of a port at an SB_IO drives the port's signal and no other
pad_signal : (cells : List Cell) (s : ℕ) (port : Port) → has_buffer cells s ≡ true → is_signal s (pad_of cells port) ≡ is_at s port
pad_signal cells s port buffered = by (port.signal.0 == s) refl
  where
    every : (way : Way) → is_signal s (pad_by port true way) ≡ (port.signal.0 == s)
    every Input = refl
    every Output = refl
    every Both = refl

    other : (way : Way) (b : Bool) → (port.signal.0 == s) ≡ false → is_signal s (pad_by port b way) ≡ false
    other Input b f = f
    other Both b f = f
    other Output true f = f
    other Output false f = refl

    by : (b : Bool) → (port.signal.0 == s) ≡ b → is_signal s (pad_by port (has_buffer cells port.signal.0) port.way) ≡ (port.signal.0 == s)
    by true e = ap (λ b. is_signal s (pad_by port b port.way)) (ap (has_buffer cells) (eqb-true port.signal.0 s e) ∙ buffered) ∙ every port.way
    by false e = other port.way (has_buffer cells port.signal.0) e ∙ sym e

pad_place : (cells : List Cell) (s : ℕ) → has_buffer cells s ≡ true → (ports : List Port) → place_of s (map (pad_of cells) ports) ≡ position (is_at s) ports
pad_place cells s buffered [] = refl
pad_place cells s buffered (port ∷ ports) =
    (λ i. cond (pad_signal cells s port buffered i) (Some 0) (option_map suc (pad_place cells s buffered ports i))) ∙ sym (position_cons (is_at s) port ports)

-- ---- pins
module _ (n : NetlistData) (formed : IsFormed n) (placed : pin_not_port n ≡ None) (order : List ℕ) (sorted : IsOrder (length n.names) (depends_on n) order) (p : PackPlan)
    (origins : (s : ℕ) → s < length n.names → slice_index_or p.origins s (Fixed false) ≡ origin n s) where
  port_there : (pin : Option SignalNo) → is_no_port n.ports pin ≡ false → (signal : SignalNo) × (k : ℕ) × (pin ≡ Some signal) × (port_at signal.0 n.ports ≡ Some k)
  port_there None e = cc e
  port_there (Some signal) e = by (port_at signal.0 n.ports) refl (λ f. sym (ap (λ o. is_no_way (way_at n.ports o)) f) ∙ e)
    where
      by : (o : Option ℕ) → port_at signal.0 n.ports ≡ o → (port_at signal.0 n.ports ≡ o → is_no_way (way_at n.ports o) ≡ false) → (s : SignalNo) × (k : ℕ) × (Some signal ≡ Some s) × (port_at s.0 n.ports ≡ Some k)
      by None f g = absurd (true-false (g f))
        where
          true-false : true ≡ false → ⊥
          true-false h = cc h
      by (Some k) f g = (signal, k, refl, f)

  pub reads_pads : ReadsPads n p
  reads_pads j pin_type pullup cell at e = (k, origin_is, λ levels. ap (pad_level n.ports levels) pin ∙ ap (level_by levels) place)
    where
      pin_is : pin_of cell ≡ slice_index_or cell.ins 0 None
      pin_is = ap (λ (kind : CellKind). pin_by kind cell.ins) e

      no_fault : is_no_port n.ports (slice_index_or cell.ins 0 None) ≡ false
      no_fault =
          sym (ap (λ (o : Option Cell). option_map_or (λ (c : Cell). is_portless n.ports c.kind (pin_of c)) o false) at ∙ ap (λ (kind : CellKind). is_portless n.ports kind (pin_of cell)) e ∙ ap (is_no_port n.ports) pin_is)
          ∙ never _ 0 (length n.cells) j placed (omega arith) (let lt = At_within n.cells j cell at in omega arith)

      got : (signal : SignalNo) × (k : ℕ) × (slice_index_or cell.ins 0 None ≡ Some signal) × (port_at signal.0 n.ports ≡ Some k)
      got = port_there (slice_index_or cell.ins 0 None) no_fault

      signal : SignalNo
      signal = got.0

      k : ℕ
      k = got.1

      pin : slice_index_or cell.ins 0 None ≡ Some signal
      pin = got.2

      place : port_at signal.0 n.ports ≡ Some k
      place = got.3

      buffered : has_buffer n.cells signal.0 ≡ true
      buffered = there_place signal.0 (map (λ (c : Cell). pin_of c) n.cells) j signal (At_map (λ (c : Cell). pin_of c) n.cells j cell at ∙ ap Some (pin_is ∙ pin)) refl

      driven : driver_of n signal.0 ≡ driver.Pad k
      driven = ap (λ o. driver_from o (place_of signal.0 (outputs n))) (pad_place n.cells signal.0 buffered n.ports ∙ place)

      below : signal.0 < length n.names
      below = below_of (slice_index_or cell.ins 0 None) pin (input_at (IsBelow (length n.names)) tt cell.ins (λ i s there. at_all (IsBelow (length n.names)) cell.ins i s (at_all (IsFormedCell (length n.names)) n.cells j cell formed.cells at).ins_below there) 0)
        where
          below_of : (o : Option SignalNo) → o ≡ Some signal → IsBelow (length n.names) o → signal.0 < length n.names
          below_of o f is = subst (IsBelow (length n.names)) f is

      origin_is : input_origin p.origins (slice_index_or cell.ins 0 None) ≡ Pad k
      origin_is =
          ap (input_origin p.origins) pin ∙ origins signal.0 below ∙ origin_meets n order sorted signal.0 below
          ∙ ap (λ (dr : SignalDriver). origin_made n dr (map (reading (Fixed false) (origin n)) (aliases n dr))) driven
