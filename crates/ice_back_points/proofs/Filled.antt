-- The roots of wires that are found one after another are right.
use Rattle.std.proofs.Common.{◌≡◌, ℕ, suc, ◌+◌, ◌<◌, Bool, true, false, Option, None, Some, List, [], ◌∷◌, ◌++◌, length, map, set, inl, inr, refl, sym, ap, ◌∙◌, subst, get_or-set_same, get_or-set_other, arith, append_assoc, length-append}
use Rattle.std.specs.Prelude.{if◌then◌else◌, slice_index_or}
use Rattle.std.proofs.lemmas.Bool.{cases_eq}
use Rattle.std.proofs.lemmas.List.{length-set}
use Rattle.ice_base.specs.declared.number.WireNo.{WireNo}
use Rattle.ice_base_values.specs.System.{present, reading}
use Rattle.ice_base_values.specs.Order.{At, Has}
use Rattle.ice_base_values.proofs.Members.{At_right, At_within}
use Rattle.ice_base_values.proofs.Places.{At_same}
use Rattle.ice_chip.specs.Database.{Parts}
use Rattle.ice_chip.specs.Lookups.{gbufpin_of}
use Rattle.ice_chip.specs.declared.rows.Pad.{Pad}
use Rattle.ice_bits.specs.Configuration.{Bits}
use Rattle.ice_decode.specs.declared.driver.Driver.{Driver}
use Rattle.ice_decode.specs.declared.driver.Driver.TheVariants.{Nothing, By, Several}
use Rattle.ice_decode.specs.declared.point.Point.{Point}
use Rattle.ice_decode.specs.declared.point.Point.TheVariants.{Wire, Carry}
use Rattle.ice_decode.specs.declared.role.Role.{Role}
use Rattle.ice_decode.specs.declared.role.Role.TheVariants.{Plain, Output, LookUp, CarryOut, PadInput, RamOutput, Global, CarryIn, ClockEnable}
use Rattle.ice_decode.specs.Cells.{logic_tiles}
use Rattle.ice_decode.specs.Direct.{takes_pad}
use Rattle.ice_decode.specs.Drivers.{driver, role_of}
use Rattle.ice_decode.specs.Loops.{IsOrderOf}
use Rattle.ice_decode.specs.Points.{HasWire}
use Rattle.ice_decode.specs.Reads.{wire_point, global_feed}
use Rattle.ice_decode.proofs.PointPlaces.{StandsAs, wire_at, point_cases}
use Rattle.ice_back_laws.specs.declared.root.LevelRoot.{LevelRoot}
use Rattle.ice_back_laws.specs.declared.root.LevelRoot.TheVariants.{Fixed}
use Rattle.ice_back_laws.specs.Roots.{fed_root, first_root, driven_passes, driven_root, point_passes, point_root, root_of}
use Rattle.ice_back_laws.proofs.RootLevels.{passed_read, ordered_made}
use Rattle.ice_back_points.specs.Filling.{root_in, own_driven, wire_root, filled, AreRoots}

-- what is read alike
alike : {P A : Type 0} (d : A) (f g : P → A) (ps : List (Option P)) → ((q : P) → Has (present ps) q → f q ≡ g q) → map (reading d f) ps ≡ map (reading d g) ps
alike d f g [] same = refl
alike d f g (None ∷ ps) same = ap (λ xs. d ∷ xs) (alike d f g ps same)
alike d f g (Some p ∷ ps) same =
    let here = same p (0, refl) in
    let rest = alike d f g ps (λ q has. same q (suc has.0, has.1)) in
    λ i. here i ∷ rest i

-- the root of a wire is made of those of what passes its level on
wire_root_is : (parts : Parts) (bits : Bits) (extras : List (ℕ × ℕ × ℕ)) (bonded : List Pad) (roots : List LevelRoot) (r : Role) (d : Driver)
    → own_driven parts bits extras bonded roots r d ≡ driven_root parts bits extras bonded r d (map (reading (Fixed false) (root_in parts bits roots)) (driven_passes parts bits extras r d))
wire_root_is parts bits extras bonded roots Plain Nothing = refl
wire_root_is parts bits extras bonded roots (Output t i) Nothing = refl
wire_root_is parts bits extras bonded roots (LookUp t i) Nothing = refl
wire_root_is parts bits extras bonded roots (CarryOut t i) Nothing = refl
wire_root_is parts bits extras bonded roots (PadInput pad) Nothing = refl
wire_root_is parts bits extras bonded roots (RamOutput pad) Nothing = refl
wire_root_is parts bits extras bonded roots (Global n) Nothing = by (takes_pad parts extras n)
  where
    from : Option Point → LevelRoot
    from o = reading (Fixed false) (root_in parts bits roots) o

    by : (b : Bool)
        → (if b then fed_root parts bits bonded (gbufpin_of parts n) else from (global_feed parts n))
        ≡ (if b then fed_root parts bits bonded (gbufpin_of parts n) else first_root (map (reading (Fixed false) (root_in parts bits roots)) (if b then [] else global_feed parts n ∷ [])))
    by true = refl
    by false = refl
wire_root_is parts bits extras bonded roots (CarryIn t) Nothing = refl
wire_root_is parts bits extras bonded roots ClockEnable Nothing = refl
wire_root_is parts bits extras bonded roots r (By s) = refl
wire_root_is parts bits extras bonded roots r (Several first second) = refl

-- the points of an order of evaluation are wires of the chip or carries
pub has_wire : (parts : Parts) (bits : Bits) (extras : List (ℕ × ℕ × ℕ)) (order : List Point) → IsOrderOf parts bits extras order → (j : ℕ) (p : Point) → At order j p → HasWire parts p
has_wire parts bits extras order o j p at = let has = o.within p (j, at) in by has.0 p (point_cases parts.wires (logic_tiles parts) has.0 p has.1)
  where
    by : (n : ℕ) (q : Point) → StandsAs parts.wires (logic_tiles parts) n q → HasWire parts q
    by n (Wire w) stands = stands.1
    by n (Carry t i) stands = tt

module _ (parts : Parts) (bits : Bits) (extras : List (ℕ × ℕ × ℕ)) (order : List Point) (o : IsOrderOf parts bits extras order) (bonded : List Pad) where
  abbrev root : Point → LevelRoot
  root = root_of parts bits extras bonded

  abbrev at_wire : List LevelRoot → ℕ → LevelRoot
  at_wire roots w = slice_index_or roots w (Fixed false)

  -- the wires among the first k points have their roots
  record IsFilled (k : ℕ) (roots : List LevelRoot) : Type 0 where
    pub long : length roots ≡ parts.wires
    pub right : (j : ℕ) (w : WireNo) → j < k → At order j (Wire w) → at_wire roots w.0 ≡ root (Wire w)

  known : (k : ℕ) (roots : List LevelRoot) → IsFilled k roots → (j : ℕ) (q : Point) → j < k → At order j q → root_in parts bits roots q ≡ root q
  known k roots is j (Wire w) lt at = is.right j w lt at
  known k roots is j (Carry t i) lt at = sym (ordered_made parts bits extras order o bonded j (Carry t i) at)

  made : (k : ℕ) (roots : List LevelRoot) (w : WireNo) → IsFilled k roots → At order k (Wire w) → wire_root parts bits extras bonded roots w.0 ≡ root (Wire w)
  made k roots w is at =
      wire_root_is parts bits extras bonded roots (role_of parts w.0) (driver parts bits w.0)
      ∙ ap (point_root parts bits extras bonded (Wire w))
      (alike (Fixed false) (root_in parts bits roots) root (point_passes parts bits extras (Wire w))
      (λ q has. let before = o.after k (Wire w) q at (passed_read parts bits extras (Wire w) q has) in known k roots is before.0 q before.1 before.2))
      ∙ sym (ordered_made parts bits extras order o bonded k (Wire w) at)

  wire_filled : (k : ℕ) (roots : List LevelRoot) (w : WireNo) → IsFilled k roots → At order k (Wire w) → IsFilled (suc k) (set roots w.0 (wire_root parts bits extras bonded roots w.0))
  wire_filled k roots w is at = record {
    long = length-set roots w.0 (wire_root parts bits extras bonded roots w.0) ∙ is.long;
    right = λ j v lt there. elim (cases_eq v.0 w.0) [
      | inl e ↦ same j v lt there e
      | inr ne ↦ get_or-set_other roots w.0 v.0 (wire_root parts bits extras bonded roots w.0) (Fixed false) ne ∙ is.right j v (before j v lt there ne) there
    ];
  }
    where
      below : w.0 < length roots
      below = let lt : w.0 < parts.wires = has_wire parts bits extras order o k (Wire w) at in let long = is.long in omega (arith, lt, long)

      one : (v : WireNo) → v.0 ≡ w.0 → v ≡ w
      one v e = λ i. record { 0 = e i }

      same : (j : ℕ) (v : WireNo) → j < suc k → At order j (Wire v) → v.0 ≡ w.0 → at_wire (set roots w.0 (wire_root parts bits extras bonded roots w.0)) v.0 ≡ root (Wire v)
      same j v lt there e =
          ap (at_wire (set roots w.0 (wire_root parts bits extras bonded roots w.0))) e
          ∙ get_or-set_same roots w.0 (wire_root parts bits extras bonded roots w.0) (Fixed false) below
          ∙ made k roots w is at
          ∙ ap (λ (u : WireNo). root (Wire u)) (sym (one v e))

      before : (j : ℕ) (v : WireNo) → j < suc k → At order j (Wire v) → (v.0 ≡ w.0 → ⊥) → j < k
      before j v lt there ne = elim (cases_eq j k) [
        | inl e ↦ absurd (ne (number (At_same order k (Wire v) (Wire w) (subst (λ n. At order n (Wire v)) e there) at)))
        | inr other ↦ omega (arith, lt, other)
      ]
        where
          number : Wire v ≡ Wire w → v.0 ≡ w.0
          number e = cc e

  carry_filled : (k : ℕ) (roots : List LevelRoot) (p : Point) → ((w : WireNo) → p ≡ Wire w → ⊥) → IsFilled k roots → At order k p → IsFilled (suc k) roots
  carry_filled k roots p other is at = record {
    long = is.long;
    right = λ j v lt there. elim (cases_eq j k) [
      | inl e ↦ absurd (other v (At_same order k p (Wire v) at (subst (λ n. At order n (Wire v)) e there)))
      | inr ne ↦ is.right j v (omega (arith, lt, ne)) there
    ];
  }

  stands : (p : Point) (left done : List Point) → order ≡ done ++ p ∷ left → At order (length done) p
  stands p left done e =
      let z : length done + 0 ≡ length done = omega arith in
      subst (λ (list : List Point). At list (length done) p) (sym e) (subst (λ n. At (done ++ p ∷ left) n p) z (At_right done (p ∷ left) 0 p refl))

  longer : (p : Point) (done : List Point) → suc (length done) ≡ length (done ++ p ∷ [])
  longer p done = let long = length-append done (p ∷ []) in omega (arith, long)

  filled_from : (left done : List Point) (roots : List LevelRoot) → order ≡ done ++ left → IsFilled (length done) roots → IsFilled (length order) (filled parts bits extras bonded left roots)
  filled_from [] done roots e is = record {
    long = is.long;
    right = λ j w lt at. is.right j w (let long = ap length e ∙ length-append done [] in omega (arith, lt, long)) at;
  }
  filled_from (Wire w ∷ left) done roots e is =
      filled_from left (done ++ Wire w ∷ []) (set roots w.0 (wire_root parts bits extras bonded roots w.0)) (e ∙ sym (append_assoc done (Wire w ∷ []) left))
      (subst (λ n. IsFilled n (set roots w.0 (wire_root parts bits extras bonded roots w.0))) (longer (Wire w) done) (wire_filled (length done) roots w is (stands (Wire w) left done e)))
  filled_from (Carry t i ∷ left) done roots e is =
      filled_from left (done ++ Carry t i ∷ []) roots (e ∙ sym (append_assoc done (Carry t i ∷ []) left))
      (subst (λ n. IsFilled n roots) (longer (Carry t i) done) (carry_filled (length done) roots (Carry t i) (λ w f. cc f) is (stands (Carry t i) left done e)))

  -- all wires have their roots
  pub all_filled : (roots : List LevelRoot) → length roots ≡ parts.wires → AreRoots parts bits extras bonded (filled parts bits extras bonded order roots)
  all_filled roots long w lt =
      let is = filled_from order [] roots refl (record { long = long; right = λ j v below at. absurd (omega (arith, below)) }) in
      let there = o.each (wire_point w) (w, wire_at parts.wires (logic_tiles parts) w lt) in
      is.right there.0 (record { 0 = w }) (At_within order there.0 (wire_point w) there.1) there.1
