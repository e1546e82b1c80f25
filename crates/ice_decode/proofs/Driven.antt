-- What drives a wire: no row of any group into it, or the rows that are on.
use Rattle.std.proofs.Common.{◌≡◌, ℕ, zero, suc, ◌+◌, ◌-◌, ◌<◌, ◌≤◌, Bool, true, false, cond, Option, None, Some, List, [], ◌∷◌, inl, inr, refl, ap, sym, ◌∙◌, eqb, length, All, arith, subst}
use Rattle.std.specs.Prelude.{◌↔◌, slice_get, option_map, map}
use Rattle.std.specs.Bool.{beq}
use Rattle.std.specs.List.{list_any, cons_option, range_with_len}
use Rattle.std.specs.Option.{option_and_then}
use Rattle.std.specs.Cmp.Lexicographic.{pointwise}
use Rattle.std.proofs.lemmas.Bool.{cases_eq, eqb-true, eq-eqb}
use Rattle.std.proofs.lemmas.List.Elements.{All-nil, All-cons, All-head, All-tail}
use Rattle.std.proofs.lemmas.Option.{same_Some, slice_get-map}
use Rattle.ice_base.specs.declared.number.RowNo.{RowNo}
use Rattle.ice_chip.specs.Database.{Parts, SwitchGroup, SwitchRow}
use Rattle.ice_bits.specs.Configuration.{Bits, Configuration, bits_of}
use Rattle.ice_bits.specs.Settings.{values_of, number_with, row_on}
use Rattle.ice_decode.specs.declared.driver.Switch.{Switch}
use Rattle.ice_decode.specs.declared.driver.Driver.{Driver}
use Rattle.ice_decode.specs.declared.driver.Driver.TheVariants.{Nothing, By, Several}
use Rattle.ice_decode.specs.Drivers.{switch, switch_at, switch_on, switches_on, into, driver_among, driver}
use Rattle.ice_decode.specs.DrivingRows.{row_of}
use Rattle.ice_decode.specs.FirstFaults.{or_else, first_of, contended_by}
use Rattle.ice_decode.specs.Refusals.{IsFaultless, CircuitData, IsCircuitOf}
use Rattle.ice_decode.specs.Laws.{HasNoRowOn, IsDriverOf}
use Rattle.ice_decode.proofs.Members.{At_map, At_range}
use Rattle.ice_base.proofs.Options.{option_map_some, and_then_some}

-- ---- contention
-- where nothing is found there is nothing for any of the numbers
pub first_none : {A : Type 0} (f : ℕ → Option A) (k n : ℕ) → first_of f k n ≡ None → (w : ℕ) → k ≤ w → w < k + n → f w ≡ None
first_none f k zero e w le lt = absurd (omega arith)
first_none {A} f k (suc n) e w le lt = by (f k) refl e (λ none less. first_none f (k + 1) n none w less (omega arith))
  where
    by : (o : Option A) → f k ≡ o → or_else o (first_of f (k + 1) n) ≡ None → (first_of f (k + 1) n ≡ None → k + 1 ≤ w → f w ≡ None) → f w ≡ None
    by None is none later = elim (cases_eq w k) [
      | inl same ↦ ap f same ∙ is
      | inr other ↦ later none (omega arith)
    ]
    by (Some x) is none later = cc none

pub uncontended : (parts : Parts) (bits : Bits) (extras : List (ℕ × ℕ × ℕ)) → IsFaultless parts bits extras
    → (w : ℕ) → w < parts.wires → (first second : RowNo) → driver parts bits w ≡ Several first second → ⊥
uncontended parts bits extras faultless w lt first second e =
    let none = first_none (λ v. contended_by v (driver parts bits v)) 0 parts.wires faultless.of_chip.uncontended w (omega arith) (omega arith) in
    let some = ap (contended_by w) e in
    cc (none, some)

-- ---- no row
-- the number that has the values is that of a row
number_within : (values : List Bool) (n k : ℕ) (rows : List SwitchRow) → number_with values n rows ≡ Some k → (n ≤ k) × (k - n < length rows)
number_within values n k [] e = cc e
number_within values n k (r ∷ rows) e = by (pointwise beq r.values values) (number_within values (n + 1) k rows) e
  where
    by : (b : Bool) → (number_with values (n + 1) rows ≡ Some k → (n + 1 ≤ k) × (k - (n + 1) < length rows))
        → cond b (Some n) (number_with values (n + 1) rows) ≡ Some k → (n ≤ k) × (k - n < suc (length rows))
    by true later f = let same : n ≡ k = same_Some n k f in (omega arith, omega arith)
    by false later f = let there = later f in (omega (arith, there.0), omega (arith, there.0, there.1))

row_within : (bits : Bits) (g : SwitchGroup) (k : ℕ) → row_on bits g ≡ Some k → k - g.first < length g.rows
row_within bits g k e = by (list_any (λ v. v) (values_of bits g)) e
  where
    by : (b : Bool) → cond b (number_with (values_of bits g) g.first g.rows) None ≡ Some k → k - g.first < length g.rows
    by true f = (number_within (values_of bits g) g.first k g.rows f).1
    by false f = cc f

something : {X : Type 0} (xs : List X) (i : ℕ) → i < length xs → (x : X) × (slice_get xs i ≡ Some x)
something [] i lt = absurd (omega arith)
something (x ∷ xs) zero lt = (x, refl)
something (x ∷ xs) (suc i) lt = something xs i (omega arith)

-- a group has a switch that is on where a row of it is on
switch_off : (bits : Bits) (g : SwitchGroup) → switch_on bits g ≡ None → row_on bits g ≡ None
switch_off bits g none = by (row_on bits g) refl
  where
    by : (o : Option ℕ) → row_on bits g ≡ o → row_on bits g ≡ None
    by None e = e
    by (Some k) e =
        let row = something g.rows (k - g.first) (row_within bits g k e) in
        let there : switch_on bits g ≡ Some (switch g k row.0) = ap (option_and_then (switch_at g)) e ∙ ap (option_map (switch g k)) row.1 in
        cc (there, none)

switch_target : (bits : Bits) (g : SwitchGroup) (s : Switch) → switch_on bits g ≡ Some s → g.wire ≡ s.target.0
switch_target bits g s e =
    let number = and_then_some (switch_at g) (row_on bits g) s e in
    let row = option_map_some (switch g number.0) (slice_get g.rows (number.0 - g.first)) s number.2 in
    ap (λ (t : Switch). t.target.0) row.2

module _ (bits : Bits) (w : ℕ) where
  abbrev IsOff : SwitchGroup → Type 0
  IsOff g = g.wire ≡ w → row_on bits g ≡ None

  -- no row into the wire is on where none of the groups has one
  none_into : (groups : List SwitchGroup) → All IsOff groups → into w (switches_on bits groups) ≡ []
  none_into [] off = refl
  none_into (g ∷ groups) off = by (switch_on bits g) refl (none_into groups (All-tail IsOff g groups off))
    where
      by : (o : Option Switch) → switch_on bits g ≡ o → into w (switches_on bits groups) ≡ [] → into w (cons_option o (switches_on bits groups)) ≡ []
      by None e rest = rest
      by (Some s) e rest = to (eqb s.target.0 w) refl
        where
          to : (b : Bool) → eqb s.target.0 w ≡ b → cond b (s ∷ into w (switches_on bits groups)) (into w (switches_on bits groups)) ≡ []
          to true is =
              let wire : g.wire ≡ w = switch_target bits g s e ∙ eqb-true s.target.0 w is in
              let none = ap (option_and_then (switch_at g)) (All-head IsOff g groups off wire) in
              cc (none, e)
          to false is = rest

  -- and the other way round
  into_none : (groups : List SwitchGroup) → into w (switches_on bits groups) ≡ [] → All IsOff groups
  into_none [] none = All-nil IsOff
  into_none (g ∷ groups) none =
      let parts = by (switch_on bits g) refl none in
      All-cons IsOff g groups parts.0 (into_none groups parts.1)
    where
      by : (o : Option Switch) → switch_on bits g ≡ o → into w (cons_option o (switches_on bits groups)) ≡ [] → IsOff g × (into w (switches_on bits groups) ≡ [])
      by None e rest = ((λ wire. switch_off bits g e), rest)
      by (Some s) e rest = to (eqb s.target.0 w) refl rest
        where
          to : (b : Bool) → eqb s.target.0 w ≡ b → cond b (s ∷ into w (switches_on bits groups)) (into w (switches_on bits groups)) ≡ [] → IsOff g × (into w (switches_on bits groups) ≡ [])
          to true is f = cc f
          to false is f = ((λ wire. let yes = eq-eqb s.target.0 w (sym (switch_target bits g s e) ∙ wire) in cc (yes, is)), f)

none_among : (switches : List Switch) → driver_among switches ≡ Nothing → switches ≡ []
none_among [] e = refl
none_among (s ∷ []) e = cc e
none_among (s ∷ r ∷ others) e = cc e

pub undriven : (parts : Parts) (bits : Bits) (w : ℕ) → (driver parts bits w ≡ Nothing) ↔ HasNoRowOn parts bits w
undriven parts bits w =
    (λ e. into_none bits w parts.groups (none_among (into w (switches_on bits parts.groups)) e), λ off. ap driver_among (none_into bits w parts.groups off))

-- ---- what a circuit tells of a wire
no_row : (d : Driver) → ((first second : RowNo) → d ≡ Several first second → ⊥) → row_of d ≡ None → d ≡ Nothing
no_row Nothing one e = refl
no_row (By s) one e = cc e
no_row (Several first second) one e = absurd (one first second refl)

pub told : (parts : Parts) (k : Configuration) (circuit : CircuitData) (w : ℕ) (row : Option RowNo) → slice_get (map row_of circuit.drivers) w ≡ Some row
    → IsCircuitOf parts k circuit → w < parts.wires → IsDriverOf parts (bits_of k) w row
told parts k circuit w row at is lt =
    let d = driver parts (bits_of k) w in
    let placed : slice_get (range_with_len 0 parts.wires) w ≡ Some w = let e : 0 + w ≡ w = omega arith in subst (λ v. slice_get (range_with_len 0 parts.wires) w ≡ Some v) e (At_range 0 parts.wires w lt) in
    let kept : slice_get circuit.drivers w ≡ Some d = ap (λ ds. slice_get ds w) is.driven_by ∙ At_map (driver parts (bits_of k)) (range_with_len 0 parts.wires) w w placed in
    let driving : row ≡ row_of d = same_Some row (row_of d) (sym at ∙ slice_get-map row_of circuit.drivers w ∙ ap (option_map row_of) kept) in
    let law = undriven parts (bits_of k) w in
    record {
      driving = driving;
      undriven = (λ none. law.0 (no_row d (uncontended parts (bits_of k) k.extras is.faultless w lt) (sym driving ∙ none)), λ off. driving ∙ ap row_of (law.1 off));
    }
