-- The carries of a design: who follows whom comes from what comes into them.
use Rattle.std.proofs.Common.{◌≡◌, ◌⊎◌, ℕ, zero, suc, ◌+◌, ◌<◌, ◌≤◌, Bool, true, false, Option, None, Some, List, [], ◌∷◌, ◌++◌, length, map, get_or, refl, ap, sym, ◌∙◌, subst, arith, inl, inr}
use Rattle.std.specs.Prelude.{slice_get, flat_map, ◌||◌, not}
use Rattle.std.specs.List.{list_any}
use Rattle.std.proofs.lemmas.Bool.{cases_lt, eq-eqb}
use Rattle.std.proofs.lemmas.Option.{same_Some}
use Rattle.std.proofs.lemmas.List.{get_or_past}
use Rattle.std.proofs.lemmas.List.Folds.{list_any-append}
use Rattle.ice_cells.specs.declared.cell.Control.{Control}
use Rattle.ice_cells.specs.declared.design.DesignPad.{DesignPad}
use Rattle.ice_cells.specs.declared.cell.LogicCell.{LogicCell}
use Rattle.ice_net.specs.declared.kind.Reset.{Reset}
use Rattle.ice_cells.specs.declared.root.CarryIn.{CarryIn}
use Rattle.ice_cells.specs.declared.root.CarryIn.TheVariants.{Fixed, Read}
use Rattle.ice_cells.specs.declared.root.Root.{Root}
use Rattle.ice_cells.specs.declared.root.Root.TheVariants.{CarryOut}
use Rattle.ice_cells.specs.declared.design.Design.{Design}
use Rattle.ice_cells.specs.Readings.{Reading, plain, carry_reading, control_readings, cell_readings, cells_readings, pad_readings, readings}
use Rattle.ice_cells.specs.Follows.{follow, follows}
use Rattle.ice_cells.specs.Chains.{Head, next, next_by, is_first}
use Rattle.ice_cells.specs.declared.follow.Follow.{Follow}
use Rattle.ice_cells.specs.declared.follow.Follow.TheVariants.{Nobody, Next, Other}
use Rattle.ice_cells.specs.declared.follow.Reader.{Reader}
use Rattle.ice_cells.specs.declared.follow.Reader.TheVariants.{Into, Last, Else}
use Rattle.ice_carry_chains.proofs.ChainLaws.{IsHead, FollowsOne}
use Rattle.ice_carry_chains.proofs.FollowLaws.{next_back}
use Rattle.ice_cells.specs.Tables.{is_place}
use Rattle.ice_cells.proofs.TableLaws.{length-table, get_or-table}

abbrev is_into : Reader → Bool
is_into (Into c) = true
is_into (Last c) = false
is_into Else = false

abbrev into : Reading → Bool
into reading = is_into reading.1

-- ---- only what comes into carries is read so
none_control : (flop : Option (Control × Reset)) → list_any into (control_readings flop) ≡ false
none_control None = refl
none_control (Some flop) = refl

none_cells : (c : ℕ) (cells : List LogicCell) → list_any into (cells_readings c cells) ≡ false
none_cells c [] = refl
none_cells c (cell ∷ cells) =
    list_any-append into (cell_readings c cell) (cells_readings (c + 1) cells) ∙ ap (λ b. b || list_any into (cells_readings (c + 1) cells)) (none_control cell.flop) ∙ none_cells (c + 1) cells

none_pads : (pads : List DesignPad) → list_any into (flat_map pad_readings pads) ≡ false
none_pads [] = refl
none_pads (pad ∷ pads) = none_pads pads

none_globals : (globals : List (Option Root)) → list_any into (map plain globals) ≡ false
none_globals [] = refl
none_globals (root ∷ globals) = none_globals globals

none_there : (rs : List Reading) (i : ℕ) (x : Reading) → list_any into rs ≡ false → into x ≡ true → slice_get rs i ≡ Some x → ⊥
none_there [] i x e f at = cc
none_there (r ∷ rs) i x e f at = by (into r) refl e i at (λ k h. none_there rs k x h f)
  where
    by : (b : Bool) → into r ≡ b → (b || list_any into rs) ≡ false → (i : ℕ) → slice_get (r ∷ rs) i ≡ Some x → ((k : ℕ) → list_any into rs ≡ false → slice_get rs k ≡ Some x → ⊥) → ⊥
    by true g h i at rest = cc
    by false g h zero at rest = (let bad : into x ≡ false = subst (λ (y : Reading). into y ≡ false) (same_Some r x at) g in cc (bad, f))
    by false g h (suc k) at rest = rest k h at

in_front : (rs ts : List Reading) (i : ℕ) (x : Reading) → list_any into ts ≡ false → into x ≡ true → slice_get (rs ++ ts) i ≡ Some x → slice_get rs i ≡ Some x
in_front [] ts i x e f at = absurd (none_there ts i x e f at)
in_front (r ∷ rs) ts zero x e f at = at
in_front (r ∷ rs) ts (suc i) x e f at = in_front rs ts i x e f at

same_into : (d c : ℕ) → Into d ≡ Into c → d ≡ c
same_into d c e = cc

else_into : (c : ℕ) → Else ≡ Into c → ⊥
else_into c e = cc

carry_back : (carries : List Head) (i c k : ℕ) → slice_get (map carry_reading carries) i ≡ Some (Some (CarryOut k), Into c) → slice_get carries i ≡ Some (c, Read (CarryOut k))
carry_back [] i c k at = cc
carry_back ((d, Fixed level) ∷ carries) zero c k at = absurd (else_into c (ap (λ (r : Reading). r.1) (same_Some (None, Else) (Some (CarryOut k), Into c) at)))
carry_back ((d, Read root) ∷ carries) zero c k at =
    let e : (Some root, Into d) ≡ (Some (CarryOut k), Into c) = same_Some (Some root, Into d) (Some (CarryOut k), Into c) at in
    let f : Some root ≡ Some (CarryOut k) = ap (λ (r : Reading). r.0) e in
    let g : Into d ≡ Into c = ap (λ (r : Reading). r.1) e in
    let same_root : root ≡ CarryOut k = same_Some root (CarryOut k) f in
    let same_cell : d ≡ c = same_into d c g in
    λ i. Some (same_cell i, Read (same_root i))
carry_back ((d, Fixed level) ∷ carries) (suc i) c k at = carry_back carries i c k at
carry_back ((d, Read root) ∷ carries) (suc i) c k at = carry_back carries i c k at

by_next : (mark : Follow) (c : ℕ) → next_by mark ≡ Some c → mark ≡ Next c
by_next Nobody c e = cc
by_next (Next d) c e = ap Next (same_Some d c e)
by_next Other c e = cc

-- a carry that follows another takes it in
pub next_takes : (d : Design) (k c : ℕ) → next (follows d) k ≡ Some c → (i : ℕ) × (slice_get d.carries i ≡ Some (c, Read (CarryOut k)))
next_takes d k c e = by (cases_lt k (length d.cells)) (by_next (get_or (follows d) k Nobody) c e)
  where
    front : List Reading
    front = map carry_reading d.carries

    at_reading : (i : ℕ) → slice_get (readings d) i ≡ Some (Some (CarryOut k), Into c) → (i : ℕ) × (slice_get d.carries i ≡ Some (c, Read (CarryOut k)))
    at_reading i at =
        let three = in_front (map carry_reading d.carries ++ cells_readings 0 d.cells ++ flat_map pad_readings d.pads) (map plain d.globals) i (Some (CarryOut k), Into c) (none_globals d.globals) refl at in
        let two = in_front (map carry_reading d.carries ++ cells_readings 0 d.cells) (flat_map pad_readings d.pads) i (Some (CarryOut k), Into c) (none_pads d.pads) refl three in
        let one = in_front (map carry_reading d.carries) (cells_readings 0 d.cells) i (Some (CarryOut k), Into c) (none_cells 0 d.cells) refl two in
        (i, carry_back d.carries i c k one)

    by : (k < length d.cells) ⊎ (length d.cells ≤ k) → get_or (follows d) k Nobody ≡ Next c → (i : ℕ) × (slice_get d.carries i ≡ Some (c, Read (CarryOut k)))
    by (inl lt) f = elim (next_back k c (readings d) Nobody (sym (get_or-table (follow d) (length d.cells) k Nobody lt) ∙ f)) [
      | inl has ↦ at_reading has.0 has.1
      | inr bad ↦ absurd (cc bad)
    ]
    by (inr le) f = (let past = get_or_past (follows d) k Nobody (let l = length-table (follow d) (length d.cells) in omega arith) in absurd (cc (past, f)))

-- `carries` has each cell once
module _ (d : Design) (once : (i j : ℕ) (x y : Head) → slice_get d.carries i ≡ Some x → slice_get d.carries j ≡ Some y → x.0 ≡ y.0 → x ≡ y) where
  same_carry : (a b : ℕ) → Read (CarryOut a) ≡ Read (CarryOut b) → a ≡ b
  same_carry a b e = cc

  pub follows_one : FollowsOne (follows d)
  follows_one a b c e f =
      let one = next_takes d a c e in
      let two = next_takes d b c f in
      let same = once one.0 two.0 (c, Read (CarryOut a)) (c, Read (CarryOut b)) one.1 two.1 refl in
      same_carry a b (ap (λ (x : Head). x.1) same)

  first_back : (marks : List Follow) (k c : ℕ) (o : CarryIn) → next marks k ≡ Some c → o ≡ Read (CarryOut k) → is_first marks c o ≡ true → ⊥
  first_back marks k c o e f g =
      let shut : is_first marks c o ≡ false = ap (is_first marks c) f ∙ ap (λ n. not (is_place c n)) e ∙ ap not (eq-eqb c c refl) in
      cc (shut, g)

  pub first_heads : (i : ℕ) (x : Head) → slice_get d.carries i ≡ Some x → is_first (follows d) x.0 x.1 ≡ true → IsHead (follows d) x.0
  first_heads i x at e k f =
      let takes = next_takes d k x.0 f in
      let same = once i takes.0 x (x.0, Read (CarryOut k)) at takes.1 refl in
      first_back (follows d) k x.0 x.1 f (ap (λ (y : Head). y.1) same) e
