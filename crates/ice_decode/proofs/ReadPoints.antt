-- What the points of a chip read are points of the chip.
use Rattle.std.proofs.Common.{◌≡◌, ℕ, zero, suc, ◌+◌, ◌*◌, ◌<◌, false, List, [], ◌∷◌, Some, None, Option, refl, sym, subst, map, arith}
use Rattle.std.specs.Prelude.{codes, option_map}
use Rattle.std.proofs.lemmas.Option.{same_Some}
use Rattle.std.proofs.lemmas.Bool.{cond_both}
use Rattle.std.proofs.lemmas.List.Elements.{All-map, All-filter}
use Rattle.ice_base.specs.declared.number.TileAt.{TileAt}
use Rattle.ice_base.proofs.Entries.{lookup_all}
use Rattle.ice_chip.specs.Database.{Parts, WireName}
use Rattle.ice_chip.specs.IsRead.{IsRead}
use Rattle.ice_chip.specs.Lookups.{wire_named, placed_at, placed_wire, placed_names, is_placed, global_of}
use Rattle.ice_chip.specs.WholeFaults.{same_placed}
use Rattle.ice_chip.specs.declared.placed.PlacedName.{PlacedName}
use Rattle.ice_bits.specs.Configuration.{Bits}
use Rattle.ice_base_values.specs.System.{present}
use Rattle.ice_base_values.specs.Order.{At, Has}
use Rattle.ice_decode.specs.declared.point.Point.{Point}
use Rattle.ice_decode.specs.declared.point.Point.TheVariants.{Wire, Carry}
use Rattle.ice_decode.specs.declared.driver.Driver.{Driver}
use Rattle.ice_decode.specs.declared.driver.Driver.TheVariants.{Nothing, By, Several}
use Rattle.ice_decode.specs.declared.role.Role.{Role}
use Rattle.ice_decode.specs.declared.role.Role.TheVariants.{Plain, Output, LookUp, CarryOut, PadInput, RamOutput, Global, CarryIn, ClockEnable}
use Rattle.ice_chip.specs.Names.{input_name}
use Rattle.ice_decode.specs.Cells.{has_carry, has_flop, logic_tiles}
use Rattle.ice_decode.specs.Direct.{takes_pad}
use Rattle.ice_decode.specs.Drivers.{driver, role_of}
use Rattle.ice_decode.specs.Reads.{wire_point, at_pin, at_pin_of, global_feed, cell_inputs, carry_inputs, role_reads, driven_reads, reads_at, depends_on}
use Rattle.ice_decode.specs.Points.{points}
use Rattle.ice_decode.proofs.PointPlaces.{StandsAs, wire_at, carry_at, point_cases}
use Rattle.ice_decode.proofs.RolePlaces.{IsCell, IsOfCell, role_of_cell, cell_there}
use Rattle.ice_decode.proofs.Switches.{driver_between}

-- What is read: a wire of the chip, the carry of a cell of the chip by a wire, or the carry of the cell before by a carry.
abbrev pub IsReadBy : Parts → Point → Point → Type 0
IsReadBy parts p (Wire w) = w.0 < parts.wires
IsReadBy parts (Wire v) (Carry t i) = IsCell parts t i
IsReadBy parts (Carry u j) (Carry t i) = (t ≡ u) × (j ≡ suc i)

abbrev AllRead : (Point → Type 0) → List (Option Point) → Type 0
AllRead P [] = Unit {0}
AllRead P (None ∷ reads) = AllRead P reads
AllRead P (Some p ∷ reads) = P p × AllRead P reads

read_has : (P : Point → Type 0) (reads : List (Option Point)) → AllRead P reads → (q : Point) → Has (present reads) q → P q
read_has P [] all q has = cc has.1
read_has P (None ∷ reads) all q has = read_has P reads all q has
read_has P (Some p ∷ reads) all q (zero, at) = subst P (same_Some p q at) all.0
read_has P (Some p ∷ reads) all q (suc i, at) = read_has P reads all.1 q (i, at)

-- ---- names
pub named_below : (parts : Parts) → IsRead parts → (t : TileAt) (name : List ℕ) (w : ℕ) → wire_named parts t name ≡ Some w → w < parts.wires
named_below parts read t name w e =
    lookup_all (λ (k : ℕ). k < parts.wires) (same_placed (placed_at t name)) (map placed_wire (placed_names parts))
    (All-map (λ (e : PlacedName × ℕ). e.1 < parts.wires) placed_wire (placed_names parts) (All-filter (is_placed parts.tiles) (λ (n : WireName). n.wire < parts.wires) parts.names read.named_wires)) w e

module _ (parts : Parts) (bits : Bits) (read : IsRead parts) (p : Point) where
  pin_read : (t : TileAt) (name : List ℕ) (rest : List (Option Point)) → AllRead (IsReadBy parts p) rest → AllRead (IsReadBy parts p) (at_pin parts t name ∷ rest)
  pin_read t name rest all = by (wire_named parts t name) refl
    where
      by : (o : Option ℕ) → wire_named parts t name ≡ o → AllRead (IsReadBy parts p) (option_map wire_point o ∷ rest)
      by None e = all
      by (Some w) e = (named_below parts read t name w e, all)

  inputs_read : (t : TileAt) (i : ℕ) → AllRead (IsReadBy parts p) (cell_inputs parts t i)
  inputs_read t i =
      pin_read t (input_name i 0) _ (pin_read t (input_name i 1) _ (pin_read t (input_name i 2) _ (pin_read t (input_name i 3) [] tt)))

  feed_read : (o : Option TileAt) → AllRead (IsReadBy parts p) (at_pin_of parts o (codes "fabout") ∷ [])
  feed_read None = tt
  feed_read (Some t) = pin_read t (codes "fabout") [] tt

carry_inputs_read : (parts : Parts) → IsRead parts → (t : TileAt) (i : ℕ) → AllRead (IsReadBy parts (Carry t i)) (carry_inputs parts t i)
carry_inputs_read parts read t zero =
    pin_read parts (λ _ _. false) read (Carry t zero) t (input_name zero 1) _ (pin_read parts (λ _ _. false) read (Carry t zero) t (input_name zero 2) _
    (pin_read parts (λ _ _. false) read (Carry t zero) t (codes "carry_in_mux") [] tt))
carry_inputs_read parts read t (suc i) =
    pin_read parts (λ _ _. false) read (Carry t (suc i)) t (input_name (suc i) 1) _ (pin_read parts (λ _ _. false) read (Carry t (suc i)) t (input_name (suc i) 2) _
    ((refl, refl), tt))

role_read : (parts : Parts) (bits : Bits) (extras : List (ℕ × ℕ × ℕ)) → IsRead parts → (w : ℕ) (role : Role) → IsOfCell parts role → AllRead (IsReadBy parts (wire_point w)) (role_reads parts bits extras role)
role_read parts bits extras read w Plain fits = tt
role_read parts bits extras read w (Output t i) fits =
    cond_both (has_flop parts bits t i) [] (cell_inputs parts t i) (AllRead (IsReadBy parts (wire_point w))) (λ e. tt) (λ e. inputs_read parts bits read (wire_point w) t i)
role_read parts bits extras read w (LookUp t i) fits = inputs_read parts bits read (wire_point w) t i
role_read parts bits extras read w (CarryOut t i) fits = (fits, tt)
role_read parts bits extras read w (PadInput pad) fits = tt
role_read parts bits extras read w (RamOutput pad) fits = tt
role_read parts bits extras read w (Global n) fits =
    cond_both (takes_pad parts extras n) [] (global_feed parts n ∷ []) (AllRead (IsReadBy parts (wire_point w))) (λ e. tt) (λ e. feed_read parts bits read (wire_point w) (global_of parts n))
role_read parts bits extras read w (CarryIn t) fits = tt
role_read parts bits extras read w ClockEnable fits = tt

driven_read : (parts : Parts) (bits : Bits) (extras : List (ℕ × ℕ × ℕ)) → IsRead parts → (w : ℕ) (d : Driver) → driver parts bits w ≡ d
    → AllRead (IsReadBy parts (wire_point w)) (driven_reads parts bits extras (role_of parts w) d)
driven_read parts bits extras read w Nothing e = role_read parts bits extras read w (role_of parts w) (role_of_cell parts w)
driven_read parts bits extras read w (By s) e = ((driver_between parts bits w s read e).source, tt)
driven_read parts bits extras read w (Several first second) e = tt

reads_read : (parts : Parts) (bits : Bits) (extras : List (ℕ × ℕ × ℕ)) → IsRead parts → (p : Point) → AllRead (IsReadBy parts p) (reads_at parts bits extras p)
reads_read parts bits extras read (Wire w) = driven_read parts bits extras read w.0 (driver parts bits w.0) refl
reads_read parts bits extras read (Carry t i) =
    cond_both (has_carry parts bits t i) (carry_inputs parts t i) [] (AllRead (IsReadBy parts (Carry t i))) (λ e. carry_inputs_read parts read t i) (λ e. tt)

pub is_read_by : (parts : Parts) (bits : Bits) (extras : List (ℕ × ℕ × ℕ)) → IsRead parts → (p q : Point) → Has (depends_on parts bits extras p) q → IsReadBy parts p q
is_read_by parts bits extras read p q has = read_has (IsReadBy parts p) (reads_at parts bits extras p) (reads_read parts bits extras read p) q has

-- what a point of the chip reads is one too
pub read_there : (parts : Parts) (bits : Bits) (extras : List (ℕ × ℕ × ℕ)) → IsRead parts → (p q : Point) → Has (points parts) p → Has (depends_on parts bits extras p) q → Has (points parts) q
read_there parts bits extras read p q there has = by p q (point_cases parts.wires (logic_tiles parts) there.0 p there.1) (is_read_by parts bits extras read p q has)
  where
    by : (x y : Point) → StandsAs parts.wires (logic_tiles parts) there.0 x → IsReadBy parts x y → Has (points parts) y
    by x (Wire w) stands is = (w.0, wire_at parts.wires (logic_tiles parts) w.0 is)
    by (Wire v) (Carry t i) stands is = cell_there parts t i is
    by (Carry u j) (Carry t i) stands is =
        let lt : i < 8 = (let below = stands.2 in let e = is.1 in omega arith) in
        let at : At (logic_tiles parts) stands.0 t = subst (At (logic_tiles parts) stands.0) (sym is.0) stands.1 in
        (parts.wires + 8 * stands.0 + i, carry_at parts.wires (logic_tiles parts) stands.0 i t at lt)
