-- Wires that have values leave no loop among the points of a chip, nor among those of other tiles. So an order of evaluation leaves none.
use Rattle.std.proofs.Common.{◌≡◌, ℕ, zero, suc, ◌+◌, ◌<◌, ◌≤◌, Bool, false, List, [], Some, None, sym, ap, ◌∙◌, subst, map, get_or, arith}
use Rattle.std.specs.Prelude.{unwrap_or}
use Rattle.std.proofs.lemmas.Option.{slice_get-get_or}
use Rattle.ice_base.specs.declared.number.TileAt.{TileAt}
use Rattle.ice_base_values.specs.System.{System, value}
use Rattle.ice_base_values.specs.Order.{Has}
use Rattle.ice_base_values.proofs.Values.{value_step, value_at_more}
use Rattle.ice_base_values.proofs.Cycles.{cycle_goes_on, value_in_cycle}
use Rattle.ice_chip.specs.Database.{Parts}
use Rattle.ice_chip.specs.IsRead.{IsRead}
use Rattle.ice_chip.specs.declared.rows.Pad.{Pad}
use Rattle.ice_bits.specs.Configuration.{Bits}
use Rattle.ice_decode.specs.declared.point.Point.{Point}
use Rattle.ice_decode.specs.declared.point.Point.TheVariants.{Wire, Carry}
use Rattle.ice_decode.specs.Cells.{logic_tiles}
use Rattle.ice_decode.specs.Reads.{wire_point, count_points, depends_on}
use Rattle.ice_decode.specs.Meaning.{chip_system, point_level}
use Rattle.ice_decode.specs.Faults.{HasNoLoop}
use Rattle.ice_decode.specs.Loops.{IsOrderOf}
use Rattle.ice_decode.proofs.PointPlaces.{wire_at}
use Rattle.ice_decode.proofs.ReadPoints.{IsReadBy, is_read_by}
use Rattle.ice_decode.proofs.Valued.{valued}

module _ (parts : Parts) (bits : Bits) (extras : List (ℕ × ℕ × ℕ)) (read : IsRead parts) (bonded : List Pad) (levels kept : List Bool) (steps : ℕ)
    (each : (w : ℕ) → w < parts.wires → (x : Bool) × (value (chip_system parts bits extras bonded levels kept) steps (Wire (record { 0 = w })) ≡ Some x)) where
  abbrev system : System Point Bool
  system = chip_system parts bits extras bonded levels kept

  -- a wire of the chip has a value, and so has the carry of a cell, after all carries before it
  abbrev IsValued : ℕ → Point → Type 0
  IsValued n p = (x : Bool) × (value system n p ≡ Some x)

  wire_valued : (w : ℕ) → w < parts.wires → (n : ℕ) → steps ≤ n → IsValued n (Wire (record { 0 = w }))
  wire_valued w lt n le = let here = each w lt in (here.0, value_at_more system steps n (Wire (record { 0 = w })) here.0 le here.1)

  point_valued : (n : ℕ) (p : Point) → ((q : Point) → Has (depends_on parts bits extras p) q → IsValued n q) → IsValued (suc n) p
  point_valued n p all = (
    system.local p (map level (system.depends p)),
    value_step system level n p (λ q has. let got = all q has in got.1 ∙ ap (λ (x : Bool). Some x) (sym (ap (λ o. unwrap_or o false) got.1))),
  )
    where
      level : Point → Bool
      level q = unwrap_or (value system n q) false

  read_valued : (t : TileAt) (k : ℕ) → ((j : ℕ) → k ≡ suc j → IsValued (suc (steps + j)) (Carry t j)) → (q : Point) → IsReadBy parts (Carry t k) q → IsValued (steps + k) q
  read_valued t k before (Wire w) is = wire_valued w.0 is (steps + k) (omega arith)
  read_valued t k before (Carry u j) is =
      let e : suc (steps + j) ≡ steps + k = (let f = is.1 in omega arith) in
      subst (λ (v : TileAt). IsValued (steps + k) (Carry v j)) (sym is.0) (subst (λ (n : ℕ). IsValued n (Carry t j)) e (before j is.1))

  carry_valued : (t : TileAt) (i : ℕ) → IsValued (suc (steps + i)) (Carry t i)
  carry_valued t zero = point_valued (steps + zero) (Carry t zero) (λ q has. read_valued t zero (λ j e. absurd (omega arith)) q (is_read_by parts bits extras read (Carry t zero) q has))
  carry_valued t (suc i) =
      point_valued (steps + suc i) (Carry t (suc i))
      (λ q has. read_valued t (suc i) (λ j e. let f : i ≡ j = omega arith in subst (λ (n : ℕ). IsValued (suc (steps + n)) (Carry t n)) f (carry_valued t i)) q (is_read_by parts bits extras read (Carry t (suc i)) q has))

  pub valued_loopless : HasNoLoop parts bits extras
  valued_loopless = record {
    none = λ cycle c.
        let first : Point = get_or cycle 0 (Wire (record { 0 = 0 })) in
        let next = cycle_goes_on (depends_on parts bits extras) cycle c first (0, slice_get-get_or cycle 0 (Wire (record { 0 = 0 })) c.some) in
        by first next.0 (is_read_by parts bits extras read first next.0 next.1) (λ n. value_in_cycle system cycle c n next.0 next.2);
  }
    where
      by : (p q : Point) → IsReadBy parts p q → ((n : ℕ) → value system n q ≡ None) → ⊥
      by p (Wire w) is none = let some = wire_valued w.0 is steps (omega arith) in let no = none steps in cc (some.1, no)
      by p (Carry t i) is none = let some = carry_valued t i in let no = none (suc (steps + i)) in cc (some.1, no)

pub loopless : (parts : Parts) (bits : Bits) (extras : List (ℕ × ℕ × ℕ)) → IsRead parts → (order : List Point) → IsOrderOf parts bits extras order → HasNoLoop parts bits extras
loopless parts bits extras read order o =
    valued_loopless parts bits extras read [] [] [] (count_points parts + 1)
    (λ w lt. (point_level parts bits extras [] [] [] (wire_point w), valued parts bits extras order o [] [] [] (wire_point w) (w, wire_at parts.wires (logic_tiles parts) w lt)))
