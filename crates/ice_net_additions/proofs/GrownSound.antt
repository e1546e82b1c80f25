-- A sound netlist that grows stays sound, where the cells that are added read signals in use.
use Rattle.std.proofs.Common.{◌≡◌, ◌⊎◌, ℕ, zero, suc, ◌+◌, ◌-◌, ◌<◌, ◌≤◌, Bool, true, false, ◌&&◌, ◌||◌, nat_lt, Option, None, Some, List, [], ◌∷◌, ◌++◌, length, map, All, inl, inr, refl, ap, sym, ◌∙◌, subst, arith, ltb-true, lt-ltb, true≢false}
use Rattle.std.specs.Prelude.{slice_get, slice_index_or}
use Rattle.std.specs.List.{flat_map}
use Rattle.std.specs.Option.{option_map_or}
use Rattle.std.proofs.Math.Path.{fun_ext}
use Rattle.std.proofs.lemmas.Bool.{cases_lt, and_parts, or_cases, or_left, or_right}
use Rattle.std.proofs.lemmas.Grind.{flat_map-append}
use Rattle.std.proofs.lemmas.Option.{none-some, same_Some, slice_get-get_or}
use Rattle.ice_base.specs.declared.number.SignalNo.{SignalNo}
use Rattle.ice_base_values.specs.Order.{At, Has}
use Rattle.ice_base_values.proofs.Cycles.{cycle_below_same}
use Rattle.ice_base_values.proofs.Gaps.{present_at}
use Rattle.ice_base_values.proofs.Members.{At_left, At_right, At_parts, At_within}
use Rattle.ice_base_values.specs.System.{present}
use Rattle.ice_net.specs.declared.cell.Cell.{Cell}
use Rattle.ice_net.specs.declared.port.Port.{Port}
use Rattle.ice_net.specs.NetlistData.{NetlistData}
use Rattle.ice_net.specs.Formed.{IsBelow, IsFormed}
use Rattle.ice_net.specs.Drivers.{numbers, is_there, place_of, pin_by, pin_of, output_of, pad_signals, outputs, driver_of}
use Rattle.ice_net.specs.Meaning.{depends_on}
use Rattle.ice_check.specs.Faults.{first_number, uses_of, is_used, shown_by, is_shown, is_nothing, is_undriven, is_driven_twice, undriven, driven_twice, port_is, is_bare_by, pad_shared, inout_bare, cell_is, is_type_out, is_portless}
use Rattle.ice_check.specs.Loops.{HasNoLoop}
use Rattle.ice_check.specs.Sound.{IsSound}
use Rattle.ice_check.specs.Tables.{times}
use Rattle.ice_check.proofs.OldSignals.{depends_below, cycle_old}
use Rattle.ice_check.proofs.ListsBelow.{pads_below, outputs_below}
use Rattle.ice_check.proofs.Places.{wire, place_has, has_place, times_above, times_append}
use Rattle.ice_check.proofs.FirstNumbers.{pass_all, none_of}
use Rattle.ice_net_additions.specs.AddedCells.{added_cell, added_cells}
use Rattle.ice_net_additions.proofs.AddedCells.{Ins, at_added, count_no_pins, count_outs_above, count_outs, added_use}
use Rattle.ice_net_additions.proofs.Growths.{InPairs, at_pair, IsTurned, Growth, grown, length_names, pins_are, outputs_are, buffered_same, pads_same, driver_old, driver_new, depends_old, reads_new}

-- what is asked of the lists: there is a name for each, and each signal in them is one of the netlist, and in use
pub record AreInUse (n : NetlistData) (names : List (List ℕ)) (lists : List Ins) : Type 0 where
  pub named : length names ≡ length lists
  pub below : (j : ℕ) (ins : Ins) → At lists j ins → All (IsBelow (length n.names)) ins
  pub used : (j s : ℕ) (ins : Ins) → At lists j ins → Has ins (wire s) → is_used n s ≡ true

module _ (g : Growth) (formed : IsFormed g.before) (a : AreInUse g.before g.names g.lists) where
  abbrev n : NetlistData
  n = g.before

  abbrev count : ℕ
  count = length g.before.names

  abbrev new : NetlistData
  new = grown g

  abbrev added : List Cell
  added = added_cells g.kind (length g.before.names) g.lists

  -- ---- which signals there are
  data IsNumber (s : ℕ) : Type 0 where
    old : s < count → IsNumber s
    added_at : (j : ℕ) (ins : Ins) → At g.lists j ins → s ≡ count + j → IsNumber s

  list_at : (j : ℕ) → j < length g.lists → (ins : Ins) × At g.lists j ins
  list_at j lt = (slice_index_or g.lists j [], slice_get-get_or g.lists j [] lt)

  which : (s : ℕ) → s < length new.names → IsNumber s
  which s lt = by (cases_lt s count)
    where
      by : (s < count) ⊎ (count ≤ s) → IsNumber s
      by (inl less) = old less
      by (inr le) =
          let long = length_names g in
          let named = a.named in
          let j : s - count < length g.lists = omega (arith, long, named, lt, le) in
          let found = list_at (s - count) j in
          added_at (s - count) found.0 found.1 (let e : s ≡ count + (s - count) = omega (arith, le) in e)

  -- ---- signals that are used
  used_before : (s : ℕ) → s < count → (olds cells : List Cell) → InPairs (IsTurned count) olds cells → (i : ℕ) → At (flat_map uses_of olds) i (wire s) → Has (flat_map uses_of cells) (wire s)
  used_before s lt [] cells pairs i at = absurd (none-some (wire s) at)
  used_before s lt (other ∷ olds) [] pairs i at = absurd pairs
  used_before s lt (other ∷ olds) (cell ∷ cells) pairs i at =
      by (used_before s lt olds cells pairs.1) (At_parts (uses_of other) (flat_map uses_of olds) i (wire s) at)
    where
      by : ((j : ℕ) → At (flat_map uses_of olds) j (wire s) → Has (flat_map uses_of cells) (wire s))
          → At (uses_of other) i (wire s) ⊎ ((j : ℕ) × (i ≡ length (uses_of other) + j) × At (flat_map uses_of olds) j (wire s))
          → Has (uses_of cell ++ flat_map uses_of cells) (wire s)
      by later (inl here) = (i, At_left (uses_of cell) (flat_map uses_of cells) i (wire s) (pairs.0.uses s i lt here))
      by later (inr (j, e, there)) =
          let rest = later j there in
          (length (uses_of cell) + rest.0, At_right (uses_of cell) (flat_map uses_of cells) rest.0 (wire s) rest.1)

  used_old : (s : ℕ) → s < count → is_used new s ≡ true → is_used n s ≡ true
  used_old s lt on =
      let has = place_has s (flat_map uses_of new.cells) on in
      by has.0 (At_parts (flat_map uses_of g.olds) (flat_map uses_of added) has.0 (wire s)
      (subst (λ (xs : List (Option SignalNo)). At xs has.0 (wire s)) (flat_map-append uses_of g.olds added) has.1))
    where
      by : (i : ℕ) → At (flat_map uses_of g.olds) i (wire s) ⊎ ((j : ℕ) × (i ≡ length (flat_map uses_of g.olds) + j) × At (flat_map uses_of added) j (wire s)) → is_used n s ≡ true
      by i (inl here) = let before = used_before s lt g.olds n.cells g.turned i here in has_place s (flat_map uses_of n.cells) before.0 before.1
      by i (inr (j, e, there)) = let found = added_use g.kind g.addable s count g.lists j there in a.used found.0 s found.1 found.2 found.3

  shown_same : (s : ℕ) → is_shown new s ≡ is_shown n s
  shown_same s =
      ap (λ (f : Port → Option SignalNo). is_there (place_of s (map f n.ports)))
      (fun_ext (λ (port : Port). ap (λ b. shown_by port b port.way) (buffered_same g port.signal.0)))

  undriven_before : (s : ℕ) → s < count → is_undriven new s ≡ true → is_undriven n s ≡ true
  undriven_before s lt on =
      let parts = and_parts (is_nothing (driver_of new s)) (is_used new s || is_shown new s) on in
      both (is_nothing (driver_of n s)) (is_used n s || is_shown n s) (ap is_nothing (sym (driver_old g s lt)) ∙ parts.0)
      (elim (or_cases (is_used new s) (is_shown new s) parts.1) [
        | inl here ↦ or_left (is_used n s) (is_shown n s) (used_old s lt here)
        | inr shown ↦ or_right (is_used n s) (is_shown n s) (sym (shown_same s) ∙ shown)
      ])
    where
      both : (a b : Bool) → a ≡ true → b ≡ true → (a && b) ≡ true
      both true true e f = refl
      both true false e f = f
      both false b e f = e

  driven_after : undriven n ≡ None → undriven new ≡ None
  driven_after none = pass_all (is_undriven new) (length new.names) (λ s lt on. by s on (which s lt))
    where
      by : (s : ℕ) → is_undriven new s ≡ true → IsNumber s → ⊥
      by s on (old lt) = none_of (is_undriven n) count s none lt (undriven_before s lt on)
      by s on (added_at j ins at e) =
          let parts = and_parts (is_nothing (driver_of new s)) (is_used new s || is_shown new s) on in
          true≢false (sym parts.0 ∙ ap is_nothing (ap (driver_of new) e ∙ driver_new g formed j ins at))

  -- ---- signals that are driven twice
  times_outputs : (s : ℕ) → times s (outputs new) ≡ times s (outputs n) + times s (map output_of added)
  times_outputs s = ap (times s) (outputs_are g) ∙ times_append s (outputs n) (map output_of added)

  times_pads : (s : ℕ) → times s (pad_signals new) ≡ times s (pad_signals n)
  times_pads s = ap (times s) (pads_same g)

  once_after : driven_twice n ≡ None → driven_twice new ≡ None
  once_after none = pass_all (is_driven_twice new) (length new.names) (λ s lt on. by s (ltb-true 1 (times s (pad_signals new) + times s (outputs new)) on) (which s lt))
    where
      by : (s : ℕ) → 1 < times s (pad_signals new) + times s (outputs new) → IsNumber s → ⊥
      by s twice (old lt) =
          let p = times_pads s in
          let o = times_outputs s in
          let c = count_outs_above g.kind s count g.lists lt in
          none_of (is_driven_twice n) count s none lt (lt-ltb 1 (times s (pad_signals n) + times s (outputs n)) (omega (arith, twice, p, o, c)))
      by s twice (added_at j ins at e) =
          let tp = times_pads s in
          let to = times_outputs s in
          let c = count_outs g.kind s count g.lists in
          let le : count ≤ s = omega (arith, e) in
          let p = times_above s count (pad_signals n) (pads_below n formed) le in
          let o = times_above s count (outputs n) (outputs_below n formed) le in
          absurd (omega (arith, twice, tp, to, c, p, o))

  -- ---- loops
  number_below : (ins : Ins) → All (IsBelow count) ins → (i q : ℕ) → At (numbers ins) i (Some q) → q < count
  number_below [] all i q at = absurd (none-some (Some q) at)
  number_below (None ∷ ins) all zero q at = absurd (none-some q (same_Some None (Some q) at))
  number_below (Some x ∷ ins) all zero q at =
      let lt : x.0 < count = all 0 None (omega arith) in
      subst (λ k. k < count) (same_Some x.0 q (same_Some (Some x.0) (Some q) at)) lt
  number_below (x ∷ ins) all (suc i) q at = number_below ins (λ k d lt. all (suc k) d (omega (arith, lt))) i q at

  reads_old : (s q : ℕ) → IsNumber s → Has (depends_on new s) q → q < count
  reads_old s q (old lt) has = depends_below n formed s q (subst (λ (xs : List ℕ). Has xs q) (depends_old g s lt) has)
  reads_old s q (added_at j ins at e) has =
      let there = subst (λ (xs : List ℕ). Has xs q) (ap (depends_on new) e ∙ ap present (reads_new g formed j ins at)) has in
      let found = present_at (numbers ins) there.0 q there.1 in
      number_below ins (a.below j ins at) found.0 q found.1

  loopless_after : HasNoLoop n → HasNoLoop new
  loopless_after h = record {
    none = λ cycle c. h.none cycle (cycle_below_same count (depends_on new) (depends_on n) cycle (λ p lt. depends_old g p lt)
        (record { within = cycle_old count (length new.names) (depends_on new) (λ s q lt has. reads_old s q (which s lt) has) cycle c; closes = c.closes }));
  }

  -- ---- pads
  times_pins : (s : ℕ) → times s (map pin_of new.cells) ≡ times s (map pin_of n.cells)
  times_pins s =
      let whole = ap (times s) (pins_are g) ∙ times_append s (map pin_of n.cells) (map pin_of added) in
      let none = count_no_pins g.kind g.addable s count g.lists in
      omega (arith, whole, none)

  apart_after : pad_shared n ≡ None → pad_shared new ≡ None
  apart_after none =
      ap (λ (f : Port → Bool). first_number (port_is n f) 0 (length n.ports)) (fun_ext (λ (port : Port). ap (nat_lt 1) (times_pins port.signal.0)))
      ∙ none

  buffered_after : inout_bare n ≡ None → inout_bare new ≡ None
  buffered_after none =
      ap (λ (f : Port → Bool). first_number (port_is n f) 0 (length n.ports)) (fun_ext (λ (port : Port). ap (λ b. is_bare_by b port.way) (buffered_same g port.signal.0)))
      ∙ none

  -- what no cell is, none of the new list is either
  cells_pass : (test : Cell → Bool) → ((other cell : Cell) → IsTurned count other cell → test other ≡ test cell) → ((out : ℕ) (ins : Ins) → test (added_cell g.kind out ins) ≡ false)
      → first_number (cell_is n test) 0 (length n.cells) ≡ None → first_number (cell_is new test) 0 (length new.cells) ≡ None
  cells_pass test same apart none = pass_all (cell_is new test) (length new.cells) (λ i lt on. by i on (slice_get new.cells i) refl)
    where
      parts : (i : ℕ) (cell : Cell) → test cell ≡ true → At g.olds i cell ⊎ ((j : ℕ) × (i ≡ length g.olds + j) × At added j cell) → ⊥
      parts i cell on (inl here) =
          let found = at_pair (IsTurned count) g.olds n.cells i cell g.turned here in
          none_of (cell_is n test) (length n.cells) i none (At_within n.cells i found.0 found.1) (ap (λ o. option_map_or test o false) found.1 ∙ sym (same cell found.0 found.2) ∙ on)
      parts i cell on (inr (j, e, there)) = let found = at_added g.kind count g.lists j cell there in true≢false (sym on ∙ ap test found.2 ∙ apart (count + j) found.0)

      by : (i : ℕ) → cell_is new test i ≡ true → (o : Option Cell) → slice_get new.cells i ≡ o → ⊥
      by i on None e = true≢false (sym on ∙ ap (λ o. option_map_or test o false) e)
      by i on (Some cell) e = parts i cell (sym (ap (λ o. option_map_or test o false) e) ∙ on) (At_parts g.olds added i cell e)

  pub sound_after : IsSound n → IsSound new
  sound_after sound = record {
    driven = driven_after sound.driven;
    driven_once = once_after sound.driven_once;
    loopless = loopless_after sound.loopless;
    pads_apart = apart_after sound.pads_apart;
    pin_types = cells_pass (λ (cell : Cell). is_type_out cell.kind) (λ other cell t. ap is_type_out t.kind) (λ out ins. g.addable.pin_type) sound.pin_types;
    pins_at_ports = cells_pass (λ (cell : Cell). is_portless n.ports cell.kind (pin_of cell))
        (λ other cell t. ap (λ kind. is_portless n.ports kind (pin_of other)) t.kind ∙ ap (is_portless n.ports cell.kind) t.pin)
        (λ out ins. g.addable.portless n.ports (pin_by g.kind ins)) sound.pins_at_ports;
    inouts_buffered = buffered_after sound.inouts_buffered;
  }
