-- A sound netlist stays sound where covers that pass clocks on read the buffers.
use Rattle.std.proofs.Common.{◌≡◌, ◌⊎◌, ℕ, zero, suc, ◌+◌, ◌-◌, ◌<◌, ◌≤◌, Bool, true, false, ◌&&◌, ◌||◌, nat_lt, Option, None, Some, List, [], ◌∷◌, ◌++◌, length, map, inl, inr, refl, sym, ap, ◌∙◌, subst, arith, if◌then◌else◌, true≢false}
use Rattle.std.specs.List.{flat_map}
use Rattle.std.proofs.Math.Path.{fun_ext}
use Rattle.std.proofs.lemmas.Bool.{cases_lt, and_parts, or_cases, or_left, or_right}
use Rattle.std.proofs.lemmas.List.{length-map}
use Rattle.std.proofs.lemmas.Option.{none-some, same_Some}
use Rattle.ice_base.specs.declared.number.SignalNo.{SignalNo}
use Rattle.ice_base_values.specs.Order.{At, Has}
use Rattle.ice_base_values.specs.System.{present}
use Rattle.ice_base_values.proofs.Members.{At_left, At_right, At_parts}
use Rattle.ice_net.specs.declared.cell.Cell.{Cell}
use Rattle.ice_net.specs.declared.kind.CellKind.{CellKind}
use Rattle.ice_net.specs.declared.kind.CellKind.TheVariants.{Lut, Cover, Carry, Flop, PadCell, Global}
use Rattle.ice_net.specs.declared.port.Port.{Port}
use Rattle.ice_net.specs.NetlistData.{NetlistData}
use Rattle.ice_net.specs.Drivers.{is_there, place_of, pin_of, pad_signals, outputs, driver_of}
use Rattle.ice_net.specs.Meaning.{depends_on, reads}
use Rattle.ice_net.specs.Uses.{uses_by}
use Rattle.ice_check.specs.Faults.{first_number, uses_of, is_used, shown_by, is_shown, is_nothing, is_undriven, undriven, driven_twice, port_is, is_bare_by, pad_shared, inout_bare, cell_is, is_type_out, is_portless}
use Rattle.ice_check.specs.Loops.{HasNoLoop}
use Rattle.ice_check.specs.Sound.{IsSound}
use Rattle.ice_check.specs.Tables.{times}
use Rattle.ice_check.proofs.FirstNumbers.{pass_all, none_of}
use Rattle.ice_check.proofs.Places.{wire, place_has, has_place}
use Rattle.ice_check_promote.specs.Promoted.{buffered, buffered_first, passes_out, passing_ins}
use Rattle.ice_check_promote.proofs.Behind.{IsBehind, tied_at}
use Rattle.ice_check_promote.proofs.Cycles.{AreLinked, cycle_before}
use Rattle.ice_check_promote.proofs.Clocks.{there_at}
use Rattle.ice_check_promote.proofs.Passing.{IsBuffered, which, turn, pin_same, turned_or, new, pins_same, outputs_same, buffer_same, pads_same, driver_same, tied, buffer_reads}

module _ (next : ℕ) (clocks : List ℕ) (outer : List SignalNo) where
  -- the signal of a buffer
  abbrev IsAdded : ℕ → Type 0
  IsAdded s = (j : ℕ) × (clock : ℕ) × At clocks j clock × (s ≡ next + j)

  -- ---- signals that are used: those that were, and those of buffers
  first_used : (ins : List (Option SignalNo)) (i s : ℕ) → At (buffered_first next clocks ins) i (wire s) → At ins i (wire s) ⊎ IsAdded s
  first_used [] i s at = absurd (none-some (wire s) at)
  first_used (None ∷ ins) i s at = inl at
  first_used (Some signal ∷ ins) (suc i) s at = inl at
  first_used (Some signal ∷ ins) zero s at =
      by (which next clocks signal.0) (ap (λ (x : SignalNo). x.0) (same_Some (record { 0 = buffered next clocks signal.0 }) (record { 0 = s }) (same_Some (Some (record { 0 = buffered next clocks signal.0 })) (wire s) at)))
    where
      by : IsBehind next clocks (buffered next clocks signal.0) signal.0 → buffered next clocks signal.0 ≡ s → At (Some signal ∷ ins) zero (wire s) ⊎ IsAdded s
      by (inl same) e = inl (ap (λ n. Some (wire n)) (sym same ∙ e))
      by (inr (j, there, is)) e = inr (j, signal.0, there, sym e ∙ is)

  ins_used : (kind : CellKind) (outs ins : List (Option SignalNo)) (i s : ℕ) → At (uses_by kind (passing_ins next clocks outer kind outs ins)) i (wire s) → At (uses_by kind ins) i (wire s) ⊎ IsAdded s
  ins_used (Lut table) outs ins i s at = inl at
  ins_used (Cover table width) outs ins i s at = by (passes_out outer table width outs) at
    where
      by : (b : Bool) → At (if b then buffered_first next clocks ins else ins) i (wire s) → At ins i (wire s) ⊎ IsAdded s
      by true at = first_used ins i s at
      by false at = inl at
  ins_used Carry outs ins i s at = inl at
  ins_used (Flop falling enable reset) outs ins i s at = inl at
  ins_used (PadCell pin_type pullup) outs ins i s at = inl at
  ins_used Global outs ins i s at = inl at

  all_used : (cells : List Cell) (i s : ℕ) → At (flat_map uses_of (map (turn next clocks outer) cells)) i (wire s) → Has (flat_map uses_of cells) (wire s) ⊎ IsAdded s
  all_used [] i s at = absurd (none-some (wire s) at)
  all_used (cell ∷ cells) i s at =
      by (λ j there. all_used cells j s there) (At_parts (uses_of (turn next clocks outer cell)) (flat_map uses_of (map (turn next clocks outer) cells)) i (wire s) at)
    where
      here : (j : ℕ) → At (uses_of cell) j (wire s) ⊎ IsAdded s → Has (flat_map uses_of (cell ∷ cells)) (wire s) ⊎ IsAdded s
      here j (inl at) = inl (j, At_left (uses_of cell) (flat_map uses_of cells) j (wire s) at)
      here j (inr added) = inr added

      later : Has (flat_map uses_of cells) (wire s) ⊎ IsAdded s → Has (flat_map uses_of (cell ∷ cells)) (wire s) ⊎ IsAdded s
      later (inl has) = inl (length (uses_of cell) + has.0, At_right (uses_of cell) (flat_map uses_of cells) has.0 (wire s) has.1)
      later (inr added) = inr added

      by : ((j : ℕ) → At (flat_map uses_of (map (turn next clocks outer) cells)) j (wire s) → Has (flat_map uses_of cells) (wire s) ⊎ IsAdded s)
          → At (uses_of (turn next clocks outer cell)) i (wire s) ⊎ ((j : ℕ) × (i ≡ length (uses_of (turn next clocks outer cell)) + j) × At (flat_map uses_of (map (turn next clocks outer) cells)) j (wire s))
          → Has (flat_map uses_of (cell ∷ cells)) (wire s) ⊎ IsAdded s
      by rest (inl at) = here i (ins_used cell.kind cell.outs cell.ins i s at)
      by rest (inr (j, e, at)) = later (rest j at)

  module _ (m : NetlistData) (b : IsBuffered next clocks m) where
    abbrev after : NetlistData
    after = new next clocks outer m

    abbrev total : ℕ
    total = length m.names

    shown_same : (s : ℕ) → is_shown after s ≡ is_shown m s
    shown_same s =
        ap (λ (f : Port → Option SignalNo). is_there (place_of s (map f m.ports)))
        (fun_ext (λ (port : Port). ap (λ o. shown_by port (is_there o) port.way) (buffer_same next clocks outer m port.signal.0)))

    undriven_before : (s : ℕ) → is_undriven after s ≡ true → is_undriven m s ≡ true
    undriven_before s on =
        let parts = and_parts (is_nothing (driver_of after s)) (is_used after s || is_shown after s) on in
        let nothing : is_nothing (driver_of m s) ≡ true = ap is_nothing (sym (driver_same next clocks outer m s)) ∙ parts.0 in
        both (is_nothing (driver_of m s)) (is_used m s || is_shown m s) nothing
        (elim (or_cases (is_used after s) (is_shown after s) parts.1) [
          | inl used ↦ or_left (is_used m s) (is_shown m s) (let has = place_has s (flat_map uses_of after.cells) used in old nothing (all_used m.cells has.0 s has.1))
          | inr shown ↦ or_right (is_used m s) (is_shown m s) (sym (shown_same s) ∙ shown)
        ])
      where
        old : is_nothing (driver_of m s) ≡ true → Has (flat_map uses_of m.cells) (wire s) ⊎ IsAdded s → is_used m s ≡ true
        old nothing (inl has) = has_place s (flat_map uses_of m.cells) has.0 has.1
        old nothing (inr (j, clock, at, e)) =
            let found = b.driver j clock at in
            absurd (true≢false (sym nothing ∙ ap is_nothing (ap (driver_of m) e ∙ found.2)))

        both : (a c : Bool) → a ≡ true → c ≡ true → (a && c) ≡ true
        both true true e f = refl
        both true false e f = f
        both false c e f = e

    driven_after : undriven m ≡ None → undriven after ≡ None
    driven_after none = pass_all (is_undriven after) total (λ s lt on. none_of (is_undriven m) total s none lt (undriven_before s on))

    once_same : driven_twice after ≡ driven_twice m
    once_same =
        ap (λ (xs : List (Option SignalNo)). first_number (λ s. nat_lt 1 (times s xs + times s (outputs after))) 0 total) (pads_same next clocks outer m)
        ∙ ap (λ (xs : List (Option SignalNo)). first_number (λ s. nat_lt 1 (times s (pad_signals m) + times s xs)) 0 total) (outputs_same next clocks outer m)

    -- ---- loops
    linked : AreLinked next total clocks (depends_on m) (depends_on after)
    linked = record {
      within = (let many = b.many in omega (arith, many));
      which = λ p lt. by p (cases_lt p next) lt;
      low = λ p q lt has. b.low p q lt has;
      tied = λ p q has. tied_at (IsBehind next clocks) (reads after (driver_of after p)) (reads m (driver_of m p)) (tied next clocks outer m p) has.0 q has.1;
      leads = λ j clock q at has. one clock q (subst (λ (xs : List (Option ℕ)). Has (present xs) q) (buffer_reads next clocks outer m b j clock at) has);
      below = λ j clock at. b.below j clock at;
    }
      where
        by : (p : ℕ) → (p < next) ⊎ (next ≤ p) → p < total → (p < next) ⊎ ((j clock : ℕ) × At clocks j clock × (p ≡ next + j))
        by p (inl lt) below = inl lt
        by p (inr le) below =
            let many = b.many in
            let found = there_at clocks (p - next) (omega (arith, le, below, many)) in
            inr (p - next, found.0, found.1, (let e : p ≡ next + (p - next) = omega (arith, le) in e))

        one : (clock q : ℕ) → Has (clock ∷ []) q → q ≡ clock
        one clock q (zero, at) = sym (same_Some clock q at)
        one clock q (suc i, at) = absurd (none-some q at)

    loopless_after : HasNoLoop m → HasNoLoop after
    loopless_after h = record { none = λ cycle c. let old = cycle_before next total clocks (depends_on m) (depends_on after) linked cycle c in h.none old.0 old.1 }

    -- ---- pads
    apart_same : pad_shared after ≡ pad_shared m
    apart_same =
        ap (λ (f : Port → Bool). first_number (port_is m f) 0 (length m.ports))
        (fun_ext (λ (port : Port). ap (λ (xs : List (Option SignalNo)). nat_lt 1 (times port.signal.0 xs)) (pins_same next clocks outer m)))

    buffered_same : inout_bare after ≡ inout_bare m
    buffered_same =
        ap (λ (f : Port → Bool). first_number (port_is m f) 0 (length m.ports))
        (fun_ext (λ (port : Port). ap (λ o. is_bare_by (is_there o) port.way) (buffer_same next clocks outer m port.signal.0)))

    cells_same : (test : Cell → Bool) → ((cell : Cell) → test (turn next clocks outer cell) ≡ test cell) → first_number (cell_is after test) 0 (length after.cells) ≡ first_number (cell_is m test) 0 (length m.cells)
    cells_same test same =
        ap (first_number (cell_is after test) 0) (length-map m.cells (turn next clocks outer))
        ∙ ap (λ (f : ℕ → Bool). first_number f 0 (length m.cells)) (fun_ext (λ i. turned_or next clocks outer test false same m.cells i))

    pub passing_sound : IsSound m → IsSound after
    passing_sound sound = record {
      driven = driven_after sound.driven;
      driven_once = once_same ∙ sound.driven_once;
      loopless = loopless_after sound.loopless;
      pads_apart = apart_same ∙ sound.pads_apart;
      pin_types = cells_same (λ (cell : Cell). is_type_out cell.kind) (λ cell. refl) ∙ sound.pin_types;
      pins_at_ports = cells_same (λ (cell : Cell). is_portless m.ports cell.kind (pin_of cell))
          (λ cell. ap (is_portless m.ports cell.kind) (pin_same next clocks outer cell.kind cell.outs cell.ins)) ∙ sound.pins_at_ports;
      inouts_buffered = buffered_same ∙ sound.inouts_buffered;
    }
