-- Netlists that are the same by names show the same, step by step.
use Rattle.std.proofs.Common.{◌≡◌, ℕ, Bool, true, false, Option, None, Some, List, [], ◌∷◌, map, zip, refl, sym, ap, ◌∙◌}
use Rattle.std.specs.Prelude.{slice_get, slice_index_or}
use Rattle.ice_base.specs.declared.number.SignalNo.{SignalNo}
use Rattle.ice_base_values.specs.System.{reading, machine_shows}
use Rattle.ice_net.specs.declared.cell.Cell.{Cell}
use Rattle.ice_net.specs.declared.kind.CellKind.{CellKind}
use Rattle.ice_net.specs.declared.kind.CellKind.TheVariants.{Lut, Cover, Carry, Flop, PadCell, Global}
use Rattle.ice_net.specs.declared.port.Port.{Port}
use Rattle.ice_net.specs.Drivers.{buffer_at}
use Rattle.ice_net.specs.Drives.{at_input, bare_drive, pad_drive, kind_drive, buffer_drive, drive_by, port_drive}
use Rattle.ice_net.specs.Kinds.{is_edge, fired}
use Rattle.ice_net.specs.Meaning.{State, enable_level, set_level, kept_by, clock_by, signal_value, step, start, shows}
use Rattle.ice_net.specs.NetlistData.{NetlistData}
use Rattle.ice_blif_laws.proofs.Alike.{Both, Each, each_at, each_or, each_same}
use Rattle.ice_blif_laws.proofs.Tied.{IsOne, AreOne, IsTied, IsPortTied, IsCellTied, AreTied}
use Rattle.ice_blif_laws.proofs.Drivers.{buffer_same}
use Rattle.ice_blif_laws.proofs.Values.{signal_value_same}

module _ (n m : NetlistData) (are : AreTied n m) where
  module _ (v w : ℕ → Bool) (same : (s t : ℕ) → IsOne n m s t → v s ≡ w t) where
    -- ---- inputs
    reading_same : (bare : Bool) (x y : Option SignalNo) → IsTied n m x y → reading bare (λ (signal : SignalNo). v signal.0) x ≡ reading bare (λ (signal : SignalNo). w signal.0) y
    reading_same bare None None h = refl
    reading_same bare None (Some y) h = absurd h
    reading_same bare (Some x) None h = absurd h
    reading_same bare (Some x) (Some y) h = same x.0 y.0 h

    input_same : (bare : Bool) (xs ys : List (Option SignalNo)) (k : ℕ) → Each (IsTied n m) xs ys → at_input bare v xs k ≡ at_input bare w ys k
    input_same bare xs ys k h = reading_same bare (slice_index_or xs k None) (slice_index_or ys k None) (each_or (AreOne n m) xs ys k h)

    -- ---- what is kept
    enable_same : (enable : Bool) (xs ys : List (Option SignalNo)) → Each (IsTied n m) xs ys → enable_level v enable xs ≡ enable_level w enable ys
    enable_same true xs ys h = input_same true xs ys 2 h
    enable_same false xs ys h = refl

    set_same : (enable : Bool) (xs ys : List (Option SignalNo)) → Each (IsTied n m) xs ys → set_level v enable xs ≡ set_level w enable ys
    set_same true xs ys h = input_same false xs ys 3 h
    set_same false xs ys h = input_same false xs ys 2 h

    kept_by_same : (kind : CellKind) (xs ys : List (Option SignalNo)) (kept : Bool) (clock : Option Bool) → Each (IsTied n m) xs ys → kept_by v kind xs kept clock ≡ kept_by w kind ys kept clock
    kept_by_same (Lut table) xs ys kept clock h = refl
    kept_by_same (Cover table width) xs ys kept clock h = refl
    kept_by_same Carry xs ys kept clock h = refl
    kept_by_same (Flop falling enable reset) xs ys kept clock h =
        (λ j. fired reset (is_edge falling clock (input_same false xs ys 0 h j)) (enable_same enable xs ys h j) (set_same enable xs ys h j) (input_same false xs ys 1 h j) kept)
    kept_by_same (PadCell pin_type pullup) xs ys kept clock h = refl
    kept_by_same Global xs ys kept clock h = refl

    clock_by_same : (kind : CellKind) (xs ys : List (Option SignalNo)) → Each (IsTied n m) xs ys → clock_by v kind xs ≡ clock_by w kind ys
    clock_by_same (Lut table) xs ys h = refl
    clock_by_same (Cover table width) xs ys h = refl
    clock_by_same Carry xs ys h = refl
    clock_by_same (Flop falling enable reset) xs ys h = ap Some (input_same false xs ys 0 h)
    clock_by_same (PadCell pin_type pullup) xs ys h = refl
    clock_by_same Global xs ys h = refl

    kept_same : (cs ds : List Cell) (zs : List (Bool × Option Bool)) → Each (IsCellTied n m) cs ds
        → map (λ (x : Cell × (Bool × Option Bool)). kept_by v x.0.kind x.0.ins x.1.0 x.1.1) (zip cs zs) ≡ map (λ (x : Cell × (Bool × Option Bool)). kept_by w x.0.kind x.0.ins x.1.0 x.1.1) (zip ds zs)
    kept_same [] [] zs h = refl
    kept_same [] (d ∷ ds) zs h = absurd h
    kept_same (c ∷ cs) [] zs h = absurd h
    kept_same (c ∷ cs) (d ∷ ds) [] h = refl
    kept_same (c ∷ cs) (d ∷ ds) (z ∷ zs) h =
        (λ j. (kept_by_same c.kind c.ins d.ins z.0 z.1 h.0.ins ∙ (λ i. kept_by w (h.0.kind i) d.ins z.0 z.1)) j ∷ kept_same cs ds zs h.1 j)

    clocks_same : map (λ (cell : Cell). clock_by v cell.kind cell.ins) n.cells ≡ map (λ (cell : Cell). clock_by w cell.kind cell.ins) m.cells
    clocks_same =
        each_same (IsCellTied n m) (λ (cell : Cell). clock_by v cell.kind cell.ins) (λ (cell : Cell). clock_by w cell.kind cell.ins)
        (λ c d h. clock_by_same c.kind c.ins d.ins h.ins ∙ (λ i. clock_by w (h.kind i) d.ins)) n.cells m.cells are.cells

    -- ---- what is driven
    kind_drive_same : (kind : CellKind) (xs ys : List (Option SignalNo)) → Each (IsTied n m) xs ys → kind_drive v kind xs ≡ kind_drive w kind ys
    kind_drive_same (Lut table) xs ys h = refl
    kind_drive_same (Cover table width) xs ys h = refl
    kind_drive_same Carry xs ys h = refl
    kind_drive_same (Flop falling enable reset) xs ys h = refl
    kind_drive_same (PadCell pin_type pullup) xs ys h = (λ j. pad_drive pin_type (input_same false xs ys 1 h j) (input_same false xs ys 2 h j))
    kind_drive_same Global xs ys h = refl

    buffer_drive_same : (o p : Option Cell) → Both (IsCellTied n m) o p → buffer_drive v o ≡ buffer_drive w p
    buffer_drive_same None None h = refl
    buffer_drive_same None (Some d) h = absurd h
    buffer_drive_same (Some c) None h = absurd h
    buffer_drive_same (Some c) (Some d) h = kind_drive_same c.kind c.ins d.ins h.ins ∙ (λ i. kind_drive w (h.kind i) d.ins)

    drive_by_same : (p q : Port) → IsPortTied n m p q → (o : Option ℕ) → drive_by n.cells v p o ≡ drive_by m.cells w q o
    drive_by_same p q h None = (λ j. bare_drive (h.way j) (same p.signal.0 q.signal.0 h.signal j))
    drive_by_same p q h (Some i) = buffer_drive_same (slice_get n.cells i) (slice_get m.cells i) (each_at (IsCellTied n m) n.cells m.cells i are.cells)

    drives_same : map (port_drive n.cells v) n.ports ≡ map (port_drive m.cells w) m.ports
    drives_same =
        each_same (IsPortTied n m) (port_drive n.cells v) (port_drive m.cells w)
        (λ p q h. drive_by_same p q h (buffer_at n.cells p.signal.0) ∙ ap (drive_by m.cells w q) (buffer_same n m are p.signal.0 q.signal.0 h.signal)) n.ports m.ports are.ports

  -- ---- steps
  step_same : (state : State) (levels : List Bool) → step n state levels ≡ step m state levels
  step_same state levels =
      let v = signal_value n levels state.kept in
      let w = signal_value m levels state.kept in
      let same = signal_value_same n m are levels state.kept in
      (λ j. (record { kept = kept_same v w same n.cells m.cells (zip state.kept state.clocks) are.cells j; clocks = clocks_same v w same j }, drives_same v w same j))

  start_same : start n ≡ start m
  start_same = (λ j. record {
    kept = each_same (IsCellTied n m) (λ (cell : Cell). false) (λ (cell : Cell). false) (λ c d h. refl) n.cells m.cells are.cells j;
    clocks = each_same (IsCellTied n m) (λ (cell : Cell). let none : Option Bool = None in none) (λ (cell : Cell). let none : Option Bool = None in none) (λ c d h. refl) n.cells m.cells are.cells j;
  })

  shows_from : (state : State) (levels : List (List Bool)) → machine_shows (step n) state levels ≡ machine_shows (step m) state levels
  shows_from state [] = refl
  shows_from state (now ∷ later) =
      (λ j. (step_same state now j).1 ∷ machine_shows (step n) (step_same state now j).0 later)
      ∙ ap (λ ds. (step m state now).1 ∷ ds) (shows_from (step m state now).0 later)

  -- they show the same
  pub shows_same : (levels : List (List Bool)) → shows m levels ≡ shows n levels
  shows_same levels = sym (ap (λ s. machine_shows (step n) s levels) start_same ∙ shows_from (start m) levels)
