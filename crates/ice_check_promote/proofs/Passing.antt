-- Covers that pass clocks on and read the buffers: what drives the signals then, and what the drivers read.
use Rattle.std.proofs.Common.{◌≡◌, ◌⊎◌, ℕ, suc, ◌+◌, ◌<◌, ◌≤◌, ◌==◌, Bool, true, false, Option, None, Some, List, [], ◌∷◌, length, map, inl, inr, refl, ap, sym, ◌∙◌, subst, arith, if◌then◌else◌, eqb-true}
use Rattle.std.specs.Prelude.{option_map, slice_get, slice_index_or}
use Rattle.std.specs.Option.{option_map_or}
use Rattle.std.proofs.Math.Path.{fun_ext}
use Rattle.std.proofs.lemmas.Option.{slice_get-map}
use Rattle.ice_base.specs.declared.number.SignalNo.{SignalNo}
use Rattle.ice_base_values.specs.Order.{At, Has}
use Rattle.ice_net.specs.declared.cell.Cell.{Cell}
use Rattle.ice_net.specs.declared.kind.CellKind.{CellKind}
use Rattle.ice_net.specs.declared.kind.CellKind.TheVariants.{Lut, Cover, Carry, Flop, PadCell, Global}
use Rattle.ice_net.specs.declared.port.Port.{Port}
use Rattle.ice_net.specs.declared.driver.SignalDriver.{SignalDriver}
use Rattle.ice_net.specs.declared.driver.SignalDriver.TheVariants.{Nothing, Pad, Output}
use Rattle.ice_net.specs.NetlistData.{NetlistData}
use Rattle.ice_net.specs.Drivers.{numbers, place_of, is_there, pin_by, pin_of, buffer_at, pad_by, output_of, driver_from, pad_signals, outputs, driver_of}
use Rattle.ice_net.specs.Meaning.{reads_by, makes_by, cell_reads, pad_level, reads, makes, depends_on}
use Rattle.ice_check_promote.specs.Promoted.{buffered, buffered_first, buffer, passes_out, passing_ins, passing_cell, with_passing}
use Rattle.ice_check_promote.proofs.Behind.{IsBehind, AreTied, same_inputs, ReadBehind}

-- what a clock input reads: the signal itself, or that of the buffer of a clock
pub which : (next : ℕ) (clocks : List ℕ) (s : ℕ) → IsBehind next clocks (buffered next clocks s) s
which next [] s = inl refl
which next (c ∷ clocks) s = by (c == s) refl (which (next + 1) clocks s)
  where
    first : next ≡ next + 0
    first = omega arith

    later : (j : ℕ) → next + 1 + j ≡ next + suc j
    later j = omega arith

    by : (b : Bool) → (c == s) ≡ b → IsBehind (next + 1) clocks (buffered (next + 1) clocks s) s → IsBehind next (c ∷ clocks) (if b then next else buffered (next + 1) clocks s) s
    by true e rest = inr (0, ap Some (eqb-true c s e), first)
    by false e (inl same) = inl same
    by false e (inr found) = inr (suc found.0, found.1, found.2 ∙ later found.0)

-- what is known of a netlist with buffers, the first of which drives the signal `next`
pub record IsBuffered (next : ℕ) (clocks : List ℕ) (m : NetlistData) : Type 0 where
  pub many : length m.names ≡ next + length clocks
  pub driver : (j clock : ℕ) → At clocks j clock → (i : ℕ) × At m.cells i (buffer clock (next + j)) × (driver_of m (next + j) ≡ Output i)
  pub below : (j clock : ℕ) → At clocks j clock → clock < next
  pub low : (s q : ℕ) → s < length m.names → Has (depends_on m s) q → q < next
  pub silent : (s : ℕ) → length m.names ≤ s → driver_of m s ≡ Nothing

module _ (next : ℕ) (clocks : List ℕ) (outer : List SignalNo) where
  -- ---- one cell
  abbrev pub turn : Cell → Cell
  turn = passing_cell next clocks outer

  pub pin_same : (kind : CellKind) (outs ins : List (Option SignalNo)) → pin_by kind (passing_ins next clocks outer kind outs ins) ≡ pin_by kind ins
  pin_same (Lut table) outs ins = refl
  pin_same (Cover table width) outs ins = refl
  pin_same Carry outs ins = refl
  pin_same (Flop falling enable reset) outs ins = refl
  pin_same (PadCell pin_type pullup) outs ins = refl
  pin_same Global outs ins = refl

  abbrev Tied : List (Option ℕ) → List (Option ℕ) → Type 0
  Tied = AreTied (IsBehind next clocks)

  tied_alike : (xs : List (Option ℕ)) → Tied xs xs
  tied_alike xs = same_inputs (IsBehind next clocks) (λ x. inl refl) xs

  first_tied : (ins : List (Option SignalNo)) → Tied (numbers (buffered_first next clocks ins)) (numbers ins)
  first_tied [] = tt
  first_tied (None ∷ ins) = tied_alike (numbers ins)
  first_tied (Some signal ∷ ins) = (which next clocks signal.0, tied_alike (numbers ins))

  pub ins_tied : (kind : CellKind) (outs ins : List (Option SignalNo)) → Tied (numbers (passing_ins next clocks outer kind outs ins)) (numbers ins)
  ins_tied (Lut table) outs ins = tied_alike (numbers ins)
  ins_tied (Cover table width) outs ins = by (passes_out outer table width outs)
    where
      by : (b : Bool) → Tied (numbers (if b then buffered_first next clocks ins else ins)) (numbers ins)
      by true = first_tied ins
      by false = tied_alike (numbers ins)
  ins_tied Carry outs ins = tied_alike (numbers ins)
  ins_tied (Flop falling enable reset) outs ins = tied_alike (numbers ins)
  ins_tied (PadCell pin_type pullup) outs ins = tied_alike (numbers ins)
  ins_tied Global outs ins = tied_alike (numbers ins)

  kind_tied : (kind : CellKind) (outs ins : List (Option SignalNo)) → Tied (numbers (reads_by kind (passing_ins next clocks outer kind outs ins))) (numbers (reads_by kind ins))
  kind_tied (Lut table) outs ins = ins_tied (Lut table) outs ins
  kind_tied (Cover table width) outs ins = ins_tied (Cover table width) outs ins
  kind_tied Carry outs ins = ins_tied Carry outs ins
  kind_tied (Flop falling enable reset) outs ins = tt
  kind_tied (PadCell pin_type pullup) outs ins = tt
  kind_tied Global outs ins = ins_tied Global outs ins

  -- ---- lists of cells
  pub map_turned : {X : Type 0} (f : Cell → X) → ((cell : Cell) → f (turn cell) ≡ f cell) → (cells : List Cell) → map f (map turn cells) ≡ map f cells
  map_turned f same [] = refl
  map_turned f same (cell ∷ cells) = ap (λ x. x ∷ map f (map turn cells)) (same cell) ∙ ap (λ xs. f cell ∷ xs) (map_turned f same cells)

  pub at_turned : (cells : List Cell) (i : ℕ) → slice_get (map turn cells) i ≡ option_map turn (slice_get cells i)
  at_turned cells i = slice_get-map turn cells i

  -- what is the same of each cell is the same of the one at a place
  pub turned_or : {X : Type 0} (f : Cell → X) (d : X) → ((cell : Cell) → f (turn cell) ≡ f cell) → (cells : List Cell) (i : ℕ) → option_map_or f (slice_get (map turn cells) i) d ≡ option_map_or f (slice_get cells i) d
  turned_or {X} f d same cells i = ap (λ o. option_map_or f o d) (at_turned cells i) ∙ by (slice_get cells i)
    where
      by : (o : Option Cell) → option_map_or f (option_map turn o) d ≡ option_map_or f o d
      by None = refl
      by (Some cell) = same cell

  -- ---- the netlist
  module _ (m : NetlistData) where
    abbrev pub new : NetlistData
    new = with_passing next clocks outer m

    pub pins_same : map pin_of new.cells ≡ map pin_of m.cells
    pins_same = map_turned pin_of (λ cell. pin_same cell.kind cell.outs cell.ins) m.cells

    pub outputs_same : outputs new ≡ outputs m
    outputs_same = map_turned output_of (λ cell. refl) m.cells

    pub buffer_same : (s : ℕ) → buffer_at new.cells s ≡ buffer_at m.cells s
    buffer_same s = ap (place_of s) pins_same

    pub pads_same : pad_signals new ≡ pad_signals m
    pads_same = ap (λ (f : Port → Option SignalNo). map f m.ports) (fun_ext (λ (port : Port). ap (λ o. pad_by port (is_there o) port.way) (buffer_same port.signal.0)))

    pub driver_same : (s : ℕ) → driver_of new s ≡ driver_of m s
    driver_same s = ap (λ xs. driver_from (place_of s xs) (place_of s (outputs new))) pads_same ∙ ap (λ xs. driver_from (place_of s (pad_signals m)) (place_of s xs)) outputs_same

    reads_tied : (d : SignalDriver) → Tied (reads new d) (reads m d)
    reads_tied Nothing = tt
    reads_tied (Pad k) = tt
    reads_tied (Output i) =
        subst (λ o. Tied (option_map_or (λ (cell : Cell). cell_reads cell) o []) (reads m (Output i))) (sym (at_turned m.cells i)) (by (slice_get m.cells i))
      where
        by : (o : Option Cell) → Tied (option_map_or (λ (cell : Cell). cell_reads cell) (option_map turn o) []) (option_map_or (λ (cell : Cell). cell_reads cell) o [])
        by None = tt
        by (Some cell) = kind_tied cell.kind cell.outs cell.ins

    pub tied : (s : ℕ) → Tied (reads new (driver_of new s)) (reads m (driver_of m s))
    tied s = subst (λ d. Tied (reads new d) (reads m (driver_of m s))) (sym (driver_same s)) (reads_tied (driver_of m s))

    makes_same : (levels kept : List Bool) (d : SignalDriver) (xs : List Bool) → makes new levels kept d xs ≡ makes m levels kept d xs
    makes_same levels kept Nothing xs = refl
    makes_same levels kept (Pad k) xs = refl
    makes_same levels kept (Output i) xs =
        turned_or (λ (cell : Cell). makes_by cell.kind (slice_index_or kept i false) (pad_level m.ports levels (pin_of cell)) xs) false
        (λ cell. ap (λ pin. makes_by cell.kind (slice_index_or kept i false) (pad_level m.ports levels pin) xs) (pin_same cell.kind cell.outs cell.ins)) m.cells i

    -- ---- the buffers
    module _ (b : IsBuffered next clocks m) where
      buffer_there : (j clock : ℕ) → At clocks j clock → (i : ℕ) × At new.cells i (buffer clock (next + j)) × (driver_of new (next + j) ≡ Output i)
      buffer_there j clock at =
          let found = b.driver j clock at in
          (found.0, at_turned m.cells found.0 ∙ ap (option_map turn) found.1, driver_same (next + j) ∙ found.2)

      pub buffer_reads : (j clock : ℕ) → At clocks j clock → reads new (driver_of new (next + j)) ≡ Some clock ∷ []
      buffer_reads j clock at =
          let found = buffer_there j clock at in
          ap (reads new) found.2 ∙ ap (λ o. option_map_or (λ (cell : Cell). cell_reads cell) o []) found.1

      buffer_passes : (levels kept : List Bool) (j clock : ℕ) → At clocks j clock → (x : Bool) → makes new levels kept (driver_of new (next + j)) (x ∷ []) ≡ x
      buffer_passes levels kept j clock at x =
          let found = buffer_there j clock at in
          ap (λ d. makes new levels kept d (x ∷ [])) found.2
          ∙ ap (λ o. option_map_or (λ (cell : Cell). makes_by cell.kind (slice_index_or kept found.0 false) (pad_level m.ports levels (pin_of cell)) (x ∷ [])) o false) found.1

      pub read_behind : (levels kept : List Bool)
          → ReadBehind false next clocks (λ s. reads m (driver_of m s)) (λ s. reads new (driver_of new s)) (λ s. makes m levels kept (driver_of m s)) (λ s. makes new levels kept (driver_of new s))
      read_behind levels kept = record {
        tied = tied;
        makes = λ s xs. ap (λ d. makes new levels kept d xs) (driver_same s) ∙ makes_same levels kept (driver_of m s) xs;
        reads = buffer_reads;
        passes = buffer_passes levels kept;
      }
