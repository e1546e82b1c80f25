-- A netlist that grows goes through the same steps, where what stands for a cell reads the same levels.
use Rattle.std.proofs.Common.{◌≡◌, ℕ, ◌+◌, ◌<◌, Bool, true, false, Option, None, Some, List, [], ◌∷◌, ◌++◌, length, map, All, refl, ap, sym, ◌∙◌, arith}
use Rattle.std.specs.Prelude.{slice_get, slice_index_or}
use Rattle.std.specs.List.{zip}
use Rattle.std.proofs.lemmas.List.{length-map, map-append, get_or_append_left}
use Rattle.std.proofs.lemmas.List.Elements.{All-head, All-tail}
use Rattle.ice_base_values.specs.Order.{At}
use Rattle.ice_base_values.specs.Simulations.{Simulates}
use Rattle.ice_base_values.proofs.Machines.{shows_always_alike}
use Rattle.ice_base_values.proofs.Members.{At_left}
use Rattle.ice_net.specs.declared.cell.Cell.{Cell}
use Rattle.ice_net.specs.declared.kind.CellKind.{CellKind}
use Rattle.ice_net.specs.declared.kind.CellKind.TheVariants.{Lut, Cover, Carry, Flop, PadCell, Global}
use Rattle.ice_net.specs.declared.port.Port.{Port}
use Rattle.ice_net.specs.Drivers.{pin_of, buffer_at}
use Rattle.ice_net.specs.Drives.{at_input, bare_drive, kind_drive, pad_drive, buffer_drive, drive_by, port_drive}
use Rattle.ice_net.specs.Kinds.{is_edge, fired}
use Rattle.ice_net.specs.Formed.{IsPortBelow, IsFormed}
use Rattle.ice_net.specs.Meaning.{State, enable_level, set_level, kept_by, clock_by, kept_after, signal_value, step, start, shows}
use Rattle.ice_check.proofs.OldSignals.{at_place, kept_long}
use Rattle.ice_check.proofs.Places.{place_within}
use Rattle.ice_net_additions.specs.AddedCells.{added_cells}
use Rattle.ice_net_additions.proofs.AddedCells.{Ins, IsAddable}
use Rattle.ice_net_additions.proofs.Growths.{InPairs, pair_at, pairs_same, IsTurned, Growth, grown, buffer_same}
use Rattle.ice_net_additions.proofs.GrownValues.{AreKept, value_same}

-- ---- one cell
-- with the values w the inputs of the one read what those of the other read with v
abbrev pub ReadSame : (ℕ → Bool) → (ℕ → Bool) → Ins → Ins → Type 0
ReadSame v w others ins = (bare : Bool) (k : ℕ) → at_input bare w others k ≡ at_input bare v ins k

pub record DoesSame (v w : ℕ → Bool) (other cell : Cell) : Type 0 where
  pub kind : other.kind ≡ cell.kind
  pub inputs : ReadSame v w other.ins cell.ins

module _ (v w : ℕ → Bool) (others ins : Ins) (same : ReadSame v w others ins) where
  enable_same : (enable : Bool) → enable_level w enable others ≡ enable_level v enable ins
  enable_same true = same true 2
  enable_same false = refl

  set_same : (enable : Bool) → set_level w enable others ≡ set_level v enable ins
  set_same true = same false 3
  set_same false = same false 2

  kept_same : (kind : CellKind) (kept : Bool) (clock : Option Bool) → kept_by w kind others kept clock ≡ kept_by v kind ins kept clock
  kept_same (Lut table) kept clock = refl
  kept_same (Cover table width) kept clock = refl
  kept_same Carry kept clock = refl
  kept_same (Flop falling enable reset) kept clock =
      ap (λ c. fired reset (is_edge falling clock c) (enable_level w enable others) (set_level w enable others) (at_input false w others 1) kept) (same false 0)
      ∙ ap (λ e. fired reset (is_edge falling clock (at_input false v ins 0)) e (set_level w enable others) (at_input false w others 1) kept) (enable_same enable)
      ∙ ap (λ s. fired reset (is_edge falling clock (at_input false v ins 0)) (enable_level v enable ins) s (at_input false w others 1) kept) (set_same enable)
      ∙ ap (λ d. fired reset (is_edge falling clock (at_input false v ins 0)) (enable_level v enable ins) (set_level v enable ins) d kept) (same false 1)
  kept_same (PadCell pin_type pullup) kept clock = refl
  kept_same Global kept clock = refl

  clock_same : (kind : CellKind) → clock_by w kind others ≡ clock_by v kind ins
  clock_same (Lut table) = refl
  clock_same (Cover table width) = refl
  clock_same Carry = refl
  clock_same (Flop falling enable reset) = ap Some (same false 0)
  clock_same (PadCell pin_type pullup) = refl
  clock_same Global = refl

  drive_same : (kind : CellKind) → kind_drive w kind others ≡ kind_drive v kind ins
  drive_same (Lut table) = refl
  drive_same (Cover table width) = refl
  drive_same Carry = refl
  drive_same (Flop falling enable reset) = refl
  drive_same (PadCell pin_type pullup) =
      ap (λ d. pad_drive pin_type d (at_input false w others 2)) (same false 1)
      ∙ ap (pad_drive pin_type (at_input false v ins 1)) (same false 2)
  drive_same Global = refl

-- ---- lists of what cells keep
abbrev keep : (ℕ → Bool) → (Cell × (Bool × Option Bool)) → Bool
keep w x = kept_by w x.0.kind x.0.ins x.1.0 x.1.1

abbrev tick : (ℕ → Bool) → Cell → Option Bool
tick w cell = clock_by w cell.kind cell.ins

abbrev lows : List Cell → List Bool
lows cells = map (λ (cell : Cell). false) cells

abbrev blanks : List Cell → List (Option Bool)
blanks cells = map (λ (cell : Cell). None) cells

module _ (kind : CellKind) (a : IsAddable kind) (w : ℕ → Bool) where
  abbrev new : ℕ → List Ins → List Cell
  new next lists = added_cells kind next lists

  added_kept : (next : ℕ) (lists : List Ins) → map (keep w) (zip (new next lists) (zip (lows (new next lists)) (blanks (new next lists)))) ≡ lows (new next lists)
  added_kept next [] = refl
  added_kept next (ins ∷ lists) =
      ap (λ b. b ∷ map (keep w) (zip (new (next + 1) lists) (zip (lows (new (next + 1) lists)) (blanks (new (next + 1) lists))))) (a.kept w ins false None)
      ∙ ap (λ xs. false ∷ xs) (added_kept (next + 1) lists)

  added_clocks : (next : ℕ) (lists : List Ins) → map (tick w) (new next lists) ≡ blanks (new next lists)
  added_clocks next [] = refl
  added_clocks next (ins ∷ lists) = ap (λ c. c ∷ map (tick w) (new (next + 1) lists)) (a.clock w ins) ∙ ap (λ xs. None ∷ xs) (added_clocks (next + 1) lists)

module _ (g : Growth) (v w : ℕ → Bool) where
  abbrev added : List Cell
  added = added_cells g.kind (length g.before.names) g.lists

  keeps : (other cell : Cell) (kept : Bool) (clock : Option Bool) → DoesSame v w other cell → kept_by w other.kind other.ins kept clock ≡ kept_by v cell.kind cell.ins kept clock
  keeps other cell kept clock does = ap (λ kind. kept_by w kind other.ins kept clock) does.kind ∙ kept_same v w other.ins cell.ins does.inputs cell.kind kept clock

  ticks : (other cell : Cell) → DoesSame v w other cell → tick w other ≡ tick v cell
  ticks other cell does = ap (λ kind. clock_by w kind other.ins) does.kind ∙ clock_same v w other.ins cell.ins does.inputs cell.kind

  all_kept : (olds cells : List Cell) (kept : List Bool) (clocked : List (Option Bool)) → InPairs (DoesSame v w) olds cells → length kept ≡ length cells → length clocked ≡ length cells
      → map (keep w) (zip (olds ++ added) (zip (kept ++ lows added) (clocked ++ blanks added))) ≡ map (keep v) (zip cells (zip kept clocked)) ++ lows added
  all_kept [] (cell ∷ cells) kept clocked does long clocks_long = absurd does
  all_kept (old ∷ olds) [] kept clocked does long clocks_long = absurd does
  all_kept [] [] [] [] does long clocks_long = added_kept g.kind g.addable w (length g.before.names) g.lists
  all_kept [] [] (k ∷ kept) clocked does long clocks_long = absurd (omega (arith, long))
  all_kept [] [] [] (c ∷ clocked) does long clocks_long = absurd (omega (arith, clocks_long))
  all_kept (old ∷ olds) (cell ∷ cells) [] clocked does long clocks_long = absurd (omega (arith, long))
  all_kept (old ∷ olds) (cell ∷ cells) (k ∷ kept) [] does long clocks_long = absurd (omega (arith, clocks_long))
  all_kept (old ∷ olds) (cell ∷ cells) (k ∷ kept) (c ∷ clocked) does long clocks_long =
      ap (λ x. x ∷ map (keep w) (zip (olds ++ added) (zip (kept ++ lows added) (clocked ++ blanks added)))) (keeps old cell k c does.0)
      ∙ ap (λ xs. kept_by v cell.kind cell.ins k c ∷ xs)
      (all_kept olds cells kept clocked does.1 (let e : length kept ≡ length cells = omega (arith, long) in e) (let e : length clocked ≡ length cells = omega (arith, clocks_long) in e))

  all_ticks : (olds cells : List Cell) → InPairs (DoesSame v w) olds cells → map (tick w) (olds ++ added) ≡ map (tick v) cells ++ blanks added
  all_ticks [] (cell ∷ cells) does = absurd does
  all_ticks (old ∷ olds) [] does = absurd does
  all_ticks [] [] does = added_clocks g.kind g.addable w (length g.before.names) g.lists
  all_ticks (old ∷ olds) (cell ∷ cells) does =
      ap (λ x. x ∷ map (tick w) (olds ++ added)) (ticks old cell does.0) ∙ ap (λ xs. tick v cell ∷ xs) (all_ticks olds cells does.1)

  -- ---- what ports drive
  module _ (does : InPairs (DoesSame v w) g.olds g.before.cells) (old : (s : ℕ) → s < length g.before.names → w s ≡ v s) where
    port_same : (port : Port) → IsPortBelow (length g.before.names) port → port_drive (grown g).cells w port ≡ port_drive g.before.cells v port
    port_same port below =
        ap (drive_by (grown g).cells w port) (buffer_same g port.signal.0)
        ∙ by (buffer_at g.before.cells port.signal.0) (place_within port.signal.0 (map pin_of g.before.cells))
      where
        there : (i : ℕ) → (cell : Cell) × At g.before.cells i cell → buffer_drive w (slice_get (grown g).cells i) ≡ buffer_drive v (slice_get g.before.cells i)
        there i (cell, at) =
            let found = pair_at (DoesSame v w) g.olds g.before.cells i cell does at in
            ap (buffer_drive w) (At_left g.olds added i found.0 found.1)
            ∙ ap (λ kind. kind_drive w kind found.0.ins) found.2.kind
            ∙ drive_same v w found.0.ins cell.ins found.2.inputs cell.kind
            ∙ ap (buffer_drive v) (sym at)

        by : (o : Option ℕ) → ((i : ℕ) → o ≡ Some i → i < length (map pin_of g.before.cells)) → drive_by (grown g).cells w port o ≡ drive_by g.before.cells v port o
        by None within = ap (bare_drive port.way) (old port.signal.0 below)
        by (Some i) within = there i (at_place g.before i (let lt = within i refl in let long = length-map g.before.cells pin_of in omega (arith, lt, long)))

    ports_same : (ports : List Port) → All (IsPortBelow (length g.before.names)) ports → map (port_drive (grown g).cells w) ports ≡ map (port_drive g.before.cells v) ports
    ports_same [] all = refl
    ports_same (port ∷ ports) all =
        ap (λ x. x ∷ map (port_drive (grown g).cells w) ports) (port_same port (All-head (IsPortBelow (length g.before.names)) port ports all))
        ∙ ap (λ xs. port_drive g.before.cells v port ∷ xs) (ports_same ports (All-tail (IsPortBelow (length g.before.names)) port ports all))

-- ---- steps
-- what stands for the cells does the same, whatever levels there are and whatever they keep
abbrev pub AllDoSame : Growth → Type 0
AllDoSame g = (levels kept after : List Bool) → AreKept g kept after → InPairs (DoesSame (signal_value g.before levels kept) (signal_value (grown g) levels after)) g.olds g.before.cells

-- the cells that are added keep nothing, and all else is kept as it was
record AreTied (g : Growth) (s t : State) : Type 0 where
  long : length s.kept ≡ length g.before.cells
  clocks_long : length s.clocks ≡ length g.before.cells
  kept : t.kept ≡ s.kept ++ lows (added_cells g.kind (length g.before.names) g.lists)
  clocked : t.clocks ≡ s.clocks ++ blanks (added_cells g.kind (length g.before.names) g.lists)

module _ (g : Growth) (formed : IsFormed g.before) (do_same : AllDoSame g) where
  abbrev more : List Cell
  more = added_cells g.kind (length g.before.names) g.lists

  kept_there : (s t : State) → AreTied g s t → AreKept g s.kept t.kept
  kept_there s t r i lt =
      ap (λ xs. slice_index_or xs i false) r.kept ∙ get_or_append_left s.kept (lows more) false i (let long = r.long in omega (arith, lt, long))

  stepped : Simulates (step g.before) (step (grown g)) (AreTied g) (λ levels. Unit {0})
  stepped s t levels allowed r =
      let v : ℕ → Bool = signal_value g.before levels s.kept in
      let w : ℕ → Bool = signal_value (grown g) levels t.kept in
      let does = do_same levels s.kept t.kept (kept_there s t r) in (
        record {
          long = kept_long g.before s r.long r.clocks_long v;
          clocks_long = length-map g.before.cells (λ (cell : Cell). clock_by v cell.kind cell.ins);
          kept = ap (λ (u : State). kept_after w (grown g).cells u) (state_is s t r) ∙ all_kept g v w g.olds g.before.cells s.kept s.clocks does r.long r.clocks_long;
          clocked = all_ticks g v w g.olds g.before.cells does;
        },
        sym (ports_same g v w does (value_same g formed levels s.kept t.kept (kept_there s t r)) g.before.ports formed.ports),
      )
    where
      state_is : (s t : State) → AreTied g s t → t ≡ record { kept = s.kept ++ lows more; clocks = s.clocks ++ blanks more }
      state_is s t r =
          ap (λ kept. record { kept = kept; clocks = t.clocks }) r.kept ∙ ap (λ clocked. record { kept = s.kept ++ lows more; clocks = clocked }) r.clocked

  started : AreTied g (start g.before) (start (grown g))
  started = record {
    long = length-map g.before.cells (λ (cell : Cell). false);
    clocks_long = length-map g.before.cells (λ (cell : Cell). None);
    kept = map-append (λ (cell : Cell). false) g.olds more
        ∙ ap (λ xs. xs ++ lows more) (pairs_same (IsTurned (length g.before.names)) (λ (cell : Cell). false) (λ x y t. refl) g.olds g.before.cells g.turned);
    clocked = map-append (λ (cell : Cell). None) g.olds more ∙ ap (λ xs. xs ++ blanks more) blanks_are;
  }
    where
      blanks_are : blanks g.olds ≡ blanks g.before.cells
      blanks_are = pairs_same (IsTurned (length g.before.names)) (λ (cell : Cell). None) (λ x y t. refl) g.olds g.before.cells g.turned

  pub shows_same : (levels : List (List Bool)) → shows (grown g) levels ≡ shows g.before levels
  shows_same levels = sym (shows_always_alike (step g.before) (step (grown g)) (AreTied g) stepped (start g.before) (start (grown g)) started levels)
