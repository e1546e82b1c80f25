-- Cells have an order of evaluation where signals have one.
use Rattle.std.proofs.Common.{◌≡◌, ℕ, zero, suc, ◌+◌, ◌<◌, ◌≤◌, Bool, true, false, Option, None, Some, List, [], ◌∷◌, length, get_or, map, refl, ap, sym, ◌∙◌, subst, arith, All, if◌then◌else◌}
use Rattle.std.specs.Prelude.{◌^◌, slice_get, slice_index_or, option_map}
use Rattle.std.specs.Option.{option_map_or}
use Rattle.std.proofs.lemmas.List.{length-map, get_or-map}
use Rattle.std.proofs.lemmas.Option.{slice_get-get_or, same_Some}
use Rattle.ice_base.specs.declared.number.SignalNo.{SignalNo}
use Rattle.ice_base_values.specs.System.{System, present}
use Rattle.ice_base_values.specs.Order.{At, Has, IsOrder, IsCycleBelow}
use Rattle.ice_base_values.proofs.Values.{value_ordered}
use Rattle.ice_base_values.proofs.Cycles.{value_never, cycle_goes_on}
use Rattle.ice_net.specs.declared.cell.Cell.{Cell}
use Rattle.ice_net.specs.declared.kind.CellKind.TheVariants.{Carry}
use Rattle.ice_net.specs.declared.driver.SignalDriver.{SignalDriver}
use Rattle.ice_net.specs.declared.driver.SignalDriver.TheVariants.{Nothing, Pad, Output}
use Rattle.ice_net.specs.NetlistData.{NetlistData}
use Rattle.ice_net.specs.Drivers.{is_signal, place_of, output_of, outputs, pad_signals, driver_from, driver_of}
use Rattle.ice_net.specs.Formed.{IsFormed}
use Rattle.ice_net.specs.Meaning.{cell_reads, reads, depends_on}
use Rattle.ice_check.specs.Tables.{AreDrivers}
use Rattle.ice_check.specs.Loops.{HasOrder, IsGraphOf, cell_by, cells_at, cells_before}
use Rattle.ice_check.proofs.Graphs.{reads_below, graph_from}

-- ---- drivers
pub place_within : (s : ℕ) (xs : List (Option SignalNo)) (i : ℕ) → place_of s xs ≡ Some i → i < length xs
place_within s [] i e = cc e
place_within s (x ∷ xs) i e = by (is_signal s x) (place_of s xs) (λ k h. place_within s xs k h) e
  where
    by : (b : Bool) (o : Option ℕ) → ((k : ℕ) → o ≡ Some k → k < length xs) → (if b then Some 0 else option_map suc o) ≡ Some i → i < length (x ∷ xs)
    by true o rest e = let z : 0 ≡ i = same_Some 0 i e in omega arith
    by false None rest e = cc e
    by false (Some k) rest e = let z : suc k ≡ i = same_Some (suc k) i e in let h : k < length xs = rest k refl in omega arith

pub output_from : (pad cell : Option ℕ) (i : ℕ) → driver_from pad cell ≡ Output i → cell ≡ Some i
output_from (Some k) cell i e = cc e
output_from None (Some j) i e = cc e
output_from None None i e = cc e

-- the place of a cell that drives a signal
pub driver_within : (n : NetlistData) (s i : ℕ) → driver_of n s ≡ Output i → i < length n.cells
driver_within n s i e =
    let h : i < length (outputs n) = place_within s (outputs n) i (output_from (place_of s (pad_signals n)) (place_of s (outputs n)) i e) in
    let long : length (outputs n) ≡ length n.cells = length-map n.cells (λ (cell : Cell). output_of cell) in omega arith

-- ---- the cells before a cell
-- some of the signals is driven by the cell
abbrev pub Drives : (ℕ → SignalDriver) → List ℕ → ℕ → Type 0
Drives driver signals i = (s : ℕ) × Has signals s × (driver s ≡ Output i)

drives_later : (driver : ℕ → SignalDriver) (t : ℕ) (signals : List ℕ) (i : ℕ) → Drives driver signals i → Drives driver (t ∷ signals) i
drives_later driver t signals i found = (found.0, (suc found.1.0, found.1.1), found.2)

drives_step : (driver : ℕ → SignalDriver) (t : ℕ) (signals : List ℕ) (i : ℕ) (d : SignalDriver) → driver t ≡ d
    → ((j : ℕ) → At (cells_at driver signals) j i → Drives driver signals i)
    → (j : ℕ) → At (present (cell_by d ∷ map (λ s. cell_by (driver s)) signals)) j i → Drives driver (t ∷ signals) i
drives_step driver t signals i Nothing e rest j at = drives_later driver t signals i (rest j at)
drives_step driver t signals i (Pad k) e rest j at = drives_later driver t signals i (rest j at)
drives_step driver t signals i (Output k) e rest zero at = (t, (0, refl), e ∙ ap Output (same_Some k i at))
drives_step driver t signals i (Output k) e rest (suc j) at = drives_later driver t signals i (rest j at)

-- each of the cells that drive some signals drives one of them
pub cells_drive : (driver : ℕ → SignalDriver) (signals : List ℕ) (i j : ℕ) → At (cells_at driver signals) j i → Drives driver signals i
cells_drive driver [] i j at = cc at
cells_drive driver (t ∷ signals) i j at = drives_step driver t signals i (driver t) refl (λ k h. cells_drive driver signals i k h) j at

cells_same : (d e : ℕ → SignalDriver) (signals : List ℕ) → ((j s : ℕ) → At signals j s → d s ≡ e s) → map (λ s. cell_by (d s)) signals ≡ map (λ s. cell_by (e s)) signals
cells_same d e [] same = refl
cells_same d e (t ∷ signals) same =
    ap (λ (driver : SignalDriver). cell_by driver ∷ map (λ s. cell_by (d s)) signals) (same 0 t refl)
    ∙ ap (λ (rest : List (Option ℕ)). cell_by (e t) ∷ rest) (cells_same d e signals (λ j s at. same (suc j) s at))

-- ---- the graph of cells
blank : Cell
blank = record { kind = Carry; line = 0; ins = []; outs = [] }

abbrev pub row_of : List SignalDriver → Cell → List ℕ
row_of drivers cell = cells_at (λ s. slice_index_or drivers s Nothing) (present (cell_reads cell))

row_is : (n : NetlistData) → IsFormed n → (drivers : List SignalDriver) → AreDrivers n drivers → (i : ℕ) (cell : Cell) → slice_get n.cells i ≡ Some cell
    → row_of drivers cell ≡ cells_before n i
row_is n formed drivers are i cell at =
    let e : reads n (Output i) ≡ cell_reads cell = ap (λ (o : Option Cell). option_map_or (λ (c : Cell). cell_reads c) o []) at in
    ap present (cells_same (λ s. slice_index_or drivers s Nothing) (driver_of n) (present (cell_reads cell))
    (λ j s here. are.drivers s (reads_below n formed (Output i) j s (subst (λ (r : List (Option ℕ)). At (present r) j s) (sym e) here))))
    ∙ ap (λ (r : List (Option ℕ)). cells_at (driver_of n) (present r)) (sym e)

pub cells_graph : (n : NetlistData) → IsFormed n → (drivers : List SignalDriver) → AreDrivers n drivers
    → IsGraphOf (length n.cells) (cells_before n) (map (row_of drivers) n.cells)
cells_graph n formed drivers are =
    graph_from (length n.cells) (cells_before n) (map (row_of drivers) n.cells) (length-map n.cells (row_of drivers))
    (λ i lt. get_or-map (row_of drivers) n.cells i blank [] lt ∙ row_is n formed drivers are i (get_or n.cells i blank) (slice_get-get_or n.cells i blank lt))
    (λ i j q lt at. let found = cells_drive (driver_of n) (present (reads n (Output i))) q j at in driver_within n found.0 q found.2)

-- ---- no cycle of cells
-- a signal that a cell of the list drives
abbrev pub Driven : NetlistData → List ℕ → ℕ → Type 0
Driven n cycle s = (s < length n.names) × (i : ℕ) × Has cycle i × (driver_of n s ≡ Output i)

-- each cell of a cycle reads a signal that a cell of the cycle drives
cycle_reads : (n : NetlistData) → IsFormed n → (cycle : List ℕ) → IsCycleBelow (length n.cells) (cells_before n) cycle
    → (i : ℕ) → Has cycle i → (t : ℕ) × Has (present (reads n (Output i))) t × Driven n cycle t
cycle_reads n formed cycle c i has =
    let next = cycle_goes_on (cells_before n) cycle c.closes i has in
    let found = cells_drive (driver_of n) (present (reads n (Output i))) next.0 next.1.0 next.1.1 in
    (found.0, found.1, (reads_below n formed (Output i) found.1.0 found.0 found.1.1, next.0, next.2, found.2))

driven_goes_on : (n : NetlistData) → IsFormed n → (cycle : List ℕ) → IsCycleBelow (length n.cells) (cells_before n) cycle
    → (s : ℕ) → Driven n cycle s → (t : ℕ) × Has (depends_on n s) t × Driven n cycle t
driven_goes_on n formed cycle c s here =
    let next = cycle_reads n formed cycle c here.1 here.2 in
    (next.0, subst (λ (driver : SignalDriver). Has (present (reads n driver)) next.0) (sym here.3) next.1, next.2)

pub no_cell_cycle : (n : NetlistData) → IsFormed n → HasOrder n → (cycle : List ℕ) → IsCycleBelow (length n.cells) (cells_before n) cycle → ⊥
no_cell_cycle n formed o cycle c =
    let first = get_or cycle 0 0 in
    let start = cycle_reads n formed cycle c first (0, slice_get-get_or cycle 0 0 c.closes.some) in
    let s : System ℕ Bool = record { depends = depends_on n; local = λ _ _. true } in
    let none = value_never s (Driven n cycle) (driven_goes_on n formed cycle c) (length n.names + 1) start.0 start.2 in
    let there = value_ordered s (length n.names) o.order o.orders start.0 start.2.0 in
    cc (there.1, none)

-- ---- the numbers of an order
pub order_small : (points : ℕ) (depends : ℕ → List ℕ) (order : List ℕ) → IsOrder points depends order → points ≤ 1073741823 → All (λ point. point < 2 ^ 32) order
order_small points depends order o few = λ i d lt.
    let below : get_or order i d < points = o.within i (get_or order i d) (slice_get-get_or order i d lt) in
    omega (arith, below, few)
