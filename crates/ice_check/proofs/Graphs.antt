-- The graphs of signals and of cells are what the netlist says.
use Rattle.std.proofs.Common.{◌≡◌, ℕ, zero, suc, ◌<◌, Option, None, Some, List, [], ◌∷◌, length, map, inl, inr, refl, ap, ◌∙◌, subst, arith, All}
use Rattle.std.specs.Prelude.{slice_get}
use Rattle.std.specs.Option.{option_map_or}
use Rattle.std.proofs.lemmas.List.{length-map, get_or-map, get_or_past}
use Rattle.std.proofs.lemmas.List.Elements.{All-get_or}
use Rattle.std.proofs.lemmas.Option.{slice_get_within, get_or_from_slice_get, same_Some}
use Rattle.std.proofs.lemmas.Bool.{cases_lt}
use Rattle.ice_base.specs.declared.number.SignalNo.{SignalNo}
use Rattle.ice_base_values.specs.Order.{At, IsOrder, IsCycleBelow}
use Rattle.ice_base_values.proofs.Values.{order_same}
use Rattle.ice_base_values.proofs.Cycles.{cycle_below_same}
use Rattle.ice_base_values.specs.Graph.{depends_of}
use Rattle.ice_base_values.specs.System.{present}
use Rattle.ice_net.specs.declared.cell.Cell.{Cell}
use Rattle.ice_net.specs.declared.kind.CellKind.{CellKind}
use Rattle.ice_net.specs.declared.kind.CellKind.TheVariants.{Lut, Cover, Carry, Flop, PadCell, Global}
use Rattle.ice_net.specs.declared.driver.SignalDriver.{SignalDriver}
use Rattle.ice_net.specs.declared.driver.SignalDriver.TheVariants.{Nothing, Pad, Output}
use Rattle.ice_net.specs.NetlistData.{NetlistData}
use Rattle.ice_net.specs.Drivers.{numbers, driver_of}
use Rattle.ice_net.specs.Formed.{IsBelow, IsFormedCell, IsFormed}
use Rattle.ice_net.specs.Meaning.{reads_by, cell_reads, reads, depends_on}
use Rattle.ice_check.specs.Tables.{AreDrivers}
use Rattle.ice_check.specs.Loops.{IsGraphOf}

-- ---- what is read is below the number of signals
present_below : (count : ℕ) (ins : List (Option SignalNo)) → All (IsBelow count) ins → (j q : ℕ) → At (present (numbers ins)) j q → q < count
present_below count [] all j q at = cc at
present_below count (None ∷ ins) all j q at = present_below count ins (λ i d lt. all (suc i) d (omega (arith, lt))) j q at
present_below count (Some s ∷ ins) all zero q at =
    let h : s.0 < count = all 0 None (omega arith) in
    subst (λ (k : ℕ). k < count) (same_Some s.0 q at) h
present_below count (Some s ∷ ins) all (suc j) q at = present_below count ins (λ i d lt. all (suc i) d (omega (arith, lt))) j q at

kind_below : (count : ℕ) (kind : CellKind) (ins : List (Option SignalNo)) → All (IsBelow count) ins → (j q : ℕ) → At (present (numbers (reads_by kind ins))) j q → q < count
kind_below count (Lut table) ins all j q at = present_below count ins all j q at
kind_below count (Cover table width) ins all j q at = present_below count ins all j q at
kind_below count Carry ins all j q at = present_below count ins all j q at
kind_below count (Flop falling enable reset) ins all j q at = cc at
kind_below count (PadCell pin_type pullup) ins all j q at = cc at
kind_below count Global ins all j q at = present_below count ins all j q at

-- what holds of all cells holds of the one at a place
pub cell_formed : (n : NetlistData) → IsFormed n → (i : ℕ) (cell : Cell) → slice_get n.cells i ≡ Some cell → IsFormedCell (length n.names) cell
cell_formed n formed i cell at =
    subst (IsFormedCell (length n.names)) (get_or_from_slice_get n.cells i cell cell at)
    (All-get_or (IsFormedCell (length n.names)) n.cells i cell (slice_get_within n.cells i cell at) formed.cells)

pub reads_below : (n : NetlistData) → IsFormed n → (driver : SignalDriver) (j q : ℕ) → At (present (reads n driver)) j q → q < length n.names
reads_below n formed Nothing j q at = cc at
reads_below n formed (Pad k) j q at = cc at
reads_below n formed (Output i) j q at = by (slice_get n.cells i) refl at
  where
    by : (o : Option Cell) → slice_get n.cells i ≡ o → At (present (option_map_or (λ (cell : Cell). cell_reads cell) o [])) j q → q < length n.names
    by None e here = cc here
    by (Some cell) e here = kind_below (length n.names) cell.kind cell.ins (cell_formed n formed i cell e).ins_below j q here

-- ---- graphs
-- rows that are as the dependences say, which stay below the number of points
pub graph_from : (points : ℕ) (depends : ℕ → List ℕ) (rows : List (List ℕ)) → length rows ≡ points
    → ((p : ℕ) → p < points → depends_of rows p ≡ depends p)
    → ((p j q : ℕ) → p < points → At (depends p) j q → q < points)
    → IsGraphOf points depends rows
graph_from points depends rows long are below = record {
  count = long;
  rows_are = are;
  within = record {
    points = λ p q has. elim (cases_lt p points) [
      | inl lt ↦ (let h : q < points = below p has.0 q lt (subst (λ (row : List ℕ). At row has.0 q) (are p lt) has.1) in omega arith)
      | inr le ↦ (let none : depends_of rows p ≡ [] = get_or_past rows p [] (omega arith) in
          let at : At [] has.0 q = subst (λ (row : List ℕ). At row has.0 q) none has.1 in cc at)
    ];
  };
}

pub signals_graph : (n : NetlistData) → IsFormed n → (drivers : List SignalDriver) → AreDrivers n drivers
    → IsGraphOf (length n.names) (depends_on n) (map (λ (driver : SignalDriver). present (reads n driver)) drivers)
signals_graph n formed drivers are =
    graph_from (length n.names) (depends_on n) (map (λ (driver : SignalDriver). present (reads n driver)) drivers)
    (length-map drivers (λ (driver : SignalDriver). present (reads n driver)) ∙ are.long)
    (λ p lt. get_or-map (λ (driver : SignalDriver). present (reads n driver)) drivers p Nothing [] (let l = are.long in omega arith)
    ∙ ap (λ (driver : SignalDriver). present (reads n driver)) (are.drivers p lt))
    (λ p j q lt at. reads_below n formed (driver_of n p) j q at)

-- an order of the rows is one of the dependences
pub order_of_graph : (points : ℕ) (depends : ℕ → List ℕ) (rows : List (List ℕ)) (order : List ℕ) → IsGraphOf points depends rows
    → IsOrder (length rows) (depends_of rows) order → IsOrder points depends order
order_of_graph points depends rows order graph o =
    order_same points (depends_of rows) depends order graph.rows_are (subst (λ (k : ℕ). IsOrder k (depends_of rows) order) graph.count o)

-- a cycle of the rows, begun at its least point, is a loop
pub cycle_of_graph : (points : ℕ) (depends : ℕ → List ℕ) (rows : List (List ℕ)) (cycle : List ℕ) → IsGraphOf points depends rows
    → IsCycleBelow (length rows) (depends_of rows) cycle → IsCycleBelow points depends cycle
cycle_of_graph points depends rows cycle graph c =
    cycle_below_same points (depends_of rows) depends cycle graph.rows_are (subst (λ (k : ℕ). IsCycleBelow k (depends_of rows) cycle) graph.count c)
