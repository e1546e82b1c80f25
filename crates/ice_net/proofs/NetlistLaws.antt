-- A netlist stays well formed as it grows.
use Rattle.std.proofs.Common.{◌≡◌, ℕ, ◌+◌, ◌<◌, ◌≤◌, Bool, true, false, List, [], ◌∷◌, ◌++◌, length, length-append, arith, if◌then◌else◌, Option, Some, None, Result, Ok, Err, OnOk, OnErr, slice_get, slice_index_or, All, bytes_eq, ◌==◌, refl, sym, subst}
use Rattle.std.specs.List.{list_any, IsDistinct}
use Rattle.std.proofs.lemmas.Option.{slice_get_within, get_or_from_slice_get}
use Rattle.std.proofs.lemmas.List.Elements.{All-weaker, All-push, All-set}
use Rattle.ice_base.specs.declared.number.SignalNo.{SignalNo}
use Rattle.ice_net.specs.declared.cell.Cell.{Cell}
use Rattle.ice_net.specs.declared.port.Port.{Port}
use Rattle.ice_net.specs.declared.kind.CellKind.{CellKind}
use Rattle.ice_net.specs.declared.kind.CellKind.TheVariants.{Lut, Cover, Carry, Flop, PadCell, Global}
use Rattle.ice_base.specs.Lists.{with_name}
use Rattle.ice_net.specs.declared.port.Way.{Way}
use Rattle.ice_net.specs.NetlistData.{NetlistData, with_port, port_by, port_again, port_at, merged}
use Rattle.ice_net.specs.Ways.{PlacesAre}
use Rattle.ice_net.proofs.Single.{names_once, ports_still_once}
use Rattle.ice_net.specs.Formed.{IsFormed, IsIndexed, port_numbers, IsFormedCell, IsPortBelow, IsBelow, IsPresent, IsFormedKind}

-- ---- more signals
pub below_more : (m n : ℕ) → m ≤ n → (s : Option SignalNo) → IsBelow m s → IsBelow n s
below_more m n le None h = tt
below_more m n le (Some s) h = omega arith

pub present_more : (m n : ℕ) → m ≤ n → (s : Option SignalNo) → IsPresent m s → IsPresent n s
present_more m n le None h = h
present_more m n le (Some s) h = omega arith

kind_more : (m n : ℕ) → m ≤ n → (kind : CellKind) (ins outs : List (Option SignalNo)) → IsFormedKind m kind ins outs → IsFormedKind n kind ins outs
kind_more m n le (Lut table) ins outs h = tt
kind_more m n le (Cover table width) ins outs h = record {
  narrow = h.narrow;
  fits = h.fits;
  ins_present = All-weaker (IsPresent m) (IsPresent n) (present_more m n le) ins h.ins_present;
  outs_present = All-weaker (IsPresent m) (IsPresent n) (present_more m n le) outs h.outs_present;
}
kind_more m n le Carry ins outs h = tt
kind_more m n le (Flop falling enable reset) ins outs h = tt
kind_more m n le (PadCell pin_type pullup) ins outs h = h
kind_more m n le Global ins outs h = tt

-- a cell stays well formed where there are more signals
pub formed_more : (m n : ℕ) → m ≤ n → (cell : Cell) → IsFormedCell m cell → IsFormedCell n cell
formed_more m n le cell h = record {
  ins_long = h.ins_long;
  outs_long = h.outs_long;
  ins_below = All-weaker (IsBelow m) (IsBelow n) (below_more m n le) cell.ins h.ins_below;
  outs_below = All-weaker (IsBelow m) (IsBelow n) (below_more m n le) cell.outs h.outs_below;
  kind = kind_more m n le cell.kind cell.ins cell.outs h.kind;
}

port_more : (m n : ℕ) → m ≤ n → (port : Port) → IsPortBelow m port → IsPortBelow n port
port_more m n le port h = omega arith

-- one name more at most
pub names_grow : (names : List (List ℕ)) (name : List ℕ) → (length names ≤ length (with_name names name)) × (length (with_name names name) ≤ length names + 1)
names_grow names name = by (list_any (bytes_eq name) names)
  where
    by : (b : Bool) → (length names ≤ length (if b then names else names ++ name ∷ [])) × (length (if b then names else names ++ name ∷ []) ≤ length names + 1)
    by true = (omega arith, omega arith)
    by false = (omega (arith, length-append names (name ∷ [])), omega (arith, length-append names (name ∷ [])))

grown : (n : NetlistData) (names : List (List ℕ)) → length n.names ≤ length names → length names ≤ 1073741823 → IsFormed n → IsFormed (record { names = names; ports = n.ports; cells = n.cells })
grown n names le few h = record {
  few = few;
  few_cells = h.few_cells;
  ports = All-weaker (IsPortBelow (length n.names)) (IsPortBelow (length names)) (port_more (length n.names) (length names) le) n.ports h.ports;
  cells = All-weaker (IsFormedCell (length n.names)) (IsFormedCell (length names)) (formed_more (length n.names) (length names) le) n.cells h.cells;
}

-- in the words of the netlist's fields
pub named_still_indexed : (names now : List (List ℕ)) (ports : List Port) (cells : List Cell) (places : List (Option ℕ)) (name : List ℕ)
    → IsIndexed (record { names = names; ports = ports; cells = cells }) places → length names < 1073741823 → now ≡ with_name names name
    → IsIndexed (record { names = now; ports = ports; cells = cells }) places
named_still_indexed names now ports cells places name h room is =
    let grow = names_grow names name in
    let n : NetlistData = record { names = names; ports = ports; cells = cells } in
    record {
      formed = rw is (grown n (with_name names name) grow.0 (omega (arith, grow.1)) h.formed);
      single = record { names = rw is (names_once names name h.single.names); ports = h.single.ports };
      places_are = h.places_are;
    }

pub celled_still_indexed : (names : List (List ℕ)) (ports : List Port) (cells : List Cell) (places : List (Option ℕ)) (cell : Cell)
    → IsIndexed (record { names = names; ports = ports; cells = cells }) places → length cells < 1073741823 → IsFormedCell (length names) cell
    → IsIndexed (record { names = names; ports = ports; cells = cells ++ cell ∷ [] }) places
celled_still_indexed names ports cells places cell h room formed = record {
  formed = record {
    few = h.formed.few;
    few_cells = omega (arith, room, length-append cells (cell ∷ []));
    ports = h.formed.ports;
    cells = All-push (IsFormedCell (length names)) cells cell h.formed.cells formed;
  };
  single = record { names = h.single.names; ports = h.single.ports };
  places_are = h.places_are;
}

-- ---- more ports
port_again_below : (m : ℕ) (ports : List Port) (k : ℕ) (signal : SignalNo) (way : Way) (o : Option Port) → slice_get ports k ≡ o → All (IsPortBelow m) ports → All (IsPortBelow m) (port_again ports k signal way o)
port_again_below m ports k signal way None at below = below
port_again_below m ports k signal way (Some port) at below =
    let here : IsPortBelow m (slice_index_or ports k port) = below k port (slice_get_within ports k port at) in
    All-set (IsPortBelow m) ports k (record { signal = port.signal; way = merged port.way way })
    (subst (IsPortBelow m) (get_or_from_slice_get ports k port port at) here) below

with_port_below : (m : ℕ) (ports : List Port) (signal : SignalNo) (way : Way) (o : Option ℕ) → signal.0 < m → All (IsPortBelow m) ports → All (IsPortBelow m) (port_by ports signal way o)
with_port_below m ports signal way None lt below = All-push (IsPortBelow m) ports (record { signal = signal; way = way }) below lt
with_port_below m ports signal way (Some k) lt below = port_again_below m ports k signal way (slice_get ports k) refl below

pub ported_still_indexed : {E : Type 0} (names : List (List ℕ)) (ports now : List Port) (cells : List Cell) (places found : List (Option ℕ)) (signal : SignalNo) (way : Way) (r : Result (Unit {0}) E)
    → IsIndexed (record { names = names; ports = ports; cells = cells }) places → signal.0 < length names → PlacesAre now found
    → OnOk r (now ≡ with_port ports signal way) → OnErr r (now ≡ ports) → IsIndexed (record { names = names; ports = now; cells = cells }) found
ported_still_indexed {E = E} names ports now cells places found signal way r h lt are done refused = by r done refused
  where
    made : (now : List Port) → All (IsPortBelow (length names)) now → IsDistinct ◌==◌ (port_numbers now) → PlacesAre now found → IsIndexed (record { names = names; ports = now; cells = cells }) found
    made now below once are = record {
      formed = record { few = h.formed.few; few_cells = h.formed.few_cells; ports = below; cells = h.formed.cells };
      single = record { names = h.single.names; ports = once };
      places_are = are;
    }

    by : (r : Result (Unit {0}) E) → OnOk r (now ≡ with_port ports signal way) → OnErr r (now ≡ ports) → IsIndexed (record { names = names; ports = now; cells = cells }) found
    by (Ok u) is none =
        made now (subst (λ ps. All (IsPortBelow (length names)) ps) (sym is) (with_port_below (length names) ports signal way (port_at signal.0 ports) lt h.formed.ports))
        (ports_still_once ports now signal way is h.single.ports) are
    by (Err e) none is =
        made now (subst (λ ps. All (IsPortBelow (length names)) ps) (sym is) h.formed.ports) (subst (λ ps. IsDistinct ◌==◌ (port_numbers ps)) (sym is) h.single.ports) are
