-- What is added to the netlist with buffers: ports one after another, and which name and which cell comes next.
use Rattle.std.proofs.Common.{◌≡◌, ℕ, zero, suc, ◌+◌, ◌<◌, ◌≤◌, ◌==◌, false, Option, None, Some, List, [], ◌∷◌, ◌++◌, length, map, take, get_or, All, refl, sym, ap, ◌∙◌, subst, arith, length-append, true≢false}
use Rattle.std.specs.List.{IsDistinct}
use Rattle.std.proofs.lemmas.List.{get_or_default, get_or-map, length-map, map-append, take_more, take_all}
use Rattle.std.proofs.lemmas.List.Quantifiers.{position-Some}
use Rattle.std.proofs.lemmas.Map.Keys.{apart_from_distinct}
use Rattle.ice_base.specs.declared.number.SignalNo.{SignalNo}
use Rattle.ice_net.specs.declared.cell.Cell.{Cell}
use Rattle.ice_net.specs.declared.port.Port.{Port}
use Rattle.ice_net.specs.Formed.{IsFormed, IsFormedCell, port_numbers}
use Rattle.ice_net.specs.NetlistData.{NetlistData, is_at, port_at, port_by, with_port}
use Rattle.ice_check_promote.specs.Promoted.{buffered_name, buffered_cell, buffer, buffers, with_buffers, passing_cell}
use Rattle.ice_net_additions.specs.Adding.{with_cells, HasRoomForCells}
use Rattle.ice_net_additions.proofs.Added.{all_left, all_right, taken}
use Rattle.ice_check_promote.specs.Filling.{buffer_names, clocked_cell, filled}
use Rattle.ice_check_promote.proofs.Buffers.{length_buffers}

-- ---- ports
no_port : (ports : List Port) (i : ℕ) (port : Port) → IsDistinct ◌==◌ (port_numbers ports) → i < length ports → port ≡ get_or ports i port → port_at port.signal.0 (take i ports) ≡ None
no_port ports i port once lt is = by (port_at port.signal.0 (take i ports)) refl
  where
    long : length (port_numbers ports) ≡ length ports
    long = length-map ports (λ (p : Port). p.signal.0)

    number : (k : ℕ) → k < length ports → get_or (port_numbers ports) k 0 ≡ (get_or ports k port).signal.0
    number k below = get_or-map (λ (p : Port). p.signal.0) ports k port 0 below

    apart : (k : ℕ) → k < length (take i ports) → is_at port.signal.0 (get_or (take i ports) k port) ≡ false
    apart k below =
        let t = taken ports i k port port lt below in
        let less = t.0 in
        let within : k < length ports = omega (arith, less, lt) in
        ap (is_at port.signal.0) t.1
        ∙ ap (λ (p : Port). (get_or ports k port).signal.0 == p.signal.0) is
        ∙ ap (λ s. s == (get_or ports i port).signal.0) (sym (number k within))
        ∙ ap (λ s. get_or (port_numbers ports) k 0 == s) (sym (number i lt))
        ∙ apart_from_distinct ◌==◌ (port_numbers ports) k i 0 once less (omega (arith, lt, long))

    by : (o : Option ℕ) → port_at port.signal.0 (take i ports) ≡ o → o ≡ None
    by None e = refl
    by (Some k) e = let found = position-Some (is_at port.signal.0) (take i ports) k port e in absurd (true≢false (sym found.1 ∙ apart k found.0))

pub ports_none : (n : NetlistData) (ports : List Port) → n.ports ≡ [] → n ≡ record n { ports = take 0 ports }
ports_none n ports e = ap (λ (ps : List Port). record n { ports = ps }) e

pub ports_all : (n m : NetlistData) (ports : List Port) (i : ℕ) → length ports ≤ i → m ≡ record n { ports = take i ports } → m ≡ record n { ports = ports }
ports_all n m ports i le e = e ∙ ap (λ (ps : List Port). record n { ports = ps }) (take_all i ports le)

pub ports_more : (n m now : NetlistData) (ports : List Port) (i : ℕ) (d : Port) → IsDistinct ◌==◌ (port_numbers ports) → i < length ports
    → m ≡ record n { ports = take i ports } → now ≡ record m { ports = with_port m.ports (get_or ports i d).signal (get_or ports i d).way } → now ≡ record n { ports = take (i + 1) ports }
ports_more n m now ports i d once lt e next =
    let port = get_or ports i d in
    let is : port ≡ get_or ports i port = get_or_default ports i d port lt in
    next
    ∙ ap (λ (k : NetlistData). record k { ports = with_port k.ports port.signal port.way }) e
    ∙ ap (λ o. record n { ports = port_by (take i ports) port.signal port.way o }) (no_port ports i port once lt is)
    ∙ ap (λ (ps : List Port). record n { ports = ps }) (sym (take_more ports i d lt))

-- ---- cells
-- the cell that is made of one at this place
pub cell_made : (count : ℕ) (clocks : List ℕ) (outer : List SignalNo) (cells : List Cell) (i : ℕ) (cell made : Cell) → i < length cells → cell ≡ get_or cells i cell → made ≡ clocked_cell count clocks outer cell
    → made ≡ get_or (map (clocked_cell count clocks outer) cells) i made
cell_made count clocks outer cells i cell made lt is e = e ∙ ap (clocked_cell count clocks outer) is ∙ sym (get_or-map (clocked_cell count clocks outer) cells i cell made lt)

buffer_there : (next : ℕ) (clocks : List ℕ) (i d : ℕ) (other : Cell) → i < length clocks → get_or (buffers next clocks) i other ≡ buffer (get_or clocks i d) (next + i)
buffer_there next [] i d other lt = absurd (omega (arith, lt))
buffer_there next (c ∷ clocks) zero d other lt = ap (buffer c) (let e : next ≡ next + 0 = omega arith in e)
buffer_there next (c ∷ clocks) (suc i) d other lt = buffer_there (next + 1) clocks i d other (omega (arith, lt)) ∙ ap (buffer (get_or clocks i d)) (let e : next + 1 + i ≡ next + suc i = omega arith in e)

-- the buffer of the clock at this place
pub buffer_made : (next : ℕ) (clocks : List ℕ) (i d : ℕ) (made : Cell) → i < length clocks → made ≡ buffer (get_or clocks i d) (next + i) → made ≡ get_or (buffers next clocks) i made
buffer_made next clocks i d made lt e = e ∙ sym (buffer_there next clocks i d made lt)

pub buffers_long : (next : ℕ) (clocks : List ℕ) (i : ℕ) → i < length clocks → i < length (buffers next clocks)
buffers_long next clocks i lt = let long = length_buffers next clocks in omega (arith, long, lt)

pub cells_long : (count : ℕ) (clocks : List ℕ) (outer : List SignalNo) (cells : List Cell) (i : ℕ) → i < length cells → i < length (map (clocked_cell count clocks outer) cells)
cells_long count clocks outer cells i lt = let long = length-map cells (clocked_cell count clocks outer) in omega (arith, long, lt)

-- the name that is made for the clock at this place
pub names_long : (n : NetlistData) (clocks : List ℕ) (i : ℕ) → i < length clocks → i < length (buffer_names n clocks)
names_long n clocks i lt = let long = length-map clocks (λ clock. buffered_name (get_or n.names clock [])) in omega (arith, long, lt)

pub name_made : (n : NetlistData) (clocks : List ℕ) (i d : ℕ) (name made : List ℕ) → i < length clocks → All (λ clock. clock < length n.names) clocks
    → name ≡ get_or n.names (get_or clocks i d) name → made ≡ buffered_name name → made ≡ get_or (buffer_names n clocks) i made
name_made n clocks i d name made lt below is e =
    e
    ∙ ap buffered_name (is ∙ get_or_default n.names (get_or clocks i d) name [] (below i d lt))
    ∙ sym (get_or-map (λ clock. buffered_name (get_or n.names clock [])) clocks i d made lt)

-- ---- all cells
-- a buffer passes no clock on
same_buffers : (count next : ℕ) (clocks list : List ℕ) (outer : List SignalNo) → map (passing_cell count clocks outer) (buffers next list) ≡ buffers next list
same_buffers count next clocks [] outer = refl
same_buffers count next clocks (clock ∷ list) outer = ap (λ rest. buffer clock next ∷ rest) (same_buffers count (next + 1) clocks list outer)

-- the cells that were there, and behind them the buffers
pub cells_are : (n : NetlistData) (outer : List SignalNo) (clocks : List ℕ) → (filled n outer clocks).cells ≡ map (clocked_cell (length n.names) clocks outer) n.cells ++ buffers (length n.names) clocks
cells_are n outer clocks =
    let count = length n.names in
    map-append (passing_cell count clocks outer) (map (buffered_cell count clocks) n.cells) (buffers count clocks)
    ∙ ap (λ cells. cells ++ map (passing_cell count clocks outer) (buffers count clocks)) (twice n.cells)
    ∙ ap (λ cells. map (clocked_cell count clocks outer) n.cells ++ cells) (same_buffers count count clocks clocks outer)
  where
    twice : (cells : List Cell) → map (passing_cell (length n.names) clocks outer) (map (buffered_cell (length n.names) clocks) cells) ≡ map (clocked_cell (length n.names) clocks outer) cells
    twice [] = refl
    twice (cell ∷ cells) = ap (λ rest. clocked_cell (length n.names) clocks outer cell ∷ rest) (twice cells)

-- there is room for all of them
module _ (n : NetlistData) (outer : List SignalNo) (clocks : List ℕ) (formed : IsFormed (filled n outer clocks)) where
  abbrev olds : List Cell
  olds = map (clocked_cell (length n.names) clocks outer) n.cells

  abbrev news : List Cell
  news = buffers (length n.names) clocks

  all_few : length olds + length news ≤ 1073741823
  all_few =
      let few = formed.few_cells in
      let are = ap length (cells_are n outer clocks) in
      let long = length-append olds news in
      omega (arith, few, are, long)

  all_formed : All (IsFormedCell (length (with_buffers n clocks).names)) (olds ++ news)
  all_formed = subst (All (IsFormedCell (length (with_buffers n clocks).names))) (cells_are n outer clocks) formed.cells

-- the netlist with all names and ports has room for the cells
pub old_cells_room : (n made : NetlistData) (outer : List SignalNo) (clocks taken : List ℕ) (cells : List Cell) (count : ℕ) → IsFormed (filled n outer clocks) → made ≡ record (with_buffers n clocks) { cells = [] }
    → count ≡ length n.names → taken ≡ clocks → cells ≡ n.cells → HasRoomForCells made (map (clocked_cell count taken outer) cells)
old_cells_room n made outer clocks taken cells count formed e counted took copied =
    rw (e, counted, took, copied) (record {
      few = (let few = all_few n outer clocks formed in omega (arith, few));
      formed = all_left (IsFormedCell (length (with_buffers n clocks).names)) (olds n outer clocks formed) (news n outer clocks formed) (all_formed n outer clocks formed);
    })

-- and then for the buffers
pub buffers_room : (n made : NetlistData) (outer : List SignalNo) (clocks taken : List ℕ) (count : ℕ) → IsFormed (filled n outer clocks)
    → made ≡ record (with_buffers n clocks) { cells = map (clocked_cell (length n.names) clocks outer) n.cells }
    → count ≡ length n.names → taken ≡ clocks → HasRoomForCells made (buffers count taken)
buffers_room n made outer clocks taken count formed e counted took =
    rw (e, counted, took) (record {
      few = all_few n outer clocks formed;
      formed = all_right (IsFormedCell (length (with_buffers n clocks).names)) (olds n outer clocks formed) (news n outer clocks formed) (all_formed n outer clocks formed);
    })

-- the old cells are there
pub with_old_cells : (n made now : NetlistData) (outer : List SignalNo) (clocks taken : List ℕ) (cells : List Cell) (count : ℕ) → made ≡ record (with_buffers n clocks) { cells = [] }
    → count ≡ length n.names → taken ≡ clocks → cells ≡ n.cells → now ≡ with_cells made (map (clocked_cell count taken outer) cells)
    → now ≡ record (with_buffers n clocks) { cells = map (clocked_cell (length n.names) clocks outer) n.cells }
with_old_cells n made now outer clocks taken cells count e counted took copied is =
    is ∙ rw (e, counted, took, copied) refl

-- the buffers are there, too
pub with_all_cells : (n made now : NetlistData) (outer : List SignalNo) (clocks taken : List ℕ) (count : ℕ) → made ≡ record (with_buffers n clocks) { cells = map (clocked_cell (length n.names) clocks outer) n.cells }
    → count ≡ length n.names → taken ≡ clocks → now ≡ with_cells made (buffers count taken) → now ≡ filled n outer clocks
with_all_cells n made now outer clocks taken count e counted took is =
    is ∙ rw (e, counted, took) (ap (λ (cells : List Cell). record (with_buffers n clocks) { cells = cells }) (sym (cells_are n outer clocks)))
