-- Which name and which carry is added next, and that there is room for all.
use Rattle.std.proofs.Common.{◌≡◌, ℕ, zero, suc, ◌+◌, ◌<◌, ◌≤◌, Option, List, [], ◌∷◌, length, map, take, get_or, All, refl, sym, ap, ◌∙◌, arith, length-append, length-take-le}
use Rattle.std.specs.Option.{option_map_or}
use Rattle.std.proofs.lemmas.List.{get_or-take, get_or_append_left, get_or-map, length-map}
use Rattle.std.proofs.lemmas.Option.{slice_get-get_or, slice_get_within}
use Rattle.ice_net.specs.declared.cell.Cell.{Cell}
use Rattle.ice_net.specs.Formed.{IsFormed, IsFormedCell, IsSingle}
use Rattle.ice_net.specs.NetlistData.{NetlistData}
use Rattle.ice_net_additions.specs.Adding.{with_names, HasRoomForNames, with_cells, HasRoomForCells}
use Rattle.ice_net_additions.proofs.Added.{all_right}
use Rattle.ice_carry_tails.specs.Tails.{tail_name, tail_names, tail, tails, behind, read_behind, with_tails}
use Rattle.ice_carry_tails.specs.TailLaws.{CanTakeTails}
use Rattle.ice_carry_tails.specs.Tailable.{HasRoomForTails}
use Rattle.ice_carry_tails.proofs.Added.{Ins, length_tails}
use Rattle.ice_carry_tails.proofs.NewFormed.{with_tails_formed, names_once}

-- ---- names
pub names_long : (names : List (List ℕ)) (count : ℕ) → count ≤ length names → length (tail_names names count) ≡ count
names_long names count le = length-map (take count names) tail_name ∙ length-take-le count names le

-- the name that is made for the signal at this place
pub name_made : (n m : NetlistData) (count i : ℕ) (name made : List ℕ) → i < count → count ≤ length n.names → m ≡ with_names n (take i (tail_names n.names count))
    → name ≡ get_or m.names i name → made ≡ tail_name name → made ≡ get_or (tail_names n.names count) i made
name_made n m count i name made lt le is at e =
    let within : i < length n.names = omega (arith, lt, le) in
    let short : i < length (take count n.names) = (let l = length-take-le count n.names le in omega (arith, l, lt)) in
    e
    ∙ ap tail_name (at ∙ ap (λ (k : NetlistData). get_or k.names i name) is ∙ get_or_append_left n.names (take i (tail_names n.names count)) name i within ∙ sym (get_or-take count n.names i name lt))
    ∙ sym (get_or-map tail_name (take count n.names) i name made short)

-- ---- cells
-- a cell of the netlist stands where it stood
pub cell_there : (n m : NetlistData) (more : List Cell) (i : ℕ) → i < length n.cells → m ≡ with_cells n more → i < length m.cells
cell_there n m more i lt e = let same = ap (λ (k : NetlistData). length k.cells) e in let long = length-append n.cells more in omega (arith, same, long, lt)

tail_there : (next : ℕ) (lists : List Ins) (i : ℕ) (d : Ins) (other : Cell) → i < length lists → get_or (tails next lists) i other ≡ tail (next + i) (get_or lists i d)
tail_there next [] i d other lt = absurd (omega (arith, lt))
tail_there next (ins ∷ lists) zero d other lt = ap (λ k. tail k ins) (let e : next ≡ next + 0 = omega arith in e)
tail_there next (ins ∷ lists) (suc i) d other lt = tail_there (next + 1) lists i d other (omega (arith, lt)) ∙ ap (λ k. tail k (get_or lists i d)) (let e : next + 1 + i ≡ next + suc i = omega arith in e)

pub tails_long : (next : ℕ) (cells : List Cell) (tables : List ℕ) (i : ℕ) → i < length tables → i < length (tails next (map (read_behind cells) tables))
tails_long next cells tables i lt =
    let long = length_tails next (map (read_behind cells) tables) in
    let same = length-map tables (read_behind cells) in
    omega (arith, long, same, lt)

-- the carry that is made at the table at this place
pub tail_made : (n m : NetlistData) (next : ℕ) (tables : List ℕ) (i table d : ℕ) (cell made : Cell) (more : List Cell) → i < length tables → table ≡ get_or tables i d → table < length n.cells
    → m ≡ with_cells n more → cell ≡ get_or m.cells table cell → made ≡ tail (next + i) (behind cell.ins) → made ≡ get_or (tails next (map (read_behind n.cells) tables)) i made
tail_made n m next tables i table d cell made more lt is below e at by =
    by ∙ ap (tail (next + i)) reads ∙ sym (tail_there next (map (read_behind n.cells) tables) i [] made (let same = length-map tables (read_behind n.cells) in omega (arith, same, lt)))
  where
    cell_is : cell ≡ get_or n.cells table cell
    cell_is = at ∙ ap (λ (k : NetlistData). get_or k.cells table cell) e ∙ get_or_append_left n.cells more cell table below

    reads : behind cell.ins ≡ get_or (map (read_behind n.cells) tables) i []
    reads =
        ap (λ (c : Cell). behind c.ins) cell_is
        ∙ sym (ap (λ (o : Option Cell). behind (option_map_or (λ (c : Cell). c.ins) o [])) (slice_get-get_or n.cells table cell below))
        ∙ ap (read_behind n.cells) is
        ∙ sym (get_or-map (read_behind n.cells) tables i d [] lt)

-- ---- room
pub room_for_names : (n : NetlistData) (tables : List ℕ) (count : ℕ) → IsFormed n → IsSingle n → CanTakeTails n tables → HasRoomForTails n → count ≡ length tables → HasRoomForNames n (tail_names n.names count)
room_for_names n tables count formed single can room same = record {
  few =
      (let few = can.room in
      let most = formed.few in
      let le = can.few in
      let long = names_long n.names count (omega (arith, same, le)) in
      omega (arith, few, most, same, long));
  once = names_once n.names count single.names room.plain;
}

pub tables_below : (n made : NetlistData) (tables : List ℕ) (names : List (List ℕ)) → CanTakeTails n tables → made ≡ with_names n names → All (λ table. table < length made.cells) tables
tables_below n made tables names can e k d lt =
    let table = can.tables_are k d lt in
    let same = ap (λ (m : NetlistData). length m.cells) e in
    let within = slice_get_within n.cells (get_or tables k d) table.0 table.1 in
    omega (arith, same, within)

pub room_for_cells : (n made : NetlistData) (tables : List ℕ) (first : ℕ) → IsFormed n → CanTakeTails n tables → HasRoomForTails n → first ≡ length n.names → made ≡ with_names n (tail_names n.names (length tables))
    → HasRoomForCells made (tails first (map (read_behind made.cells) tables))
room_for_cells n made tables first formed can room same e =
    let whole = with_tails_formed n tables formed can room.room in
    rw (e, same) (record {
      few = (let few = whole.few_cells in let long = length-append n.cells (tails (length n.names) (map (read_behind n.cells) tables)) in omega (arith, few, long));
      formed = all_right (IsFormedCell (length (with_tails n tables).names)) n.cells (tails (length n.names) (map (read_behind n.cells) tables)) whole.cells;
    })

-- names and cells are there
pub all_there : (n made now : NetlistData) (tables : List ℕ) (first : ℕ) → first ≡ length n.names → made ≡ with_names n (tail_names n.names (length tables))
    → now ≡ with_cells made (tails first (map (read_behind made.cells) tables)) → now ≡ with_tails n tables
all_there n made now tables first same e is = is ∙ rw (e, same) refl

-- a name of the netlist stands where it stood
pub name_there : (n m : NetlistData) (more : List (List ℕ)) (i count : ℕ) → i < count → count ≤ length n.names → m ≡ with_names n more → i < length m.names
name_there n m more i count lt le e = let same = ap (λ (k : NetlistData). length k.names) e in let long = length-append n.names more in omega (arith, same, long, lt, le)
