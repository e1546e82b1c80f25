-- Lines of cells are read as these cells.
use Rattle.std.proofs.Common.{◌≡◌, ℕ, ◌+◌, ◌^◌, ◌<◌, ◌≤◌, zero, suc, Bool, true, false, Option, Result, Ok, List, [], ◌∷◌, ◌++◌, length, map, if◌then◌else◌, codes, refl, sym, ap, ◌∙◌, subst, append-nil, append_assoc, arith, All}
use Rattle.std.specs.List.{AllByRecursion, flat_map}
use Rattle.std.proofs.lemmas.List.Elements.{recursion_from_All}
use Rattle.ice_base.specs.declared.number.SignalNo.{SignalNo}
use Rattle.ice_net.specs.declared.cell.Cell.{Cell}
use Rattle.ice_net.specs.declared.kind.CellKind.{CellKind}
use Rattle.ice_net.specs.declared.kind.CellKind.TheVariants.{Lut, Cover, Carry, Flop, PadCell, Global}
use Rattle.ice_net.specs.declared.kind.Reset.{Reset}
use Rattle.ice_net.specs.declared.kind.Reset.TheVariants.{Nothing, SyncReset, AsyncReset, SyncSet, AsyncSet}
use Rattle.ice_net.specs.declared.port.Port.{Port}
use Rattle.ice_net.specs.Formed.{IsBelow, IsPresent, IsFormedCell, IsGateKind}
use Rattle.ice_net.specs.Kinds.{ins_count, outs_count}
use Rattle.ice_net.specs.NetlistData.{NetlistData}
use Rattle.ice_blif.specs.declared.fault.BlifFault.{BlifFault}
use Rattle.ice_blif.specs.Cells.{◌>>=◌, kind_says}
use Rattle.ice_blif.specs.Covers.{table_of}
use Rattle.ice_blif.specs.State.{OpenCover, finished, cover_cell, with_kind}
use Rattle.ice_blif.specs.Reading.{NetReading}
use Rattle.ice_blif_write.specs.RoundTrip.{IsName, named_signal, IsDefined, IsDefinedCell, IsSmallKind, IsSmallCell}
use Rattle.ice_blif_write.specs.Text.{Words, port_names, kind_word, gate_line, first_line, param_line, digits_of, rows_from, cell_lines, lines_below}
use Rattle.ice_blif_write.proofs.CellRead.{all_named, all_actual, IsGateRead, gate_read, at_gate, param_read}
use Rattle.ice_blif_write.proofs.CoverRead.{AreThere, all_there, IsCoverRead, cover_read, at_cover, HasSignalsOf, rows_read}
use Rattle.ice_blif_write.proofs.DigitsRead.{bits_read}
use Rattle.ice_blif_write.proofs.GateRead.{ArePlaced, placed, bare, kind_read}
use Rattle.ice_blif_write.proofs.NamesRead.{Know}
use Rattle.ice_blif_write.proofs.Reading.{Ends, ends_line, HasRead, one_more}
use Rattle.ice_blif_write.proofs.Rows.{IsCovering, none_covered, table_covered}

-- ---- kinds
-- a kind without its parameters has the same ports, ten at most
record IsBareOf (kind : CellKind) : Type 0 where
  at_places : ArePlaced (bare kind) 0 (port_names kind)
  ins : ins_count (bare kind) ≡ ins_count kind
  outs : outs_count (bare kind) ≡ outs_count kind
  long : ins_count (bare kind) + outs_count (bare kind) ≡ length (port_names kind)
  few : length (port_names kind) ≤ 10

bare_of : (kind : CellKind) → IsGateKind kind → IsBareOf kind
bare_of (Lut table) h = record { at_places = placed (Lut 0) tt; ins = refl; outs = refl; long = refl; few = omega arith }
bare_of (Cover table width) h = absurd h
bare_of Carry h = record { at_places = placed Carry tt; ins = refl; outs = refl; long = refl; few = omega arith }
bare_of (Flop falling enable reset) h = record { at_places = placed (Flop falling enable reset) tt; ins = refl; outs = refl; long = (by enable reset).0; few = (by enable reset).1 }
  where
    by : (enable : Bool) (reset : Reset) → (ins_count (Flop falling enable reset) + 1 ≡ length (port_names (Flop falling enable reset))) × (length (port_names (Flop falling enable reset)) ≤ 10)
    by true Nothing = (refl, omega arith)
    by true SyncReset = (refl, omega arith)
    by true AsyncReset = (refl, omega arith)
    by true SyncSet = (refl, omega arith)
    by true AsyncSet = (refl, omega arith)
    by false Nothing = (refl, omega arith)
    by false SyncReset = (refl, omega arith)
    by false AsyncReset = (refl, omega arith)
    by false SyncSet = (refl, omega arith)
    by false AsyncSet = (refl, omega arith)
bare_of (PadCell pin_type pullup) h = record { at_places = placed (PadCell 0 false) (omega arith); ins = refl; outs = refl; long = refl; few = omega arith }
bare_of Global h = record { at_places = placed Global tt; ins = refl; outs = refl; long = refl; few = omega arith }

abbrev cell_with : CellKind → ℕ → List (Option SignalNo) → List (Option SignalNo) → Cell
cell_with kind line ins outs = record { kind = kind; line = line; ins = ins; outs = outs }

-- a gate that can be written
record IsGateOf (names : List (List ℕ)) (kind : CellKind) (ins outs : List (Option SignalNo)) : Type 0 where
  gate : IsGateKind kind
  ins_long : length ins ≡ ins_count kind
  outs_long : length outs ≡ outs_count kind
  ins_below : AllByRecursion (IsBelow (length names)) ins
  outs_below : AllByRecursion (IsBelow (length names)) outs
  defined : AllByRecursion (IsDefined names) outs

-- ---- gates
-- the first line of a gate is read, and then the lines behind it
gate_first : (n : NetlistData) (r : NetReading) (kind : CellKind) (ins outs : List (Option SignalNo)) (rest : List Words) → All IsName n.names → IsGateOf n.names kind ins outs
    → ((read : NetlistData) (cell : Cell) → IsGateRead n.names r (bare kind) ins outs read cell → Ends n (at_gate (finished read r.last) cell) rest)
    → Ends n r (gate_line n.names kind ins outs ∷ rest)
gate_first n r kind ins outs rest names is later =
    let b : IsBareOf kind = bare_of kind is.gate in
    let in_long : length ins ≡ ins_count (bare kind) = is.ins_long ∙ sym b.ins in
    let out_long : length outs ≡ outs_count (bare kind) = is.outs_long ∙ sym b.outs in
    let read = λ (k : ℕ). gate_read n.names r (kind_word kind) (bare kind) (port_names kind) ins outs k (kind_read kind is.gate) b.at_places in_long out_long b.long b.few
    (all_actual n.names (bare kind) 0 ins outs (omega (arith, in_long)) (all_named n.names names ins is.ins_below) (all_named n.names names outs is.outs_below) is.defined) in
    ends_line n r (λ k. at_gate (finished (read k).0 r.last) (read k).1) (gate_line n.names kind ins outs) rest refl (λ k. (read k).2) (λ k. later (read k).0 (read k).1 (read k).3)

-- a gate with its parameters is a cell more
gate_more : (n : NetlistData) (ports : List Port) (done : List Cell) (r : NetReading) (kind : CellKind) (ins outs : List (Option SignalNo)) (line : ℕ) (read : NetlistData) (cell : Cell) (before : CellKind)
    → cell.kind ≡ kind → IsGateRead n.names r before ins outs read (with_kind cell before)
    → HasRead n ports done r → HasRead n ports (done ++ cell_with kind line ins outs ∷ []) (at_gate (finished read r.last) cell)
gate_more n ports done r kind ins outs line read cell before is g has =
    one_more n read ports done r (at_gate (finished read r.last) cell) cell (cell_with kind line ins outs) has g.grew refl refl (record { kind_is = is; ins = g.know_ins; outs = g.know_outs })

-- the netlist, the cells before, and what is read so far
record IsAt (n : NetlistData) (done : List Cell) (r : NetReading) : Type 0 where
  names : All IsName n.names
  has : HasRead n n.ports done r

-- the lines behind a cell, from a reader that has this cell more
abbrev Later : NetlistData → List Cell → Cell → List Words → Type 0
Later n done cell rest = (s : NetReading) → HasRead n n.ports (done ++ cell ∷ []) s → Ends n s rest

-- a gate without parameters
plain_gate : (n : NetlistData) (done : List Cell) (r : NetReading) (kind : CellKind) (line : ℕ) (ins outs : List (Option SignalNo)) (rest : List Words) → bare kind ≡ kind → IsAt n done r → IsGateOf n.names kind ins outs
    → Later n done (cell_with kind line ins outs) rest → Ends n r (gate_line n.names kind ins outs ∷ rest)
plain_gate n done r kind line ins outs rest plain at is later =
    gate_first n r kind ins outs rest at.names is (λ read cell g. later (at_gate (finished read r.last) cell)
    (gate_more n n.ports done r kind ins outs line read cell (bare kind) (g.kind_is ∙ plain) (record { grew = g.grew; kind_is = refl; know_ins = g.know_ins; know_outs = g.know_outs }) at.has))

-- a parameter, and then the lines behind it
param_line_read : (n m : NetlistData) (cell : Cell) (name : List ℕ) (width number : ℕ) (now : CellKind) (rest : List Words)
    → ((k : ℕ) → kind_says k cell.kind name (digits_of width number ∷ []) ≡ Ok now) → Ends n (at_gate m (with_kind cell now)) rest
    → Ends n (at_gate m cell) (param_line name (digits_of width number) ∷ rest)
param_line_read n m cell name width number now rest says later =
    ends_line n (at_gate m cell) (λ k. at_gate m (with_kind cell now)) (param_line name (digits_of width number)) rest refl (λ k. param_read m cell name (digits_of width number) now k (says k)) (λ k. later)

table_gate : (n : NetlistData) (done : List Cell) (r : NetReading) (table line : ℕ) (ins outs : List (Option SignalNo)) (rest : List Words) → table < 2 ^ 16 → IsAt n done r → IsGateOf n.names (Lut table) ins outs
    → Later n done (cell_with (Lut table) line ins outs) rest → Ends n r (gate_line n.names (Lut table) ins outs ∷ (lines_below (Lut table) ++ rest))
table_gate n done r table line ins outs rest small at is later =
    gate_first n r (Lut table) ins outs (lines_below (Lut table) ++ rest) at.names is (λ read cell g.
    param_line_read n (finished read r.last) cell (codes "LUT_INIT") 16 table (Lut table) rest
    (λ k. ap (λ kind. kind_says k kind (codes "LUT_INIT") (digits_of 16 table ∷ [])) g.kind_is
    ∙ ap (λ (x : Result ℕ BlifFault). x >>= (λ t. Ok (Lut t))) (bits_read k 16 table small (omega arith) (omega arith)))
    (later (at_gate (finished read r.last) (with_kind cell (Lut table)))
    (gate_more n n.ports done r (Lut table) ins outs line read (with_kind cell (Lut table)) (Lut 0) refl (record { grew = g.grew; kind_is = refl; know_ins = g.know_ins; know_outs = g.know_outs }) at.has)))

pad_gate : (n : NetlistData) (done : List Cell) (r : NetReading) (pin_type : ℕ) (pullup : Bool) (line : ℕ) (ins outs : List (Option SignalNo)) (rest : List Words) → pin_type < 2 ^ 6 → IsAt n done r
    → IsGateOf n.names (PadCell pin_type pullup) ins outs → Later n done (cell_with (PadCell pin_type pullup) line ins outs) rest
    → Ends n r (gate_line n.names (PadCell pin_type pullup) ins outs ∷ (lines_below (PadCell pin_type pullup) ++ rest))
pad_gate n done r pin_type pullup line ins outs rest small at is later =
    gate_first n r (PadCell pin_type pullup) ins outs (lines_below (PadCell pin_type pullup) ++ rest) at.names is (λ read cell g.
    param_line_read n (finished read r.last) cell (codes "PIN_TYPE") 6 pin_type (PadCell pin_type false) (param_line (codes "PULLUP") (digits_of 1 (if pullup then 1 else 0)) ∷ rest)
    (λ k. ap (λ kind. kind_says k kind (codes "PIN_TYPE") (digits_of 6 pin_type ∷ [])) g.kind_is
    ∙ ap (λ (x : Result ℕ BlifFault). x >>= (λ t. Ok (PadCell t false))) (bits_read k 6 pin_type small (omega arith) (omega arith)))
    (param_line_read n (finished read r.last) (with_kind cell (PadCell pin_type false)) (codes "PULLUP") 1 (if pullup then 1 else 0) (PadCell pin_type pullup) rest (λ k. pulled k pullup)
    (later (at_gate (finished read r.last) (with_kind cell (PadCell pin_type pullup)))
    (gate_more n n.ports done r (PadCell pin_type pullup) ins outs line read (with_kind cell (PadCell pin_type pullup)) (PadCell 0 false) refl
    (record { grew = g.grew; kind_is = refl; know_ins = g.know_ins; know_outs = g.know_outs }) at.has))))
  where
    pulled : (k : ℕ) (b : Bool) → kind_says k (PadCell pin_type false) (codes "PULLUP") (digits_of 1 (if b then 1 else 0) ∷ []) ≡ Ok (PadCell pin_type b)
    pulled k true = refl
    pulled k false = refl

-- ---- covers
few_numbers : (width : ℕ) → width ≤ 4 → 2 ^ width ≤ 16
few_numbers zero le = omega arith
few_numbers (suc zero) le = omega arith
few_numbers (suc (suc zero)) le = omega arith
few_numbers (suc (suc (suc zero))) le = omega arith
few_numbers (suc (suc (suc (suc zero)))) le = omega arith
few_numbers (suc (suc (suc (suc (suc width))))) le = absurd (omega arith)

-- a cover that can be written
record IsCoverOf (names : List (List ℕ)) (table width : ℕ) (ins outs : List (Option SignalNo)) : Type 0 where
  narrow : width ≤ 4
  fits : table < 2 ^ (2 ^ width)
  ins_long : length ins ≡ width
  outs_long : length outs ≡ 1
  ins_there : AreThere ins
  outs_there : AreThere outs

cover_more : (n : NetlistData) (done : List Cell) (r : NetReading) (table width line : ℕ) (ins outs : List (Option SignalNo)) (read : NetlistData) (c now : OpenCover) → IsCoverOf n.names table width ins outs
    → IsCoverRead n.names r ins outs read c → HasSignalsOf c now → IsCovering table width (2 ^ width) now → HasRead n n.ports done r
    → HasRead n n.ports (done ++ cell_with (Cover table width) line ins outs ∷ []) (at_cover (finished read r.last) now)
cover_more n done r table width line ins outs read c now is g same covering has =
    let long : length now.ins ≡ width = ap length same.ins ∙ g.long ∙ is.ins_long in
    one_more n read n.ports done r (at_cover (finished read r.last) now) (cover_cell now) (cell_with (Cover table width) line ins outs) has g.grew refl refl (record {
      kind_is = ap (λ w. Cover (table_of w now.level now.covered) w) long ∙ ap (λ t. Cover t width) (table_covered table width now is.fits covering);
      ins = subst (λ (ss : List (Option SignalNo)). Know read.names ss (map (named_signal n.names) ins)) (sym same.ins) g.know_ins;
      outs = subst (λ (ss : List (Option SignalNo)). Know read.names ss (map (named_signal n.names) outs)) (sym same.outs) g.know_outs;
    })

one_cover : (n : NetlistData) (done : List Cell) (r : NetReading) (table width line : ℕ) (ins outs : List (Option SignalNo)) (rest : List Words) → IsAt n done r → IsCoverOf n.names table width ins outs
    → Later n done (cell_with (Cover table width) line ins outs) rest → Ends n r (cell_lines n.names (cell_with (Cover table width) line ins outs) ++ rest)
one_cover n done r table width line ins outs rest at is later =
    let narrow : length ins ≤ 4 = (let e = is.ins_long in let le = is.narrow in omega arith) in
    let read = λ (k : ℕ). cover_read n.names r ins outs k is.ins_there is.outs_there narrow is.outs_long in
    ends_line n r (λ k. at_cover (finished (read k).0 r.last) (read k).1) (first_line n.names (Cover table width) ins outs) (rows_from table width 0 (2 ^ width) ++ rest) refl (λ k. (read k).2)
    (λ k. rows_read n (finished (read k).0 r.last) (read k).1 rest table width is.narrow (few_numbers width is.narrow)
    (λ now same covering. later (at_cover (finished (read k).0 r.last) now) (cover_more n done r table width line ins outs (read k).0 (read k).1 now is (read k).3 same covering at.has))
    0 (2 ^ width) (read k).1 (omega arith) ((read k).3.long ∙ is.ins_long) (record { ins = refl; outs = refl }) (none_covered table width (read k).1 (read k).3.level (read k).3.covered))

-- ---- all cells
gate_of : (names : List (List ℕ)) (kind : CellKind) (line : ℕ) (ins outs : List (Option SignalNo)) → IsGateKind kind → IsFormedCell (length names) (cell_with kind line ins outs) → All (IsDefined names) outs → IsGateOf names kind ins outs
gate_of names kind line ins outs gate formed defined = record {
  gate = gate;
  ins_long = formed.ins_long;
  outs_long = formed.outs_long;
  ins_below = recursion_from_All (IsBelow (length names)) ins formed.ins_below;
  outs_below = recursion_from_All (IsBelow (length names)) outs formed.outs_below;
  defined = recursion_from_All (IsDefined names) outs defined;
}

cell_read : (n : NetlistData) (done : List Cell) (r : NetReading) (kind : CellKind) (line : ℕ) (ins outs : List (Option SignalNo)) (rest : List Words) → IsAt n done r
    → IsFormedCell (length n.names) (cell_with kind line ins outs) → IsDefinedCell n.names (cell_with kind line ins outs) → IsSmallKind kind
    → Later n done (cell_with kind line ins outs) rest → Ends n r (cell_lines n.names (cell_with kind line ins outs) ++ rest)
cell_read n done r (Lut table) line ins outs rest at formed defined small later = table_gate n done r table line ins outs rest small at (gate_of n.names (Lut table) line ins outs tt formed defined) later
cell_read n done r (Cover table width) line ins outs rest at formed defined small later =
    let f = formed.kind in
    one_cover n done r table width line ins outs rest at (record {
      narrow = f.narrow;
      fits = f.fits;
      ins_long = formed.ins_long;
      outs_long = formed.outs_long;
      ins_there = all_there (length n.names) ins (recursion_from_All (IsPresent (length n.names)) ins f.ins_present);
      outs_there = all_there (length n.names) outs (recursion_from_All (IsPresent (length n.names)) outs f.outs_present);
    }) later
cell_read n done r Carry line ins outs rest at formed defined small later = plain_gate n done r Carry line ins outs rest refl at (gate_of n.names Carry line ins outs tt formed defined) later
cell_read n done r (Flop falling enable reset) line ins outs rest at formed defined small later =
    plain_gate n done r (Flop falling enable reset) line ins outs rest refl at (gate_of n.names (Flop falling enable reset) line ins outs tt formed defined) later
cell_read n done r (PadCell pin_type pullup) line ins outs rest at formed defined small later =
    pad_gate n done r pin_type pullup line ins outs rest (let lt : pin_type < 64 = formed.kind in omega arith) at (gate_of n.names (PadCell pin_type pullup) line ins outs formed.kind formed defined) later
cell_read n done r Global line ins outs rest at formed defined small later = plain_gate n done r Global line ins outs rest refl at (gate_of n.names Global line ins outs tt formed defined) later

pub cells_read : (n : NetlistData) (rest : List Words) → All IsName n.names → ((s : NetReading) → HasRead n n.ports n.cells s → Ends n s rest)
    → (done left : List Cell) (r : NetReading) → n.cells ≡ done ++ left → AllByRecursion (IsFormedCell (length n.names)) left → AllByRecursion (IsDefinedCell n.names) left → AllByRecursion IsSmallCell left
    → HasRead n n.ports done r → Ends n r (flat_map (cell_lines n.names) left ++ rest)
cells_read n rest names later done [] r all formed defined small has = later r (subst (λ (cells : List Cell). HasRead n n.ports cells r) (sym (all ∙ append-nil done)) has)
cells_read n rest names later done (cell ∷ left) r all formed defined small has =
    subst (Ends n r) (sym (append_assoc (cell_lines n.names cell) (flat_map (cell_lines n.names) left) rest))
    (cell_read n done r cell.kind cell.line cell.ins cell.outs (flat_map (cell_lines n.names) left ++ rest) (record { names = names; has = has }) formed.0 defined.0 small.0
    (λ s now. cells_read n rest names later (done ++ cell ∷ []) left s (all ∙ sym (append_assoc done (cell ∷ []) left)) formed.1 defined.1 small.1 now))
