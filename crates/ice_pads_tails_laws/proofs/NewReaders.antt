-- Where carries are added at look-up tables, the same pads are read.
use Rattle.std.proofs.Common.{◌≡◌, ◌⊎◌, ℕ, ◌+◌, ◌<◌, Bool, true, false, Option, None, Some, List, [], ◌∷◌, length, map, All, inl, inr, refl, ap, sym, ◌∙◌, subst, arith, length-append, if◌then◌else◌}
use Rattle.std.specs.Prelude.{◌==◌, slice_get, slice_index_or}
use Rattle.std.specs.Option.{option_map_or}
use Rattle.std.proofs.lemmas.List.Elements.{All-nil, All-cons, All-get_or}
use Rattle.std.proofs.lemmas.Option.{none-some, get_or_from_slice_get, slice_get_within}
use Rattle.ice_base.specs.declared.number.SignalNo.{SignalNo}
use Rattle.ice_base_values.specs.Order.{At}
use Rattle.ice_base_values.proofs.Members.{At_parts, Has_all}
use Rattle.ice_net.specs.declared.cell.Cell.{Cell}
use Rattle.ice_net.specs.declared.kind.CellKind.{CellKind}
use Rattle.ice_net.specs.declared.kind.CellKind.TheVariants.{Lut, Cover, Carry, Flop, PadCell, Global}
use Rattle.ice_net.specs.declared.port.Port.{Port}
use Rattle.ice_net.specs.declared.port.Way.{Way}
use Rattle.ice_net.specs.declared.port.Way.TheVariants.{Input, Output, Both}
use Rattle.ice_net.specs.Drivers.{buffer_at}
use Rattle.ice_net.specs.Drives.{output_type, enabled_type}
use Rattle.ice_net.specs.Uses.{data_of, enable_of, pad_uses}
use Rattle.ice_net.specs.Formed.{IsBelow, IsPortBelow, IsFormedCell, IsFormed}
use Rattle.ice_net.specs.NetlistData.{NetlistData}
use Rattle.ice_cells.specs.declared.origin.Origin.{Origin}
use Rattle.ice_cells.specs.declared.origin.Origin.TheVariants.{Fixed, Pad, Made}
use Rattle.ice_cells.specs.Origins.{is_table_kind, input_origin, origins}
use Rattle.ice_cells.specs.Uses.{dropped}
use Rattle.ice_check.proofs.ListsBelow.{at_below}
use Rattle.ice_pack_laws.proofs.PadRoots.{IsOfPad}
use Rattle.ice_pack_laws.proofs.PadReaders.{read_ins, bare_ins, kind_ins, cell_ins, pad_ins, IsAtPad, ReadsPad, by_cell, by_port}
use Rattle.ice_pack_laws.proofs.Settled.{listed}
use Rattle.ice_carry_tails.specs.Tails.{tail, tails, tail_names, behind, read_behind}
use Rattle.ice_carry_tails.specs.TailLaws.{is_lut, CanTakeTails}
use Rattle.ice_carry_tails.proofs.Added.{Ins, at_tail}
use Rattle.ice_carry_tails.proofs.NewDrivers.{grown, cell_kept, buffer_same}
use Rattle.ice_carry_tails.proofs.Taken.{behind_has, read_by}
use Rattle.ice_pads_tails_laws.proofs.NewOrigins.{origin_old}

module _ (n : NetlistData) (names : List (List ℕ)) (lists : List Ins) (formed : IsFormed n) (k : ℕ) where
  abbrev pub count : ℕ
  count = length n.names

  abbrev pub new : NetlistData
  new = grown n names lists

  -- ---- cells
  -- a cell of the new netlist was there, or is an added carry
  abbrev pub IsAdded : ℕ → Cell → Type 0
  IsAdded j cell = (i : ℕ) × (ins : Ins) × At lists i ins × (cell ≡ tail (count + i) ins)

  pub cell_back : (j : ℕ) (cell : Cell) → At new.cells j cell → At n.cells j cell ⊎ IsAdded j cell
  cell_back j cell at = by (At_parts n.cells (tails count lists) j cell at)
    where
      by : At n.cells j cell ⊎ ((i : ℕ) × (j ≡ length n.cells + i) × At (tails count lists) i cell) → At n.cells j cell ⊎ IsAdded j cell
      by (inl here) = inl here
      by (inr (i, e, there)) = let back = at_tail count lists i cell there in inr (i, back.0, back.1, back.2)

  pub formed_at : (j : ℕ) (cell : Cell) → At n.cells j cell → IsFormedCell count cell
  formed_at j cell at =
      subst (IsFormedCell count) (get_or_from_slice_get n.cells j cell cell at)
      (All-get_or (IsFormedCell count) n.cells j cell (slice_get_within n.cells j cell at) formed.cells)

  no_pad : (t : ℕ) (u : Bool) → Carry ≡ PadCell t u → ⊥
  no_pad t u e = cc e

  -- ---- origins
  pub same_input : (input : Option SignalNo) → IsBelow count input → input_origin (origins new) input ≡ input_origin (origins n) input
  same_input None below = refl
  same_input (Some signal) below =
      let long = length-append n.names names in
      listed new signal.0 (omega (arith, below, long)) ∙ origin_old n names lists formed signal.0 below ∙ sym (listed n signal.0 below)

  first_below : (j : ℕ) (cell : Cell) → At n.cells j cell → IsBelow count (slice_index_or cell.ins 0 None)
  first_below j cell at = at_below count cell.ins 0 (formed_at j cell at).ins_below

  to_new : (o : Origin) → IsOfPad (origins n) n.cells k o → IsOfPad (origins new) new.cells k o
  to_new (Fixed level) has = has
  to_new (Pad j) has = has
  to_new (Made j) r = record {
    cell = r.cell;
    at = cell_kept n names lists j r.cell r.at;
    pin_type = r.pin_type;
    pullup = r.pullup;
    is = r.is;
    pin = same_input (slice_index_or r.cell.ins 0 None) (first_below j r.cell r.at) ∙ r.pin;
  }

  to_old : (o : Origin) → IsOfPad (origins new) new.cells k o → IsOfPad (origins n) n.cells k o
  to_old (Fixed level) has = has
  to_old (Pad j) has = has
  to_old (Made j) r = elim (cell_back j r.cell r.at) [
    | inl old ↦ record {
      cell = r.cell;
      at = old;
      pin_type = r.pin_type;
      pullup = r.pullup;
      is = r.is;
      pin = sym (same_input (slice_index_or r.cell.ins 0 None) (first_below j r.cell old)) ∙ r.pin;
    }
    | inr extra ↦ absurd (no_pad r.pin_type r.pullup (sym (ap (λ (x : Cell). x.kind) extra.3) ∙ r.is))
  ]

  -- ---- inputs
  pub at_new : (input : Option SignalNo) → IsBelow count input → IsAtPad n k input → IsAtPad new k input
  at_new input below has = subst (IsOfPad (origins new) new.cells k) (sym (same_input input below)) (to_new (input_origin (origins n) input) has)

  pub at_old : (input : Option SignalNo) → IsBelow count input → IsAtPad new k input → IsAtPad n k input
  at_old input below has = to_old (input_origin (origins n) input) (subst (IsOfPad (origins new) new.cells k) (same_input input below) has)

  -- what a cell reads are its inputs
  read_below : (kind : CellKind) (ins outs : Ins) → All (IsBelow count) ins → All (IsBelow count) (read_ins kind ins outs)
  read_below (Lut t) ins outs all = all
  read_below (Cover t width) ins outs all = by (is_table_kind (Cover t width))
    where
      by : (b : Bool) → All (IsBelow count) (if b then ins else [])
      by true = all
      by false = All-nil (IsBelow count)
  read_below Carry ins outs all = by (dropped outs)
    where
      by : (b : Bool) → All (IsBelow count) (if b then [] else ins)
      by true = All-nil (IsBelow count)
      by false = all
  read_below (Flop falling enable reset) ins outs all = all
  read_below (PadCell pin_type pullup) ins outs all = All-nil (IsBelow count)
  read_below Global ins outs all = all

  below_at : (xs : Ins) (i : ℕ) (input : Option SignalNo) → All (IsBelow count) xs → At xs i input → IsBelow count input
  below_at xs i input all at = Has_all (IsBelow count) xs input all (i, at)

  cell_below : (j : ℕ) (cell : Cell) (i : ℕ) (input : Option SignalNo) → At n.cells j cell → At (read_ins cell.kind cell.ins cell.outs) i input → IsBelow count input
  cell_below j cell i input at there = below_at (read_ins cell.kind cell.ins cell.outs) i input (read_below cell.kind cell.ins cell.outs (formed_at j cell at).ins_below) there

  -- ---- pads of ports
  bare_below : (way : Way) (signal : SignalNo) → signal.0 < count → All (IsBelow count) (bare_ins way signal)
  bare_below Input signal lt = All-nil (IsBelow count)
  bare_below Output signal lt = All-cons (IsBelow count) (Some signal) [] lt (All-nil (IsBelow count))
  bare_below Both signal lt = All-nil (IsBelow count)

  uses_below : (pin_type : ℕ) (ins : Ins) → All (IsBelow count) ins → All (IsBelow count) (pad_uses pin_type ins)
  uses_below pin_type ins all = by (pin_type == output_type) (pin_type == enabled_type)
    where
      by : (b c : Bool) → All (IsBelow count) (if b then data_of ins ∷ [] else (if c then data_of ins ∷ enable_of ins ∷ [] else []))
      by true c = All-cons (IsBelow count) (data_of ins) [] (at_below count ins 1 all) (All-nil (IsBelow count))
      by false true =
          All-cons (IsBelow count) (data_of ins) (enable_of ins ∷ []) (at_below count ins 1 all)
          (All-cons (IsBelow count) (enable_of ins) [] (at_below count ins 2 all) (All-nil (IsBelow count)))
      by false false = All-nil (IsBelow count)

  kind_below : (port : Port) (kind : CellKind) (ins : Ins) → port.signal.0 < count → All (IsBelow count) ins → All (IsBelow count) (kind_ins port kind ins)
  kind_below port (Lut t) ins lt all = bare_below port.way port.signal lt
  kind_below port (Cover t width) ins lt all = bare_below port.way port.signal lt
  kind_below port Carry ins lt all = bare_below port.way port.signal lt
  kind_below port (Flop falling enable reset) ins lt all = bare_below port.way port.signal lt
  kind_below port (PadCell pin_type pullup) ins lt all =
      let uses = pad_uses pin_type ins in
      All-cons (IsBelow count) (slice_index_or uses 0 None) (slice_index_or uses 1 None ∷ []) (at_below count uses 0 (uses_below pin_type ins all))
      (All-cons (IsBelow count) (slice_index_or uses 1 None) [] (at_below count uses 1 (uses_below pin_type ins all)) (All-nil (IsBelow count)))
  kind_below port Global ins lt all = bare_below port.way port.signal lt

  pads_below : (port : Port) (o : Option ℕ) → port.signal.0 < count → All (IsBelow count) (pad_ins n.cells port o)
  pads_below port None lt = bare_below port.way port.signal lt
  pads_below port (Some i) lt = by (slice_get n.cells i) refl
    where
      by : (o : Option Cell) → slice_get n.cells i ≡ o → All (IsBelow count) (cell_ins port (slice_get n.cells i))
      by None e = subst (λ (o : Option Cell). All (IsBelow count) (cell_ins port o)) (sym e) (bare_below port.way port.signal lt)
      by (Some cell) e = subst (λ (o : Option Cell). All (IsBelow count) (cell_ins port o)) (sym e) (kind_below port cell.kind cell.ins lt (formed_at i cell e).ins_below)

  port_below : (q : ℕ) (port : Port) → At n.ports q port → port.signal.0 < count
  port_below q port at = Has_all (IsPortBelow count) n.ports port formed.ports (q, at)

  -- what the cell at a place gives where it gives the same of an added carry as of no cell
  pub by_place : {X : Type 0} (f : Cell → X) (d : X) → ((out : ℕ) (ins : Ins) → f (tail out ins) ≡ d) → (i : ℕ) → option_map_or f (slice_get new.cells i) d ≡ option_map_or f (slice_get n.cells i) d
  by_place {X} f d extra i = by (slice_get n.cells i) refl (slice_get new.cells i) refl
    where
      by : (o : Option Cell) → slice_get n.cells i ≡ o → (p : Option Cell) → slice_get new.cells i ≡ p → option_map_or f (slice_get new.cells i) d ≡ option_map_or f (slice_get n.cells i) d
      by (Some old) e p g = ap (λ o. option_map_or f o d) (cell_kept n names lists i old e) ∙ sym (ap (λ o. option_map_or f o d) e)
      by None e None g = ap (λ o. option_map_or f o d) g ∙ sym (ap (λ o. option_map_or f o d) e)
      by None e (Some cell) g = elim (cell_back i cell g) [
        | inl old ↦ absurd (none-some cell (sym e ∙ old))
        | inr more ↦ ap (λ o. option_map_or f o d) (g ∙ ap Some more.3) ∙ extra (count + more.0) more.1 ∙ sym (ap (λ o. option_map_or f o d) e)
      ]

  same_pad_ins : (port : Port) (o : Option ℕ) → pad_ins new.cells port o ≡ pad_ins n.cells port o
  same_pad_ins port None = refl
  same_pad_ins port (Some i) = by_place (λ (cell : Cell). kind_ins port cell.kind cell.ins) _ (λ out ins. refl) i

  same_pads : (port : Port) → pad_ins new.cells port (buffer_at new.cells port.signal.0) ≡ pad_ins n.cells port (buffer_at n.cells port.signal.0)
  same_pads port = ap (pad_ins new.cells port) (buffer_same n names lists port.signal.0) ∙ same_pad_ins port (buffer_at n.cells port.signal.0)

  -- ---- what read the pad reads it still
  pub reads_new : ReadsPad n k → ReadsPad new k
  reads_new (by_cell j cell i input at there has) = by_cell j cell i input (cell_kept n names lists j cell at) there (at_new input (cell_below j cell i input at there) has)
  reads_new (by_port q port i input at there has) =
      by_port q port i input at (subst (λ (xs : Ins). At xs i input) (sym (same_pads port)) there)
      (at_new input (below_at (pad_ins n.cells port (buffer_at n.cells port.signal.0)) i input (pads_below port (buffer_at n.cells port.signal.0) (port_below q port at)) there) has)

  -- what an added carry reads, some cell reads
  abbrev pub AreRead : Type 0
  AreRead = (j i : ℕ) (ins : Ins) (signal : SignalNo) → At lists j ins → At ins i (Some signal) → (q : ℕ) × (cell : Cell) × (r : ℕ) × At n.cells q cell × At (read_ins cell.kind cell.ins cell.outs) r (Some signal)

  added_old : AreRead → (j i : ℕ) (ins : Ins) (input : Option SignalNo) → At lists j ins → All (IsBelow count) ins → At ins i input → IsAtPad new k input → ReadsPad n k
  added_old read j i ins None at all there has = absurd has
  added_old read j i ins (Some signal) at all there has =
      let found = read j i ins signal at there in
      by_cell found.0 found.1 found.2 (Some signal) found.3 found.4 (at_old (Some signal) (below_at ins i (Some signal) all there) has)

  pub reads_old : AreRead → ((j : ℕ) (ins : Ins) → At lists j ins → All (IsBelow count) ins) → ReadsPad new k → ReadsPad n k
  reads_old read below (by_cell j cell i input at there has) = elim (cell_back j cell at) [
    | inl old ↦ by_cell j cell i input old there (at_old input (cell_below j cell i input old there) has)
    | inr more ↦ added_old read more.0 i more.1 input more.2 (below more.0 more.1 more.2) (subst (λ (x : Cell). At (read_ins x.kind x.ins x.outs) i input) more.3 there) has
  ]
  reads_old read below (by_port q port i input at there has) =
      let here = subst (λ (xs : Ins). At xs i input) (same_pads port) there in
      by_port q port i input at here
      (at_old input (below_at (pad_ins n.cells port (buffer_at n.cells port.signal.0)) i input (pads_below port (buffer_at n.cells port.signal.0) (port_below q port at)) here) has)

-- ---- carries at tables
lut_reads : (kind : CellKind) (ins outs : Ins) → is_lut kind ≡ true → read_ins kind ins outs ≡ ins
lut_reads (Lut t) ins outs e = refl
lut_reads (Cover t width) ins outs e = cc e
lut_reads Carry ins outs e = cc e
lut_reads (Flop falling enable reset) ins outs e = cc e
lut_reads (PadCell pin_type pullup) ins outs e = cc e
lut_reads Global ins outs e = cc e

-- the table reads what its carry does
pub tables_read : (n : NetlistData) (tables : List ℕ) (formed : IsFormed n) → CanTakeTails n tables → (k : ℕ) → AreRead n (tail_names n.names (length tables)) (map (read_behind n.cells) tables) formed k
tables_read n tables formed can k j i ins signal at there =
    let by = read_by n tables formed can j ins at in
    let in_behind : At (behind by.1.ins) i (Some signal) = subst (λ (xs : Ins). At xs i (Some signal)) (sym by.4) there in
    let in_table = behind_has by.1.ins signal.0 (i, in_behind) in
    (by.0, by.1, in_table.0, by.2, subst (λ (xs : Ins). At xs in_table.0 (Some signal)) (sym (lut_reads by.1.kind by.1.ins by.1.outs by.3)) in_table.1)
