-- Where clocks have buffers, the same pads are read.
use Rattle.std.proofs.Common.{◌≡◌, ◌⊎◌, ℕ, zero, suc, ◌+◌, ◌-◌, ◌<◌, ◌≤◌, ◌==◌, Bool, true, false, Option, None, Some, List, [], ◌∷◌, length, inl, inr, refl, ap, sym, ◌∙◌, subst, arith, if◌then◌else◌, eqb-true}
use Rattle.std.specs.Prelude.{slice_get, slice_index_or}
use Rattle.std.specs.Option.{option_map_or}
use Rattle.std.proofs.lemmas.Bool.{cases_lt}
use Rattle.std.proofs.lemmas.Option.{none-some, same_Some}
use Rattle.ice_base.specs.declared.number.SignalNo.{SignalNo}
use Rattle.ice_base_values.specs.Order.{At}
use Rattle.ice_base_values.proofs.Members.{At_parts, At_within, map_At}
use Rattle.ice_net.specs.declared.cell.Cell.{Cell}
use Rattle.ice_net.specs.declared.kind.CellKind.{CellKind}
use Rattle.ice_net.specs.declared.kind.CellKind.TheVariants.{Lut, Cover, Carry, Flop, PadCell, Global}
use Rattle.ice_net.specs.declared.kind.Reset.{Reset}
use Rattle.ice_net.specs.declared.port.Port.{Port}
use Rattle.ice_net.specs.Drivers.{buffer_at}
use Rattle.ice_net.specs.Formed.{IsFormed}
use Rattle.ice_net.specs.NetlistData.{NetlistData}
use Rattle.ice_cells.specs.declared.origin.Origin.{Origin}
use Rattle.ice_cells.specs.declared.origin.Origin.TheVariants.{Fixed, Pad, Made}
use Rattle.ice_cells.specs.Origins.{input_origin, origin, origins}
use Rattle.ice_cells.proofs.TableLaws.{length-table}
use Rattle.ice_check_promote.specs.Promoted.{buffered, buffered_ins, buffered_cell, buffer, with_buffers}
use Rattle.ice_check_promote.proofs.Buffers.{at_buffer}
use Rattle.ice_check_promote.proofs.Clocks.{there_at}
use Rattle.ice_check_promote.proofs.NewDrivers.{length_names, old_cells, added, long_cells, cell_kept, cell_added, buffer_same}
use Rattle.ice_check_promote.proofs.Passing.{which}
use Rattle.ice_pads_promote_laws.proofs.NewOrigins.{origin_old, origin_new}
use Rattle.ice_pack_laws.proofs.PadRoots.{IsBufferOf, IsOfPad}
use Rattle.ice_pack_laws.proofs.PadReaders.{read_ins, kind_ins, pad_ins, IsAtPad, ReadsPad, by_cell, by_port}
use Rattle.ice_pack_laws.proofs.Settled.{listed}

-- a flip-flop has the signal as its clock
pub record HasClock (n : NetlistData) (clock : ℕ) : Type 0 where
  pub place : ℕ
  pub cell : Cell
  pub at : At n.cells place cell
  pub falling : Bool
  pub enable : Bool
  pub kept : Reset
  pub is : cell.kind ≡ Flop falling enable kept
  pub clocked : At cell.ins 0 (Some (record { 0 = clock }))

-- past its end a list of origins has nothing of a pad
past : (list : List Origin) (s : ℕ) → length list ≤ s → slice_index_or list s (Fixed false) ≡ Fixed false
past [] s le = refl
past (o ∷ list) zero le = absurd (omega (arith, le))
past (o ∷ list) (suc s) le = past list s (omega (arith, le))

-- a pad's signal is one of the netlist's
pub at_pad_below : (m : NetlistData) (k s : ℕ) → IsAtPad m k (Some (record { 0 = s })) → s < length m.names
at_pad_below m k s has = elim (cases_lt s (length m.names)) [
  | inl lt ↦ lt
  | inr ge ↦ (let long = length-table (origin m) (length m.names) in absurd (subst (IsOfPad (origins m) m.cells k) (past (origins m) s (omega (arith, ge, long))) has))
]

module _ (n : NetlistData) (clocks : List ℕ) (formed : IsFormed n) (k : ℕ) where
  abbrev count : ℕ
  count = length n.names

  abbrev new : NetlistData
  new = with_buffers n clocks

  -- ---- cells
  -- a cell of the new netlist was there, or is a buffer
  abbrev IsOld : ℕ → Cell → Type 0
  IsOld j cell = (old : Cell) × At n.cells j old × (buffered_cell count clocks old ≡ cell)

  abbrev IsAdded : ℕ → Cell → Type 0
  IsAdded j cell = (i clock : ℕ) × At clocks i clock × (j ≡ length n.cells + i) × (cell ≡ buffer clock (count + i))

  cell_back : (j : ℕ) (cell : Cell) → At new.cells j cell → IsOld j cell ⊎ IsAdded j cell
  cell_back j cell at = elim (At_parts (old_cells n clocks) (added n clocks) j cell at) [
    | inl here ↦ inl (map_At (buffered_cell count clocks) n.cells j cell here)
    | inr later ↦ (let back = at_buffer count clocks later.0 cell later.2 in inr (later.0, back.0, back.1, later.1 ∙ ap (λ m. m + later.0) (long_cells n clocks), back.2))
  ]

  no_buffer : (t : ℕ) (u : Bool) → Global ≡ PadCell t u → ⊥
  no_buffer t u e = cc e

  -- ---- origins
  same_ins : (t : ℕ) (u : Bool) (kind : CellKind) (ins : List (Option SignalNo)) → kind ≡ PadCell t u → buffered_ins count clocks kind ins ≡ ins
  same_ins t u kind ins is = ap (λ x. buffered_ins count clocks x ins) is

  same_origin : (s : ℕ) → s < count → input_origin (origins new) (Some (record { 0 = s })) ≡ input_origin (origins n) (Some (record { 0 = s }))
  same_origin s lt =
      let long = length_names n clocks in
      listed new s (omega (arith, lt, long)) ∙ origin_old n clocks formed s lt ∙ sym (listed n s lt)

  -- a new signal is made by its buffer
  added_origin : (i clock : ℕ) → At clocks i clock → input_origin (origins new) (Some (record { 0 = count + i })) ≡ Made (length n.cells + i)
  added_origin i clock at =
      let long = length_names n clocks in
      let lt = At_within clocks i clock at in
      listed new (count + i) (omega (arith, lt, long)) ∙ origin_new n clocks formed i clock at

  -- a pad is the pin of the same SB_IO
  pin_new : (j : ℕ) (r : IsBufferOf (origins n) n.cells k j) (input : Option SignalNo) → slice_index_or r.cell.ins 0 None ≡ input → input_origin (origins new) input ≡ Pad k
  pin_new j r None e = absurd (never (sym (ap (input_origin (origins n)) e) ∙ r.pin))
    where
      never : Fixed false ≡ Pad k → ⊥
      never f = cc f
  pin_new j r (Some signal) e =
      let pin : input_origin (origins n) (Some signal) ≡ Pad k = sym (ap (input_origin (origins n)) e) ∙ r.pin in
      same_origin signal.0 (at_pad_below n k signal.0 (subst (IsOfPad (origins n) n.cells k) (sym pin) refl)) ∙ pin

  to_new : (o : Origin) → IsOfPad (origins n) n.cells k o → IsOfPad (origins new) new.cells k o
  to_new (Fixed level) has = has
  to_new (Pad j) has = has
  to_new (Made j) r = record {
    cell = buffered_cell count clocks r.cell;
    at = cell_kept n clocks j r.cell r.at;
    pin_type = r.pin_type;
    pullup = r.pullup;
    is = r.is;
    pin = ap (λ xs. input_origin (origins new) (slice_index_or xs 0 None)) (same_ins r.pin_type r.pullup r.cell.kind r.cell.ins r.is) ∙ pin_new j r (slice_index_or r.cell.ins 0 None) refl;
  }

  -- what is the pad of an SB_IO is no new signal
  no_added : (i clock : ℕ) → At clocks i clock → IsAtPad new k (Some (record { 0 = count + i })) → ⊥
  no_added i clock at has =
      let r : IsBufferOf (origins new) new.cells k (length n.cells + i) = subst (IsOfPad (origins new) new.cells k) (added_origin i clock at) has in
      let same : buffer clock (count + i) ≡ r.cell = same_Some (buffer clock (count + i)) r.cell (sym (cell_added n clocks i clock at) ∙ r.at) in
      no_buffer r.pin_type r.pullup (ap (λ (x : Cell). x.kind) same ∙ r.is)

  new_below : (s : ℕ) → IsAtPad new k (Some (record { 0 = s })) → s < count
  new_below s has = elim (cases_lt s count) [
    | inl lt ↦ lt
    | inr ge ↦ (let lt = at_pad_below new k s has in let long = length_names n clocks in
        let found = there_at clocks (s - count) (omega (arith, ge, lt, long)) in
        let number : s ≡ count + (s - count) = omega (arith, ge) in
        absurd (no_added (s - count) found.0 found.1 (subst (λ m. IsAtPad new k (Some (record { 0 = m }))) number has)))
  ]

  pin_old : (t : ℕ) (u : Bool) (old : Cell) → old.kind ≡ PadCell t u → input_origin (origins new) (slice_index_or (buffered_cell count clocks old).ins 0 None) ≡ Pad k
      → input_origin (origins n) (slice_index_or old.ins 0 None) ≡ Pad k
  pin_old t u old is e = by (slice_index_or old.ins 0 None) (ap (λ xs. input_origin (origins new) (slice_index_or xs 0 None)) (sym (same_ins t u old.kind old.ins is)) ∙ e)
    where
      by : (input : Option SignalNo) → input_origin (origins new) input ≡ Pad k → input_origin (origins n) input ≡ Pad k
      by None f = f
      by (Some signal) f = sym (same_origin signal.0 (new_below signal.0 (subst (IsOfPad (origins new) new.cells k) (sym f) refl))) ∙ f

  to_old : (o : Origin) → IsOfPad (origins new) new.cells k o → IsOfPad (origins n) n.cells k o
  to_old (Fixed level) has = has
  to_old (Pad j) has = has
  to_old (Made j) r = elim (cell_back j r.cell r.at) [
    | inl old ↦ (let is : (old.0).kind ≡ PadCell r.pin_type r.pullup = ap (λ (x : Cell). x.kind) old.2 ∙ r.is in record {
      cell = old.0;
      at = old.1;
      pin_type = r.pin_type;
      pullup = r.pullup;
      is = is;
      pin = pin_old r.pin_type r.pullup old.0 is (ap (λ (x : Cell). input_origin (origins new) (slice_index_or x.ins 0 None)) old.2 ∙ r.pin);
    })
    | inr extra ↦ absurd (no_buffer r.pin_type r.pullup (sym (ap (λ (x : Cell). x.kind) extra.4) ∙ r.is))
  ]

  -- ---- inputs
  pub at_new : (input : Option SignalNo) → IsAtPad n k input → IsAtPad new k input
  at_new None has = has
  at_new (Some signal) has =
      subst (IsOfPad (origins new) new.cells k) (sym (same_origin signal.0 (at_pad_below n k signal.0 has))) (to_new (input_origin (origins n) (Some signal)) has)

  pub at_old : (input : Option SignalNo) → IsAtPad new k input → IsAtPad n k input
  at_old None has = has
  at_old (Some signal) has =
      to_old (input_origin (origins n) (Some signal)) (subst (IsOfPad (origins new) new.cells k) (same_origin signal.0 (new_below signal.0 has)) has)

  -- ---- pads of ports
  kind_ins_same : (port : Port) (kind : CellKind) (ins : List (Option SignalNo)) → kind_ins port kind (buffered_ins count clocks kind ins) ≡ kind_ins port kind ins
  kind_ins_same port (Lut t) ins = refl
  kind_ins_same port (Cover t width) ins = refl
  kind_ins_same port Carry ins = refl
  kind_ins_same port (Flop falling enable kept) ins = refl
  kind_ins_same port (PadCell pin_type pullup) ins = refl
  kind_ins_same port Global ins = refl

  -- what the cell at a place gives where it gives the same of a buffer as of no cell, and the same of each old cell
  pub by_place : {X : Type 0} (f : Cell → X) (d : X) → ((old : Cell) → f (buffered_cell count clocks old) ≡ f old) → ((clock out : ℕ) → f (buffer clock out) ≡ d) → (i : ℕ)
      → option_map_or f (slice_get new.cells i) d ≡ option_map_or f (slice_get n.cells i) d
  by_place {X} f d kept extra i = by (slice_get n.cells i) refl (slice_get new.cells i) refl
    where
      by : (o : Option Cell) → slice_get n.cells i ≡ o → (p : Option Cell) → slice_get new.cells i ≡ p → option_map_or f (slice_get new.cells i) d ≡ option_map_or f (slice_get n.cells i) d
      by (Some old) e p g = ap (λ o. option_map_or f o d) (cell_kept n clocks i old e) ∙ kept old ∙ sym (ap (λ o. option_map_or f o d) e)
      by None e None g = ap (λ o. option_map_or f o d) g ∙ sym (ap (λ o. option_map_or f o d) e)
      by None e (Some cell) g = elim (cell_back i cell g) [
        | inl old ↦ absurd (none-some old.0 (sym e ∙ old.1))
        | inr more ↦ ap (λ o. option_map_or f o d) (g ∙ ap Some more.4) ∙ extra more.1 (count + more.0) ∙ sym (ap (λ o. option_map_or f o d) e)
      ]

  same_pad_ins : (port : Port) (o : Option ℕ) → pad_ins new.cells port o ≡ pad_ins n.cells port o
  same_pad_ins port None = refl
  same_pad_ins port (Some i) = by_place (λ (cell : Cell). kind_ins port cell.kind cell.ins) _ (λ old. kind_ins_same port old.kind old.ins) (λ clock out. refl) i

  same_pads : (port : Port) → pad_ins new.cells port (buffer_at new.cells port.signal.0) ≡ pad_ins n.cells port (buffer_at n.cells port.signal.0)
  same_pads port = ap (pad_ins new.cells port) (buffer_same n clocks port.signal.0) ∙ same_pad_ins port (buffer_at n.cells port.signal.0)

  -- ---- what read the pad, or what it reads instead
  clock_new : (j : ℕ) (cell : Cell) (signal : SignalNo) → At new.cells j cell
      → At (read_ins cell.kind cell.ins cell.outs) 0 (Some (record { 0 = buffered count clocks signal.0 })) → IsAtPad n k (Some signal) → ReadsPad new k
  clock_new j cell signal at there has = elim (which count clocks signal.0) [
    | inl same ↦ by_cell j cell 0 (Some signal) at (there ∙ ap (λ (m : ℕ). Some (Some (record { 0 = m }))) same) (at_new (Some signal) has)
    | inr found ↦ by_cell (length n.cells + found.0) (buffer signal.0 (count + found.0)) 0 (Some signal) (cell_added n clocks found.0 signal.0 found.1) refl (at_new (Some signal) has)
  ]

  cell_new : (j : ℕ) (cell : Cell) → At n.cells j cell → (kind : CellKind) → cell.kind ≡ kind → (i : ℕ) (input : Option SignalNo) → At (read_ins kind cell.ins cell.outs) i input → IsAtPad n k input → ReadsPad new k
  cell_new j cell at kind is i input there has = by kind is i input there has
    where
      moved : (kind : CellKind) → cell.kind ≡ kind → (i : ℕ) (input : Option SignalNo) → At (read_ins kind (buffered_ins count clocks kind cell.ins) cell.outs) i input → IsAtPad n k input → ReadsPad new k
      moved kind is i input there has =
          by_cell j (buffered_cell count clocks cell) i input (cell_kept n clocks j cell at)
          (subst (λ (x : CellKind). At (read_ins x (buffered_ins count clocks x cell.ins) cell.outs) i input) (sym is) there) (at_new input has)

      first : (falling enable : Bool) (kept : Reset) → cell.kind ≡ Flop falling enable kept → (ins : List (Option SignalNo)) → cell.ins ≡ ins → (input : Option SignalNo) → At ins 0 input → IsAtPad n k input → ReadsPad new k
      first falling enable kept is [] same input there has = cc there
      first falling enable kept is (pin ∷ pins) same None there has = absurd has
      first falling enable kept is (pin ∷ pins) same (Some signal) there has =
          clock_new j (buffered_cell count clocks cell) signal (cell_kept n clocks j cell at)
          (ap (λ (x : CellKind). slice_get (read_ins x (buffered_ins count clocks x cell.ins) cell.outs) 0) is
          ∙ ap (λ (xs : List (Option SignalNo)). slice_get (buffered_ins count clocks (Flop falling enable kept) xs) 0) same
          ∙ ap (λ (x : Option SignalNo). slice_get (buffered_ins count clocks (Flop falling enable kept) (x ∷ pins)) 0) (same_Some pin (Some signal) there)) has

      later : (falling enable : Bool) (kept : Reset) → cell.kind ≡ Flop falling enable kept → (ins : List (Option SignalNo)) → cell.ins ≡ ins → (i : ℕ) (input : Option SignalNo) → At ins (suc i) input → IsAtPad n k input → ReadsPad new k
      later falling enable kept is [] same i input there has = cc there
      later falling enable kept is (pin ∷ pins) same i input there has =
          moved (Flop falling enable kept) is (suc i) input
          (ap (λ (xs : List (Option SignalNo)). slice_get (buffered_ins count clocks (Flop falling enable kept) xs) (suc i)) same ∙ there) has

      by : (kind : CellKind) → cell.kind ≡ kind → (i : ℕ) (input : Option SignalNo) → At (read_ins kind cell.ins cell.outs) i input → IsAtPad n k input → ReadsPad new k
      by (Lut t) is i input there has = moved (Lut t) is i input there has
      by (Cover t width) is i input there has = moved (Cover t width) is i input there has
      by Carry is i input there has = moved Carry is i input there has
      by (Flop falling enable kept) is zero input there has = first falling enable kept is cell.ins refl input there has
      by (Flop falling enable kept) is (suc i) input there has = later falling enable kept is cell.ins refl i input there has
      by (PadCell pin_type pullup) is i input there has = moved (PadCell pin_type pullup) is i input there has
      by Global is i input there has = moved Global is i input there has

  pub reads_new : ReadsPad n k → ReadsPad new k
  reads_new (by_cell j cell i input at there has) = cell_new j cell at cell.kind refl i input there has
  reads_new (by_port q port i input at there has) = by_port q port i input at (subst (λ (xs : List (Option SignalNo)). At xs i input) (sym (same_pads port)) there) (at_new input has)

  -- ---- back
  clock_old : (j : ℕ) (cell : Cell) → At n.cells j cell → (signal : SignalNo) (input : Option SignalNo) → At (read_ins cell.kind cell.ins cell.outs) 0 (Some signal)
      → Some (record { 0 = buffered count clocks signal.0 }) ≡ input → IsAtPad n k input → ReadsPad n k
  clock_old j cell at signal input there e has = elim (which count clocks signal.0) [
    | inl same ↦ by_cell j cell 0 (Some signal) at there (subst (IsAtPad n k) (sym e ∙ ap (λ (m : ℕ). Some (record { 0 = m })) same) has)
    | inr found ↦ (let lt : count + found.0 < count = at_pad_below n k (count + found.0) (subst (IsAtPad n k) (sym e ∙ ap (λ (m : ℕ). Some (record { 0 = m })) found.2) has) in absurd (omega (arith, lt)))
  ]

  cell_old : (j : ℕ) (cell : Cell) → At n.cells j cell → (kind : CellKind) → cell.kind ≡ kind → (i : ℕ) (input : Option SignalNo)
      → At (read_ins kind (buffered_ins count clocks kind cell.ins) cell.outs) i input → IsAtPad n k input → ReadsPad n k
  cell_old j cell at kind is i input there has = by kind is i input there has
    where
      same_place : (kind : CellKind) → cell.kind ≡ kind → (i : ℕ) (input : Option SignalNo) → At (read_ins kind cell.ins cell.outs) i input → IsAtPad n k input → ReadsPad n k
      same_place kind is i input there has = by_cell j cell i input at (subst (λ (x : CellKind). At (read_ins x cell.ins cell.outs) i input) (sym is) there) has

      first : (falling enable : Bool) (kept : Reset) → cell.kind ≡ Flop falling enable kept → (ins : List (Option SignalNo)) → cell.ins ≡ ins → (input : Option SignalNo)
          → At (buffered_ins count clocks (Flop falling enable kept) ins) 0 input → IsAtPad n k input → ReadsPad n k
      first falling enable kept is [] same input there has = cc there
      first falling enable kept is (None ∷ pins) same input there has = absurd (subst (IsAtPad n k) (sym (same_Some None input there)) has)
      first falling enable kept is (Some signal ∷ pins) same input there has =
          clock_old j cell at signal input
          (ap (λ (x : CellKind). slice_get (read_ins x cell.ins cell.outs) 0) is ∙ ap (λ (xs : List (Option SignalNo)). slice_get xs 0) same)
          (same_Some (Some (record { 0 = buffered count clocks signal.0 })) input there) has

      later : (falling enable : Bool) (kept : Reset) → cell.kind ≡ Flop falling enable kept → (ins : List (Option SignalNo)) → cell.ins ≡ ins → (i : ℕ) (input : Option SignalNo)
          → At (buffered_ins count clocks (Flop falling enable kept) ins) (suc i) input → IsAtPad n k input → ReadsPad n k
      later falling enable kept is [] same i input there has = cc there
      later falling enable kept is (pin ∷ pins) same i input there has =
          same_place (Flop falling enable kept) is (suc i) input (ap (λ (xs : List (Option SignalNo)). slice_get xs (suc i)) same ∙ there) has

      by : (kind : CellKind) → cell.kind ≡ kind → (i : ℕ) (input : Option SignalNo) → At (read_ins kind (buffered_ins count clocks kind cell.ins) cell.outs) i input → IsAtPad n k input → ReadsPad n k
      by (Lut t) is i input there has = same_place (Lut t) is i input there has
      by (Cover t width) is i input there has = same_place (Cover t width) is i input there has
      by Carry is i input there has = same_place Carry is i input there has
      by (Flop falling enable kept) is zero input there has = first falling enable kept is cell.ins refl input there has
      by (Flop falling enable kept) is (suc i) input there has = later falling enable kept is cell.ins refl i input there has
      by (PadCell pin_type pullup) is i input there has = same_place (PadCell pin_type pullup) is i input there has
      by Global is i input there has = same_place Global is i input there has

  -- what reads at a buffer is read as a clock
  buffer_old : ((i clock : ℕ) → At clocks i clock → HasClock n clock) → (i clock out : ℕ) → At clocks i clock → (r : ℕ) (input : Option SignalNo)
      → At (Some (record { 0 = clock }) ∷ []) r input → IsAtPad n k input → ReadsPad n k
  buffer_old clocked i clock out at zero input there has =
      let flop = clocked i clock at in
      by_cell flop.place flop.cell 0 (Some (record { 0 = clock })) flop.at
      (ap (λ (x : CellKind). slice_get (read_ins x flop.cell.ins flop.cell.outs) 0) flop.is ∙ flop.clocked)
      (subst (IsAtPad n k) (sym (same_Some (Some (record { 0 = clock })) input there)) has)
  buffer_old clocked i clock out at (suc r) input there has = cc there

  pub reads_old : ((i clock : ℕ) → At clocks i clock → HasClock n clock) → ReadsPad new k → ReadsPad n k
  reads_old clocked (by_cell j cell i input at there has) = elim (cell_back j cell at) [
    | inl old ↦ cell_old j old.0 old.1 (old.0).kind refl i input (subst (λ (x : Cell). At (read_ins x.kind x.ins x.outs) i input) (sym old.2) there) (at_old input has)
    | inr more ↦ buffer_old clocked more.0 more.1 (count + more.0) more.2 i input (subst (λ (x : Cell). At (read_ins x.kind x.ins x.outs) i input) more.4 there) (at_old input has)
  ]
  reads_old clocked (by_port q port i input at there has) = by_port q port i input at (subst (λ (xs : List (Option SignalNo)). At xs i input) (same_pads port) there) (at_old input has)
