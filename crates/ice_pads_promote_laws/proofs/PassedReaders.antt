-- Where covers that pass clocks on read the buffers, the same pads are read.
use Rattle.std.proofs.Common.{◌≡◌, ◌⊎◌, ℕ, suc, ◌+◌, ◌<◌, ◌==◌, ◌&&◌, not, Bool, true, false, Option, None, Some, List, [], ◌∷◌, length, inl, inr, refl, ap, sym, ◌∙◌, subst, arith, if◌then◌else◌}
use Rattle.std.specs.Prelude.{option_map, slice_get, slice_index_or, unwrap_or}
use Rattle.std.proofs.lemmas.Option.{none-some, same_Some}
use Rattle.ice_base.specs.declared.number.SignalNo.{SignalNo}
use Rattle.ice_base_values.specs.Order.{At}
use Rattle.ice_base_values.specs.System.{value}
use Rattle.ice_net.specs.declared.cell.Cell.{Cell}
use Rattle.ice_net.specs.declared.kind.CellKind.{CellKind}
use Rattle.ice_net.specs.declared.kind.CellKind.TheVariants.{Lut, Cover, Carry, Flop, PadCell, Global}
use Rattle.ice_net.specs.declared.port.Port.{Port}
use Rattle.ice_net.specs.NetlistData.{NetlistData}
use Rattle.ice_net.specs.Drivers.{buffer_at}
use Rattle.ice_net.specs.Formed.{IsFormed}
use Rattle.ice_cells.specs.declared.origin.Origin.{Origin}
use Rattle.ice_cells.specs.declared.origin.Origin.TheVariants.{Fixed, Pad, Made}
use Rattle.ice_cells.specs.Origins.{is_table_kind, input_origin, origin, origins, origin_system}
use Rattle.ice_check_promote.specs.Promoted.{buffered_first, buffer, is_outer, passes_out, passing_ins}
use Rattle.ice_check_promote.proofs.Passing.{IsBuffered, at_turned, turn, turned_or, new, buffer_same}
use Rattle.ice_pads_promote_laws.proofs.NewReaders.{at_pad_below}
use Rattle.ice_pads_promote_laws.proofs.PassedOrigins.{down, up}
use Rattle.ice_pack_laws.proofs.PadRoots.{IsBufferOf, IsOfPad}
use Rattle.ice_pack_laws.proofs.PadReaders.{read_ins, kind_ins, pad_ins, IsAtPad, ReadsPad, by_cell, by_port}
use Rattle.ice_pack_laws.proofs.Settled.{listed}

-- ---- an input at a pad, by the value that gives its signal's origin
pub record HasOrigin (m : NetlistData) (s : ℕ) (o : Origin) : Type 0 where
  pub within : s < length m.names
  pub valued : value (origin_system m) (length m.names + 1) s ≡ Some o

origin_is : (m : NetlistData) (s : ℕ) (o : Origin) → HasOrigin m s o → input_origin (origins m) (Some (record { 0 = s })) ≡ o
origin_is m s o h = listed m s h.within ∙ ap (λ (x : Option Origin). unwrap_or x (Fixed false)) h.valued

-- what has an origin other than a constant has one
has_origin : (m : NetlistData) (s : ℕ) (P : Origin → Type 0) → (P (Fixed false) → ⊥) → s < length m.names → P (input_origin (origins m) (Some (record { 0 = s }))) → (o : Origin) × HasOrigin m s o × P o
has_origin m s P never lt has = by (value (origin_system m) (length m.names + 1) s) refl (subst P (listed m s lt) has)
  where
    by : (x : Option Origin) → value (origin_system m) (length m.names + 1) s ≡ x → P (origin m s) → (o : Origin) × HasOrigin m s o × P o
    by None e p = absurd (never (subst P (ap (λ (x : Option Origin). unwrap_or x (Fixed false)) e) p))
    by (Some o) e p = (o, record { within = lt; valued = e }, subst P (ap (λ (x : Option Origin). unwrap_or x (Fixed false)) e) p)

-- the same of an input that may be missing
input_has : (m : NetlistData) (k : ℕ) (input : Option SignalNo) → IsAtPad m k input → (s : ℕ) × (input ≡ Some (record { 0 = s })) × (o : Origin) × HasOrigin m s o × IsOfPad (origins m) m.cells k o
input_has m k None has = absurd has
input_has m k (Some signal) has =
    let found = has_origin m signal.0 (IsOfPad (origins m) m.cells k) (λ bad. bad) (at_pad_below m k signal.0 has) has in
    (signal.0, refl, found.0, found.1, found.2)

at_pad : (m : NetlistData) (k s : ℕ) (o : Origin) → HasOrigin m s o → IsOfPad (origins m) m.cells k o → IsAtPad m k (Some (record { 0 = s }))
at_pad m k s o h of = subst (IsOfPad (origins m) m.cells k) (sym (origin_is m s o h)) of

-- a pin at pad k
pin_has : (m : NetlistData) (k : ℕ) (pin : Option SignalNo) → input_origin (origins m) pin ≡ Pad k → (s : ℕ) × (pin ≡ Some (record { 0 = s })) × HasOrigin m s (Pad k)
pin_has m k None e = absurd (never e)
  where
    never : Fixed false ≡ Pad k → ⊥
    never f = cc f
pin_has m k (Some signal) e =
    let found = has_origin m signal.0 (λ o. o ≡ Pad k) (λ f. cc f) (at_pad_below m k signal.0 (subst (IsOfPad (origins m) m.cells k) (sym e) refl)) e in
    (signal.0, refl, subst (HasOrigin m signal.0) found.2 found.1)

module _ (next : ℕ) (clocks : List ℕ) (outer : List SignalNo) (m : NetlistData) (b : IsBuffered next clocks m) (formed : IsFormed m) (k : ℕ) where
  abbrev after : NetlistData
  after = new next clocks outer m

  -- ---- cells
  pad_ins_same : (kind : CellKind) (outs ins : List (Option SignalNo)) (t : ℕ) (u : Bool) → kind ≡ PadCell t u → passing_ins next clocks outer kind outs ins ≡ ins
  pad_ins_same kind outs ins t u is = ap (λ x. passing_ins next clocks outer x outs ins) is

  cell_after : (i : ℕ) (cell : Cell) → At m.cells i cell → At after.cells i (turn next clocks outer cell)
  cell_after i cell at = at_turned next clocks outer m.cells i ∙ ap (option_map (turn next clocks outer)) at

  cell_before : (i : ℕ) (cell : Cell) → At after.cells i cell → (old : Cell) × At m.cells i old × (turn next clocks outer old ≡ cell)
  cell_before i cell at = by (slice_get m.cells i) refl (sym (at_turned next clocks outer m.cells i) ∙ at)
    where
      by : (o : Option Cell) → slice_get m.cells i ≡ o → option_map (turn next clocks outer) o ≡ Some cell → (old : Cell) × At m.cells i old × (turn next clocks outer old ≡ cell)
      by None e f = absurd (none-some cell f)
      by (Some old) e f = (old, e, same_Some (turn next clocks outer old) cell f)

  -- a cover that reads a buffer is another name of a signal, and no table
  no_table : (a w t z : Bool) → (a && w && t) ≡ true → (not z && not (w && t)) ≡ false
  no_table true true true true e = refl
  no_table true true true false e = refl
  no_table true true false z e = cc e
  no_table true false t z e = cc e
  no_table false w t z e = cc e

  read_ins_same : (kind : CellKind) (outs ins : List (Option SignalNo)) → read_ins kind (passing_ins next clocks outer kind outs ins) outs ≡ read_ins kind ins outs
  read_ins_same (Lut t) outs ins = refl
  read_ins_same (Cover t width) outs ins = by (passes_out outer t width outs) refl
    where
      by : (x : Bool) → passes_out outer t width outs ≡ x → (if is_table_kind (Cover t width) then (if x then buffered_first next clocks ins else ins) else []) ≡ (if is_table_kind (Cover t width) then ins else [])
      by false e = refl
      by true e =
          let none : is_table_kind (Cover t width) ≡ false = no_table (is_outer outer (slice_index_or outs 0 None)) (width == 1) (t == 2) (width == 0) e in
          ap (λ x. if x then buffered_first next clocks ins else []) none ∙ sym (ap (λ x. if x then ins else []) none)
  read_ins_same Carry outs ins = refl
  read_ins_same (Flop falling enable reset) outs ins = refl
  read_ins_same (PadCell pin_type pullup) outs ins = refl
  read_ins_same Global outs ins = refl

  kind_ins_same : (port : Port) (kind : CellKind) (outs ins : List (Option SignalNo)) → kind_ins port kind (passing_ins next clocks outer kind outs ins) ≡ kind_ins port kind ins
  kind_ins_same port (Lut t) outs ins = refl
  kind_ins_same port (Cover t width) outs ins = refl
  kind_ins_same port Carry outs ins = refl
  kind_ins_same port (Flop falling enable reset) outs ins = refl
  kind_ins_same port (PadCell pin_type pullup) outs ins = refl
  kind_ins_same port Global outs ins = refl

  pads_same : (port : Port) → pad_ins after.cells port (buffer_at after.cells port.signal.0) ≡ pad_ins m.cells port (buffer_at m.cells port.signal.0)
  pads_same port = ap (pad_ins after.cells port) (buffer_same next clocks outer m port.signal.0) ∙ by (buffer_at m.cells port.signal.0)
    where
      by : (o : Option ℕ) → pad_ins after.cells port o ≡ pad_ins m.cells port o
      by None = refl
      by (Some i) = turned_or next clocks outer (λ (cell : Cell). kind_ins port cell.kind cell.ins) _ (λ cell. kind_ins_same port cell.kind cell.outs cell.ins) m.cells i

  -- ---- from before to after
  -- the buffer of a clock reads the pad
  by_buffer : (o : Origin) → IsOfPad (origins after) after.cells k o → (j clock : ℕ) × At clocks j clock × (value (origin_system after) (length m.names + 1) clock ≡ Some o) → ReadsPad after k
  by_buffer o of (j, clock, at, e) =
      let found = b.driver j clock at in
      by_cell found.0 (buffer clock (next + j)) 0 (Some (record { 0 = clock })) (cell_after found.0 (buffer clock (next + j)) found.1) refl
      (at_pad after k clock o (record { within = (let low = b.below j clock at in let many = b.many in omega (arith, low, many)); valued = e }) of)

  pad_after : (o : Origin) → IsOfPad (origins m) m.cells k o → IsOfPad (origins after) after.cells k o ⊎ ReadsPad after k
  pad_after (Fixed level) of = absurd of
  pad_after (Pad j) of = inl of
  pad_after (Made i) r = by (down next clocks outer m b formed (length m.names + 1) pin.0 (Pad k) pin.2.valued)
    where
      pin : (s : ℕ) × (slice_index_or r.cell.ins 0 None ≡ Some (record { 0 = s })) × HasOrigin m s (Pad k)
      pin = pin_has m k (slice_index_or r.cell.ins 0 None) r.pin

      by : (value (origin_system after) (length m.names + 1) pin.0 ≡ Some (Pad k)) ⊎ ((j clock : ℕ) × At clocks j clock × (value (origin_system after) (length m.names + 1) clock ≡ Some (Pad k)))
          → IsOfPad (origins after) after.cells k (Made i) ⊎ ReadsPad after k
      by (inl there) = inl (record {
        cell = turn next clocks outer r.cell;
        at = cell_after i r.cell r.at;
        pin_type = r.pin_type;
        pullup = r.pullup;
        is = r.is;
        pin = ap (λ xs. input_origin (origins after) (slice_index_or xs 0 None)) (pad_ins_same r.cell.kind r.cell.outs r.cell.ins r.pin_type r.pullup r.is)
            ∙ ap (input_origin (origins after)) pin.1
            ∙ origin_is after pin.0 (Pad k) (record { within = pin.2.within; valued = there });
      })
      by (inr clock) = inr (by_buffer (Pad k) refl clock)

  at_after : (input : Option SignalNo) → IsAtPad m k input → IsAtPad after k input ⊎ ReadsPad after k
  at_after input has = by (input_has m k input has)
    where
      valued : (s : ℕ) (o : Origin) → HasOrigin m s o → IsOfPad (origins after) after.cells k o
          → (value (origin_system after) (length m.names + 1) s ≡ Some o) ⊎ ((j clock : ℕ) × At clocks j clock × (value (origin_system after) (length m.names + 1) clock ≡ Some o))
          → IsAtPad after k (Some (record { 0 = s })) ⊎ ReadsPad after k
      valued s o h of (inl there) = inl (at_pad after k s o (record { within = h.within; valued = there }) of)
      valued s o h of (inr clock) = inr (by_buffer o of clock)

      with_pad : (s : ℕ) (o : Origin) → HasOrigin m s o → IsOfPad (origins after) after.cells k o ⊎ ReadsPad after k → IsAtPad after k (Some (record { 0 = s })) ⊎ ReadsPad after k
      with_pad s o h (inl of) = valued s o h of (down next clocks outer m b formed (length m.names + 1) s o h.valued)
      with_pad s o h (inr reads) = inr reads

      by : (s : ℕ) × (input ≡ Some (record { 0 = s })) × (o : Origin) × HasOrigin m s o × IsOfPad (origins m) m.cells k o → IsAtPad after k input ⊎ ReadsPad after k
      by (s, e, o, h, of) = subst (λ x. IsAtPad after k x ⊎ ReadsPad after k) (sym e) (with_pad s o h (pad_after o of))

  pub reads_after : ReadsPad m k → ReadsPad after k
  reads_after (by_cell j cell i input at there has) = by (at_after input has)
    where
      by : IsAtPad after k input ⊎ ReadsPad after k → ReadsPad after k
      by (inl has) = by_cell j (turn next clocks outer cell) i input (cell_after j cell at) (subst (λ (xs : List (Option SignalNo)). At xs i input) (sym (read_ins_same cell.kind cell.outs cell.ins)) there) has
      by (inr reads) = reads
  reads_after (by_port q port i input at there has) = by (at_after input has)
    where
      by : IsAtPad after k input ⊎ ReadsPad after k → ReadsPad after k
      by (inl has) = by_port q port i input at (subst (λ (xs : List (Option SignalNo)). At xs i input) (sym (pads_same port)) there) has
      by (inr reads) = reads

  -- ---- and back
  no_pad : (t : ℕ) (u : Bool) → Global ≡ PadCell t u → ⊥
  no_pad t u e = cc e

  -- what is of the pad is no buffer
  never_buffer : (o : Origin) → IsOfPad (origins after) after.cells k o → (j clock i : ℕ) × At clocks j clock × At m.cells i (buffer clock (next + j)) × (o ≡ Made i) → ⊥
  never_buffer o of (j, clock, i, at, there, is) =
      let r : IsBufferOf (origins after) after.cells k i = subst (IsOfPad (origins after) after.cells k) is of in
      let same : buffer clock (next + j) ≡ r.cell = same_Some (buffer clock (next + j)) r.cell (sym (cell_after i (buffer clock (next + j)) there) ∙ r.at) in
      no_pad r.pin_type r.pullup (ap (λ (x : Cell). x.kind) same ∙ r.is)

  origin_before : (s : ℕ) (o : Origin) → HasOrigin after s o → IsOfPad (origins after) after.cells k o → HasOrigin m s o
  origin_before s o h of = by (up next clocks outer m b formed (length m.names + 1) s o h.valued)
    where
      by : (value (origin_system m) (length m.names + 1) s ≡ Some o) ⊎ ((j clock i : ℕ) × At clocks j clock × At m.cells i (buffer clock (next + j)) × (o ≡ Made i)) → HasOrigin m s o
      by (inl there) = record { within = h.within; valued = there }
      by (inr made) = absurd (never_buffer o of made)

  pad_before : (o : Origin) → IsOfPad (origins after) after.cells k o → IsOfPad (origins m) m.cells k o
  pad_before (Fixed level) of = of
  pad_before (Pad j) of = of
  pad_before (Made i) r =
      let old = cell_before i r.cell r.at in
      let is : (old.0).kind ≡ PadCell r.pin_type r.pullup = ap (λ (x : Cell). x.kind) old.2 ∙ r.is in
      let same : r.cell.ins ≡ (old.0).ins = sym (ap (λ (x : Cell). x.ins) old.2) ∙ pad_ins_same (old.0).kind (old.0).outs (old.0).ins r.pin_type r.pullup is in
      let pin = pin_has after k (slice_index_or r.cell.ins 0 None) r.pin in
      record {
        cell = old.0;
        at = old.1;
        pin_type = r.pin_type;
        pullup = r.pullup;
        is = is;
        pin = ap (λ xs. input_origin (origins m) (slice_index_or xs 0 None)) (sym same)
            ∙ ap (input_origin (origins m)) pin.1
            ∙ origin_is m pin.0 (Pad k) (origin_before pin.0 (Pad k) pin.2 refl);
      }

  at_before : (input : Option SignalNo) → IsAtPad after k input → IsAtPad m k input
  at_before input has =
      let found = input_has after k input has in
      subst (IsAtPad m k) (sym found.1) (at_pad m k found.0 found.2 (origin_before found.0 found.2 found.3 found.4) (pad_before found.2 found.4))

  pub reads_before : ReadsPad after k → ReadsPad m k
  reads_before (by_cell j cell i input at there has) =
      let old = cell_before j cell at in
      by_cell j old.0 i input old.1
      (subst (λ (xs : List (Option SignalNo)). At xs i input) (read_ins_same (old.0).kind (old.0).outs (old.0).ins) (subst (λ (x : Cell). At (read_ins x.kind x.ins x.outs) i input) (sym old.2) there)) (at_before input has)
  reads_before (by_port q port i input at there has) = by_port q port i input at (subst (λ (xs : List (Option SignalNo)). At xs i input) (pads_same port) there) (at_before input has)
