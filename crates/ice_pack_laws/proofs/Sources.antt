-- What a packed design reads comes from signals, and from the two cells of constants.
use Rattle.std.proofs.Common.{◌≡◌, ◌⊎◌, ℕ, zero, suc, ◌+◌, ◌<◌, length, Bool, true, false, cond, Option, None, Some, List, [], ◌∷◌, ◌++◌, map, inl, inr, refl, sym, ap, ◌∙◌, subst, arith, get_or}
use Rattle.std.specs.Prelude.{slice_get, slice_index_or, unwrap_or, ◌&&◌}
use Rattle.std.specs.List.{flat_map}
use Rattle.std.specs.Option.{option_map_or}
use Rattle.std.proofs.lemmas.Bool.{eq-eqb}
use Rattle.std.proofs.lemmas.Option.{same_Some, get_or_from_slice_get, none-some, unwrap_or-slice_get}
use Rattle.ice_base.specs.declared.number.SignalNo.{SignalNo}
use Rattle.ice_base_values.specs.Order.{At, Has}
use Rattle.ice_base_values.proofs.Members.{At_parts, map_At, At_within}
use Rattle.ice_net.specs.declared.cell.Cell.{Cell}
use Rattle.ice_net.specs.declared.kind.CellKind.{CellKind}
use Rattle.ice_net.specs.declared.kind.CellKind.TheVariants as kind
use Rattle.ice_net.specs.declared.kind.Reset.{Reset}
use Rattle.ice_net.specs.declared.port.Port.{Port}
use Rattle.ice_net.specs.declared.port.Way.{Way}
use Rattle.ice_net.specs.declared.port.Way.TheVariants.{Input, Output, Both}
use Rattle.ice_net.specs.Uses.{pad_uses}
use Rattle.ice_net.specs.Formed.{IsFormed}
use Rattle.ice_net.specs.NetlistData.{NetlistData}
use Rattle.ice_cells.specs.declared.cell.LogicCell.{LogicCell}
use Rattle.ice_cells.specs.declared.design.DesignPad.{DesignPad}
use Rattle.ice_cells.specs.declared.origin.Origin.{Origin}
use Rattle.ice_cells.specs.declared.origin.Origin.TheVariants.{Fixed, Pad, Made}
use Rattle.ice_cells.specs.declared.root.Root.{Root}
use Rattle.ice_cells.specs.declared.root.Root.TheVariants.{CellOut}
use Rattle.ice_cells.specs.declared.share.Part.{Part}
use Rattle.ice_cells.specs.declared.share.Part.TheVariants.{Table, Flop, Carry, Nothing}
use Rattle.ice_cells.specs.Homes.{part, is_table, taker, anchor, anchor_by, homes}
use Rattle.ice_cells.specs.Origins.{input_origin, origins}
use Rattle.ice_cells.specs.Readings.{carry_root, control_roots, cell_roots, pad_roots, roots_read}
use Rattle.ice_cells.specs.Tables.{is_place}
use Rattle.ice_cells.specs.Uses.{readings}
use Rattle.ice_cells.specs.Uses as use_of
use Rattle.ice_cells.specs.Packed.{packed, origin_root, sink_root, sink, enable_sink, plain_sink, enable_input, set_input, flop_by, flop_of, flop_for, ins_at, four, no_inputs, data_input, inputs_for, carry_for, with_carry, cell_by, constant_cell, bare_drive, carry_source, carry_input}
use Rattle.ice_pack_share.proofs.HomeLaws.{anchor_again, taker_part, taker_parts, carry_part, carrier_lut}
use Rattle.ice_pack_laws.specs.IsPacked.{IsOpen, IsSunk, IsPadOf, lies, through, IsPacked}
use Rattle.ice_pack_laws.proofs.Found.{os, bare, fs, p, opened_back, entry_back}
use Rattle.ice_pack_laws.proofs.Packs.{packed_is, has_flop}
use Rattle.ice_pack_laws.proofs.Parts.{Opened, missing_open, cell_of_part, part_table_kind, part_carry_kind, part_flop_kind, carry_cell, ins_are, has_table}
use Rattle.ice_pack_laws.proofs.Inputs.{input_at}
use Rattle.ice_pack_laws.proofs.PadReaders.{flat_back}
use Rattle.ice_pack_laws.proofs.Readers.{read_cell, taken_by}

-- a root that is read: that of a signal that no flip-flop has for itself, or the cell of a constant
pub data ComesFrom (n : NetlistData) (r : Root) : Type 0 where
  Signal : (s : ℕ) (o : Origin) → At (origins n) s o → IsOpen (p n) o → origin_root (p n).roots o ≡ Some r → ComesFrom n r
  Zero : CellOut (p n).zero ≡ r → ComesFrom n r
  One : CellOut (p n).one ≡ r → ComesFrom n r

abbrev MayCome : NetlistData → Option Root → Type 0
MayCome n o = (r : Root) → o ≡ Some r → ComesFrom n r

none_comes : (n : NetlistData) → MayCome n None
none_comes n r e = cc e

pub past : {X : Type 0} (xs : List X) (k : ℕ) (d : X) → slice_get xs k ≡ None → get_or xs k d ≡ d
past xs k d e = sym (unwrap_or-slice_get xs k d) ∙ ap (λ o. unwrap_or o d) e

at_parts : {X : Type 0} (a b c d : List X) (i : ℕ) (x : X) → At (a ++ b ++ c ++ d) i x → Has a x ⊎ (Has b x ⊎ (Has c x ⊎ Has d x))
at_parts a b c d i x at = elim (At_parts (a ++ b ++ c) d i x at) [
  | inr last ↦ inr (inr (inr (last.0, last.2)))
  | inl three ↦ elim (At_parts (a ++ b) c i x three) [
    | inr third ↦ inr (inr (inl (third.0, third.2)))
    | inl two ↦ elim (At_parts a b i x two) [
      | inr second ↦ inr (inl (second.0, second.2))
      | inl first ↦ inl (i, first)
    ]
  ]
]

module _ (n : NetlistData) where
  -- ---- sinks
  from_input : (input : Option SignalNo) (r : Root) → Opened n input → origin_root (p n).roots (input_origin (os n) input) ≡ Some r → ComesFrom n r
  from_input None r opened e = cc e
  from_input (Some signal) r opened e = by (slice_get (os n) signal.0) refl
    where
      by : (o : Option Origin) → slice_get (os n) signal.0 ≡ o → ComesFrom n r
      by None is = (let same : input_origin (os n) (Some signal) ≡ Fixed false = past (os n) signal.0 (Fixed false) is in absurd (none-some r (sym (ap (origin_root (p n).roots) same) ∙ e)))
      by (Some o) is =
          let same : input_origin (os n) (Some signal) ≡ o = get_or_from_slice_get (os n) signal.0 o (Fixed false) is in
          Signal signal.0 o is (subst (IsOpen (p n)) same opened) (sym (ap (origin_root (p n).roots) same) ∙ e)

  plain_comes : (input : Option SignalNo) → Opened n input → MayCome n (plain_sink (p n) input)
  plain_comes input opened r e = from_input input r opened e

  sink_comes : (input : Option SignalNo) → Opened n input → MayCome n (sink (p n) input)
  sink_comes input opened r e = by (input_origin (os n) input) refl e
    where
      by : (o : Origin) → input_origin (os n) input ≡ o → sink_root false (p n).one (p n).roots o ≡ Some r → ComesFrom n r
      by (Fixed true) is f = One (same_Some (CellOut (p n).one) r f)
      by (Fixed false) is f = cc f
      by (Pad k) is f = from_input input r opened (ap (origin_root (p n).roots) is ∙ f)
      by (Made j) is f = from_input input r opened (ap (origin_root (p n).roots) is ∙ f)

  enable_comes : (input : Option SignalNo) → Opened n input → MayCome n (enable_sink (p n) input)
  enable_comes None opened r e = cc e
  enable_comes (Some signal) opened r e = by (input_origin (os n) (Some signal)) refl e
    where
      by : (o : Origin) → input_origin (os n) (Some signal) ≡ o → sink_root true (p n).zero (p n).roots o ≡ Some r → ComesFrom n r
      by (Fixed true) is f = cc f
      by (Fixed false) is f = Zero (same_Some (CellOut (p n).zero) r f)
      by (Pad k) is f = from_input (Some signal) r opened (ap (origin_root (p n).roots) is ∙ f)
      by (Made j) is f = from_input (Some signal) r opened (ap (origin_root (p n).roots) is ∙ f)

  into_comes : (c : ℕ) (input : Option SignalNo) → Opened n input → MayCome n (carry_root (c, carry_input (p n).roots (input_origin (os n) input)))
  into_comes c input opened r e = by (input_origin (os n) input) refl e
    where
      source : (o : Option Root) → carry_root (c, carry_source o) ≡ Some r → o ≡ Some r
      source None f = cc f
      source (Some root) f = f

      by : (o : Origin) → input_origin (os n) input ≡ o → carry_root (c, carry_input (p n).roots o) ≡ Some r → ComesFrom n r
      by (Fixed level) is f = cc f
      by (Pad k) is f = from_input input r opened (ap (origin_root (p n).roots) is ∙ f)
      by (Made j) is f = from_input input r opened (ap (origin_root (p n).roots) is ∙ source (slice_index_or (p n).roots j None) f)

  -- ---- the inputs of cells
  table_open : (a : ℕ) → part (fs n) a ≡ Table → (k : ℕ) → Opened n (slice_index_or (ins_at n.cells a) k None)
  table_open a is k =
      let lut = cell_of_part n a Table is (λ z. cc z) in
      input_at (Opened n) (missing_open n) (ins_at n.cells a) (has_table n a lut.0 lut.1 (part_table_kind (os n) lut.0.kind lut.0.ins lut.0.outs lut.2)).opened k

  four_comes : (ins : List (Option SignalNo)) → ((k : ℕ) → Opened n (slice_index_or ins k None)) → (k : ℕ) → MayCome n (slice_index_or (four (plain_sink (p n)) ins) k None)
  four_comes ins each zero = plain_comes (slice_index_or ins 0 None) (each 0)
  four_comes ins each (suc zero) = plain_comes (slice_index_or ins 1 None) (each 1)
  four_comes ins each (suc (suc zero)) = plain_comes (slice_index_or ins 2 None) (each 2)
  four_comes ins each (suc (suc (suc zero))) = plain_comes (slice_index_or ins 3 None) (each 3)
  four_comes ins each (suc (suc (suc (suc k)))) = none_comes n

  nothing_comes : (k : ℕ) → MayCome n (slice_index_or no_inputs k None)
  nothing_comes zero = none_comes n
  nothing_comes (suc zero) = none_comes n
  nothing_comes (suc (suc zero)) = none_comes n
  nothing_comes (suc (suc (suc zero))) = none_comes n
  nothing_comes (suc (suc (suc (suc k)))) = none_comes n

  -- a flip-flop that goes by itself has for itself nothing that it takes
  flop_reads : (a i : ℕ) (taken : Option ℕ) → part (fs n) a ≡ Flop taken → input_origin (os n) (data_input n.cells a) ≡ Made i → Has (readings (os n) n.cells (bare n)) (Made i, Some a)
  flop_reads a i taken is e =
      let flop = cell_of_part n a (Flop taken) is (λ z. cc z) in
      let kind_is = part_flop_kind (os n) flop.0.kind flop.0.ins flop.0.outs taken flop.2 in
      with_cell flop.0 flop.1 kind_is.0 kind_is.1 kind_is.2 kind_is.3
    where
      with_cell : (cell : Cell) → At n.cells a cell → (falling enable : Bool) (reset : Reset) → cell.kind ≡ kind.Flop falling enable reset → Has (readings (os n) n.cells (bare n)) (Made i, Some a)
      with_cell cell at falling enable reset f = by (slice_get cell.ins 1) refl
        where
          datum : input_origin (os n) (slice_index_or cell.ins 1 None) ≡ Made i
          datum = ap (λ (xs : List (Option SignalNo)). input_origin (os n) (slice_index_or xs 1 None)) (sym (ins_are n a cell at)) ∙ e

          fixed_made : Fixed false ≡ Made i → ⊥
          fixed_made g = cc g

          by : (o : Option (Option SignalNo)) → slice_get cell.ins 1 ≡ o → Has (readings (os n) n.cells (bare n)) (Made i, Some a)
          by None g = absurd (fixed_made (ap (input_origin (os n)) (sym (past cell.ins 1 None g)) ∙ datum))
          by (Some signal) g =
              let same : slice_index_or cell.ins 1 None ≡ signal = get_or_from_slice_get cell.ins 1 signal None g in
              subst (λ x. Has (readings (os n) n.cells (bare n)) (Made i, x)) (ap (λ x. use_of.taker a x 1) f)
              (subst (λ (o : Origin). Has (readings (os n) n.cells (bare n)) (o, use_of.taker a cell.kind 1)) (ap (input_origin (os n)) (sym same) ∙ datum)
              (read_cell (os n) n.cells (bare n) a cell 1 signal at (subst (λ (xs : List (Option SignalNo)). At xs 1 signal) (sym (ap (λ x. use_of.reading_ins x cell.ins cell.outs) f)) g)))

  datum_open : (a : ℕ) (taken : Option ℕ) → part (fs n) a ≡ Flop taken → anchor (fs n) a ≡ a → Opened n (data_input n.cells a)
  datum_open a taken is own i e = by (taker (fs n) i) refl
    where
      table_flop : (x : Part) → is_table x ≡ true → x ≡ Flop taken → ⊥
      table_flop Table f g = cc g
      table_flop (Flop other) f g = cc f
      table_flop Carry f g = cc g
      table_flop Nothing f g = cc g

      by : (o : Option ℕ) → taker (fs n) i ≡ o → o ≡ None
      by None f = refl
      by (Some g) f =
          let same : a ≡ g = taken_by (os n) n.cells (bare n) i a g (flop_reads a i taken is e) f in
          let takes : taker (fs n) i ≡ Some a = f ∙ ap Some (sym same) in
          let table = (taker_parts (os n) n.cells (bare n) i g f).0 in
          let goes : anchor (fs n) a ≡ i =
          ap (anchor_by (fs n) a) (taker_part (os n) n.cells (bare n) i a takes) ∙ ap (λ b. cond (b && is_place a (taker (fs n) i)) i a) table
          ∙ ap (λ o. cond (is_place a o) i a) takes ∙ ap (λ b. cond b i a) (eq-eqb a a refl) in
          absurd (table_flop (part (fs n) i) table (ap (part (fs n)) (sym goes ∙ own) ∙ is))

  datum_comes : (a : ℕ) (taken : Option ℕ) → Opened n (data_input n.cells a) → (k : ℕ) → MayCome n (slice_index_or (inputs_for (p n) n.cells a (Flop taken)) k None)
  datum_comes a taken opened zero = plain_comes (data_input n.cells a) opened
  datum_comes a taken opened (suc zero) = none_comes n
  datum_comes a taken opened (suc (suc zero)) = none_comes n
  datum_comes a taken opened (suc (suc (suc zero))) = none_comes n
  datum_comes a taken opened (suc (suc (suc (suc k)))) = none_comes n

  inputs_come : (a : ℕ) → anchor (fs n) a ≡ a → (x : Part) → part (fs n) a ≡ x → (k : ℕ) → MayCome n (slice_index_or (inputs_for (p n) n.cells a x) k None)
  inputs_come a own Table is k = four_comes (ins_at n.cells a) (table_open a is) k
  inputs_come a own (Flop taken) is k = datum_comes a taken (datum_open a taken is own) k
  inputs_come a own Carry is k = nothing_comes k
  inputs_come a own Nothing is k = nothing_comes k

  -- ---- carries
  abbrev AreOpen : ℕ → Type 0
  AreOpen c = Opened n (slice_index_or (ins_at n.cells c) 0 None) × Opened n (slice_index_or (ins_at n.cells c) 1 None)

  carry_opens : (c : ℕ) → part (fs n) c ≡ Carry → AreOpen c
  carry_opens c is =
      let carry = cell_of_part n c Carry is (λ z. cc z) in
      let kind_is = part_carry_kind (os n) carry.0.kind carry.0.ins carry.0.outs carry.2 in
      let cell = carry_cell n c carry.0 carry.1 kind_is.0 kind_is.1 in
      subst (λ (xs : List (Option SignalNo)). Opened n (slice_index_or xs 0 None) × Opened n (slice_index_or xs 1 None)) (sym (ins_are n c carry.0 carry.1)) (cell.first.opened, cell.second.opened)

  carry_of : (a c : ℕ) (x : Part) → part (fs n) a ≡ x → carry_for (p n) a x ≡ Some c → AreOpen c
  carry_of a c Table is e = carry_opens c (carry_part (os n) n.cells (bare n) c a (carrier_lut (os n) n.cells (bare n) a c e))
  carry_of a c (Flop taken) is e = cc e
  carry_of a c Carry is e = carry_opens c (ap (part (fs n)) (sym (same_Some a c e)) ∙ is)
  carry_of a c Nothing is e = cc e

  beside_comes : (inputs : List (Option Root)) → ((k : ℕ) → MayCome n (slice_index_or inputs k None)) → (o : Option ℕ) → ((c : ℕ) → o ≡ Some c → AreOpen c)
      → (k : ℕ) → MayCome n (slice_index_or (with_carry (p n) n.cells inputs o) k None)
  beside_comes inputs each None carry k = each k
  beside_comes inputs each (Some c) carry zero = each 0
  beside_comes inputs each (Some c) carry (suc zero) = sink_comes (slice_index_or (ins_at n.cells c) 0 None) (carry c refl).0
  beside_comes inputs each (Some c) carry (suc (suc zero)) = sink_comes (slice_index_or (ins_at n.cells c) 1 None) (carry c refl).1
  beside_comes inputs each (Some c) carry (suc (suc (suc zero))) = each 3
  beside_comes inputs each (Some c) carry (suc (suc (suc (suc k)))) = none_comes n

  -- ---- flip-flops
  control_comes : (j : ℕ) (cell : Cell) (falling enable : Bool) (reset : Reset) → At n.cells j cell → cell.kind ≡ kind.Flop falling enable reset
      → (i : ℕ) (o : Option Root) → At (control_roots (flop_by (p n) (kind.Flop falling enable reset) cell.ins)) i o → MayCome n o
  control_comes j cell falling enable reset at is zero o there =
      subst (MayCome n) (same_Some (plain_sink (p n) (slice_index_or cell.ins 0 None)) o there) (plain_comes (slice_index_or cell.ins 0 None) (has_flop n j cell falling enable reset at is).clock)
  control_comes j cell falling enable reset at is (suc zero) o there =
      subst (MayCome n) (same_Some (enable_sink (p n) (enable_input enable cell.ins)) o there) (enable_comes (enable_input enable cell.ins) (has_flop n j cell falling enable reset at is).enabled.opened)
  control_comes j cell falling enable reset at is (suc (suc zero)) o there =
      subst (MayCome n) (same_Some (sink (p n) (set_input enable cell.ins)) o there) (sink_comes (set_input enable cell.ins) (has_flop n j cell falling enable reset at is).reset.opened)
  control_comes j cell falling enable reset at is (suc (suc (suc i))) o there = cc there

  kind_comes : (j : ℕ) (cell : Cell) → At n.cells j cell → (x : CellKind) → cell.kind ≡ x → (i : ℕ) (o : Option Root) → At (control_roots (flop_by (p n) x cell.ins)) i o → MayCome n o
  kind_comes j cell at (kind.Lut t) is i o there = cc there
  kind_comes j cell at (kind.Cover t width) is i o there = cc there
  kind_comes j cell at kind.Carry is i o there = cc there
  kind_comes j cell at (kind.Flop falling enable reset) is i o there = control_comes j cell falling enable reset at is i o there
  kind_comes j cell at (kind.PadCell pin_type pullup) is i o there = cc there
  kind_comes j cell at kind.Global is i o there = cc there

  flop_comes : (m : Option ℕ) (i : ℕ) (o : Option Root) → At (control_roots (flop_of (p n) n.cells m)) i o → MayCome n o
  flop_comes None i o at = cc at
  flop_comes (Some j) i o at = by (slice_get n.cells j) refl at
    where
      by : (x : Option Cell) → slice_get n.cells j ≡ x → At (control_roots (option_map_or (λ (cell : Cell). flop_by (p n) cell.kind cell.ins) x None)) i o → MayCome n o
      by None is g = cc g
      by (Some cell) is g = kind_comes j cell is cell.kind refl i o g

  -- ---- cells
  logic_comes : (x : LogicCell) → ((k : ℕ) → MayCome n (slice_index_or x.ins k None)) → ((i : ℕ) (o : Option Root) → At (control_roots x.flop) i o → MayCome n o)
      → (i : ℕ) (o : Option Root) → At (cell_roots x) i o → MayCome n o
  logic_comes x ins flop zero o at = subst (MayCome n) (same_Some (slice_index_or x.ins 0 None) o at) (ins 0)
  logic_comes x ins flop (suc zero) o at = subst (MayCome n) (same_Some (slice_index_or x.ins 1 None) o at) (ins 1)
  logic_comes x ins flop (suc (suc zero)) o at = subst (MayCome n) (same_Some (slice_index_or x.ins 2 None) o at) (ins 2)
  logic_comes x ins flop (suc (suc (suc zero))) o at = subst (MayCome n) (same_Some (slice_index_or x.ins 3 None) o at) (ins 3)
  logic_comes x ins flop (suc (suc (suc (suc i)))) o at = flop i o at

  none_controls : (i : ℕ) (o : Option Root) → At (control_roots None) i o → MayCome n o
  none_controls i o at = cc at

  cell_comes : (c : ℕ) (x : LogicCell) → At (packed n).cells c x → (i : ℕ) (o : Option Root) → At (cell_roots x) i o → MayCome n o
  cell_comes c x at i o there = elim (opened_back n c x at) [
    | inl opened ↦ (let a = anchor (fs n) opened.number in
        logic_comes (cell_by (p n) n.cells a (part (fs n) a))
        (beside_comes (inputs_for (p n) n.cells a (part (fs n) a)) (inputs_come a (anchor_again (os n) n.cells (bare n) opened.number) (part (fs n) a) refl) (carry_for (p n) a (part (fs n) a))
        (λ k is. carry_of a k (part (fs n) a) refl is))
        (flop_comes (flop_for (p n) a (part (fs n) a))) i o (subst (λ (y : LogicCell). At (cell_roots y) i o) opened.is there))
    | inr constant ↦ logic_comes (constant_cell constant.0) nothing_comes none_controls i o (subst (λ (y : LogicCell). At (cell_roots y) i o) constant.1 there)
  ]

  -- ---- pads and global buffers
  bare_comes : (port : Port) → (port.way ≡ Output → IsSunk (packed n) (p n) (Some port.signal)) → (way : Way) → port.way ≡ way → MayCome n (bare_drive (p n) way port.signal)
  bare_comes port sunk Input is = none_comes n
  bare_comes port sunk Both is = none_comes n
  bare_comes port sunk Output is = sink_comes (Some port.signal) (sunk is).opened

  pad_comes : (port : Port) (pad : DesignPad) → IsPadOf n (packed n) (p n) port pad → (i : ℕ) (o : Option Root) → At (pad_roots pad) i o → MayCome n o
  pad_comes port pad (lies none type_is drive enable sunk) zero o at = subst (MayCome n) (sym drive ∙ same_Some pad.drive o at) (bare_comes port sunk port.way refl)
  pad_comes port pad (lies none type_is drive enable sunk) (suc zero) o at = subst (MayCome n) (sym enable ∙ same_Some pad.enable o at) (none_comes n)
  pad_comes port pad (lies none type_is drive enable sunk) (suc (suc i)) o at = cc at
  pad_comes port pad (through j cell pin_type pullup buffer there is type_is drive enable sunk) zero o at =
      subst (MayCome n) (sym drive ∙ same_Some pad.drive o at)
      (sink_comes (slice_index_or (pad_uses pin_type cell.ins) 0 None) (input_at (Opened n) (missing_open n) (pad_uses pin_type cell.ins) (λ k signal inside. (sunk k signal inside).opened) 0))
  pad_comes port pad (through j cell pin_type pullup buffer there is type_is drive enable sunk) (suc zero) o at =
      subst (MayCome n) (sym enable ∙ same_Some pad.enable o at)
      (sink_comes (slice_index_or (pad_uses pin_type cell.ins) 1 None) (input_at (Opened n) (missing_open n) (pad_uses pin_type cell.ins) (λ k signal inside. (sunk k signal inside).opened) 1))
  pad_comes port pad (through j cell pin_type pullup buffer there is type_is drive enable sunk) (suc (suc i)) o at = cc at

  module _ (formed : IsFormed n) where
    abbrev all : IsPacked n (packed n) (p n)
    all = packed_is n formed

    from_carries : (i : ℕ) (o : Option Root) → At (map carry_root (packed n).carries) i o → MayCome n o
    from_carries i o at =
        let back = map_At carry_root (packed n).carries i o at in
        let entry = entry_back (os n) (homes (fs n)) (p n) 0 n.cells i back.0 back.1 in
        let cell = carry_cell n entry.place entry.cell entry.at entry.is entry.stays in
        subst (MayCome n) (sym (ap carry_root entry.same) ∙ back.2) (into_comes (slice_index_or (homes (fs n)) (0 + entry.place) 0) (slice_index_or entry.cell.ins 2 None) cell.into)

    from_pads : (i : ℕ) (o : Option Root) → At (flat_map pad_roots (packed n).pads) i o → MayCome n o
    from_pads i o at =
        let one = flat_back pad_roots (packed n).pads i o at in
        let port = port_of n.ports one.0 (let lt = At_within (packed n).pads one.0 one.1 one.3 in let long = all.ports_long in omega (arith, lt, long)) in
        pad_comes port.0 one.1 (all.ports one.0 one.1 port.0 one.3 port.1) one.2.0 o one.2.1
      where
        port_of : (ports : List Port) (k : ℕ) → k < length ports → (port : Port) × At ports k port
        port_of [] k lt = absurd (omega (arith, lt))
        port_of (port ∷ ports) zero lt = (port, refl)
        port_of (port ∷ ports) (suc k) lt = port_of ports k (omega (arith, lt))

    from_globals : (i : ℕ) (o : Option Root) → At (packed n).globals i o → MayCome n o
    from_globals i o at = let told = all.buffered i o at in subst (MayCome n) (sym told.3) (sink_comes told.0 told.1.opened)

    -- each root that a packed design reads
    pub root_comes : (r : Root) → Has (roots_read (packed n)) (Some r) → ComesFrom n r
    root_comes r has = elim (at_parts (map carry_root (packed n).carries) (flat_map cell_roots (packed n).cells) (flat_map pad_roots (packed n).pads) (packed n).globals has.0 (Some r) has.1) [
      | inl first ↦ from_carries first.0 (Some r) first.1 r refl
      | inr (inl second) ↦ (let one = flat_back cell_roots (packed n).cells second.0 (Some r) second.1 in cell_comes one.0 one.1 one.3 one.2.0 (Some r) one.2.1 r refl)
      | inr (inr (inl third)) ↦ from_pads third.0 (Some r) third.1 r refl
      | inr (inr (inr last)) ↦ from_globals last.0 (Some r) last.1 r refl
    ]
