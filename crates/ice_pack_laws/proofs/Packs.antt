-- The packed design of a netlist has what its meaning follows from.
use Rattle.std.proofs.Common.{◌≡◌, ◌⊎◌, ℕ, zero, suc, ◌+◌, ◌<◌, Bool, true, false, cond, Option, None, Some, List, [], ◌∷◌, length, map, inl, inr, refl, sym, ap, ◌∙◌, subst, arith}
use Rattle.std.specs.Prelude.{slice_get, slice_index_or, unwrap_or, ◌&&◌, is_some}
use Rattle.std.specs.Option.{option_map_or}
use Rattle.std.proofs.lemmas.List.{length-map}
use Rattle.std.proofs.lemmas.Option.{same_Some, get_or_from_slice_get}
use Rattle.std.proofs.lemmas.Bool.{eq-eqb}
use Rattle.ice_base.specs.declared.number.SignalNo.{SignalNo}
use Rattle.ice_base_values.specs.Order.{At, Has}
use Rattle.ice_base_values.proofs.Members.{At_map, map_At, At_within, Has_any, Has_filter}
use Rattle.ice_base_values.proofs.Places.{At_same}
use Rattle.ice_net.specs.declared.cell.Cell.{Cell}
use Rattle.ice_net.specs.declared.kind.CellKind.{CellKind}
use Rattle.ice_net.specs.declared.kind.CellKind.TheVariants as kind
use Rattle.ice_net.specs.declared.kind.Reset.{Reset}
use Rattle.ice_net.specs.declared.port.Port.{Port}
use Rattle.ice_net.specs.declared.port.Way.TheVariants.{Output}
use Rattle.ice_net.specs.Drivers.{is_signal, pin_of, pin_by, buffer_at, is_there, has_buffer}
use Rattle.ice_net.specs.Uses.{pad_uses}
use Rattle.ice_net.specs.Formed.{IsFormed, IsFormedCell, IsBelow}
use Rattle.ice_net.specs.NetlistData.{NetlistData}
use Rattle.ice_cells.specs.declared.cell.LogicCell.{LogicCell}
use Rattle.ice_cells.specs.declared.design.DesignPad.{DesignPad}
use Rattle.ice_cells.specs.declared.origin.Origin.{Origin}
use Rattle.ice_cells.specs.declared.origin.Origin.TheVariants.{Fixed, Made}
use Rattle.ice_cells.specs.declared.origin.Origin.TheVariants as origin_is
use Rattle.ice_cells.specs.declared.root.Root.{Root}
use Rattle.ice_cells.specs.declared.root.Root.TheVariants.{GlobalOut, CarryOut}
use Rattle.ice_cells.specs.declared.share.Part.{Part}
use Rattle.ice_cells.specs.declared.share.Part.TheVariants.{Table, Flop, Carry, Nothing}
use Rattle.ice_cells.specs.Origins.{input_origin, origin}
use Rattle.ice_cells.specs.Tables.{is_place}
use Rattle.ice_cells.specs.Uses.{dropped, maker, readings, is_bare_output, is_bare_way}
use Rattle.ice_cells.specs.Uses as use_of
use Rattle.ice_cells.specs.Homes.{part, part_by, is_table, is_kept, taker, taken_anchor, anchor, anchor_by, carriers_of, home, homes}
use Rattle.ice_cells.specs.Packed.{root_by, lut_inputs, enable_sink, reads_zero, reads_one, has_level, set_input, enable_input, data_input, flop_by, flop_of, cell_by, constant_cell, passing_table, plain_sink, sink, global_by, packed, unread_by, plan_of, read_pad, pads_from, bare_pad, buffered_pad, pad_by, with_carry}
use Rattle.ice_cells.proofs.TableLaws.{get_or-table}
use Rattle.ice_pack_share.proofs.HomeLaws.{goes, kept_anchor, anchor_again, taker_parts, taker_part, carry_part, carrier_lut, carrier_is}
use Rattle.ice_pack_laws.specs.IsPacked.{root_at, IsSunk, IsEnabled, IsCarryCell, HasCarry, IsAlone, IsBehind, HasFlop, IsLogicCellOf, keeps, gives, carries, fixed, IsPadOf, lies, through, IsPacked}
use Rattle.ice_pack_laws.proofs.Inputs.{at_all, input_at, place_at}
use Rattle.ice_pack_laws.proofs.Found.{os, bare, fs, p, same_home, parts_long, global_back, pad_there, pads_long, opened_back, IsOpened}
use Rattle.ice_pack_laws.proofs.Readers.{read_cell, read_port, taken_by}
use Rattle.ice_pack_laws.proofs.Parts.{Opened, read_open, missing_open, input_open, cell_needs_one, cell_needs_zero, port_needs_one, one_read, level_read, part_at, cell_of_part, part_table_kind, part_carry_kind, part_flop_kind, own_at, root_is, rooted_at, carry_cell, carry_part_at, comes_into, has_table, table_home, ins_are}

module _ (n : NetlistData) where
  -- ---- carries
  carry_goes : (j : ℕ) (cell : Cell) → At n.cells j cell → cell.kind ≡ kind.Carry → dropped cell.outs ≡ false
      → (logic : LogicCell) × At (packed n).cells (home (fs n) j) logic × (logic.carry ≡ true) × (slice_index_or logic.ins 1 None ≡ sink (p n) (slice_index_or cell.ins 0 None))
      × (slice_index_or logic.ins 2 None ≡ sink (p n) (slice_index_or cell.ins 1 None))
  carry_goes j cell at is stays = by (goes (os n) n.cells (bare n) j)
    where
      mine : part (fs n) j ≡ Carry
      mine = carry_part_at n j cell at is stays

      table_carry : Table ≡ Carry → ⊥
      table_carry f = cc f

      flop_carry : (taken : Option ℕ) → Flop taken ≡ Carry → ⊥
      flop_carry taken f = cc f

      by_carrier : (a : ℕ) → part (fs n) a ≡ Table → slice_index_or (carriers_of (fs n)) a None ≡ Some j → home (fs n) a ≡ home (fs n) j
          → (logic : LogicCell) × At (packed n).cells (home (fs n) j) logic × (logic.carry ≡ true) × (slice_index_or logic.ins 1 None ≡ sink (p n) (slice_index_or cell.ins 0 None))
          × (slice_index_or logic.ins 2 None ≡ sink (p n) (slice_index_or cell.ins 1 None))
      by_carrier a table carrier same = (
        cell_by (p n) n.cells a Table,
        subst (λ h. At (packed n).cells h (cell_by (p n) n.cells a Table)) same (own_at n a Table table refl (ap (anchor_by (fs n) a) table)),
        ap is_some carrier,
        ap (λ o. slice_index_or (cell_of_carry o) 1 None) carrier ∙ ap (λ (xs : List (Option SignalNo)). sink (p n) (slice_index_or xs 0 None)) (ins_are n j cell at),
        ap (λ o. slice_index_or (cell_of_carry o) 2 None) carrier ∙ ap (λ (xs : List (Option SignalNo)). sink (p n) (slice_index_or xs 1 None)) (ins_are n j cell at),
      )
        where
          cell_of_carry : Option ℕ → List (Option Root)
          cell_of_carry o = with_carry (p n) n.cells (lut_inputs (p n) n.cells a) o

      by : (anchor (fs n) j ≡ j) ⊎ ((part (fs n) (anchor (fs n) j) ≡ Table) × ((taker (fs n) (anchor (fs n) j) ≡ Some j) ⊎ (slice_index_or (fs n).luts j None ≡ Some (anchor (fs n) j))))
          → (logic : LogicCell) × At (packed n).cells (home (fs n) j) logic × (logic.carry ≡ true) × (slice_index_or logic.ins 1 None ≡ sink (p n) (slice_index_or cell.ins 0 None))
          × (slice_index_or logic.ins 2 None ≡ sink (p n) (slice_index_or cell.ins 1 None))
      by (inl own) = (
        cell_by (p n) n.cells j Carry,
        own_at n j Carry mine refl own,
        refl,
        ap (λ (xs : List (Option SignalNo)). sink (p n) (slice_index_or xs 0 None)) (ins_are n j cell at),
        ap (λ (xs : List (Option SignalNo)). sink (p n) (slice_index_or xs 1 None)) (ins_are n j cell at),
      )
      by (inr (table, inl flop)) = absurd (flop_carry (Some (anchor (fs n) j)) (sym (taker_part (os n) n.cells (bare n) (anchor (fs n) j) j flop) ∙ mine))
      by (inr (table, inr lut)) = by_carrier (anchor (fs n) j) table (carrier_is (os n) n.cells (bare n) (anchor (fs n) j) j (table_within (anchor (fs n) j) table) lut) (same_home n (anchor (fs n) j) j (anchor_again (os n) n.cells (bare n) j))
        where
          table_within : (a : ℕ) → part (fs n) a ≡ Table → a < length (fs n).parts
          table_within a e = let cell = cell_of_part n a Table e (λ z. cc z) in let lt = At_within n.cells a cell.0 cell.1 in let long = parts_long n in omega arith

  pub carry_root_is : (j : ℕ) (cell : Cell) → At n.cells j cell → cell.kind ≡ kind.Carry → dropped cell.outs ≡ false → root_at (p n) j ≡ Some (CarryOut (home (fs n) j))
  carry_root_is j cell at is stays =
      root_is n j cell at ∙ ap (λ k. root_by (os n) (home (fs n) j) (0 + (rooted_at n j cell at).before) k cell.ins cell.outs) is ∙ ap (λ b. cond b None (Some (CarryOut (home (fs n) j)))) stays

  pub has_carry : (j : ℕ) (cell : Cell) → At n.cells j cell → cell.kind ≡ kind.Carry → dropped cell.outs ≡ false → HasCarry n (packed n) (p n) j cell
  has_carry j cell at is stays =
      let got = carry_goes j cell at is stays in
      record {
        home = home (fs n) j;
        logic = got.0;
        at = got.1;
        root = carry_root_is j cell at is stays;
        on = got.2;
        one = got.3;
        two = got.4;
        comes = comes_into n j cell at is stays;
      }

  pub carry_home : (j : ℕ) (cell : Cell) (at : At n.cells j cell) (is : cell.kind ≡ kind.Carry) (stays : dropped cell.outs ≡ false) → (has_carry j cell at is stays).home ≡ home (fs n) j
  unfolding has_carry
  carry_home j cell at is stays = refl

  -- ---- flip-flops
  module _ (j : ℕ) (cell : Cell) (falling enable : Bool) (reset : Reset) (at : At n.cells j cell) (is : cell.kind ≡ kind.Flop falling enable reset) where
    abbrev sig : ℕ → Option SignalNo
    sig k = slice_index_or cell.ins k None

    flop_open : (k : ℕ) → (use_of.taker j (kind.Flop falling enable reset) k ≡ None) → Opened n (sig k)
    flop_open k none = by (slice_get cell.ins k) refl
      where
        at_read : (xs : List (Option SignalNo)) (i : ℕ) → slice_get xs i ≡ None → slice_index_or xs i None ≡ None
        at_read [] i e = refl
        at_read (x ∷ xs) zero e = cc e
        at_read (x ∷ xs) (suc i) e = at_read xs i e

        by : (o : Option (Option SignalNo)) → slice_get cell.ins k ≡ o → Opened n (sig k)
        by None e = subst (Opened n) (sym (at_read cell.ins k e)) (missing_open n)
        by (Some signal) e =
            subst (Opened n) (sym (get_or_from_slice_get cell.ins k signal None e))
            (input_open n j cell k signal at (subst (λ (xs : List (Option SignalNo)). At xs k signal) (sym (ap (λ x. use_of.reading_ins x cell.ins cell.outs) is)) e) (ap (λ x. use_of.taker j x k) is ∙ none))

    flop_part : part (fs n) j ≡ Flop (maker (input_origin (os n) (sig 1)))
    flop_part = part_at n j cell at ∙ ap (λ x. part_by (os n) x cell.ins cell.outs) is

    data_is : data_input n.cells j ≡ sig 1
    data_is = ap (λ (xs : List (Option SignalNo)). slice_index_or xs 1 None) (ins_are n j cell at)

    -- the flip-flop reads what it takes as that
    takes_it : (i : ℕ) → input_origin (os n) (sig 1) ≡ Made i → Has (readings (os n) n.cells (bare n)) (Made i, Some j)
    takes_it i e = by (slice_get cell.ins 1) refl
      where
        at_read : (xs : List (Option SignalNo)) (i : ℕ) → slice_get xs i ≡ None → slice_index_or xs i None ≡ None
        at_read [] i e = refl
        at_read (x ∷ xs) zero e = cc e
        at_read (x ∷ xs) (suc i) e = at_read xs i e

        made_none : (o : Option SignalNo) → o ≡ None → input_origin (os n) o ≡ Made i → ⊥
        made_none o f g = fixed_made (sym (ap (input_origin (os n)) f) ∙ g)
          where
            fixed_made : Fixed false ≡ Made i → ⊥
            fixed_made h = cc h

        by : (o : Option (Option SignalNo)) → slice_get cell.ins 1 ≡ o → Has (readings (os n) n.cells (bare n)) (Made i, Some j)
        by None f = absurd (made_none (sig 1) (at_read cell.ins 1 f) e)
        by (Some signal) f =
            let same : signal ≡ sig 1 = sym (get_or_from_slice_get cell.ins 1 signal None f) in
            subst (λ x. Has (readings (os n) n.cells (bare n)) (Made i, x)) (ap (λ x. use_of.taker j x 1) is)
            (subst (λ (o : Origin). Has (readings (os n) n.cells (bare n)) (o, use_of.taker j cell.kind 1)) (ap (input_origin (os n)) same ∙ e)
            (read_cell (os n) n.cells (bare n) j cell 1 signal at (subst (λ (xs : List (Option SignalNo)). At xs 1 signal) (sym (ap (λ x. use_of.reading_ins x cell.ins cell.outs) is)) f)))

    abbrev Datum : Type 0
    Datum = (logic : LogicCell) × At (packed n).cells (home (fs n) j) logic × (logic.carry_to_in3 ≡ false) × (logic.flop ≡ flop_of (p n) n.cells (Some j)) × (IsAlone n (p n) (sig 1) logic ⊎ IsBehind n (packed n) (p n) (sig 1) (home (fs n) j))

    alone : anchor (fs n) j ≡ j → Opened n (sig 1) → Datum
    alone own opened = (
      cell_by (p n) n.cells j (Flop (maker (input_origin (os n) (sig 1)))),
      own_at n j (Flop (maker (input_origin (os n) (sig 1)))) flop_part refl own,
      refl,
      refl,
      inl (record {
        table = ap (λ s. passing_table (input_origin (os n) s)) data_is;
        ins = ap (λ s. plain_sink (p n) s ∷ None ∷ None ∷ None ∷ []) data_is;
        opened = opened;
      }),
    )

    behind : (k : ℕ) → input_origin (os n) (sig 1) ≡ Made k → taker (fs n) k ≡ Some j → anchor (fs n) j ≡ k → part (fs n) k ≡ Table → Datum
    behind k e takes goes_by table =
        let lut = cell_of_part n k Table table (λ z. cc z) in
        let table_kind = part_table_kind (os n) lut.0.kind lut.0.ins lut.0.outs lut.2 in
        let has = has_table n k lut.0 lut.1 table_kind in
        let same : has.home ≡ home (fs n) j = table_home n k lut.0 lut.1 table_kind ∙ same_home n k j (ap (anchor_by (fs n) k) table ∙ sym goes_by) in (
          has.logic,
          subst (λ h. At (packed n).cells h has.logic) same has.at,
          has.unchained,
          has.flop ∙ ap (flop_of (p n) n.cells) takes,
          inr (record { number = k; takes = e; cell = lut.0; at = lut.1; is = table_kind; table = has; same = same }),
        )

    datum : Datum
    datum = by (input_origin (os n) (sig 1)) refl (ap (anchor_by (fs n) j) flop_part)
      where
        made_open : (k : ℕ) → input_origin (os n) (sig 1) ≡ Made k → (taker (fs n) k ≡ None) → Opened n (sig 1)
        made_open k e none i f = ap (taker (fs n)) (sym (made_same (sym e ∙ f))) ∙ none
          where
            made_same : Made k ≡ Made i → k ≡ i
            made_same g = cc g

        by_taker : (k : ℕ) → input_origin (os n) (sig 1) ≡ Made k → (o : Option ℕ) → taker (fs n) k ≡ o → anchor (fs n) j ≡ taken_anchor (fs n) j (Some k) → Datum
        by_taker k e None f goes = alone (goes ∙ ap (λ b. cond b k j) (none_and (is_table (part (fs n) k)) ∙ refl)) (made_open k e f)
          where
            none_and : (b : Bool) → (b && is_place j (taker (fs n) k)) ≡ false
            none_and true = ap (is_place j) f
            none_and false = refl
        by_taker k e (Some g) f goes =
            let same : j ≡ g = taken_by (os n) n.cells (bare n) k j g (takes_it k e) f in
            let takes : taker (fs n) k ≡ Some j = f ∙ ap Some (sym same) in
            let table = (taker_parts (os n) n.cells (bare n) k g f).0 in
            behind k e takes (goes ∙ ap (λ b. cond (b && is_place j (taker (fs n) k)) k j) table ∙ ap (λ o. cond (is_place j o) k j) takes ∙ ap (λ b. cond b k j) (eq-eqb j j refl))
            (table_is (part (fs n) k) table)
          where
            table_is : (x : Part) → is_table x ≡ true → x ≡ Table
            table_is Table h = refl
            table_is (Flop taken) h = cc h
            table_is Carry h = cc h
            table_is Nothing h = cc h

        by : (o : Origin) → input_origin (os n) (sig 1) ≡ o → anchor (fs n) j ≡ taken_anchor (fs n) j (maker (input_origin (os n) (sig 1))) → Datum
        by (Fixed level) e goes = alone (goes ∙ ap (λ x. taken_anchor (fs n) j (maker x)) e) (λ i f. absurd (other i (sym e ∙ f)))
          where
            other : (i : ℕ) → Fixed level ≡ Made i → ⊥
            other i g = cc g
        by (origin_is.Pad k) e goes = alone (goes ∙ ap (λ x. taken_anchor (fs n) j (maker x)) e) (λ i f. absurd (other i (sym e ∙ f)))
          where
            other : (i : ℕ) → origin_is.Pad k ≡ Made i → ⊥
            other i g = cc g
        by (Made k) e goes = by_taker k e (taker (fs n) k) refl (goes ∙ ap (λ x. taken_anchor (fs n) j (maker x)) e)

    clock_free : use_of.taker j (kind.Flop falling enable reset) 0 ≡ None
    clock_free = refl

    enabled_is : IsEnabled (packed n) (p n) (enable_input enable cell.ins)
    enabled_is = record {
      opened = open_by enable;
      zero = λ signal e f. cell_needs_zero n j cell at (ap (λ x. reads_zero (os n) x cell.ins) is ∙ level_read (os n) false (enable_input enable cell.ins) (λ g. (signal, e)) f);
    }
      where
        open_by : (b : Bool) → Opened n (enable_input b cell.ins)
        open_by true = flop_open 2 refl
        open_by false = missing_open n

    reset_is : IsSunk (packed n) (p n) (set_input enable cell.ins)
    reset_is = record {
      opened = open_by enable;
      one = λ e. cell_needs_one n j cell at (ap (λ x. reads_one (os n) x cell.ins cell.outs) is ∙ one_read n (set_input enable cell.ins) e);
    }
      where
        open_by : (b : Bool) → Opened n (set_input b cell.ins)
        open_by true = flop_open 3 refl
        open_by false = flop_open 2 refl

    pub has_flop : HasFlop n (packed n) (p n) j enable cell.ins
    has_flop = record {
      home = home (fs n) j;
      logic = datum.0;
      at = datum.1;
      root = root_is n j cell at ∙ ap (λ k. root_by (os n) (home (fs n) j) (0 + (rooted_at n j cell at).before) k cell.ins cell.outs) is;
      unchained = datum.2;
      flop = datum.3;
      datum = datum.4;
      clock = flop_open 0 refl;
      enabled = enabled_is;
      reset = reset_is;
    }

  -- ---- global buffers
  global_sunk : (j : ℕ) (cell : Cell) → At n.cells j cell → cell.kind ≡ kind.Global → IsSunk (packed n) (p n) (slice_index_or cell.ins 0 None)
  global_sunk j cell at is = record {
    opened =
        input_at (Opened n) (missing_open n) cell.ins
        (λ i signal there. input_open n j cell i signal at (subst (λ (xs : List (Option SignalNo)). At xs i signal) (sym (ap (λ x. use_of.reading_ins x cell.ins cell.outs) is)) there) (ap (λ x. use_of.taker j x i) is)) 0;
    one = λ e. cell_needs_one n j cell at (ap (λ x. reads_one (os n) x cell.ins cell.outs) is ∙ one_read n (slice_index_or cell.ins 0 None) e);
  }

  has_global : (j : ℕ) (cell : Cell) → At n.cells j cell → cell.kind ≡ kind.Global
      → IsSunk (packed n) (p n) (slice_index_or cell.ins 0 None) × ((g : ℕ) × (root_at (p n) j ≡ Some (GlobalOut g)) × At (packed n).globals g (sink (p n) (slice_index_or cell.ins 0 None)))
  has_global j cell at is =
      let r = rooted_at n j cell at in
      let same : r.before ≡ 0 + r.before = omega arith in (
        global_sunk j cell at is,
        (
          0 + r.before,
          root_is n j cell at ∙ ap (λ k. root_by (os n) (home (fs n) j) (0 + r.before) k cell.ins cell.outs) is,
          subst (λ g. At (packed n).globals g (sink (p n) (slice_index_or cell.ins 0 None))) same (r.global (sink (p n) (slice_index_or cell.ins 0 None)) (ap (λ k. global_by (p n) k cell.ins) is)),
        ),
      )

  global_kind : (k : CellKind) (ins : List (Option SignalNo)) (i : ℕ) (r : Option Root) → At (global_by (p n) k ins) i r → (k ≡ kind.Global) × (r ≡ sink (p n) (slice_index_or ins 0 None))
  global_kind (kind.Lut t) ins i r at = cc at
  global_kind (kind.Cover t width) ins i r at = cc at
  global_kind kind.Carry ins i r at = cc at
  global_kind (kind.Flop falling enable reset) ins i r at = cc at
  global_kind (kind.PadCell pin_type pullup) ins i r at = cc at
  global_kind kind.Global ins zero r at = (refl, sym (same_Some (sink (p n) (slice_index_or ins 0 None)) r at))
  global_kind kind.Global ins (suc i) r at = cc at

  -- ---- where logic cells come from
  from_part : (c : ℕ) (logic : LogicCell) (o : IsOpened n c logic) (x : Part) → part (fs n) (anchor (fs n) o.number) ≡ x → IsLogicCellOf n (packed n) (p n) c logic
  from_part c logic o Table e =
      let lut = cell_of_part n (anchor (fs n) o.number) Table e (λ z. cc z) in
      let is = part_table_kind (os n) lut.0.kind lut.0.ins lut.0.outs lut.2 in
      gives (anchor (fs n) o.number) lut.0 lut.1 is (has_table n (anchor (fs n) o.number) lut.0 lut.1 is)
      (table_home n (anchor (fs n) o.number) lut.0 lut.1 is ∙ same_home n (anchor (fs n) o.number) o.number (anchor_again (os n) n.cells (bare n) o.number) ∙ o.same)
  from_part c logic o (Flop taken) e =
      let flop = cell_of_part n (anchor (fs n) o.number) (Flop taken) e (λ z. cc z) in
      let is = part_flop_kind (os n) flop.0.kind flop.0.ins flop.0.outs taken flop.2 in
      keeps (
        record {
          clock = plain_sink (p n) (slice_index_or flop.0.ins 0 None);
          falling = is.0;
          enable = enable_sink (p n) (enable_input is.1 flop.0.ins);
          reset = sink (p n) (set_input is.1 flop.0.ins);
        },
        is.2,
      )
      (ap (λ (l : LogicCell). l.flop) o.is ∙ ap (λ x. (cell_by (p n) n.cells (anchor (fs n) o.number) x).flop) e
      ∙ ap (λ (q : Option Cell). option_map_or (λ (cell : Cell). flop_by (p n) cell.kind cell.ins) q None) flop.1 ∙ ap (λ k. flop_by (p n) k flop.0.ins) is.3)
  from_part c logic o Carry e =
      let carry = cell_of_part n (anchor (fs n) o.number) Carry e (λ z. cc z) in
      let is = part_carry_kind (os n) carry.0.kind carry.0.ins carry.0.outs carry.2 in
      carries (anchor (fs n) o.number) carry.0 (carry_cell n (anchor (fs n) o.number) carry.0 carry.1 is.0 is.1)
      (ap (λ (l : LogicCell). l.ins) o.is ∙ ap (λ x. (cell_by (p n) n.cells (anchor (fs n) o.number) x).ins) e)
  from_part c logic o Nothing e = absurd (kept_nothing (sym (kept_anchor (os n) n.cells (bare n) o.number o.kept) ∙ ap is_kept e))
    where
      kept_nothing : true ≡ false → ⊥
      kept_nothing f = cc f

  stand_is : (c : ℕ) (logic : LogicCell) → At (packed n).cells c logic → IsLogicCellOf n (packed n) (p n) c logic
  stand_is c logic at = by (opened_back n c logic at)
    where
      by : IsOpened n c logic ⊎ ((level : Bool) × (logic ≡ constant_cell level)) → IsLogicCellOf n (packed n) (p n) c logic
      by (inl o) = from_part c logic o (part (fs n) (anchor (fs n) o.number)) refl
      by (inr (level, e)) = fixed level e

  unchained_is : (c : ℕ) (logic : LogicCell) → At (packed n).cells c logic → logic.carry_to_in3 ≡ false
  unchained_is c logic at = by (opened_back n c logic at)
    where
      by : IsOpened n c logic ⊎ ((level : Bool) × (logic ≡ constant_cell level)) → logic.carry_to_in3 ≡ false
      by (inl o) = ap (λ (l : LogicCell). l.carry_to_in3) o.is
      by (inr (level, e)) = ap (λ (l : LogicCell). l.carry_to_in3) e

  abbrev Carried : ℕ → Type 0
  Carried c = (j : ℕ) × (cell : Cell) × IsCarryCell n (packed n) (p n) j cell × (has : HasCarry n (packed n) (p n) j cell) × (has.home ≡ c)

  true_false : true ≡ false → ⊥
  true_false f = cc f

  carry_of : (j c : ℕ) → part (fs n) j ≡ Carry → home (fs n) j ≡ c → Carried c
  carry_of j c e same =
      let carry = cell_of_part n j Carry e (λ z. cc z) in
      let is = part_carry_kind (os n) carry.0.kind carry.0.ins carry.0.outs carry.2 in
      (j, carry.0, carry_cell n j carry.0 carry.1 is.0 is.1, has_carry j carry.0 carry.1 is.0 is.1, carry_home j carry.0 carry.1 is.0 is.1 ∙ same)

  carried_part : (c : ℕ) (logic : LogicCell) (o : IsOpened n c logic) (x : Part) → part (fs n) (anchor (fs n) o.number) ≡ x → (cell_by (p n) n.cells (anchor (fs n) o.number) x).carry ≡ true → Carried c
  carried_part c logic o Table e on = by (slice_index_or (carriers_of (fs n)) (anchor (fs n) o.number) None) refl on
    where
      by : (q : Option ℕ) → slice_index_or (carriers_of (fs n)) (anchor (fs n) o.number) None ≡ q → is_some q ≡ true → Carried c
      by None f g = absurd (true_false (sym g))
      by (Some j) f g =
          let lut = carrier_lut (os n) n.cells (bare n) (anchor (fs n) o.number) j f in
          let mine = carry_part (os n) n.cells (bare n) j (anchor (fs n) o.number) lut in
          carry_of j c mine (same_home n j o.number (ap (anchor_by (fs n) j) mine ∙ ap (λ q. unwrap_or q j) lut) ∙ o.same)
  carried_part c logic o (Flop taken) e on = absurd (true_false (sym on))
  carried_part c logic o Carry e on = carry_of (anchor (fs n) o.number) c e (same_home n (anchor (fs n) o.number) o.number (anchor_again (os n) n.cells (bare n) o.number) ∙ o.same)
  carried_part c logic o Nothing e on = absurd (true_false (sym on))

  carried_is : (c : ℕ) (logic : LogicCell) → At (packed n).cells c logic → logic.carry ≡ true → Carried c
  carried_is c logic at on = by (opened_back n c logic at)
    where
      by : IsOpened n c logic ⊎ ((level : Bool) × (logic ≡ constant_cell level)) → Carried c
      by (inl o) = carried_part c logic o (part (fs n) (anchor (fs n) o.number)) refl (sym (ap (λ (l : LogicCell). l.carry) o.is) ∙ on)
      by (inr (level, e)) = absurd (true_false (sym (sym (ap (λ (l : LogicCell). l.carry) e) ∙ on)))

  -- ---- pads
  bare_sunk : (k : ℕ) (port : Port) → At n.ports k port → buffer_at n.cells port.signal.0 ≡ None → port.way ≡ Output → IsSunk (packed n) (p n) (Some port.signal)
  bare_sunk k port there none way =
      let test : is_bare_output n.cells port ≡ true = ap (λ w. is_bare_way w (has_buffer n.cells port.signal.0)) way ∙ ap (λ o. is_bare_way Output (is_there o)) none in
      let has = Has_filter (is_bare_output n.cells) n.ports port (k, there) test in
      record {
        opened = read_open n (Some port.signal) (read_port (os n) n.cells (bare n) has.0 port has.1);
        one = λ e. port_needs_one n has.0 port has.1 (one_read n (Some port.signal) e);
      }

  abbrev pad_made : ℕ → Port → Option ℕ → DesignPad
  pad_made k port o = read_pad (unread_by n (plan_of n)) (pad_by (p n) n.cells k port o)

  pad_is : (k : ℕ) (port : Port) → At n.ports k port → (o : Option ℕ) → buffer_at n.cells port.signal.0 ≡ o → IsPadOf n (packed n) (p n) port (pad_made k port o)
  pad_is k port there None e = lies e refl refl refl (bare_sunk k port there e)
  pad_is k port there (Some j) e = by_cell (map_At (λ (c : Cell). pin_of c) n.cells j found.0 found.1)
    where
      found : (x : Option SignalNo) × At (map (λ (c : Cell). pin_of c) n.cells) j x × (is_signal port.signal.0 x ≡ true)
      found = place_at port.signal.0 (map (λ (c : Cell). pin_of c) n.cells) j e

      by_cell : (cell : Cell) × At n.cells j cell × (pin_of cell ≡ found.0) → IsPadOf n (packed n) (p n) port (pad_made k port (Some j))
      by_cell (cell, at, pin) = by cell.kind refl
        where
          never : None ≡ found.0 → ⊥
          never f = true_false (sym found.2 ∙ ap (is_signal port.signal.0) (sym f))

          buffered : (t : ℕ) (u : Bool) → cell.kind ≡ kind.PadCell t u → pad_by (p n) n.cells k port (Some j) ≡ buffered_pad (p n) k port cell.ins (kind.PadCell t u)
          buffered t u is = ap (λ (o : Option Cell). option_map_or (λ (c : Cell). buffered_pad (p n) k port c.ins c.kind) o (bare_pad (p n) k port)) at ∙ ap (buffered_pad (p n) k port cell.ins) is

          by : (x : CellKind) → cell.kind ≡ x → IsPadOf n (packed n) (p n) port (pad_made k port (Some j))
          by (kind.Lut t) is = absurd (never (sym (ap (λ x. pin_by x cell.ins) is) ∙ pin))
          by (kind.Cover t width) is = absurd (never (sym (ap (λ x. pin_by x cell.ins) is) ∙ pin))
          by kind.Carry is = absurd (never (sym (ap (λ x. pin_by x cell.ins) is) ∙ pin))
          by (kind.Flop falling enable reset) is = absurd (never (sym (ap (λ x. pin_by x cell.ins) is) ∙ pin))
          by kind.Global is = absurd (never (sym (ap (λ x. pin_by x cell.ins) is) ∙ pin))
          by (kind.PadCell t u) is =
              through j cell t u e at is (ap (λ (x : DesignPad). x.pin_type) (buffered t u is)) (ap (λ (x : DesignPad). x.drive) (buffered t u is)) (ap (λ (x : DesignPad). x.enable) (buffered t u is))
              (λ m signal inside. record {
                opened = input_open n j cell m signal at (subst (λ (xs : List (Option SignalNo)). At xs m signal) (sym (ap (λ x. use_of.reading_ins x cell.ins cell.outs) is)) inside) (ap (λ x. use_of.taker j x m) is);
                one = λ f. cell_needs_one n j cell at
                    (ap (λ x. reads_one (os n) x cell.ins cell.outs) is ∙ Has_any (has_level (os n) true) (pad_uses t cell.ins) signal m inside (one_read n signal f));
              })

  pad_of_port : (k : ℕ) (pad : DesignPad) (port : Port) → At (packed n).pads k pad → At n.ports k port → IsPadOf n (packed n) (p n) port pad
  pad_of_port k pad port at there =
      let mine = At_map (read_pad (unread_by n (plan_of n))) (pads_from (p n) n.cells 0 n.ports) k (pad_by (p n) n.cells k port (buffer_at n.cells port.signal.0))
      (pad_there (os n) (homes (fs n)) (p n) n.cells 0 k k n.ports port (omega arith) there) in
      subst (λ x. IsPadOf n (packed n) (p n) port x) (At_same (packed n).pads k (pad_made k port (buffer_at n.cells port.signal.0)) pad mine at)
      (pad_is k port there (buffer_at n.cells port.signal.0) refl)

  -- ---- all of it
  pub packed_is : IsFormed n → IsPacked n (packed n) (p n)
  packed_is formed = record {
    origins = λ s lt. get_or-table (origin n) (length n.names) s (Fixed false) lt;
    tables = λ j cell at is. has_table n j cell at is;
    flops = λ j cell falling enable reset at is. has_flop j cell falling enable reset at is;
    carries = λ j cell at is stays. (carry_cell n j cell at is stays, has_carry j cell at is stays);
    globals = λ j cell at is. has_global j cell at is;
    pins = λ j pin_type pullup cell at is. root_is n j cell at ∙ ap (λ k. root_by (os n) (home (fs n) j) (0 + (rooted_at n j cell at).before) k cell.ins cell.outs) is;
    stand = stand_is;
    unchained = unchained_is;
    carried = λ c logic at on. carried_is c logic at on;
    buffered = λ g root at.
        let back = global_back (os n) (homes (fs n)) (p n) n.cells g root at in
        let is = global_kind back.1.kind back.1.ins back.3.0 root back.3.1 in (
          slice_index_or back.1.ins 0 None,
          global_sunk back.0 back.1 back.2 is.0,
          input_at (IsBelow (length n.names)) tt back.1.ins
              (λ i s there. at_all (IsBelow (length n.names)) back.1.ins i s (at_all (IsFormedCell (length n.names)) n.cells back.0 back.1 formed.cells back.2).ins_below there) 0,
          is.1,
        );
    ports_long = length-map (pads_from (p n) n.cells 0 n.ports) (read_pad (unread_by n (plan_of n))) ∙ pads_long (os n) (homes (fs n)) (p n) n.cells 0 n.ports;
    ports = pad_of_port;
  }
