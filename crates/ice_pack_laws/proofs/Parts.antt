-- The facts of a packed design that its meaning follows from.
use Rattle.std.proofs.Common.{◌≡◌, ℕ, ◌+◌, Bool, true, false, cond, Option, None, Some, List, [], refl, sym, ap, ◌∙◌, subst, arith}
use Rattle.std.specs.Prelude.{slice_get, slice_index_or, unwrap_or, not, ◌&&◌, ◌||◌, ◌==◌, find, option_map}
use Rattle.std.specs.List.{list_any}
use Rattle.std.specs.Option.{option_map_or}
use Rattle.std.proofs.lemmas.Bool.{eqb-true, eq-eqb, or_right, or_left}
use Rattle.ice_base.specs.declared.number.SignalNo.{SignalNo}
use Rattle.ice_base_values.specs.Order.{At, Has}
use Rattle.ice_base_values.proofs.Members.{find_Has, Has_find, Has_any}
use Rattle.ice_base_values.proofs.Places.{At_same}
use Rattle.ice_net.specs.declared.cell.Cell.{Cell}
use Rattle.ice_net.specs.declared.kind.CellKind.{CellKind}
use Rattle.ice_net.specs.declared.kind.CellKind.TheVariants as kind
use Rattle.ice_net.specs.declared.kind.Reset.{Reset}
use Rattle.ice_net.specs.declared.port.Port.{Port}
use Rattle.ice_net.specs.NetlistData.{NetlistData}
use Rattle.ice_cells.specs.declared.origin.Origin.{Origin}
use Rattle.ice_cells.specs.declared.origin.Origin.TheVariants.{Fixed}
use Rattle.ice_cells.specs.declared.root.CarryIn.{CarryIn}
use Rattle.ice_cells.specs.declared.root.Root.TheVariants.{CellOut}
use Rattle.ice_cells.specs.declared.share.Pair.{Pair}
use Rattle.ice_cells.specs.declared.share.Part.{Part}
use Rattle.ice_cells.specs.declared.share.Part.TheVariants.{Table, Flop, Carry, Nothing}
use Rattle.ice_cells.specs.declared.share.Role.{Role}
use Rattle.ice_cells.specs.declared.share.Role.TheVariants.{Gives, Takes, Neither}
use Rattle.ice_cells.specs.Nodes.{source_node, carry_into, node_or}
use Rattle.ice_cells.specs.Origins.{is_alias, is_table_kind, input_origin, level_of}
use Rattle.ice_cells.specs.Pairs.{pair_of, role, role_by, roles_of}
use Rattle.ice_cells.specs.Uses.{dropped, reading_ins, readings}
use Rattle.ice_cells.specs.Uses as use_of
use Rattle.ice_cells.specs.Homes.{part, part_of, part_by, is_kept, anchor, anchor_by, carriers_of, home, homes}
use Rattle.ice_cells.specs.Packed.{root_by, carry_input, cell_by, constant_cell, is_level, has_level, reads_one, zero_by, one_by, port_one, ins_at, packed}
use Rattle.ice_pack_share.proofs.HomeLaws.{one_anchor, part_is, role_is, table_part, carrier_lut, lut_taken, carry_by}
use Rattle.ice_pack_share.proofs.LutLaws.{taking, one_carry}
use Rattle.ice_pack_laws.specs.IsPacked.{root_at, IsOpen, IsCarryCell, SharesWith, MayShareWith, HasTable}
use Rattle.ice_pack_laws.proofs.Inputs.{input_at}
use Rattle.ice_pack_laws.proofs.Found.{os, bare, fs, p, cell_at, home_is, zero_at, one_at, IsRooted, rooted, entry, entry_there, entry_back}
use Rattle.ice_pack_laws.proofs.Readers.{read_cell, opened}

-- ---- kinds
table_kind_part : (os : List Origin) (k : CellKind) (ins outs : List (Option SignalNo)) → is_table_kind k ≡ true → part_by os k ins outs ≡ Table
table_kind_part os (kind.Lut t) ins outs is = refl
table_kind_part os (kind.Cover t width) ins outs is = ap (λ b. cond b Table Nothing) is
table_kind_part os kind.Carry ins outs is = cc is
table_kind_part os (kind.Flop falling enable reset) ins outs is = cc is
table_kind_part os (kind.PadCell pin_type pullup) ins outs is = cc is
table_kind_part os kind.Global ins outs is = cc is

pub part_table_kind : (os : List Origin) (k : CellKind) (ins outs : List (Option SignalNo)) → part_by os k ins outs ≡ Table → is_table_kind k ≡ true
part_table_kind os (kind.Lut t) ins outs e = refl
part_table_kind os (kind.Cover t width) ins outs e = by (is_table_kind (kind.Cover t width)) e
  where
    by : (b : Bool) → cond b Table Nothing ≡ Table → b ≡ true
    by true f = refl
    by false f = cc f
part_table_kind os kind.Carry ins outs e = by (dropped outs) e
  where
    by : (b : Bool) → cond b Nothing Carry ≡ Table → false ≡ true
    by true f = cc f
    by false f = cc f
part_table_kind os (kind.Flop falling enable reset) ins outs e = cc e
part_table_kind os (kind.PadCell pin_type pullup) ins outs e = cc e
part_table_kind os kind.Global ins outs e = cc e

pub part_carry_kind : (os : List Origin) (k : CellKind) (ins outs : List (Option SignalNo)) → part_by os k ins outs ≡ Carry → (k ≡ kind.Carry) × (dropped outs ≡ false)
part_carry_kind os (kind.Lut t) ins outs e = cc e
part_carry_kind os (kind.Cover t width) ins outs e = by (is_table_kind (kind.Cover t width)) e
  where
    by : (b : Bool) → cond b Table Nothing ≡ Carry → (kind.Cover t width ≡ kind.Carry) × (dropped outs ≡ false)
    by true f = cc f
    by false f = cc f
part_carry_kind os kind.Carry ins outs e = by (dropped outs) refl e
  where
    by : (b : Bool) → dropped outs ≡ b → cond b Nothing Carry ≡ Carry → (kind.Carry ≡ kind.Carry) × (dropped outs ≡ false)
    by true f g = cc g
    by false f g = (refl, f)
part_carry_kind os (kind.Flop falling enable reset) ins outs e = cc e
part_carry_kind os (kind.PadCell pin_type pullup) ins outs e = cc e
part_carry_kind os kind.Global ins outs e = cc e

pub part_flop_kind : (os : List Origin) (k : CellKind) (ins outs : List (Option SignalNo)) (taken : Option ℕ) → part_by os k ins outs ≡ Flop taken → (falling enable : Bool) × (reset : Reset) × (k ≡ kind.Flop falling enable reset)
part_flop_kind os (kind.Lut t) ins outs taken e = cc e
part_flop_kind os (kind.Cover t width) ins outs taken e = by (is_table_kind (kind.Cover t width)) e
  where
    by : (b : Bool) → cond b Table Nothing ≡ Flop taken → (falling enable : Bool) × (reset : Reset) × (kind.Cover t width ≡ kind.Flop falling enable reset)
    by true f = cc f
    by false f = cc f
part_flop_kind os kind.Carry ins outs taken e = by (dropped outs) e
  where
    by : (b : Bool) → cond b Nothing Carry ≡ Flop taken → (falling enable : Bool) × (reset : Reset) × (kind.Carry ≡ kind.Flop falling enable reset)
    by true f = cc f
    by false f = cc f
part_flop_kind os (kind.Flop falling enable reset) ins outs taken e = (falling, enable, reset, refl)
part_flop_kind os (kind.PadCell pin_type pullup) ins outs taken e = cc e
part_flop_kind os kind.Global ins outs taken e = cc e

-- what a look-up table, or a carry, reads by its inputs
table_reading : (k : CellKind) (ins outs : List (Option SignalNo)) → is_table_kind k ≡ true → reading_ins k ins outs ≡ ins
table_reading (kind.Lut t) ins outs is = refl
table_reading (kind.Cover t width) ins outs is = by (width == 0) (is_alias (kind.Cover t width)) is
  where
    by : (z a : Bool) → (not z && not a) ≡ true → cond a [] ins ≡ ins
    by z false f = refl
    by true true f = cc f
    by false true f = cc f
table_reading kind.Carry ins outs is = cc is
table_reading (kind.Flop falling enable reset) ins outs is = refl
table_reading (kind.PadCell pin_type pullup) ins outs is = cc is
table_reading kind.Global ins outs is = refl

table_taker : (k : CellKind) (j i : ℕ) → is_table_kind k ≡ true → use_of.taker j k i ≡ None
table_taker (kind.Lut t) j i is = refl
table_taker (kind.Cover t width) j i is = refl
table_taker kind.Carry j i is = refl
table_taker (kind.Flop falling enable reset) j i is = cc is
table_taker (kind.PadCell pin_type pullup) j i is = refl
table_taker kind.Global j i is = refl

table_root : (os : List Origin) (c g : ℕ) (k : CellKind) (ins outs : List (Option SignalNo)) → is_table_kind k ≡ true → root_by os c g k ins outs ≡ Some (CellOut c)
table_root os c g (kind.Lut t) ins outs is = refl
table_root os c g (kind.Cover t width) ins outs is = ap (λ b. cond b (Some (CellOut c)) None) is
table_root os c g kind.Carry ins outs is = cc is
table_root os c g (kind.Flop falling enable reset) ins outs is = refl
table_root os c g (kind.PadCell pin_type pullup) ins outs is = cc is
table_root os c g kind.Global ins outs is = cc is

-- the pairs by which carries and look-up tables are compared
takes_pair : (os : List Origin) (k : CellKind) (ins outs : List (Option SignalNo)) (pair : Pair) → role_by os k ins outs ≡ Takes pair
    → (pair.first ≡ input_origin os (slice_index_or ins 0 None)) × (pair.second ≡ input_origin os (slice_index_or ins 1 None))
takes_pair os (kind.Lut t) ins outs pair e = cc e
takes_pair os (kind.Cover t width) ins outs pair e = by (pair_of os ins 1 2) (is_table_kind (kind.Cover t width)) e
  where
    by : (q : Pair) (b : Bool) → cond b (Gives q) Neither ≡ Takes pair → (pair.first ≡ input_origin os (slice_index_or ins 0 None)) × (pair.second ≡ input_origin os (slice_index_or ins 1 None))
    by q true f = cc f
    by q false f = cc f
takes_pair os kind.Carry ins outs pair e = by (pair_of os ins 0 1) refl (dropped outs) e
  where
    by : (q : Pair) → q ≡ pair_of os ins 0 1 → (b : Bool) → cond b Neither (Takes q) ≡ Takes pair → (pair.first ≡ input_origin os (slice_index_or ins 0 None)) × (pair.second ≡ input_origin os (slice_index_or ins 1 None))
    by q is true f = cc f
    by q is false f = let same : pair ≡ q = cc f in (ap (λ (x : Pair). x.first) (same ∙ is), ap (λ (x : Pair). x.second) (same ∙ is))
takes_pair os (kind.Flop falling enable reset) ins outs pair e = cc e
takes_pair os (kind.PadCell pin_type pullup) ins outs pair e = cc e
takes_pair os kind.Global ins outs pair e = cc e

gives_pair : (os : List Origin) (k : CellKind) (ins outs : List (Option SignalNo)) (pair : Pair) → role_by os k ins outs ≡ Gives pair
    → (pair.first ≡ input_origin os (slice_index_or ins 1 None)) × (pair.second ≡ input_origin os (slice_index_or ins 2 None))
gives_pair os (kind.Lut t) ins outs pair e = by (pair_of os ins 1 2) refl e
  where
    by : (q : Pair) → q ≡ pair_of os ins 1 2 → Gives q ≡ Gives pair → (pair.first ≡ input_origin os (slice_index_or ins 1 None)) × (pair.second ≡ input_origin os (slice_index_or ins 2 None))
    by q is f = let same : pair ≡ q = cc f in (ap (λ (x : Pair). x.first) (same ∙ is), ap (λ (x : Pair). x.second) (same ∙ is))
gives_pair os (kind.Cover t width) ins outs pair e = by (pair_of os ins 1 2) refl (is_table_kind (kind.Cover t width)) e
  where
    by : (q : Pair) → q ≡ pair_of os ins 1 2 → (b : Bool) → cond b (Gives q) Neither ≡ Gives pair → (pair.first ≡ input_origin os (slice_index_or ins 1 None)) × (pair.second ≡ input_origin os (slice_index_or ins 2 None))
    by q is false f = cc f
    by q is true f = let same : pair ≡ q = cc f in (ap (λ (x : Pair). x.first) (same ∙ is), ap (λ (x : Pair). x.second) (same ∙ is))
gives_pair os kind.Carry ins outs pair e = by (pair_of os ins 0 1) (dropped outs) e
  where
    by : (q : Pair) (b : Bool) → cond b Neither (Takes q) ≡ Gives pair → (pair.first ≡ input_origin os (slice_index_or ins 1 None)) × (pair.second ≡ input_origin os (slice_index_or ins 2 None))
    by q true f = cc f
    by q false f = cc f
gives_pair os (kind.Flop falling enable reset) ins outs pair e = cc e
gives_pair os (kind.PadCell pin_type pullup) ins outs pair e = cc e
gives_pair os kind.Global ins outs pair e = cc e

-- ---- constants
pub level_read : (os : List Origin) (level : Bool) (signal : Option SignalNo) → (level ≡ false → (s : SignalNo) × (signal ≡ Some s)) → input_origin os signal ≡ Fixed level → has_level os level signal ≡ true
level_read os true None there e = cc e
level_read os false None there e = none_some (there refl).0 (there refl).1
  where
    none_some : (s : SignalNo) → None ≡ Some s → false ≡ true
    none_some s f = cc f
level_read os level (Some s) there e = ap (λ (o : Origin). is_level level (level_of o)) e ∙ by level
  where
    by : (b : Bool) → is_level b (Some b) ≡ true
    by true = refl
    by false = refl

module _ (n : NetlistData) where
  abbrev pub Opened : Option SignalNo → Type 0
  Opened signal = IsOpen (p n) (input_origin (os n) signal)

  -- a signal that is read in another way than as what a flip-flop takes
  pub read_open : (signal : Option SignalNo) → Has (readings (os n) n.cells (bare n)) (input_origin (os n) signal, None) → Opened signal
  read_open signal has = opened (os n) n.cells (bare n) (input_origin (os n) signal) has

  pub missing_open : Opened None
  missing_open i e = cc e

  pub input_open : (j : ℕ) (cell : Cell) (i : ℕ) (signal : Option SignalNo) → At n.cells j cell → At (reading_ins cell.kind cell.ins cell.outs) i signal → use_of.taker j cell.kind i ≡ None → Opened signal
  input_open j cell i signal at there none =
      read_open signal (subst (λ x. Has (readings (os n) n.cells (bare n)) (input_origin (os n) signal, x)) none (read_cell (os n) n.cells (bare n) j cell i signal at there))

  pub cell_needs_one : (j : ℕ) (cell : Cell) → At n.cells j cell → one_by (os n) cell ≡ true → At (packed n).cells (p n).one (constant_cell true)
  cell_needs_one j cell at e = one_at n (or_left (list_any (one_by (os n)) n.cells) (list_any (port_one (os n)) (bare n)) (Has_any (one_by (os n)) n.cells cell j at e))

  pub port_needs_one : (i : ℕ) (port : Port) → At (bare n) i port → port_one (os n) port ≡ true → At (packed n).cells (p n).one (constant_cell true)
  port_needs_one i port at e = one_at n (or_right (list_any (one_by (os n)) n.cells) (list_any (port_one (os n)) (bare n)) (Has_any (port_one (os n)) (bare n) port i at e))

  pub cell_needs_zero : (j : ℕ) (cell : Cell) → At n.cells j cell → zero_by (os n) cell ≡ true → At (packed n).cells (p n).zero (constant_cell false)
  cell_needs_zero j cell at e = zero_at n (Has_any (zero_by (os n)) n.cells cell j at e)

  pub one_read : (signal : Option SignalNo) → input_origin (os n) signal ≡ Fixed true → has_level (os n) true signal ≡ true
  one_read signal e = level_read (os n) true signal (λ f. true_false f) e
    where
      true_false : true ≡ false → (s : SignalNo) × (signal ≡ Some s)
      true_false f = cc f

  -- ---- cells by their parts
  pub part_at : (j : ℕ) (cell : Cell) → At n.cells j cell → part (fs n) j ≡ part_by (os n) cell.kind cell.ins cell.outs
  part_at j cell at = part_is (os n) n.cells (bare n) j ∙ ap (λ (o : Option Cell). option_map_or (part_of (os n)) o Nothing) at

  pub cell_of_part : (j : ℕ) (x : Part) → part (fs n) j ≡ x → (Nothing ≡ x → ⊥) → (cell : Cell) × At n.cells j cell × (part_by (os n) cell.kind cell.ins cell.outs ≡ x)
  cell_of_part j x e other = by (slice_get n.cells j) refl (sym (part_is (os n) n.cells (bare n) j) ∙ e)
    where
      by : (o : Option Cell) → slice_get n.cells j ≡ o → option_map_or (part_of (os n)) o Nothing ≡ x → (cell : Cell) × At n.cells j cell × (part_by (os n) cell.kind cell.ins cell.outs ≡ x)
      by None f g = absurd (other g)
      by (Some cell) f g = (cell, f, g)

  -- a cell with a logic cell of its own
  pub own_at : (j : ℕ) (x : Part) → part (fs n) j ≡ x → is_kept x ≡ true → anchor (fs n) j ≡ j → At (packed n).cells (home (fs n) j) (cell_by (p n) n.cells j x)
  own_at j x e kept own =
      subst (λ y. At (packed n).cells (home (fs n) j) (cell_by (p n) n.cells j y)) e
      (subst (λ a. At (packed n).cells (home (fs n) j) (cell_by (p n) n.cells a (part (fs n) a))) own (cell_at n j (ap is_kept e ∙ kept)))

  abbrev pub Rooted : ℕ → Cell → Type 0
  Rooted j cell = IsRooted (os n) (homes (fs n)) (p n) 0 0 j j n.cells cell

  pub rooted_at : (j : ℕ) (cell : Cell) → At n.cells j cell → Rooted j cell
  rooted_at j cell at = rooted (os n) (homes (fs n)) (p n) 0 0 j j n.cells cell (omega arith) at

  pub root_is : (j : ℕ) (cell : Cell) (at : At n.cells j cell) → root_at (p n) j ≡ root_by (os n) (home (fs n) j) (0 + (rooted_at j cell at).before) cell.kind cell.ins cell.outs
  root_is j cell at = (rooted_at j cell at).root ∙ ap (λ c. root_by (os n) c (0 + (rooted_at j cell at).before) cell.kind cell.ins cell.outs) (home_is n j cell at)

  -- ---- carries
  carry_open : (j : ℕ) (cell : Cell) → At n.cells j cell → cell.kind ≡ kind.Carry → dropped cell.outs ≡ false → (k : ℕ) → Opened (slice_index_or cell.ins k None)
  carry_open j cell at is stays k =
      input_at Opened missing_open cell.ins
      (λ i signal there. input_open j cell i signal at (subst (λ (xs : List (Option SignalNo)). At xs i signal) (sym (ap (λ x. reading_ins x cell.ins cell.outs) is ∙ ap (λ b. cond b [] cell.ins) stays)) there)
      (ap (λ x. use_of.taker j x i) is))
      k

  carry_one : (j : ℕ) (cell : Cell) → At n.cells j cell → cell.kind ≡ kind.Carry → dropped cell.outs ≡ false
      → (has_level (os n) true (slice_index_or cell.ins 0 None) || has_level (os n) true (slice_index_or cell.ins 1 None)) ≡ true → At (packed n).cells (p n).one (constant_cell true)
  carry_one j cell at is stays e =
      cell_needs_one j cell at
      (ap (λ x. reads_one (os n) x cell.ins cell.outs) is
      ∙ ap (λ b. cond b false (has_level (os n) true (slice_index_or cell.ins 0 None) || has_level (os n) true (slice_index_or cell.ins 1 None))) stays ∙ e)

  pub carry_cell : (j : ℕ) (cell : Cell) → At n.cells j cell → cell.kind ≡ kind.Carry → dropped cell.outs ≡ false → IsCarryCell n (packed n) (p n) j cell
  carry_cell j cell at is stays = record {
    at = at;
    is = is;
    stays = stays;
    first = record {
      opened = carry_open j cell at is stays 0;
      one = λ e. carry_one j cell at is stays (or_left (has_level (os n) true (slice_index_or cell.ins 0 None)) (has_level (os n) true (slice_index_or cell.ins 1 None)) (one_read (slice_index_or cell.ins 0 None) e));
    };
    second = record {
      opened = carry_open j cell at is stays 1;
      one = λ e. carry_one j cell at is stays (or_right (has_level (os n) true (slice_index_or cell.ins 0 None)) (has_level (os n) true (slice_index_or cell.ins 1 None)) (one_read (slice_index_or cell.ins 1 None) e));
    };
    into = carry_open j cell at is stays 2;
  }

  pub carry_part_at : (j : ℕ) (cell : Cell) → At n.cells j cell → cell.kind ≡ kind.Carry → dropped cell.outs ≡ false → part (fs n) j ≡ Carry
  carry_part_at j cell at is stays = part_at j cell at ∙ ap (λ x. part_by (os n) x cell.ins cell.outs) is ∙ ap (λ b. cond b Nothing Carry) stays

  -- no two carries go to one logic cell
  pub one_home : (j k : ℕ) → part (fs n) j ≡ Carry → part (fs n) k ≡ Carry → home (fs n) j ≡ home (fs n) k → j ≡ k
  one_home j k mine other same =
      by (slice_index_or (fs n).luts j None) refl (slice_index_or (fs n).luts k None) refl
      (sym (ap (anchor_by (fs n) j) mine) ∙ one_anchor (os n) n.cells (bare n) j k (ap is_kept mine) (ap is_kept other) same ∙ ap (anchor_by (fs n) k) other)
    where
      table_carry : (a : ℕ) → part (fs n) a ≡ Table → part (fs n) a ≡ Carry → ⊥
      table_carry a e f = different (sym e ∙ f)
        where
          different : Table ≡ Carry → ⊥
          different g = cc g

      by : (o : Option ℕ) → slice_index_or (fs n).luts j None ≡ o → (q : Option ℕ) → slice_index_or (fs n).luts k None ≡ q → unwrap_or (slice_index_or (fs n).luts j None) j ≡ unwrap_or (slice_index_or (fs n).luts k None) k → j ≡ k
      by None e None f g = sym (ap (λ o. unwrap_or o j) e) ∙ g ∙ ap (λ o. unwrap_or o k) f
      by (Some a) e (Some b) f g =
          let same : a ≡ b = sym (ap (λ o. unwrap_or o j) e) ∙ g ∙ ap (λ o. unwrap_or o k) f in
          one_carry (roles_of (os n) n.cells) j k b (lut_taken (os n) n.cells (bare n) j b (e ∙ ap Some same)) (lut_taken (os n) n.cells (bare n) k b f)
      by None e (Some b) f g =
          let same : j ≡ b = sym (ap (λ o. unwrap_or o j) e) ∙ g ∙ ap (λ o. unwrap_or o k) f in
          absurd (table_carry j (ap (part (fs n)) same ∙ table_part (os n) n.cells (bare n) k b f) mine)
      by (Some a) e None f g =
          let same : a ≡ k = sym (ap (λ o. unwrap_or o j) e) ∙ g ∙ ap (λ o. unwrap_or o k) f in
          absurd (table_carry k (sym (ap (part (fs n)) same) ∙ table_part (os n) n.cells (bare n) j a e) other)

  pub comes_into : (j : ℕ) (cell : Cell) → At n.cells j cell → cell.kind ≡ kind.Carry → dropped cell.outs ≡ false
      → carry_into (packed n) (home (fs n) j) ≡ Some (source_node (carry_input (p n).roots (input_origin (os n) (slice_index_or cell.ins 2 None))))
  comes_into j cell at is stays = by (Has_find test (packed n).carries (entry (os n) (homes (fs n)) (p n) j cell) there (eq-eqb (slice_index_or (homes (fs n)) j 0) (home (fs n) j) (home_is n j cell at)))
    where
      test : ℕ × CarryIn → Bool
      test x = x.0 == home (fs n) j

      there : Has (packed n).carries (entry (os n) (homes (fs n)) (p n) j cell)
      there = entry_there (os n) (homes (fs n)) (p n) 0 j j n.cells cell (omega arith) at is stays

      by : (y : ℕ × CarryIn) × (find test (packed n).carries ≡ Some y) → carry_into (packed n) (home (fs n) j) ≡ Some (source_node (carry_input (p n).roots (input_origin (os n) (slice_index_or cell.ins 2 None))))
      by found =
          let has = find_Has test (packed n).carries found.0 found.1 in
          let back = entry_back (os n) (homes (fs n)) (p n) 0 n.cells has.0.0 found.0 has.0.1 in
          let number : 0 + back.place ≡ back.place = omega arith in
          let mine : found.0.0 ≡ home (fs n) back.place = ap (λ (x : ℕ × CarryIn). x.0) back.same ∙ ap (λ m. slice_index_or (homes (fs n)) m 0) number ∙ home_is n back.place back.cell back.at in
          let place : back.place ≡ j = one_home back.place j (carry_part_at back.place back.cell back.at back.is back.stays) (carry_part_at j cell at is stays) (sym mine ∙ eqb-true found.0.0 (home (fs n) j) has.1) in
          let same : back.cell ≡ cell = At_same n.cells j back.cell cell (subst (λ m. At n.cells m back.cell) place back.at) at in
          let into : found.0.1 ≡ carry_input (p n).roots (input_origin (os n) (slice_index_or cell.ins 2 None)) =
          ap (λ (x : ℕ × CarryIn). x.1) back.same ∙ ap (λ (x : Cell). carry_input (p n).roots (input_origin (os n) (slice_index_or x.ins 2 None))) same in
          ap (λ (o : Option (ℕ × CarryIn)). node_or (option_map (λ (x : ℕ × CarryIn). source_node x.1) o) None) found.1 ∙ ap (λ into. Some (source_node into)) into

  -- ---- look-up tables
  pub table_part_at : (j : ℕ) (cell : Cell) → At n.cells j cell → is_table_kind cell.kind ≡ true → part (fs n) j ≡ Table
  table_part_at j cell at is = part_at j cell at ∙ table_kind_part (os n) cell.kind cell.ins cell.outs is

  table_open : (j : ℕ) (cell : Cell) → At n.cells j cell → is_table_kind cell.kind ≡ true → (k : ℕ) (signal : Option SignalNo) → At (ins_at n.cells j) k signal → Opened signal
  table_open j cell at is k signal there =
      input_open j cell k signal at
      (subst (λ (xs : List (Option SignalNo)). At xs k signal) (ap (λ (o : Option Cell). option_map_or (λ (x : Cell). x.ins) o []) at ∙ sym (table_reading cell.kind cell.ins cell.outs is)) there)
      (table_taker cell.kind j k is)

  role_at : (j : ℕ) (r : Role) → role (roles_of (os n) n.cells) j ≡ r → (Neither ≡ r → ⊥) → (cell : Cell) × At n.cells j cell × (role_by (os n) cell.kind cell.ins cell.outs ≡ r)
  role_at j r e other = by (slice_get n.cells j) refl (sym (role_is (os n) n.cells (bare n) j) ∙ e)
    where
      by : (o : Option Cell) → slice_get n.cells j ≡ o → option_map_or (λ (c : Cell). role_by (os n) c.kind c.ins c.outs) o Neither ≡ r → (cell : Cell) × At n.cells j cell × (role_by (os n) cell.kind cell.ins cell.outs ≡ r)
      by None f g = absurd (other g)
      by (Some cell) f g = (cell, f, g)

  pub ins_are : (j : ℕ) (cell : Cell) → At n.cells j cell → ins_at n.cells j ≡ cell.ins
  ins_are j cell at = ap (λ (o : Option Cell). option_map_or (λ (x : Cell). x.ins) o []) at

  pub shares_with : (j c : ℕ) → slice_index_or (fs n).luts c None ≡ Some j → SharesWith n (packed n) (p n) j c
  shares_with j c e =
      let t = taking (roles_of (os n) n.cells) c j (lut_taken (os n) n.cells (bare n) c j e) in
      let mine = role_at c (Takes t.pair) t.carry (λ z. cc z) in
      let table = role_at j (Gives t.pair) t.lut (λ z. cc z) in
      let is = part_carry_kind (os n) mine.0.kind mine.0.ins mine.0.outs (carry_by (os n) mine.0.kind mine.0.ins mine.0.outs t.pair mine.2) in
      let takes = takes_pair (os n) mine.0.kind mine.0.ins mine.0.outs t.pair mine.2 in
      let gives = gives_pair (os n) table.0.kind table.0.ins table.0.outs t.pair table.2 in
      record {
        cell = mine.0;
        carry = carry_cell c mine.0 mine.1 is.0 is.1;
        first = sym takes.0 ∙ gives.0 ∙ ap (λ (xs : List (Option SignalNo)). input_origin (os n) (slice_index_or xs 1 None)) (sym (ins_are j table.0 table.1));
        second = sym takes.1 ∙ gives.1 ∙ ap (λ (xs : List (Option SignalNo)). input_origin (os n) (slice_index_or xs 2 None)) (sym (ins_are j table.0 table.1));
      }

  pub may_share : (j : ℕ) → MayShareWith n (packed n) (p n) j (slice_index_or (carriers_of (fs n)) j None)
  may_share j = by (slice_index_or (carriers_of (fs n)) j None) refl
    where
      by : (o : Option ℕ) → slice_index_or (carriers_of (fs n)) j None ≡ o → MayShareWith n (packed n) (p n) j o
      by None e = tt
      by (Some c) e = shares_with j c (carrier_lut (os n) n.cells (bare n) j c e)

  pub has_table : (j : ℕ) (cell : Cell) → At n.cells j cell → is_table_kind cell.kind ≡ true → HasTable n (packed n) (p n) j
  has_table j cell at is = record {
    home = home (fs n) j;
    logic = cell_by (p n) n.cells j Table;
    at = own_at j Table (table_part_at j cell at is) refl (ap (anchor_by (fs n) j) (table_part_at j cell at is));
    root = root_is j cell at ∙ table_root (os n) (home (fs n) j) (0 + (rooted_at j cell at).before) cell.kind cell.ins cell.outs is;
    table = refl;
    unchained = refl;
    flop = refl;
    carrier = slice_index_or (carriers_of (fs n)) j None;
    shares = may_share j;
    ins = refl;
    opened = table_open j cell at is;
  }

  pub table_home : (j : ℕ) (cell : Cell) (at : At n.cells j cell) (is : is_table_kind cell.kind ≡ true) → (has_table j cell at is).home ≡ home (fs n) j
  unfolding has_table
  table_home j cell at is = refl
