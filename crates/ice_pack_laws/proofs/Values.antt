-- The nodes of a packed design have what the cells of its netlist make.
use Rattle.std.proofs.Common.{◌≡◌, ℕ, zero, suc, ◌+◌, ◌<◌, ◌≤◌, Bool, true, false, cond, Option, None, Some, List, [], ◌∷◌, length, map, refl, sym, ap, ◌∙◌, subst, arith}
use Rattle.std.specs.Prelude.{slice_get, slice_index_or, not, ◌&&◌, ◌==◌, is_none}
use Rattle.std.specs.Option.{option_map_or}
use Rattle.std.proofs.lemmas.Option.{same_Some}
use Rattle.ice_base.specs.declared.number.SignalNo.{SignalNo}
use Rattle.ice_base_values.specs.Arriving.{HasValue, HaveValues}
use Rattle.ice_base_values.specs.System.{reading, present}
use Rattle.ice_base_values.specs.Order.{At, Has, IsOrder}
use Rattle.ice_base_values.proofs.Arriving.{value_made}
use Rattle.ice_base_values.proofs.Members.{At_map}
use Rattle.ice_base_values.proofs.Places.{At_same}
use Rattle.ice_net.specs.declared.cell.Cell.{Cell}
use Rattle.ice_net.specs.declared.driver.SignalDriver.{SignalDriver}
use Rattle.ice_net.specs.declared.driver.SignalDriver.TheVariants.{Nothing, Output}
use Rattle.ice_net.specs.declared.driver.SignalDriver.TheVariants as driver
use Rattle.ice_net.specs.declared.kind.CellKind.{CellKind}
use Rattle.ice_net.specs.declared.kind.CellKind.TheVariants.{Lut, Cover, Carry, Flop, PadCell, Global}
use Rattle.ice_net.specs.declared.kind.Reset.{Reset}
use Rattle.ice_net.specs.Drivers.{numbers, pin_of, pin_by, place_of, is_signal, output_of, outputs, pad_signals, driver_of}
use Rattle.ice_net.specs.Formed.{IsFormed, IsFormedCell, IsFormedKind, IsBelow}
use Rattle.ice_net.specs.Kinds.{ins_count}
use Rattle.ice_net.specs.Meaning.{number_of, table_bit, majority, makes_by, reads, reads_by, cell_reads, signal_value, depends_on, pad_level}
use Rattle.ice_net.specs.NetlistData.{NetlistData}
use Rattle.ice_lut.specs.Tables.{overlaid}
use Rattle.ice_lut.proofs.TableLaws.{folded_gives}
use Rattle.ice_check.proofs.CellOrders.{output_from}
use Rattle.ice_cells.specs.declared.cell.Control.{Control}
use Rattle.ice_cells.specs.declared.cell.LogicCell.{LogicCell}
use Rattle.ice_cells.specs.declared.design.Design.{Design}
use Rattle.ice_cells.specs.declared.origin.Origin.{Origin}
use Rattle.ice_cells.specs.declared.origin.Origin.TheVariants.{Fixed, Pad, Made}
use Rattle.ice_cells.specs.declared.root.Root.{Root}
use Rattle.ice_cells.specs.declared.root.Root.TheVariants.{PadIn, CellOut, GlobalOut, CarryOut}
use Rattle.ice_cells.specs.Homes.{taker}
use Rattle.ice_cells.specs.Meaning.{input, cell_inputs, output_reads, carry_reads, node_reads, output_makes, node_makes, system_of}
use Rattle.ice_cells.specs.Nodes.{Node, Net, Level, net, source_node, carry_into}
use Rattle.ice_cells.specs.Origins.{is_alias, constant_of, is_table_kind, cell_aliases, aliases, cell_origin, origin_made, input_origin, input_level, level_of, origin}
use Rattle.ice_cells.specs.Packed.{PackPlan, four, table_at, table_by, lut_inputs, with_carry, ins_at, plain_sink, sink, origin_root, sink_root, constant_cell, carry_source, carry_input, flop_by, flop_of, pad_root}
use Rattle.ice_cells.specs.Uses.{dropped}
use Rattle.ice_pack_share.specs.Laws.{origin_level}
use Rattle.ice_pack_share.proofs.OriginSteps.{origin_meets}
use Rattle.ice_pack_share.proofs.LevelLaws.{level_of_origin}
use Rattle.ice_pack_laws.specs.IsPacked.{root_at, IsOpen, IsSunk, IsCarryCell, HasCarry, MayShareWith, HasTable, IsPacked}
use Rattle.ice_pack_laws.proofs.Inputs.{at_all, input_at, present_number, place_at, overlaid_one, read_at, table_gives}

-- the level that an SB_IO reads is that of the origin at its pin
abbrev pub ReadsPads : NetlistData → PackPlan → Type 0
ReadsPads n p = (j pin_type : ℕ) (pullup : Bool) (cell : Cell) → At n.cells j cell → cell.kind ≡ PadCell pin_type pullup
    → (k : ℕ) × (input_origin p.origins (slice_index_or cell.ins 0 None) ≡ Pad k) × ((levels : List Bool) → pad_level n.ports levels (slice_index_or cell.ins 0 None) ≡ slice_index_or levels k false)

-- flip-flops keep the same
abbrev pub KeepsSame : NetlistData → PackPlan → List Bool → List Bool → Type 0
KeepsSame n p kept new_kept = (j : ℕ) (cell : Cell) (falling enable : Bool) (reset : Reset) → At n.cells j cell → cell.kind ≡ Flop falling enable reset
    → (home : ℕ) → root_at p j ≡ Some (CellOut home) → slice_index_or new_kept home false ≡ slice_index_or kept j false

-- all that the values of a packed design follow from
pub record IsReady (n : NetlistData) (d : Design) (p : PackPlan) (order : List ℕ) : Type 0 where
  pub formed : IsFormed n
  pub sorted : IsOrder (length n.names) (depends_on n) order
  pub packed : IsPacked n d p
  pub pads : ReadsPads n p

level_known : (n : NetlistData) (levels kept : List Bool) (o : Origin) (b : Bool) → level_of o ≡ Some b → b ≡ origin_level n levels kept o
level_known n levels kept (Fixed c) b e = sym (same_Some c b e)
level_known n levels kept (Pad k) b e = cc e
level_known n levels kept (Made i) b e = cc e

there_is : (s : ℕ) (o : Option SignalNo) → is_signal s o ≡ true → is_none o ≡ false
there_is s None e = cc e
there_is s (Some x) e = refl

module _ (n : NetlistData) (d : Design) (p : PackPlan) (order : List ℕ) (ready : IsReady n d p order) (levels kept new_kept : List Bool) (same_kept : KeepsSame n p kept new_kept) where
  abbrev packed : IsPacked n d p
  packed = ready.packed

  abbrev pub HasD : Node → Bool → Type 0
  HasD node x = HasValue (system_of d levels new_kept) node x

  abbrev pub HaveD : List (Option Node) → List Bool → Type 0
  HaveD ps xs = HaveValues (system_of d levels new_kept) false ps xs

  abbrev sv : ℕ → Bool
  sv s = signal_value n levels kept s

  -- the level of an origin, and that at an input
  abbrev pub lv : Origin → Bool
  lv o = origin_level n levels kept o

  abbrev pub from : Option SignalNo → Origin
  from signal = input_origin p.origins signal

  abbrev pub lev : Option SignalNo → Bool
  lev signal = lv (from signal)

  pub made : (node : Node) (ps : List (Option Node)) (xs : List Bool) (x : Bool) → node_reads d node ≡ ps → HaveD ps xs → node_makes d levels new_kept node xs ≡ x → HasD node x
  made node ps xs x e all is = value_made (node_reads d) false (node_makes d levels new_kept) node xs x (subst (λ (qs : List (Option Node)). HaveD qs xs) (sym e) all) is

  -- ---- what is read at a root that may be missing
  abbrev pub ReadsAt : Bool → Option Root → Bool → Type 0
  ReadsAt bare None x = x ≡ bare
  ReadsAt bare (Some root) x = HasD (Net root) x

  -- the root of a cell's output has what the cell makes, where no flip-flop has the cell for itself
  abbrev pub Carries : Origin → Type 0
  Carries (Fixed level) = Unit {0}
  Carries (Pad k) = Unit {0}
  Carries (Made i) = taker p.facts i ≡ None → (root : Root) × (root_at p i ≡ Some root) × HasD (Net root) (lv (Made i))

  pub pad_value : (k : ℕ) → HasD (Net (PadIn k)) (slice_index_or levels k false)
  pad_value k = made (Net (PadIn k)) [] [] (slice_index_or levels k false) refl tt refl

  constant_gives : (level : Bool) → table_bit (cond level 65535 0) (number_of (false ∷ false ∷ false ∷ false ∷ [])) ≡ level
  constant_gives true = refl
  constant_gives false = refl

  pub constant_value : (c : ℕ) (level : Bool) → At d.cells c (constant_cell level) → HasD (Net (CellOut c)) level
  constant_value c level at =
      made (Net (CellOut c)) (None ∷ None ∷ None ∷ None ∷ []) (false ∷ false ∷ false ∷ false ∷ []) level
      (ap (λ o. option_map_or (λ (cell : LogicCell). output_reads cell.flop (cell_inputs d c cell)) o []) at)
      (refl, (refl, (refl, (refl, tt))))
      (ap (λ o. option_map_or (λ (cell : LogicCell). output_makes cell cell.flop (slice_index_or new_kept c false) (false ∷ false ∷ false ∷ false ∷ [])) o false) at ∙ constant_gives level)

  made_reads : (i : ℕ) → Carries (Made i) → taker p.facts i ≡ None → (bare : Bool) → ReadsAt bare (root_at p i) (lv (Made i))
  made_reads i claim opened bare = let c = claim opened in subst (λ (o : Option Root). ReadsAt bare o (lv (Made i))) (sym c.1) c.2

  pub sink_reads : (bare : Bool) (cell : ℕ) (o : Origin) → Carries o → IsOpen p o → (o ≡ Fixed (not bare) → HasD (Net (CellOut cell)) (not bare)) → ReadsAt bare (sink_root bare cell p.roots o) (lv o)
  sink_reads false cell (Fixed false) c opened other = refl
  sink_reads false cell (Fixed true) c opened other = other refl
  sink_reads true cell (Fixed false) c opened other = other refl
  sink_reads true cell (Fixed true) c opened other = refl
  sink_reads bare cell (Pad k) c opened other = pad_value k
  sink_reads bare cell (Made i) c opened other = made_reads i c (opened i refl) bare

  pub sunk : (signal : Option SignalNo) → IsSunk d p signal → Carries (from signal) → ReadsAt false (sink p signal) (lev signal)
  sunk signal is c = sink_reads false p.one (from signal) c is.opened (λ e. constant_value p.one true (is.one e))

  -- ---- an input of a look-up table: what it reads is right where it is not folded
  abbrev Input : Option Root → Option SignalNo → Type 0
  Input root signal = (x : Bool) × ReadsAt false root x × (input_level p.origins signal ≡ None → x ≡ lev signal)

  pub plain_reads : (o : Origin) → Carries o → IsOpen p o → (x : Bool) × ReadsAt false (origin_root p.roots o) x × (level_of o ≡ None → x ≡ lv o)
  plain_reads (Fixed b) c opened = (false, refl, λ e. cc e)
  plain_reads (Pad k) c opened = (slice_index_or levels k false, pad_value k, λ e. refl)
  plain_reads (Made i) c opened = (lv (Made i), made_reads i c (opened i refl) false, λ e. refl)

  pub plain_input : (signal : Option SignalNo) → Carries (from signal) → IsOpen p (from signal) → Input (plain_sink p signal) signal
  plain_input None c opened = (false, refl, λ e. refl)
  plain_input (Some s) c opened = plain_reads (slice_index_or p.origins s.0 (Fixed false)) c opened

  sink_input : (other signal : Option SignalNo) → IsSunk d p other → from other ≡ from signal → Carries (from signal) → Input (sink p other) signal
  sink_input other signal is same c = (lev other, sunk other is (subst Carries (sym same) c), λ e. ap lv same)

  pub put : (root : Option Root) (x : Bool) (ps : List (Option Node)) (xs : List Bool) → ReadsAt false root x → HaveD ps xs → HaveD (net root ∷ ps) (x ∷ xs)
  put None x ps xs here rest = (here, rest)
  put (Some root) x ps xs here rest = (here, rest)

  -- ---- a look-up table
  abbrev roots_four : List (Option Root) → List (Option Node)
  roots_four ins = net (slice_index_or ins 0 None) ∷ net (slice_index_or ins 1 None) ∷ net (slice_index_or ins 2 None) ∷ net (slice_index_or ins 3 None) ∷ []

  pub inputs_are : (c : ℕ) (logic : LogicCell) (ins : List (Option Root)) → logic.carry_to_in3 ≡ false → logic.ins ≡ ins → cell_inputs d c logic ≡ roots_four ins
  inputs_are c logic ins unchained e = ap (λ b. input logic 0 ∷ input logic 1 ∷ input logic 2 ∷ cond b (carry_into d c) (input logic 3) ∷ []) unchained ∙ ap roots_four e

  pub record TableReads (j : ℕ) (logic : LogicCell) (home : ℕ) : Type 0 where
    pub xs : List Bool
    pub have : HaveD (cell_inputs d home logic) xs
    pub gives : table_bit logic.table (number_of xs) ≡ lv (Made j)

  pub lv_made : (j : ℕ) (cell : Cell) → At n.cells j cell
      → lv (Made j) ≡ makes_by cell.kind (slice_index_or kept j false) (pad_level n.ports levels (pin_of cell)) (map (reading false sv) (cell_reads cell))
  lv_made j cell at =
      ap (λ (o : Option Cell). option_map_or (λ (c : Cell). makes_by c.kind (slice_index_or kept j false) (pad_level n.ports levels (pin_of c)) (map (reading false sv) (option_map_or (λ (x : Cell). cell_reads x) o []))) o false) at

  inputs_level : (ins : List (Option SignalNo)) → ((k : ℕ) (signal : Option SignalNo) → At ins k signal → IsBelow (length n.names) signal) → map (reading false sv) (numbers ins) ≡ map lev ins
  inputs_level [] below = refl
  inputs_level (None ∷ ins) below = ap (λ xs. false ∷ xs) (inputs_level ins (λ k s at. below (suc k) s at))
  inputs_level (Some s ∷ ins) below =
      let here : sv s.0 ≡ lev (Some s) = level_of_origin n order ready.sorted levels kept ready.formed s.0 (below 0 (Some s) refl) ∙ ap lv (sym (packed.origins s.0 (below 0 (Some s) refl))) in
      λ i. here i ∷ inputs_level ins (λ k t at. below (suc k) t at) i

  -- what an input reads in the netlist
  pub signal_level : (signal : Option SignalNo) → IsBelow (length n.names) signal → reading false (λ (s : SignalNo). sv s.0) signal ≡ lev signal
  signal_level None below = refl
  signal_level (Some s) below = level_of_origin n order ready.sorted levels kept ready.formed s.0 below ∙ ap lv (sym (packed.origins s.0 below))

  pub formed_at : (j : ℕ) (cell : Cell) → At n.cells j cell → IsFormedCell (length n.names) cell
  formed_at j cell at = at_all (IsFormedCell (length n.names)) n.cells j cell ready.formed.cells at

  pub below_at : (j : ℕ) (cell : Cell) → At n.cells j cell → (k : ℕ) (signal : Option SignalNo) → At cell.ins k signal → IsBelow (length n.names) signal
  below_at j cell at k signal there = at_all (IsBelow (length n.names)) cell.ins k signal (formed_at j cell at).ins_below there

  pub cell_levels : (j : ℕ) (cell : Cell) → At n.cells j cell → map (reading false sv) (numbers cell.ins) ≡ map lev cell.ins
  cell_levels j cell at = inputs_level cell.ins (below_at j cell at)

  narrow : (m : ℕ) (kind : CellKind) (ins outs : List (Option SignalNo)) → is_table_kind kind ≡ true → length ins ≡ ins_count kind → IsFormedKind m kind ins outs → length ins ≤ 4
  narrow m (Lut t) ins outs is e f = omega arith
  narrow m (Cover t width) ins outs is e f = let le = f.narrow in omega arith
  narrow m Carry ins outs is e f = cc is
  narrow m (Flop falling enable reset) ins outs is e f = cc is
  narrow m (PadCell pin_type pullup) ins outs is e f = cc is
  narrow m Global ins outs is e f = cc is

  table_reads_all : (kind : CellKind) (ins : List (Option SignalNo)) → is_table_kind kind ≡ true → reads_by kind ins ≡ ins
  table_reads_all (Lut t) ins is = refl
  table_reads_all (Cover t width) ins is = refl
  table_reads_all Carry ins is = refl
  table_reads_all (Flop falling enable reset) ins is = cc is
  table_reads_all (PadCell pin_type pullup) ins is = cc is
  table_reads_all Global ins is = refl

  -- what the table of a cell makes of the levels of its inputs
  pub table_makes : (j : ℕ) (cell : Cell) → At n.cells j cell → is_table_kind cell.kind ≡ true → table_bit (table_at n.cells j) (number_of (four lev (ins_at n.cells j))) ≡ lv (Made j)
  table_makes j cell at is =
      let formed = formed_at j cell at in
      ap (λ (o : Option Cell). table_bit (option_map_or (λ (c : Cell). table_by c.kind) o 0) (number_of (four lev (option_map_or (λ (c : Cell). c.ins) o [])))) at
      ∙ table_gives lev refl cell.kind cell.ins (slice_index_or kept j false) (pad_level n.ports levels (pin_of cell)) is formed.ins_long (narrow (length n.names) cell.kind cell.ins cell.outs is formed.ins_long formed.kind)
      ∙ sym (lv_made j cell at ∙ ap (λ xs. makes_by cell.kind (slice_index_or kept j false) (pad_level n.ports levels (pin_of cell)) xs)
      (ap (λ xs. map (reading false sv) (numbers xs)) (table_reads_all cell.kind cell.ins is) ∙ cell_levels j cell at))

  module _ (j : ℕ) (cell : Cell) (at : At n.cells j cell) (is : is_table_kind cell.kind ≡ true) (lower : (k : ℕ) → Carries (from (slice_index_or (ins_at n.cells j) k None))) where
    abbrev sig : ℕ → Option SignalNo
    sig k = slice_index_or (ins_at n.cells j) k None

    module _ (t : HasTable n d p j) where
      opened : (k : ℕ) → IsOpen p (from (sig k))
      opened k = input_at (λ signal. IsOpen p (from signal)) (λ i e. cc e) (ins_at n.cells j) t.opened k

      plain : (k : ℕ) → Input (plain_sink p (sig k)) (sig k)
      plain k = plain_input (sig k) (lower k) (opened k)

      folds : (r0 r1 r2 r3 : Option Root) → Input r0 (sig 0) → Input r1 (sig 1) → Input r2 (sig 2) → Input r3 (sig 3) → t.logic.ins ≡ r0 ∷ r1 ∷ r2 ∷ r3 ∷ [] → TableReads j t.logic t.home
      folds r0 r1 r2 r3 a b c e is_ins = record {
        xs = a.0 ∷ b.0 ∷ c.0 ∷ e.0 ∷ [];
        have =
            subst (λ (ps : List (Option Node)). HaveD ps (a.0 ∷ b.0 ∷ c.0 ∷ e.0 ∷ [])) (sym (inputs_are t.home t.logic (r0 ∷ r1 ∷ r2 ∷ r3 ∷ []) t.unchained is_ins))
            (put r0 a.0 (net r1 ∷ net r2 ∷ net r3 ∷ []) (b.0 ∷ c.0 ∷ e.0 ∷ []) a.1 (put r1 b.0 (net r2 ∷ net r3 ∷ []) (c.0 ∷ e.0 ∷ []) b.1 (put r2 c.0 (net r3 ∷ []) (e.0 ∷ []) c.1 (put r3 e.0 [] [] e.1 tt))));
        gives =
            ap (λ table. table_bit table (number_of (a.0 ∷ b.0 ∷ c.0 ∷ e.0 ∷ []))) t.table
            ∙ folded_gives (table_at n.cells j) (four (input_level p.origins) (ins_at n.cells j)) (a.0 ∷ b.0 ∷ c.0 ∷ e.0 ∷ []) refl refl
            ∙ ap (λ xs. table_bit (table_at n.cells j) (number_of xs))
            (one 0 a.0 _ _ _ a.2 (one 1 b.0 _ _ _ b.2 (one 2 c.0 _ _ _ c.2 (one 3 e.0 [] [] [] e.2 refl))))
            ∙ table_makes j cell at is;
      }
        where
          known : (signal : Option SignalNo) (b : Bool) → input_level p.origins signal ≡ Some b → b ≡ lev signal
          known None b f = cc f
          known (Some s) b f = level_known n levels kept (slice_index_or p.origins s.0 (Fixed false)) b f

          one : (k : ℕ) (x : Bool) (ls : List (Option Bool)) (xs ys : List Bool) → (input_level p.origins (sig k) ≡ None → x ≡ lev (sig k)) → overlaid ls xs ≡ ys
              → overlaid (input_level p.origins (sig k) ∷ ls) (x ∷ xs) ≡ lev (sig k) ∷ ys
          one k x ls xs ys free rest = overlaid_one (input_level p.origins (sig k)) x (lev (sig k)) ls xs ys free (known (sig k)) rest

      pub table_reads : TableReads j t.logic t.home
      table_reads = by t.carrier t.shares t.ins
        where
          by : (o : Option ℕ) → MayShareWith n d p j o → t.logic.ins ≡ with_carry p n.cells (lut_inputs p n.cells j) o → TableReads j t.logic t.home
          by None s e = folds (plain_sink p (sig 0)) (plain_sink p (sig 1)) (plain_sink p (sig 2)) (plain_sink p (sig 3)) (plain 0) (plain 1) (plain 2) (plain 3) e
          by (Some c) s e =
              let ins : ins_at n.cells c ≡ s.cell.ins = ap (λ (o : Option Cell). option_map_or (λ (x : Cell). x.ins) o []) s.carry.at in
              folds (plain_sink p (sig 0)) (sink p (slice_index_or s.cell.ins 0 None)) (sink p (slice_index_or s.cell.ins 1 None)) (plain_sink p (sig 3))
              (plain 0) (sink_input (slice_index_or s.cell.ins 0 None) (sig 1) s.carry.first s.first (lower 1)) (sink_input (slice_index_or s.cell.ins 1 None) (sig 2) s.carry.second s.second (lower 2)) (plain 3)
              (e ∙ ap (λ xs. plain_sink p (sig 0) ∷ sink p (slice_index_or xs 0 None) ∷ sink p (slice_index_or xs 1 None) ∷ plain_sink p (sig 3) ∷ []) ins)

  -- ---- what cells make
  any_input : (ins : List (Option SignalNo)) → ((k : ℕ) (signal : Option SignalNo) → At ins k signal → Carries (from signal)) → (k : ℕ) → Carries (from (slice_index_or ins k None))
  any_input ins lower k = input_at (λ signal. Carries (from signal)) tt ins lower k

  pub out_reads : (c : ℕ) (logic : LogicCell) (flop : Option (Control × Reset)) → At d.cells c logic → logic.flop ≡ flop → node_reads d (Net (CellOut c)) ≡ output_reads flop (cell_inputs d c logic)
  out_reads c logic flop at e = ap (λ o. option_map_or (λ (x : LogicCell). output_reads x.flop (cell_inputs d c x)) o []) at ∙ ap (λ f. output_reads f (cell_inputs d c logic)) e

  pub out_makes : (c : ℕ) (logic : LogicCell) (flop : Option (Control × Reset)) (xs : List Bool) → At d.cells c logic → logic.flop ≡ flop
      → node_makes d levels new_kept (Net (CellOut c)) xs ≡ output_makes logic flop (slice_index_or new_kept c false) xs
  out_makes c logic flop xs at e =
      ap (λ o. option_map_or (λ (x : LogicCell). output_makes x x.flop (slice_index_or new_kept c false) xs) o false) at ∙ ap (λ f. output_makes logic f (slice_index_or new_kept c false) xs) e

  pub table_there : (j : ℕ) (cell : Cell) → At n.cells j cell → is_table_kind cell.kind ≡ true → ((k : ℕ) (signal : Option SignalNo) → At cell.ins k signal → Carries (from signal))
      → (t : HasTable n d p j) → TableReads j t.logic t.home
  table_there j cell at is lower t =
      let ins : ins_at n.cells j ≡ cell.ins = ap (λ (o : Option Cell). option_map_or (λ (x : Cell). x.ins) o []) at in
      table_reads j cell at is (λ k. subst (λ (xs : List (Option SignalNo)). Carries (from (slice_index_or xs k None))) (sym ins) (any_input cell.ins lower k)) t

  table_claim : (j : ℕ) (cell : Cell) → At n.cells j cell → is_table_kind cell.kind ≡ true → ((k : ℕ) (signal : Option SignalNo) → At cell.ins k signal → Carries (from signal)) → Carries (Made j)
  table_claim j cell at is lower opened =
      let t = packed.tables j cell at is in
      let r = table_there j cell at is lower t in
      let none : t.logic.flop ≡ None = t.flop ∙ ap (flop_of p n.cells) opened in
      (CellOut t.home, t.root, made (Net (CellOut t.home)) (cell_inputs d t.home t.logic) r.xs (lv (Made j)) (out_reads t.home t.logic None t.at none) r.have (out_makes t.home t.logic None r.xs t.at none ∙ r.gives))

  flop_claim : (j : ℕ) (cell : Cell) (falling enable : Bool) (reset : Reset) → At n.cells j cell → cell.kind ≡ Flop falling enable reset → Carries (Made j)
  flop_claim j cell falling enable reset at e opened =
      let f = packed.flops j cell falling enable reset at e in
      let some : f.logic.flop ≡ flop_by p (Flop falling enable reset) cell.ins =
      f.flop ∙ ap (λ (o : Option Cell). option_map_or (λ (c : Cell). flop_by p c.kind c.ins) o None) at ∙ ap (λ (kind : CellKind). flop_by p kind cell.ins) e in
      let keeps : slice_index_or new_kept f.home false ≡ lv (Made j) =
      same_kept j cell falling enable reset at e f.home f.root
      ∙ sym (lv_made j cell at ∙ ap (λ (kind : CellKind). makes_by kind (slice_index_or kept j false) (pad_level n.ports levels (pin_of cell)) (map (reading false sv) (cell_reads cell))) e) in (
        CellOut f.home,
        f.root,
        made (Net (CellOut f.home)) [] [] (lv (Made j)) (out_reads f.home f.logic (flop_by p (Flop falling enable reset) cell.ins) f.at some) tt
            (out_makes f.home f.logic (flop_by p (Flop falling enable reset) cell.ins) [] f.at some ∙ keeps),
      )

  pin_claim : (j pin_type : ℕ) (pullup : Bool) (cell : Cell) → At n.cells j cell → cell.kind ≡ PadCell pin_type pullup → Carries (Made j)
  pin_claim j pin_type pullup cell at e opened =
      let pad = ready.pads j pin_type pullup cell at e in
      let value : slice_index_or levels pad.0 false ≡ lv (Made j) =
      sym (lv_made j cell at
      ∙ ap (λ (kind : CellKind). makes_by kind (slice_index_or kept j false) (pad_level n.ports levels (pin_by kind cell.ins)) (map (reading false sv) (cell_reads cell))) e ∙ pad.2 levels) in
      (PadIn pad.0, packed.pins j pin_type pullup cell at e ∙ ap pad_root pad.1, subst (λ x. HasD (Net (PadIn pad.0)) x) value (pad_value pad.0))

  global_claim : (j : ℕ) (cell : Cell) → At n.cells j cell → cell.kind ≡ Global → ((k : ℕ) (signal : Option SignalNo) → At cell.ins k signal → Carries (from signal)) → Carries (Made j)
  global_claim j cell at e lower opened =
      let g = packed.globals j cell at e in
      let value : lev (slice_index_or cell.ins 0 None) ≡ lv (Made j) =
      sym (lv_made j cell at
      ∙ ap (λ (kind : CellKind). makes_by kind (slice_index_or kept j false) (pad_level n.ports levels (pin_of cell)) (map (reading false sv) (numbers (reads_by kind cell.ins)))) e
      ∙ ap (λ xs. slice_index_or xs 0 false) (cell_levels j cell at) ∙ read_at lev refl cell.ins 0) in (
        GlobalOut g.1.0,
        g.1.1,
        made (Net (GlobalOut g.1.0)) (net (sink p (slice_index_or cell.ins 0 None)) ∷ []) (lev (slice_index_or cell.ins 0 None) ∷ []) (lv (Made j))
            (ap (λ o. option_map_or (λ root. net root ∷ []) o []) g.1.2)
            (put (sink p (slice_index_or cell.ins 0 None)) (lev (slice_index_or cell.ins 0 None)) [] [] (sunk (slice_index_or cell.ins 0 None) g.0 (any_input cell.ins lower 0)) tt)
            value,
      )

  level_value : (b : Bool) → HasD (Level b) b
  level_value b = made (Level b) [] [] b refl tt refl

  comes_in : (o : Origin) → Carries o → IsOpen p o → HasD (source_node (carry_input p.roots o)) (lv o)
  comes_in (Fixed b) c opened = level_value b
  comes_in (Pad k) c opened = pad_value k
  comes_in (Made i) c opened = let claim = c (opened i refl) in subst (λ (o : Option Root). HasD (source_node (carry_source o)) (lv (Made i))) (sym claim.1) claim.2

  pub carry_value : (j : ℕ) (cell : Cell) → IsCarryCell n d p j cell → (h : HasCarry n d p j cell) → ((k : ℕ) (signal : Option SignalNo) → At cell.ins k signal → Carries (from signal)) → HasD (Net (CarryOut h.home)) (lv (Made j))
  carry_value j cell is h lower =
      let reads_three : node_reads d (Net (CarryOut h.home)) ≡ net (sink p (slice_index_or cell.ins 0 None)) ∷ net (sink p (slice_index_or cell.ins 1 None)) ∷ Some (source_node (carry_input p.roots (from (slice_index_or cell.ins 2 None)))) ∷ [] =
      ap (λ o. option_map_or (carry_reads d h.home) o []) h.at ∙ ap (λ b. cond b (input h.logic 1 ∷ input h.logic 2 ∷ carry_into d h.home ∷ []) []) h.on ∙ (λ i. net (h.one i) ∷ net (h.two i) ∷ h.comes i ∷ []) in
      made (Net (CarryOut h.home)) (net (sink p (slice_index_or cell.ins 0 None)) ∷ net (sink p (slice_index_or cell.ins 1 None)) ∷ Some (source_node (carry_input p.roots (from (slice_index_or cell.ins 2 None)))) ∷ [])
      (lev (slice_index_or cell.ins 0 None) ∷ lev (slice_index_or cell.ins 1 None) ∷ lev (slice_index_or cell.ins 2 None) ∷ []) (lv (Made j)) reads_three
      (put (sink p (slice_index_or cell.ins 0 None)) (lev (slice_index_or cell.ins 0 None)) _ _ (sunk (slice_index_or cell.ins 0 None) is.first (any_input cell.ins lower 0))
      (put (sink p (slice_index_or cell.ins 1 None)) (lev (slice_index_or cell.ins 1 None)) _ _ (sunk (slice_index_or cell.ins 1 None) is.second (any_input cell.ins lower 1))
      (comes_in (from (slice_index_or cell.ins 2 None)) (any_input cell.ins lower 2) is.into, tt)))
      (sym (lv_made j cell is.at
      ∙ ap (λ (kind : CellKind). makes_by kind (slice_index_or kept j false) (pad_level n.ports levels (pin_of cell)) (map (reading false sv) (numbers (reads_by kind cell.ins)))) is.is
      ∙ ap (λ xs. majority (slice_index_or xs 0 false) (slice_index_or xs 1 false) (slice_index_or xs 2 false)) (cell_levels j cell is.at)
      ∙ (λ i. majority (read_at lev refl cell.ins 0 i) (read_at lev refl cell.ins 1 i) (read_at lev refl cell.ins 2 i))))

  carry_claim : (j : ℕ) (cell : Cell) → At n.cells j cell → cell.kind ≡ Carry → dropped cell.outs ≡ false → ((k : ℕ) (signal : Option SignalNo) → At cell.ins k signal → Carries (from signal)) → Carries (Made j)
  carry_claim j cell at e stays lower opened =
      let h = packed.carries j cell at e stays in
      (CarryOut h.1.home, h.1.root, carry_value j cell h.0 h.1 lower)

  cover_table : (t width : ℕ) → is_alias (Cover t width) ≡ false → constant_of (Cover t width) ≡ None → is_table_kind (Cover t width) ≡ true
  cover_table t width = by (width == 0) (is_alias (Cover t width)) (table_bit t 0)
    where
      by : (b a x : Bool) → a ≡ false → cond b (Some x) None ≡ None → (not b && not a) ≡ true
      by true a x e f = cc f
      by false true x e f = cc e
      by false false x e f = refl

  claim_at : (j : ℕ) (cell : Cell) → At n.cells j cell → is_alias cell.kind ≡ false → constant_of cell.kind ≡ None → dropped cell.outs ≡ false
      → ((k : ℕ) (signal : Option SignalNo) → At (reads_by cell.kind cell.ins) k signal → Carries (from signal)) → Carries (Made j)
  claim_at j cell at alias constant stays lower = by cell.kind refl
    where
      low : (kind : CellKind) → cell.kind ≡ kind → reads_by kind cell.ins ≡ cell.ins → (k : ℕ) (signal : Option SignalNo) → At cell.ins k signal → Carries (from signal)
      low kind e all k signal there = lower k signal (subst (λ (xs : List (Option SignalNo)). At xs k signal) (sym (ap (λ (x : CellKind). reads_by x cell.ins) e ∙ all)) there)

      by : (kind : CellKind) → cell.kind ≡ kind → Carries (Made j)
      by (Lut t) e = table_claim j cell at (ap is_table_kind e) (low (Lut t) e refl)
      by (Cover t width) e =
          table_claim j cell at (ap is_table_kind e ∙ cover_table t width (sym (ap is_alias e) ∙ alias) (sym (ap constant_of e) ∙ constant)) (low (Cover t width) e refl)
      by Carry e = carry_claim j cell at e stays (low Carry e refl)
      by (Flop falling enable reset) e = flop_claim j cell falling enable reset at e
      by (PadCell pin_type pullup) e = pin_claim j pin_type pullup cell at e
      by Global e = global_claim j cell at e (low Global e refl)

  -- ---- along the order of signals
  alias_reads_all : (kind : CellKind) (ins : List (Option SignalNo)) → is_alias kind ≡ true → reads_by kind ins ≡ ins
  alias_reads_all (Lut t) ins is = refl
  alias_reads_all (Cover t width) ins is = refl
  alias_reads_all Carry ins is = refl
  alias_reads_all (Flop falling enable reset) ins is = cc is
  alias_reads_all (PadCell pin_type pullup) ins is = cc is
  alias_reads_all Global ins is = refl

  first_claim : (ins : List (Option SignalNo)) → ((q : ℕ) → Has (present (numbers ins)) q → Carries (origin n q)) → Carries (slice_index_or (map (reading (Fixed false) (origin n)) (numbers ins)) 0 (Fixed false))
  first_claim [] all = tt
  first_claim (None ∷ ins) all = tt
  first_claim (Some q ∷ ins) all = all q.0 (0, refl)

  step : (s : ℕ) → s < length n.names → ((q : ℕ) → Has (depends_on n s) q → (q < length n.names) × Carries (origin n q)) → Carries (origin n s)
  step s lt earlier = subst Carries (sym (origin_meets n order ready.sorted s lt)) (by (driver_of n s) refl)
    where
      by : (dr : SignalDriver) → driver_of n s ≡ dr → Carries (origin_made n dr (map (reading (Fixed false) (origin n)) (aliases n dr)))
      by Nothing e = tt
      by (driver.Pad k) e = tt
      by (Output i) e = by_cell (slice_get n.cells i) refl
        where
          by_cell : (o : Option Cell) → slice_get n.cells i ≡ o → Carries (option_map_or (cell_origin i (map (reading (Fixed false) (origin n)) (option_map_or cell_aliases o []))) o (Fixed false))
          by_cell None at = tt
          by_cell (Some cell) at = by_alias (is_alias cell.kind) refl
            where
              dep : (q : ℕ) → Has (present (cell_reads cell)) q → Has (depends_on n s) q
              dep q has =
                  subst (λ (dr : SignalDriver). Has (present (reads n dr)) q) (sym e)
                  (subst (λ (o : Option Cell). Has (present (option_map_or (λ (c : Cell). cell_reads c) o [])) q) (sym at) has)

              lower : (k : ℕ) (signal : Option SignalNo) → At (reads_by cell.kind cell.ins) k signal → Carries (from signal)
              lower k None there = tt
              lower k (Some q) there =
                  let got = earlier q.0 (dep q.0 (present_number (reads_by cell.kind cell.ins) k q there)) in
                  subst Carries (sym (packed.origins q.0 got.0)) got.1

              stays : dropped cell.outs ≡ false
              stays =
                  let found = place_at s (outputs n) i (output_from (place_of s (pad_signals n)) (place_of s (outputs n)) i e) in
                  let same : output_of cell ≡ found.0 = At_same (outputs n) i (output_of cell) found.0 (At_map (λ (c : Cell). output_of c) n.cells i cell at) found.1 in
                  there_is s (output_of cell) (ap (is_signal s) same ∙ found.2)

              by_constant : is_alias cell.kind ≡ false → (o : Option Bool) → constant_of cell.kind ≡ o → Carries (option_map_or (λ b. Fixed b) o (Made i))
              by_constant f (Some b) g = tt
              by_constant f None g = claim_at i cell at f g stays lower

              by_alias : (b : Bool) → is_alias cell.kind ≡ b
                  → Carries (cond b (slice_index_or (map (reading (Fixed false) (origin n)) (cond b (numbers cell.ins) [])) 0 (Fixed false)) (option_map_or (λ b. Fixed b) (constant_of cell.kind) (Made i)))
              by_alias true f = first_claim cell.ins (λ q has. (earlier q (dep q (subst (λ (xs : List (Option SignalNo)). Has (present (numbers xs)) q) (sym (alias_reads_all cell.kind cell.ins f)) has))).1)
              by_alias false f = by_constant f (constant_of cell.kind) refl

  claims : (bound i s : ℕ) → i < bound → At order i s → Carries (origin n s)
  claims zero i s lt at = absurd (omega arith)
  claims (suc bound) i s lt at =
      step s (ready.sorted.within i s at)
      (λ q has. let before = ready.sorted.after i s q at has in
      (ready.sorted.within before.0 q before.2, claims bound before.0 q (let l : before.0 < i = before.1 in omega arith) before.2))

  pub input_claims : (signal : Option SignalNo) → IsBelow (length n.names) signal → Carries (from signal)
  input_claims None below = tt
  input_claims (Some s) below =
      let stands = ready.sorted.each s.0 below in
      subst Carries (sym (packed.origins s.0 below)) (claims (stands.0 + 1) stands.0 s.0 (omega arith) stands.1)

  pub cell_claims : (j : ℕ) (cell : Cell) → At n.cells j cell → (k : ℕ) (signal : Option SignalNo) → At cell.ins k signal → Carries (from signal)
  cell_claims j cell at k signal there = input_claims signal (below_at j cell at k signal there)
