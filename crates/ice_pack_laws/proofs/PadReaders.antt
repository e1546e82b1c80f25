-- What reads a pad in a netlist, and what reads it in the netlist's design before its runs.
use Rattle.std.proofs.Common.{◌≡◌, ℕ, zero, suc, ◌+◌, ◌<◌, ◌≤◌, Bool, true, false, cond, Option, None, Some, List, [], ◌∷◌, ◌++◌, length, map, inl, inr, refl, sym, ap, ◌∙◌, subst, arith, if◌then◌else◌, true≢false}
use Rattle.std.specs.Prelude.{slice_get, slice_index_or}
use Rattle.std.specs.List.{flat_map}
use Rattle.std.specs.Option.{option_map_or}
use Rattle.std.proofs.lemmas.Option.{same_Some}
use Rattle.ice_base.specs.declared.number.SignalNo.{SignalNo}
use Rattle.ice_base_values.specs.Order.{At, Has}
use Rattle.ice_base_values.proofs.Members.{At_left, At_right, At_parts, At_within, At_map, map_At, Has_all}
use Rattle.ice_net.specs.declared.cell.Cell.{Cell}
use Rattle.ice_net.specs.declared.kind.CellKind.{CellKind}
use Rattle.ice_net.specs.declared.kind.CellKind.TheVariants.{Lut, Cover, Carry, Flop, PadCell, Global}
use Rattle.ice_net.specs.declared.kind.Reset.{Reset}
use Rattle.ice_net.specs.declared.kind.Reset.TheVariants as reset
use Rattle.ice_net.specs.declared.port.Port.{Port}
use Rattle.ice_net.specs.declared.port.Way.{Way}
use Rattle.ice_net.specs.declared.port.Way.TheVariants.{Input, Output, Both}
use Rattle.ice_net.specs.Drivers.{buffer_at}
use Rattle.ice_net.specs.Uses.{pad_uses}
use Rattle.ice_net.specs.Formed.{IsFormed, IsFormedCell, IsFormedKind}
use Rattle.ice_net.specs.Kinds.{ins_count, enable_names, reset_names}
use Rattle.ice_net.specs.NetlistData.{NetlistData}
use Rattle.ice_cells.specs.declared.cell.Control.{Control}
use Rattle.ice_cells.specs.declared.cell.LogicCell.{LogicCell}
use Rattle.ice_cells.specs.declared.design.Design.{Design}
use Rattle.ice_cells.specs.declared.design.DesignPad.{DesignPad}
use Rattle.ice_cells.specs.declared.origin.Origin.{Origin}
use Rattle.ice_cells.specs.declared.origin.Origin.TheVariants.{Fixed, Pad, Made}
use Rattle.ice_cells.specs.declared.root.CarryIn.{CarryIn}
use Rattle.ice_cells.specs.declared.root.Root.{Root}
use Rattle.ice_cells.specs.declared.root.Root.TheVariants.{PadIn}
use Rattle.ice_cells.specs.declared.share.Part.{Part}
use Rattle.ice_cells.specs.declared.share.Part.TheVariants as part_is
use Rattle.ice_cells.specs.Homes.{part, anchor, homes}
use Rattle.ice_cells.specs.Origins.{is_table_kind, input_origin, origins}
use Rattle.ice_cells.specs.Packed.{bare_drive, plain_sink, sink, enable_sink, origin_root, flop_by, flop_of, ins_at, four, lut_inputs, inputs_for, flop_for, carry_for, with_carry, no_inputs, cell_by, carry_input, carry_source, global_by, bare_pad, buffered_pad, pad_by, pads_from, unread_by, constant_cell, packed}
use Rattle.ice_cells.specs.Readings.{carry_root, control_roots, cell_roots, pad_roots, roots_read}
use Rattle.ice_cells.specs.Uses.{dropped}
use Rattle.ice_pack_share.proofs.HomeLaws.{carrier_lut, carry_part}
use Rattle.ice_pack_laws.specs.IsPacked.{IsBehind, HasFlop, MayShareWith, IsPacked}
use Rattle.ice_pack_laws.proofs.Found.{os, bare, fs, p, opened_back, entry, entry_there, entry_back, pad_there}
use Rattle.ice_pack_laws.proofs.Packs.{packed_is}
use Rattle.ice_pack_laws.proofs.Parts.{cell_of_part, ins_are, part_table_kind, part_carry_kind, part_flop_kind}
use Rattle.ice_pack_laws.proofs.PadRoots.{IsBufferOf, IsOfPad, plain_pad, pad_plain, sink_pad, pad_sink}

-- ---- what reads in a netlist
-- the inputs by which a cell reads in a logic cell or a global buffer
abbrev pub read_ins : CellKind → List (Option SignalNo) → List (Option SignalNo) → List (Option SignalNo)
read_ins (Lut t) ins outs = ins
read_ins (Cover t width) ins outs = if is_table_kind (Cover t width) then ins else []
read_ins Carry ins outs = if dropped outs then [] else ins
read_ins (Flop falling enable reset) ins outs = ins
read_ins (PadCell pin_type pullup) ins outs = []
read_ins Global ins outs = ins

-- the inputs of the pad of a port
abbrev pub bare_ins : Way → SignalNo → List (Option SignalNo)
bare_ins Input signal = []
bare_ins Output signal = Some signal ∷ []
bare_ins Both signal = []

abbrev pub kind_ins : Port → CellKind → List (Option SignalNo) → List (Option SignalNo)
kind_ins port (Lut t) ins = bare_ins port.way port.signal
kind_ins port (Cover t width) ins = bare_ins port.way port.signal
kind_ins port Carry ins = bare_ins port.way port.signal
kind_ins port (Flop falling enable reset) ins = bare_ins port.way port.signal
kind_ins port (PadCell pin_type pullup) ins = slice_index_or (pad_uses pin_type ins) 0 None ∷ slice_index_or (pad_uses pin_type ins) 1 None ∷ []
kind_ins port Global ins = bare_ins port.way port.signal

abbrev pub cell_ins : Port → Option Cell → List (Option SignalNo)
cell_ins port cell = option_map_or (λ (cell : Cell). kind_ins port cell.kind cell.ins) cell (bare_ins port.way port.signal)

abbrev pub pad_ins : List Cell → Port → Option ℕ → List (Option SignalNo)
pad_ins cells port None = bare_ins port.way port.signal
pad_ins cells port (Some i) = cell_ins port (slice_get cells i)

-- an input reads pad k
abbrev pub IsAtPad : NetlistData → ℕ → Option SignalNo → Type 0
IsAtPad n k input = IsOfPad (origins n) n.cells k (input_origin (origins n) input)

-- an input of a cell or of a port's pad does
pub data ReadsPad (n : NetlistData) (k : ℕ) : Type 0 where
  by_cell : (j : ℕ) (cell : Cell) (i : ℕ) (input : Option SignalNo) → At n.cells j cell → At (read_ins cell.kind cell.ins cell.outs) i input → IsAtPad n k input → ReadsPad n k
  by_port : (q : ℕ) (port : Port) (i : ℕ) (input : Option SignalNo) → At n.ports q port → At (pad_ins n.cells port (buffer_at n.cells port.signal.0)) i input → IsAtPad n k input → ReadsPad n k

abbrev root_of : ℕ → Option Root
root_of k = Some (PadIn k)

-- ---- lists
pub flat_back : {X Y : Type 0} (f : X → List Y) (xs : List X) (i : ℕ) (y : Y) → At (flat_map f xs) i y → (c : ℕ) × (x : X) × Has (f x) y × At xs c x
flat_back f [] i y at = cc at
flat_back f (x ∷ xs) i y at = elim (At_parts (f x) (flat_map f xs) i y at) [
  | inl here ↦ (0, x, (i, here), refl)
  | inr later ↦ (let rest = flat_back f xs later.0 y later.2 in (suc rest.0, rest.1, rest.2, rest.3))
]

flat_there : {X Y : Type 0} (f : X → List Y) (xs : List X) (c : ℕ) (x : X) (i : ℕ) (y : Y) → At xs c x → At (f x) i y → Has (flat_map f xs) y
flat_there f [] c x i y at there = cc at
flat_there f (z ∷ xs) zero x i y at there =
    let here : At (f z) i y = subst (λ w. At (f w) i y) (sym (same_Some z x at)) there in
    (i, At_left (f z) (flat_map f xs) i y here)
flat_there f (z ∷ xs) (suc c) x i y at there =
    let rest = flat_there f xs c x i y at there in
    (length (f z) + rest.0, At_right (f z) (flat_map f xs) rest.0 y rest.1)

pub read_at : {X : Type 0} (xs : List X) (i : ℕ) (x d : X) → At xs i x → slice_index_or xs i d ≡ x
read_at [] i x d at = cc at
read_at (y ∷ xs) zero x d at = same_Some y x at
read_at (y ∷ xs) (suc i) x d at = read_at xs i x d at

input_there : (ins : List (Option SignalNo)) (i : ℕ) → (slice_index_or ins i None ≡ None → ⊥) → At ins i (slice_index_or ins i None)
input_there [] i some = absurd (some refl)
input_there (x ∷ ins) zero some = refl
input_there (x ∷ ins) (suc i) some = input_there ins i some

-- ---- from the design to the netlist
module _ (n : NetlistData) (k : ℕ) where
  there_is : (input : Option SignalNo) → IsAtPad n k input → input ≡ None → ⊥
  there_is input has e = subst (IsAtPad n k) e has

  found : (j : ℕ) (cell : Cell) → At n.cells j cell → read_ins cell.kind cell.ins cell.outs ≡ cell.ins → (i : ℕ) → IsAtPad n k (slice_index_or cell.ins i None) → ReadsPad n k
  found j cell at whole i has =
      by_cell j cell i (slice_index_or cell.ins i None) at
      (subst (λ (xs : List (Option SignalNo)). At xs i (slice_index_or cell.ins i None)) (sym whole) (input_there cell.ins i (there_is (slice_index_or cell.ins i None) has))) has

  table_whole : (kind : CellKind) (ins outs : List (Option SignalNo)) → is_table_kind kind ≡ true → read_ins kind ins outs ≡ ins
  table_whole (Lut t) ins outs is = refl
  table_whole (Cover t width) ins outs is = ap (λ b. cond b ins []) is
  table_whole Carry ins outs is = cc is
  table_whole (Flop falling enable reset) ins outs is = cc is
  table_whole (PadCell pin_type pullup) ins outs is = cc is
  table_whole Global ins outs is = cc is

  carry_whole : (kind : CellKind) (ins outs : List (Option SignalNo)) → kind ≡ Carry → dropped outs ≡ false → read_ins kind ins outs ≡ ins
  carry_whole kind ins outs is stays = ap (λ x. read_ins x ins outs) is ∙ ap (λ b. cond b [] ins) stays

  -- ---- cells
  table_found : (a i : ℕ) → part (fs n) a ≡ part_is.Table → plain_sink (p n) (slice_index_or (ins_at n.cells a) i None) ≡ (root_of k) → ReadsPad n k
  table_found a i is e =
      let cell = cell_of_part n a part_is.Table is (λ z. cc z) in
      let table = part_table_kind (os n) (cell.0).kind (cell.0).ins (cell.0).outs cell.2 in
      found a cell.0 cell.1 (table_whole (cell.0).kind (cell.0).ins (cell.0).outs table) i
      (plain_pad n k (input_origin (os n) (slice_index_or (cell.0).ins i None)) (ap (λ xs. plain_sink (p n) (slice_index_or xs i None)) (sym (ins_are n a cell.0 cell.1)) ∙ e))

  carry_found : (c i : ℕ) → part (fs n) c ≡ part_is.Carry → sink (p n) (slice_index_or (ins_at n.cells c) i None) ≡ (root_of k) → ReadsPad n k
  carry_found c i is e =
      let cell = cell_of_part n c part_is.Carry is (λ z. cc z) in
      let carry = part_carry_kind (os n) (cell.0).kind (cell.0).ins (cell.0).outs cell.2 in
      found c cell.0 cell.1 (carry_whole (cell.0).kind (cell.0).ins (cell.0).outs carry.0 carry.1) i
      (sink_pad n false (p n).one k (input_origin (os n) (slice_index_or (cell.0).ins i None)) (ap (λ xs. sink (p n) (slice_index_or xs i None)) (sym (ins_are n c cell.0 cell.1)) ∙ e))

  flop_found : (a i : ℕ) (taken : Option ℕ) → part (fs n) a ≡ part_is.Flop taken → plain_sink (p n) (slice_index_or (ins_at n.cells a) i None) ≡ (root_of k) → ReadsPad n k
  flop_found a i taken is e =
      let cell = cell_of_part n a (part_is.Flop taken) is (λ z. cc z) in
      let flop = part_flop_kind (os n) (cell.0).kind (cell.0).ins (cell.0).outs taken cell.2 in
      found a cell.0 cell.1 (ap (λ x. read_ins x (cell.0).ins (cell.0).outs) flop.3) i
      (plain_pad n k (input_origin (os n) (slice_index_or (cell.0).ins i None)) (ap (λ xs. plain_sink (p n) (slice_index_or xs i None)) (sym (ins_are n a cell.0 cell.1)) ∙ e))

  four_found : (a : ℕ) → part (fs n) a ≡ part_is.Table → (i : ℕ) → slice_index_or (four (plain_sink (p n)) (ins_at n.cells a)) i None ≡ (root_of k) → ReadsPad n k
  four_found a is zero e = table_found a 0 is e
  four_found a is (suc zero) e = table_found a 1 is e
  four_found a is (suc (suc zero)) e = table_found a 2 is e
  four_found a is (suc (suc (suc zero))) e = table_found a 3 is e
  four_found a is (suc (suc (suc (suc i)))) e = cc e

  nothing_found : (i : ℕ) → slice_index_or no_inputs i None ≡ (root_of k) → ReadsPad n k
  nothing_found zero e = cc e
  nothing_found (suc zero) e = cc e
  nothing_found (suc (suc zero)) e = cc e
  nothing_found (suc (suc (suc zero))) e = cc e
  nothing_found (suc (suc (suc (suc i)))) e = cc e

  datum_found : (a : ℕ) (taken : Option ℕ) → part (fs n) a ≡ part_is.Flop taken → (i : ℕ) → slice_index_or (inputs_for (p n) n.cells a (part_is.Flop taken)) i None ≡ (root_of k) → ReadsPad n k
  datum_found a taken is zero e = flop_found a 1 taken is e
  datum_found a taken is (suc zero) e = cc e
  datum_found a taken is (suc (suc zero)) e = cc e
  datum_found a taken is (suc (suc (suc zero))) e = cc e
  datum_found a taken is (suc (suc (suc (suc i)))) e = cc e

  own_found : (a : ℕ) (x : Part) → part (fs n) a ≡ x → (i : ℕ) → slice_index_or (inputs_for (p n) n.cells a x) i None ≡ (root_of k) → ReadsPad n k
  own_found a part_is.Table is i e = four_found a is i e
  own_found a (part_is.Flop taken) is i e = datum_found a taken is i e
  own_found a part_is.Carry is i e = nothing_found i e
  own_found a part_is.Nothing is i e = nothing_found i e

  carrier_part : (a c : ℕ) (x : Part) → part (fs n) a ≡ x → carry_for (p n) a x ≡ Some c → part (fs n) c ≡ part_is.Carry
  carrier_part a c part_is.Table is e = carry_part (os n) n.cells (bare n) c a (carrier_lut (os n) n.cells (bare n) a c e)
  carrier_part a c (part_is.Flop taken) is e = cc e
  carrier_part a c part_is.Carry is e = ap (part (fs n)) (sym (same_Some a c e)) ∙ is
  carrier_part a c part_is.Nothing is e = cc e

  beside_found : (inputs : List (Option Root)) → ((i : ℕ) → slice_index_or inputs i None ≡ (root_of k) → ReadsPad n k) → (o : Option ℕ) → ((c : ℕ) → o ≡ Some c → part (fs n) c ≡ part_is.Carry)
      → (i : ℕ) → slice_index_or (with_carry (p n) n.cells inputs o) i None ≡ (root_of k) → ReadsPad n k
  beside_found inputs each None carry i e = each i e
  beside_found inputs each (Some c) carry zero e = each 0 e
  beside_found inputs each (Some c) carry (suc zero) e = carry_found c 0 (carry c refl) e
  beside_found inputs each (Some c) carry (suc (suc zero)) e = carry_found c 1 (carry c refl) e
  beside_found inputs each (Some c) carry (suc (suc (suc zero))) e = each 3 e
  beside_found inputs each (Some c) carry (suc (suc (suc (suc i)))) e = cc e

  -- ---- flip-flops
  enabled : (input : Option SignalNo) → enable_sink (p n) input ≡ (root_of k) → IsAtPad n k input
  enabled None e = cc e
  enabled (Some signal) e = sink_pad n true (p n).zero k (input_origin (os n) (Some signal)) e

  control_found : (j : ℕ) (cell : Cell) → At n.cells j cell → (kind : CellKind) → cell.kind ≡ kind → (i : ℕ) → At (control_roots (flop_by (p n) kind cell.ins)) i (root_of k) → ReadsPad n k
  control_found j cell at (Lut t) is i e = cc e
  control_found j cell at (Cover t width) is i e = cc e
  control_found j cell at Carry is i e = cc e
  control_found j cell at (Flop falling enable reset) is zero e =
      found j cell at (ap (λ x. read_ins x cell.ins cell.outs) is) 0 (plain_pad n k (input_origin (os n) (slice_index_or cell.ins 0 None)) (same_Some (plain_sink (p n) (slice_index_or cell.ins 0 None)) (root_of k) e))
  control_found j cell at (Flop falling true reset) is (suc zero) e =
      found j cell at (ap (λ x. read_ins x cell.ins cell.outs) is) 2 (enabled (slice_index_or cell.ins 2 None) (same_Some (enable_sink (p n) (slice_index_or cell.ins 2 None)) (root_of k) e))
  control_found j cell at (Flop falling false reset) is (suc zero) e = cc e
  control_found j cell at (Flop falling true reset) is (suc (suc zero)) e =
      found j cell at (ap (λ x. read_ins x cell.ins cell.outs) is) 3 (sink_pad n false (p n).one k (input_origin (os n) (slice_index_or cell.ins 3 None)) (same_Some (sink (p n) (slice_index_or cell.ins 3 None)) (root_of k) e))
  control_found j cell at (Flop falling false reset) is (suc (suc zero)) e =
      found j cell at (ap (λ x. read_ins x cell.ins cell.outs) is) 2 (sink_pad n false (p n).one k (input_origin (os n) (slice_index_or cell.ins 2 None)) (same_Some (sink (p n) (slice_index_or cell.ins 2 None)) (root_of k) e))
  control_found j cell at (Flop falling enable reset) is (suc (suc (suc i))) e = cc e
  control_found j cell at (PadCell pin_type pullup) is i e = cc e
  control_found j cell at Global is i e = cc e

  flops_found : (o : Option ℕ) (i : ℕ) → At (control_roots (flop_of (p n) n.cells o)) i (root_of k) → ReadsPad n k
  flops_found None i e = cc e
  flops_found (Some f) i e = by (slice_get n.cells f) refl e
    where
      by : (o : Option Cell) → slice_get n.cells f ≡ o → At (control_roots (option_map_or (λ (cell : Cell). flop_by (p n) cell.kind cell.ins) o None)) i (root_of k) → ReadsPad n k
      by None is e = cc e
      by (Some cell) is e = control_found f cell is cell.kind refl i e

  logic_found : (a : ℕ) (x : Part) → part (fs n) a ≡ x → (i : ℕ) → At (cell_roots (cell_by (p n) n.cells a x)) i (root_of k) → ReadsPad n k
  logic_found a x is i e = by i e
    where
      input : (i : ℕ) → slice_index_or (with_carry (p n) n.cells (inputs_for (p n) n.cells a x) (carry_for (p n) a x)) i None ≡ (root_of k) → ReadsPad n k
      input i e = beside_found (inputs_for (p n) n.cells a x) (λ i e. own_found a x is i e) (carry_for (p n) a x) (λ c e. carrier_part a c x is e) i e

      at_input : (i : ℕ) → Some (slice_index_or (with_carry (p n) n.cells (inputs_for (p n) n.cells a x) (carry_for (p n) a x)) i None) ≡ Some (root_of k) → ReadsPad n k
      at_input i e = input i (same_Some (slice_index_or (with_carry (p n) n.cells (inputs_for (p n) n.cells a x) (carry_for (p n) a x)) i None) (root_of k) e)

      by : (i : ℕ) → At (cell_roots (cell_by (p n) n.cells a x)) i (root_of k) → ReadsPad n k
      by zero e = at_input 0 e
      by (suc zero) e = at_input 1 e
      by (suc (suc zero)) e = at_input 2 e
      by (suc (suc (suc zero))) e = at_input 3 e
      by (suc (suc (suc (suc i)))) e = flops_found (flop_for (p n) a x) i e

  constant_found : (level : Bool) (i : ℕ) → At (cell_roots (constant_cell level)) i (root_of k) → ReadsPad n k
  constant_found level zero e = cc e
  constant_found level (suc zero) e = cc e
  constant_found level (suc (suc zero)) e = cc e
  constant_found level (suc (suc (suc zero))) e = cc e
  constant_found level (suc (suc (suc (suc i)))) e = cc e

  cell_found : (c : ℕ) (logic : LogicCell) → At (packed n).cells c logic → (i : ℕ) → At (cell_roots logic) i (root_of k) → ReadsPad n k
  cell_found c logic at i e = elim (opened_back n c logic at) [
    | inl opened ↦ logic_found (anchor (fs n) opened.number) (part (fs n) (anchor (fs n) opened.number)) refl i (subst (λ (x : LogicCell). At (cell_roots x) i (root_of k)) opened.is e)
    | inr fixed ↦ constant_found fixed.0 i (subst (λ (x : LogicCell). At (cell_roots x) i (root_of k)) fixed.1 e)
  ]

  -- ---- pads
  abbrev IsIn : List (Option SignalNo) → Type 0
  IsIn ins = (i : ℕ) × (input : Option SignalNo) × At ins i input × IsAtPad n k input

  sunk : (input : Option SignalNo) → Some (sink (p n) input) ≡ Some (root_of k) → IsAtPad n k input
  sunk input e = sink_pad n false (p n).one k (input_origin (os n) input) (same_Some (sink (p n) input) (root_of k) e)

  bare_found : (way : Way) (signal : SignalNo) (i : ℕ) → At (bare_drive (p n) way signal ∷ None ∷ []) i (root_of k) → IsIn (bare_ins way signal)
  bare_found Input signal zero e = cc e
  bare_found Output signal zero e = (0, Some signal, refl, sunk (Some signal) e)
  bare_found Both signal zero e = cc e
  bare_found way signal (suc zero) e = cc e
  bare_found way signal (suc (suc i)) e = cc e

  buffered_found : (m : ℕ) (port : Port) (kind : CellKind) (ins : List (Option SignalNo)) (i : ℕ) → At (pad_roots (buffered_pad (p n) m port ins kind)) i (root_of k) → IsIn (kind_ins port kind ins)
  buffered_found m port (Lut t) ins i e = bare_found port.way port.signal i e
  buffered_found m port (Cover t width) ins i e = bare_found port.way port.signal i e
  buffered_found m port Carry ins i e = bare_found port.way port.signal i e
  buffered_found m port (Flop falling enable reset) ins i e = bare_found port.way port.signal i e
  buffered_found m port (PadCell pin_type pullup) ins zero e = (0, slice_index_or (pad_uses pin_type ins) 0 None, refl, sunk (slice_index_or (pad_uses pin_type ins) 0 None) e)
  buffered_found m port (PadCell pin_type pullup) ins (suc zero) e = (1, slice_index_or (pad_uses pin_type ins) 1 None, refl, sunk (slice_index_or (pad_uses pin_type ins) 1 None) e)
  buffered_found m port (PadCell pin_type pullup) ins (suc (suc i)) e = cc e
  buffered_found m port Global ins i e = bare_found port.way port.signal i e

  pad_found : (m : ℕ) (port : Port) (o : Option ℕ) (i : ℕ) → At (pad_roots (pad_by (p n) n.cells m port o)) i (root_of k) → IsIn (pad_ins n.cells port o)
  pad_found m port None i e = bare_found port.way port.signal i e
  pad_found m port (Some q) i e = by (slice_get n.cells q) e
    where
      by : (o : Option Cell) → At (pad_roots (option_map_or (λ (cell : Cell). buffered_pad (p n) m port cell.ins cell.kind) o (bare_pad (p n) m port))) i (root_of k) → IsIn (cell_ins port o)
      by None e = bare_found port.way port.signal i e
      by (Some cell) e = buffered_found m port cell.kind cell.ins i e

  pads_found : (m : ℕ) (ports : List Port) (q : ℕ) (pad : DesignPad) → At (pads_from (p n) n.cells m ports) q pad → (i : ℕ) → At (pad_roots pad) i (root_of k)
      → (port : Port) × IsIn (pad_ins n.cells port (buffer_at n.cells port.signal.0)) × At ports q port
  pads_found m [] q pad at i e = cc at
  pads_found m (port ∷ ports) zero pad at i e = (
    port,
    pad_found m port (buffer_at n.cells port.signal.0) i
        (subst (λ (x : DesignPad). At (pad_roots x) i (root_of k)) (sym (same_Some (pad_by (p n) n.cells m port (buffer_at n.cells port.signal.0)) pad at)) e),
    refl,
  )
  pads_found m (port ∷ ports) (suc q) pad at i e = pads_found (m + 1) ports q pad at i e

  -- ---- global buffers and carries
  global_found : (j : ℕ) (cell : Cell) → At n.cells j cell → (kind : CellKind) → cell.kind ≡ kind → (i : ℕ) → At (global_by (p n) kind cell.ins) i (root_of k) → ReadsPad n k
  global_found j cell at (Lut t) is i e = cc e
  global_found j cell at (Cover t width) is i e = cc e
  global_found j cell at Carry is i e = cc e
  global_found j cell at (Flop falling enable reset) is i e = cc e
  global_found j cell at (PadCell pin_type pullup) is i e = cc e
  global_found j cell at Global is zero e = found j cell at (ap (λ x. read_ins x cell.ins cell.outs) is) 0 (sunk (slice_index_or cell.ins 0 None) e)
  global_found j cell at Global is (suc i) e = cc e

  into : (h : ℕ) (o : Origin) → carry_root (h, carry_input (p n).roots o) ≡ (root_of k) → origin_root (p n).roots o ≡ (root_of k)
  into h (Fixed level) e = cc e
  into h (Pad j) e = e
  into h (Made j) e = by (slice_index_or (p n).roots j None) e
    where
      by : (o : Option Root) → carry_root (h, carry_source o) ≡ (root_of k) → o ≡ (root_of k)
      by None e = cc e
      by (Some r) e = e

  into_found : (c : ℕ) (x : ℕ × CarryIn) → At (packed n).carries c x → carry_root x ≡ (root_of k) → ReadsPad n k
  into_found c x at e =
      let back = entry_back (os n) (homes (fs n)) (p n) 0 n.cells c x at in
      found back.place back.cell back.at (carry_whole back.cell.kind back.cell.ins back.cell.outs back.is back.stays) 2
      (plain_pad n k (input_origin (os n) (slice_index_or back.cell.ins 2 None))
      (into (slice_index_or (homes (fs n)) (0 + back.place) 0) (input_origin (os n) (slice_index_or back.cell.ins 2 None)) (sym (ap carry_root back.same) ∙ e)))

  -- ---- all of them
  abbrev unread : Design
  unread = unread_by n (p n)

  pub read_back : Has (roots_read unread) (root_of k) → ReadsPad n k
  read_back has = elim (At_parts ((map carry_root unread.carries ++ flat_map cell_roots unread.cells) ++ flat_map pad_roots unread.pads) unread.globals has.0 (root_of k) has.1) [
    | inr last ↦ (let back = flat_back (λ (cell : Cell). global_by (p n) cell.kind cell.ins) n.cells last.0 (root_of k) last.2 in global_found back.0 back.1 back.3 (back.1).kind refl back.2.0 back.2.1)
    | inl front ↦ elim (At_parts (map carry_root unread.carries ++ flat_map cell_roots unread.cells) (flat_map pad_roots unread.pads) has.0 (root_of k) front) [
      | inr pads ↦ (let back = flat_back pad_roots unread.pads pads.0 (root_of k) pads.2 in
          let port = pads_found 0 n.ports back.0 back.1 back.3 back.2.0 back.2.1 in
          by_port back.0 port.0 port.1.0 port.1.1 port.2 port.1.2 port.1.3)
      | inl first ↦ elim (At_parts (map carry_root unread.carries) (flat_map cell_roots unread.cells) has.0 (root_of k) first) [
        | inl carry ↦ (let back = map_At carry_root unread.carries has.0 (root_of k) carry in into_found has.0 back.0 back.1 back.2)
        | inr cell ↦ (let back = flat_back cell_roots unread.cells cell.0 (root_of k) cell.2 in cell_found back.0 back.1 back.3 back.2.0 back.2.1)
      ]
    ]
  ]

-- ---- from the netlist to the design
module _ (n : NetlistData) (k : ℕ) (formed : IsFormed n) where
  abbrev design : Design
  design = unread_by n (p n)

  abbrev packs : IsPacked n (packed n) (p n)
  packs = packed_is n formed

  abbrev IsRead : Type 0
  IsRead = Has (roots_read design) (root_of k)

  abbrev carries : List (Option Root)
  carries = map carry_root design.carries

  abbrev cells : List (Option Root)
  cells = flat_map cell_roots design.cells

  abbrev pads : List (Option Root)
  pads = flat_map pad_roots design.pads

  in_carries : Has carries (root_of k) → IsRead
  in_carries has = (has.0, At_left (carries ++ cells ++ pads) design.globals has.0 (root_of k) (At_left (carries ++ cells) pads has.0 (root_of k) (At_left carries cells has.0 (root_of k) has.1)))

  in_cells : (c : ℕ) (logic : LogicCell) → At (packed n).cells c logic → (i : ℕ) → At (cell_roots logic) i (root_of k) → IsRead
  in_cells c logic at i e =
      let has = flat_there cell_roots design.cells c logic i (root_of k) at e in
      (length carries + has.0, At_left (carries ++ cells ++ pads) design.globals (length carries + has.0) (root_of k) (At_left (carries ++ cells) pads (length carries + has.0) (root_of k) (At_right carries cells has.0 (root_of k) has.1)))

  in_pads : (q : ℕ) (pad : DesignPad) → At design.pads q pad → (i : ℕ) → At (pad_roots pad) i (root_of k) → IsRead
  in_pads q pad at i e =
      let has = flat_there pad_roots design.pads q pad i (root_of k) at e in
      (length (carries ++ cells) + has.0, At_left (carries ++ cells ++ pads) design.globals (length (carries ++ cells) + has.0) (root_of k) (At_right (carries ++ cells) pads has.0 (root_of k) has.1))

  in_globals : (g : ℕ) → At design.globals g (root_of k) → IsRead
  in_globals g at = (length (carries ++ cells ++ pads) + g, At_right (carries ++ cells ++ pads) design.globals g (root_of k) at)

  plain : (input : Option SignalNo) → IsAtPad n k input → plain_sink (p n) input ≡ (root_of k)
  plain input has = pad_plain n k (input_origin (os n) input) has

  sinks : (input : Option SignalNo) → IsAtPad n k input → sink (p n) input ≡ (root_of k)
  sinks input has = pad_sink n false (p n).one k (input_origin (os n) input) has

  -- an input by its place
  placed : (ins : List (Option SignalNo)) (i : ℕ) (input : Option SignalNo) → At ins i input → IsAtPad n k input → IsAtPad n k (slice_index_or ins i None)
  placed ins i input at has = subst (IsAtPad n k) (sym (read_at ins i input None at)) has

  formed_at : (j : ℕ) (cell : Cell) → At n.cells j cell → IsFormedCell (length n.names) cell
  formed_at j cell at = Has_all (IsFormedCell (length n.names)) n.cells cell formed.cells (j, at)

  -- the inputs of the logic cell at a design cell
  ins_read : (c : ℕ) (logic : LogicCell) → At (packed n).cells c logic → (i : ℕ) → i < 4 → slice_index_or logic.ins i None ≡ (root_of k) → IsRead
  ins_read c logic at zero lt e = in_cells c logic at 0 (ap Some e)
  ins_read c logic at (suc zero) lt e = in_cells c logic at 1 (ap Some e)
  ins_read c logic at (suc (suc zero)) lt e = in_cells c logic at 2 (ap Some e)
  ins_read c logic at (suc (suc (suc zero))) lt e = in_cells c logic at 3 (ap Some e)
  ins_read c logic at (suc (suc (suc (suc i)))) lt e = absurd (omega (arith, lt))

  -- ---- look-up tables
  shared : (c : ℕ) (cell : Cell) → At n.cells c cell → (i : ℕ) → IsAtPad n k (slice_index_or cell.ins i None) → sink (p n) (slice_index_or (ins_at n.cells c) i None) ≡ (root_of k)
  shared c cell at i has = ap (λ xs. sink (p n) (slice_index_or xs i None)) (ins_are n c cell at) ∙ sinks (slice_index_or cell.ins i None) has

  table_input : (j : ℕ) (o : Option ℕ) → MayShareWith n (packed n) (p n) j o → (i : ℕ) → i < 4 → IsAtPad n k (slice_index_or (ins_at n.cells j) i None)
      → slice_index_or (with_carry (p n) n.cells (lut_inputs (p n) n.cells j) o) i None ≡ (root_of k)
  table_input j None shares zero lt has = plain (slice_index_or (ins_at n.cells j) 0 None) has
  table_input j None shares (suc zero) lt has = plain (slice_index_or (ins_at n.cells j) 1 None) has
  table_input j None shares (suc (suc zero)) lt has = plain (slice_index_or (ins_at n.cells j) 2 None) has
  table_input j None shares (suc (suc (suc zero))) lt has = plain (slice_index_or (ins_at n.cells j) 3 None) has
  table_input j (Some c) shares zero lt has = plain (slice_index_or (ins_at n.cells j) 0 None) has
  table_input j (Some c) shares (suc zero) lt has = shared c shares.cell shares.carry.at 0 (subst (IsOfPad (os n) n.cells k) (sym shares.first) has)
  table_input j (Some c) shares (suc (suc zero)) lt has = shared c shares.cell shares.carry.at 1 (subst (IsOfPad (os n) n.cells k) (sym shares.second) has)
  table_input j (Some c) shares (suc (suc (suc zero))) lt has = plain (slice_index_or (ins_at n.cells j) 3 None) has
  table_input j o shares (suc (suc (suc (suc i)))) lt has = absurd (omega (arith, lt))

  table_read : (j : ℕ) (cell : Cell) → At n.cells j cell → is_table_kind cell.kind ≡ true → (i : ℕ) → i < 4 → IsAtPad n k (slice_index_or cell.ins i None) → IsRead
  table_read j cell at is i lt has =
      let table = packs.tables j cell at is in
      ins_read table.home table.logic table.at i lt
      (ap (λ xs. slice_index_or xs i None) table.ins
      ∙ table_input j table.carrier table.shares i lt (subst (λ (xs : List (Option SignalNo)). IsAtPad n k (slice_index_or xs i None)) (sym (ins_are n j cell at)) has))

  -- ---- carries
  carry_read : (j : ℕ) (cell : Cell) → At n.cells j cell → cell.kind ≡ Carry → dropped cell.outs ≡ false → (i : ℕ) → i < 3 → IsAtPad n k (slice_index_or cell.ins i None) → IsRead
  carry_read j cell at is stays zero lt has =
      let carry = (packs.carries j cell at is stays).1 in ins_read carry.home carry.logic carry.at 1 (omega arith) (carry.one ∙ sinks (slice_index_or cell.ins 0 None) has)
  carry_read j cell at is stays (suc zero) lt has =
      let carry = (packs.carries j cell at is stays).1 in ins_read carry.home carry.logic carry.at 2 (omega arith) (carry.two ∙ sinks (slice_index_or cell.ins 1 None) has)
  carry_read j cell at is stays (suc (suc zero)) lt has =
      let there = entry_there (os n) (homes (fs n)) (p n) 0 j j n.cells cell (omega arith) at is stays in
      in_carries (
        there.0,
        At_map carry_root design.carries there.0 (entry (os n) (homes (fs n)) (p n) j cell) there.1
            ∙ ap Some (into (slice_index_or (homes (fs n)) j 0) (input_origin (os n) (slice_index_or cell.ins 2 None)) (plain (slice_index_or cell.ins 2 None) has)),
      )
    where
      into : (h : ℕ) (o : Origin) → origin_root (p n).roots o ≡ (root_of k) → carry_root (h, carry_input (p n).roots o) ≡ (root_of k)
      into h (Fixed level) e = cc e
      into h (Pad i) e = e
      into h (Made i) e = ap (λ r. carry_root (h, carry_source r)) e
  carry_read j cell at is stays (suc (suc (suc i))) lt has = absurd (omega (arith, lt))

  -- ---- flip-flops
  flop_read : (j : ℕ) (cell : Cell) → At n.cells j cell → (falling enable : Bool) (kept : Reset) → cell.kind ≡ Flop falling enable kept
      → (i : ℕ) → At (control_roots (flop_by (p n) (Flop falling enable kept) cell.ins)) i (root_of k) → IsRead
  flop_read j cell at falling enable kept is i e =
      let flop = packs.flops j cell falling enable kept at is in
      let same : flop.logic.flop ≡ flop_by (p n) (Flop falling enable kept) cell.ins =
      flop.flop ∙ ap (λ o. option_map_or (λ (cell : Cell). flop_by (p n) cell.kind cell.ins) o None) at ∙ ap (λ kind. flop_by (p n) kind cell.ins) is in
      in_cells flop.home flop.logic flop.at (suc (suc (suc (suc i)))) (subst (λ (f : Option (Control × Reset)). At (control_roots f) i (root_of k)) (sym same) e)

  enables : (input : Option SignalNo) → IsAtPad n k input → enable_sink (p n) input ≡ (root_of k)
  enables None has = absurd has
  enables (Some signal) has = pad_sink n true (p n).zero k (input_origin (os n) (Some signal)) has

  differ : (kind : CellKind) (t : ℕ) (u : Bool) → is_table_kind kind ≡ true → kind ≡ PadCell t u → ⊥
  differ kind t u is e = true≢false (sym is ∙ ap is_table_kind e)

  taken : (input : Option SignalNo) (home : ℕ) → IsBehind n (packed n) (p n) input home → IsAtPad n k input → ⊥
  taken input home behind has =
      let through : IsBufferOf (os n) n.cells k behind.number = subst (IsOfPad (os n) n.cells k) behind.takes has in
      let same : behind.cell ≡ through.cell = same_Some behind.cell through.cell (sym behind.at ∙ through.at) in
      differ behind.cell.kind through.pin_type through.pullup behind.is (ap (λ (x : Cell). x.kind) same ∙ through.is)

  datum : (j : ℕ) (cell : Cell) → At n.cells j cell → (falling enable : Bool) (kept : Reset) → cell.kind ≡ Flop falling enable kept → IsAtPad n k (slice_index_or cell.ins 1 None) → IsRead
  datum j cell at falling enable kept is has = by (packs.flops j cell falling enable kept at is)
    where
      by : HasFlop n (packed n) (p n) j enable cell.ins → IsRead
      by flop = elim flop.datum [
        | inl alone ↦ ins_read flop.home flop.logic flop.at 0 (omega arith) (ap (λ xs. slice_index_or xs 0 None) alone.ins ∙ plain (slice_index_or cell.ins 1 None) has)
        | inr behind ↦ absurd (taken (slice_index_or cell.ins 1 None) flop.home behind has)
      ]

  resets_short : (kept : Reset) → length (reset_names kept) ≤ 1
  resets_short reset.Nothing = omega arith
  resets_short reset.SyncReset = omega arith
  resets_short reset.AsyncReset = omega arith
  resets_short reset.SyncSet = omega arith
  resets_short reset.AsyncSet = omega arith

  flop_input : (j : ℕ) (cell : Cell) → At n.cells j cell → (falling enable : Bool) (kept : Reset) → cell.kind ≡ Flop falling enable kept
      → (i : ℕ) → i < 2 + (length (enable_names enable) + length (reset_names kept)) → IsAtPad n k (slice_index_or cell.ins i None) → IsRead
  flop_input j cell at falling enable kept is zero lt has = flop_read j cell at falling enable kept is 0 (ap Some (plain (slice_index_or cell.ins 0 None) has))
  flop_input j cell at falling enable kept is (suc zero) lt has = datum j cell at falling enable kept is has
  flop_input j cell at falling true kept is (suc (suc zero)) lt has = flop_read j cell at falling true kept is 1 (ap Some (enables (slice_index_or cell.ins 2 None) has))
  flop_input j cell at falling false kept is (suc (suc zero)) lt has = flop_read j cell at falling false kept is 2 (ap Some (sinks (slice_index_or cell.ins 2 None) has))
  flop_input j cell at falling true kept is (suc (suc (suc zero))) lt has = flop_read j cell at falling true kept is 2 (ap Some (sinks (slice_index_or cell.ins 3 None) has))
  flop_input j cell at falling false kept is (suc (suc (suc zero))) lt has = let short = resets_short kept in absurd (omega (arith, lt, short))
  flop_input j cell at falling true kept is (suc (suc (suc (suc i)))) lt has = let short = resets_short kept in absurd (omega (arith, lt, short))
  flop_input j cell at falling false kept is (suc (suc (suc (suc i)))) lt has = let short = resets_short kept in absurd (omega (arith, lt, short))

  -- ---- cells
  long : (j : ℕ) (cell : Cell) → At n.cells j cell → (kind : CellKind) → cell.kind ≡ kind → (i : ℕ) (input : Option SignalNo) → At cell.ins i input → i < ins_count kind
  long j cell at kind is i input there =
      let lt = At_within cell.ins i input there in
      let count : length cell.ins ≡ ins_count kind = (formed_at j cell at).ins_long ∙ ap ins_count is in
      omega (arith, lt, count)

  narrow : (j : ℕ) (cell : Cell) → At n.cells j cell → (t width : ℕ) → cell.kind ≡ Cover t width → width ≤ 4
  narrow j cell at t width is = (subst (λ kind. IsFormedKind (length n.names) kind cell.ins cell.outs) is (formed_at j cell at).kind).narrow

  cell_read : (j : ℕ) (cell : Cell) → At n.cells j cell → (kind : CellKind) → cell.kind ≡ kind → (i : ℕ) (input : Option SignalNo) → At (read_ins kind cell.ins cell.outs) i input → IsAtPad n k input → IsRead
  cell_read j cell at (Lut t) is i input there has = table_read j cell at (ap is_table_kind is) i (long j cell at (Lut t) is i input there) (placed cell.ins i input there has)
  cell_read j cell at (Cover t width) is i input there has = by (is_table_kind (Cover t width)) refl there
    where
      by : (b : Bool) → is_table_kind (Cover t width) ≡ b → At (cond b cell.ins []) i input → IsRead
      by true e f =
          let lt = long j cell at (Cover t width) is i input f in
          let le = narrow j cell at t width is in
          table_read j cell at (ap is_table_kind is ∙ e) i (omega (arith, lt, le)) (placed cell.ins i input f has)
      by false e f = cc f
  cell_read j cell at Carry is i input there has = by (dropped cell.outs) refl there
    where
      by : (b : Bool) → dropped cell.outs ≡ b → At (cond b [] cell.ins) i input → IsRead
      by true e f = cc f
      by false e f = carry_read j cell at is e i (long j cell at Carry is i input f) (placed cell.ins i input f has)
  cell_read j cell at (Flop falling enable kept) is i input there has =
      flop_input j cell at falling enable kept is i (long j cell at (Flop falling enable kept) is i input there) (placed cell.ins i input there has)
  cell_read j cell at (PadCell pin_type pullup) is i input there has = cc there
  cell_read j cell at Global is zero input there has =
      let global = (packs.globals j cell at is).1 in
      in_globals global.0 (global.2 ∙ ap Some (sinks (slice_index_or cell.ins 0 None) (placed cell.ins 0 input there has)))
  cell_read j cell at Global is (suc i) input there has = let lt = long j cell at Global is (suc i) input there in absurd (omega (arith, lt))

  -- ---- pads
  abbrev IsOn : List (Option Root) → Type 0
  IsOn roots = (r : ℕ) × At roots r (root_of k)

  bare_read : (way : Way) (signal : SignalNo) (i : ℕ) (input : Option SignalNo) → At (bare_ins way signal) i input → IsAtPad n k input → IsOn (bare_drive (p n) way signal ∷ None ∷ [])
  bare_read Input signal i input there has = cc there
  bare_read Output signal zero input there has = (0, ap Some (sinks (Some signal) (subst (IsAtPad n k) (sym (same_Some (Some signal) input there)) has)))
  bare_read Output signal (suc i) input there has = cc there
  bare_read Both signal i input there has = cc there

  kind_read : (m : ℕ) (port : Port) (kind : CellKind) (ins : List (Option SignalNo)) (i : ℕ) (input : Option SignalNo) → At (kind_ins port kind ins) i input → IsAtPad n k input
      → IsOn (pad_roots (buffered_pad (p n) m port ins kind))
  kind_read m port (Lut t) ins i input there has = bare_read port.way port.signal i input there has
  kind_read m port (Cover t width) ins i input there has = bare_read port.way port.signal i input there has
  kind_read m port Carry ins i input there has = bare_read port.way port.signal i input there has
  kind_read m port (Flop falling enable kept) ins i input there has = bare_read port.way port.signal i input there has
  kind_read m port (PadCell pin_type pullup) ins zero input there has =
      (0, ap Some (sinks (slice_index_or (pad_uses pin_type ins) 0 None) (subst (IsAtPad n k) (sym (same_Some (slice_index_or (pad_uses pin_type ins) 0 None) input there)) has)))
  kind_read m port (PadCell pin_type pullup) ins (suc zero) input there has =
      (1, ap Some (sinks (slice_index_or (pad_uses pin_type ins) 1 None) (subst (IsAtPad n k) (sym (same_Some (slice_index_or (pad_uses pin_type ins) 1 None) input there)) has)))
  kind_read m port (PadCell pin_type pullup) ins (suc (suc i)) input there has = cc there
  kind_read m port Global ins i input there has = bare_read port.way port.signal i input there has

  pad_read : (m : ℕ) (port : Port) (o : Option ℕ) (i : ℕ) (input : Option SignalNo) → At (pad_ins n.cells port o) i input → IsAtPad n k input → IsOn (pad_roots (pad_by (p n) n.cells m port o))
  pad_read m port None i input there has = bare_read port.way port.signal i input there has
  pad_read m port (Some q) i input there has = by (slice_get n.cells q) there
    where
      by : (o : Option Cell) → At (cell_ins port o) i input → IsOn (pad_roots (option_map_or (λ (cell : Cell). buffered_pad (p n) m port cell.ins cell.kind) o (bare_pad (p n) m port)))
      by None e = bare_read port.way port.signal i input e has
      by (Some cell) e = kind_read m port cell.kind cell.ins i input e has

  -- ---- all of them
  pub read_there : ReadsPad n k → IsRead
  read_there (by_cell j cell i input at there has) = cell_read j cell at cell.kind refl i input there has
  read_there (by_port q port i input at there has) =
      let pad = pad_there (os n) (homes (fs n)) (p n) n.cells 0 q q n.ports port (omega arith) at in
      let on = pad_read q port (buffer_at n.cells port.signal.0) i input there has in
      in_pads q (pad_by (p n) n.cells q port (buffer_at n.cells port.signal.0)) pad on.0 on.1
