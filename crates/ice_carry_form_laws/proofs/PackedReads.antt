-- All that a packed design reads is of the design.
use Rattle.std.proofs.Common.{◌≡◌, ℕ, zero, suc, Bool, true, false, cond, Option, None, Some, List, [], ◌∷◌, ◌++◌, map, inl, inr, refl, sym, ap, ◌∙◌, subst}
use Rattle.std.specs.Prelude.{slice_get, slice_index_or, not, ◌||◌}
use Rattle.std.specs.List.{flat_map, list_any}
use Rattle.std.specs.Option.{option_map_or}
use Rattle.std.proofs.lemmas.Bool.{or_left, or_right}
use Rattle.std.proofs.lemmas.Option.{same_Some}
use Rattle.ice_base.specs.declared.number.SignalNo.{SignalNo}
use Rattle.ice_base_values.specs.Order.{At, Has}
use Rattle.ice_base_values.proofs.Members.{At_parts, map_At, Has_filter}
use Rattle.ice_net.specs.declared.cell.Cell.{Cell}
use Rattle.ice_net.specs.declared.kind.CellKind.{CellKind}
use Rattle.ice_net.specs.declared.kind.CellKind.TheVariants as kind
use Rattle.ice_net.specs.declared.kind.Reset.{Reset}
use Rattle.ice_net.specs.declared.port.Port.{Port}
use Rattle.ice_net.specs.declared.port.Way.{Way}
use Rattle.ice_net.specs.declared.port.Way.TheVariants.{Input, Output, Both}
use Rattle.ice_net.specs.NetlistData.{NetlistData}
use Rattle.ice_net.specs.Drivers.{is_there, buffer_at}
use Rattle.ice_net.specs.Uses.{pad_uses}
use Rattle.ice_cells.specs.declared.cell.LogicCell.{LogicCell}
use Rattle.ice_cells.specs.declared.design.Design.{Design}
use Rattle.ice_cells.specs.declared.design.DesignPad.{DesignPad}
use Rattle.ice_cells.specs.declared.root.Root.{Root}
use Rattle.ice_cells.specs.declared.share.Part.{Part}
use Rattle.ice_cells.specs.declared.share.Part.TheVariants.{Table, Flop, Carry, Nothing}
use Rattle.ice_cells.specs.Origins.{input_origin, origins}
use Rattle.ice_cells.specs.Readings.{carry_root, control_roots, cell_roots, pad_roots, roots_read}
use Rattle.ice_cells.specs.Uses.{is_bare_way, is_bare_output, bare_outputs}
use Rattle.ice_cells.specs.Homes.{Facts, part, anchor, homes, openers}
use Rattle.ice_cells.specs.Packed.{PackPlan, plan_of, packed, sink, enable_sink, plain_sink, enable_input, set_input, flop_by, flop_of, flop_for, ins_at, four, no_inputs, data_input, inputs_for, carry_for, with_carry, cell_by, constant_cell, has_level, reads_zero, reads_one, needs_zero, needs_one, bare_drive, bare_pad, buffered_pad, global_by}
use Rattle.ice_carry_chains.proofs.RunLists.{flat_back}
use Rattle.ice_carry_form_laws.proofs.Parts.{IsCarry, is_carry, lut_carry, carrier_lut}
use Rattle.ice_carry_form_laws.proofs.PackedCells.{CellAt, Opened, Constant, packed_at}
use Rattle.ice_carry_form_laws.proofs.PackedCarries.{given_at}
use Rattle.ice_carry_form_laws.proofs.PackedPads.{IsBuffer, PadAt, Bare, Buffered, packed_pad}
use Rattle.ice_carry_form_laws.proofs.PackedRoots.{IsThere, MayRead, none_read, plain_read, sink_read, enable_read, into_read, cell_zero, cell_one, port_needs}
use Rattle.ice_carry_form_laws.proofs.PadOrigins.{input_is}

module _ (n : NetlistData) where
  abbrev p : PackPlan
  p = plan_of n

  abbrev f : Facts
  f = p.facts

  abbrev d : Design
  d = packed n

  abbrev Needs : Bool → Type 0
  Needs b = b ≡ true → needs_one p.origins n.cells (bare_outputs n) ≡ true

  -- ---- carries
  carries_read : (i : ℕ) (o : Option Root) → At (map carry_root d.carries) i o → MayRead d o
  carries_read i o at =
      let back = map_At carry_root d.carries i o at in
      let g = given_at p (homes f) 0 n.cells i back.0 back.1 in
      let input : Option SignalNo = slice_index_or g.carry.cell.ins 2 None in
      subst (MayRead d) (sym (ap carry_root g.gives) ∙ back.2) (into_read n (slice_index_or (homes f) g.number 0) (input_origin p.origins input) (input_is n input))

  -- ---- the inputs of cells
  four_read : (ins : List (Option SignalNo)) (k : ℕ) → MayRead d (slice_index_or (four (plain_sink p) ins) k None)
  four_read ins zero = plain_read n (slice_index_or ins 0 None)
  four_read ins (suc zero) = plain_read n (slice_index_or ins 1 None)
  four_read ins (suc (suc zero)) = plain_read n (slice_index_or ins 2 None)
  four_read ins (suc (suc (suc zero))) = plain_read n (slice_index_or ins 3 None)
  four_read ins (suc (suc (suc (suc k)))) = none_read d

  nothing_read : (k : ℕ) → MayRead d (slice_index_or no_inputs k None)
  nothing_read zero = none_read d
  nothing_read (suc zero) = none_read d
  nothing_read (suc (suc zero)) = none_read d
  nothing_read (suc (suc (suc zero))) = none_read d
  nothing_read (suc (suc (suc (suc k)))) = none_read d

  datum_read : (a : ℕ) (taken : Option ℕ) (k : ℕ) → MayRead d (slice_index_or (inputs_for p n.cells a (Flop taken)) k None)
  datum_read a taken zero = plain_read n (data_input n.cells a)
  datum_read a taken (suc zero) = none_read d
  datum_read a taken (suc (suc zero)) = none_read d
  datum_read a taken (suc (suc (suc zero))) = none_read d
  datum_read a taken (suc (suc (suc (suc k)))) = none_read d

  inputs_read : (a : ℕ) (x : Part) (k : ℕ) → MayRead d (slice_index_or (inputs_for p n.cells a x) k None)
  inputs_read a Table k = four_read (ins_at n.cells a) k
  inputs_read a (Flop taken) k = datum_read a taken k
  inputs_read a Carry k = nothing_read k
  inputs_read a Nothing k = nothing_read k

  -- the carry of a cell is one of the netlist
  carry_of : (a c : ℕ) (x : Part) → part f a ≡ x → carry_for p a x ≡ Some c → IsCarry n.cells c
  carry_of a c Table is e = is_carry (origins n) n.cells (bare_outputs n) c (lut_carry (origins n) n.cells (bare_outputs n) c a (carrier_lut (origins n) n.cells (bare_outputs n) a c e))
  carry_of a c (Flop taken) is e = cc e
  carry_of a c Carry is e = is_carry (origins n) n.cells (bare_outputs n) c (ap (part f) (sym (same_Some a c e)) ∙ is)
  carry_of a c Nothing is e = cc e

  carry_ins : (c : ℕ) (r : IsCarry n.cells c) → ins_at n.cells c ≡ r.cell.ins
  carry_ins c r = ap (λ o. option_map_or (λ (cell : Cell). cell.ins) o []) r.at

  carry_needs : (c : ℕ) (r : IsCarry n.cells c) → Needs (has_level p.origins true (slice_index_or (ins_at n.cells c) 0 None) || has_level p.origins true (slice_index_or (ins_at n.cells c) 1 None))
  carry_needs c r e =
      cell_one n c r.cell r.at
      (ap (λ k. reads_one p.origins k r.cell.ins r.cell.outs) r.is
      ∙ ap (λ b. cond b false (has_level p.origins true (slice_index_or r.cell.ins 0 None) || has_level p.origins true (slice_index_or r.cell.ins 1 None))) r.stays
      ∙ ap (λ ins. has_level p.origins true (slice_index_or ins 0 None) || has_level p.origins true (slice_index_or ins 1 None)) (sym (carry_ins c r)) ∙ e)

  first_sink : (c : ℕ) → IsCarry n.cells c → MayRead d (sink p (slice_index_or (ins_at n.cells c) 0 None))
  first_sink c r = sink_read n (slice_index_or (ins_at n.cells c) 0 None)
      (λ e. carry_needs c r (or_left (has_level p.origins true (slice_index_or (ins_at n.cells c) 0 None)) (has_level p.origins true (slice_index_or (ins_at n.cells c) 1 None)) e))

  second_sink : (c : ℕ) → IsCarry n.cells c → MayRead d (sink p (slice_index_or (ins_at n.cells c) 1 None))
  second_sink c r = sink_read n (slice_index_or (ins_at n.cells c) 1 None)
      (λ e. carry_needs c r (or_right (has_level p.origins true (slice_index_or (ins_at n.cells c) 0 None)) (has_level p.origins true (slice_index_or (ins_at n.cells c) 1 None)) e))

  beside_read : (inputs : List (Option Root)) → ((k : ℕ) → MayRead d (slice_index_or inputs k None)) → (o : Option ℕ) → ((c : ℕ) → o ≡ Some c → IsCarry n.cells c)
      → (k : ℕ) → MayRead d (slice_index_or (with_carry p n.cells inputs o) k None)
  beside_read inputs each None carry k = each k
  beside_read inputs each (Some c) carry zero = each 0
  beside_read inputs each (Some c) carry (suc zero) = first_sink c (carry c refl)
  beside_read inputs each (Some c) carry (suc (suc zero)) = second_sink c (carry c refl)
  beside_read inputs each (Some c) carry (suc (suc (suc zero))) = each 3
  beside_read inputs each (Some c) carry (suc (suc (suc (suc k)))) = none_read d

  -- ---- flip-flops
  control_read : (enable falling : Bool) (reset : Reset) (ins : List (Option SignalNo)) → (has_level p.origins false (enable_input enable ins) ≡ true → needs_zero p.origins n.cells ≡ true)
      → Needs (has_level p.origins true (set_input enable ins)) → (i : ℕ) (o : Option Root) → At (control_roots (flop_by p (kind.Flop falling enable reset) ins)) i o → MayRead d o
  control_read enable falling reset ins low high zero o at = subst (MayRead d) (same_Some (plain_sink p (slice_index_or ins 0 None)) o at) (plain_read n (slice_index_or ins 0 None))
  control_read enable falling reset ins low high (suc zero) o at = subst (MayRead d) (same_Some (enable_sink p (enable_input enable ins)) o at) (enable_read n (enable_input enable ins) low)
  control_read enable falling reset ins low high (suc (suc zero)) o at = subst (MayRead d) (same_Some (sink p (set_input enable ins)) o at) (sink_read n (set_input enable ins) high)
  control_read enable falling reset ins low high (suc (suc (suc i))) o at = cc at

  kind_controls : (k : CellKind) (ins outs : List (Option SignalNo)) → (reads_zero p.origins k ins ≡ true → needs_zero p.origins n.cells ≡ true) → Needs (reads_one p.origins k ins outs)
      → (i : ℕ) (o : Option Root) → At (control_roots (flop_by p k ins)) i o → MayRead d o
  kind_controls (kind.Lut t) ins outs low high i o at = cc at
  kind_controls (kind.Cover t width) ins outs low high i o at = cc at
  kind_controls kind.Carry ins outs low high i o at = cc at
  kind_controls (kind.Flop falling enable reset) ins outs low high i o at = control_read enable falling reset ins low high i o at
  kind_controls (kind.PadCell pin_type pullup) ins outs low high i o at = cc at
  kind_controls kind.Global ins outs low high i o at = cc at

  flop_read : (m : Option ℕ) (i : ℕ) (o : Option Root) → At (control_roots (flop_of p n.cells m)) i o → MayRead d o
  flop_read None i o at = cc at
  flop_read (Some j) i o at = by (slice_get n.cells j) refl at
    where
      by : (x : Option Cell) → slice_get n.cells j ≡ x → At (control_roots (option_map_or (λ (cell : Cell). flop_by p cell.kind cell.ins) x None)) i o → MayRead d o
      by None is g = cc g
      by (Some cell) is g = kind_controls cell.kind cell.ins cell.outs (λ e. cell_zero n j cell is e) (λ e. cell_one n j cell is e) i o g

  -- ---- cells
  logic_read : (x : LogicCell) → ((k : ℕ) → MayRead d (slice_index_or x.ins k None)) → ((i : ℕ) (o : Option Root) → At (control_roots x.flop) i o → MayRead d o)
      → (i : ℕ) (o : Option Root) → At (cell_roots x) i o → MayRead d o
  logic_read x ins flop zero o at = subst (MayRead d) (same_Some (slice_index_or x.ins 0 None) o at) (ins 0)
  logic_read x ins flop (suc zero) o at = subst (MayRead d) (same_Some (slice_index_or x.ins 1 None) o at) (ins 1)
  logic_read x ins flop (suc (suc zero)) o at = subst (MayRead d) (same_Some (slice_index_or x.ins 2 None) o at) (ins 2)
  logic_read x ins flop (suc (suc (suc zero))) o at = subst (MayRead d) (same_Some (slice_index_or x.ins 3 None) o at) (ins 3)
  logic_read x ins flop (suc (suc (suc (suc i)))) o at = flop i o at

  none_controls : (i : ℕ) (o : Option Root) → At (control_roots None) i o → MayRead d o
  none_controls i o at = cc at

  cell_read : (c : ℕ) (x : LogicCell) → At d.cells c x → (i : ℕ) (o : Option Root) → At (cell_roots x) i o → MayRead d o
  cell_read c x at i o there = by (packed_at n c x at)
    where
      of_anchor : (a : ℕ) → cell_by p n.cells a (part f a) ≡ x → MayRead d o
      of_anchor a e =
          logic_read (cell_by p n.cells a (part f a))
          (beside_read (inputs_for p n.cells a (part f a)) (inputs_read a (part f a)) (carry_for p a (part f a)) (λ k is. carry_of a k (part f a) refl is))
          (flop_read (flop_for p a (part f a))) i o (subst (λ (y : LogicCell). At (cell_roots y) i o) (sym e) there)

      by : CellAt p n.cells (openers f) c x → MayRead d o
      by (Opened j opened e) = of_anchor (anchor f j) e
      by (Constant level e) = logic_read (constant_cell level) nothing_read none_controls i o (subst (λ (y : LogicCell). At (cell_roots y) i o) (sym e) there)

  cells_read : (i : ℕ) (o : Option Root) → At (flat_map cell_roots d.cells) i o → MayRead d o
  cells_read i o at = let one = flat_back cell_roots d.cells o (i, at) in cell_read one.row one.item one.at one.place o one.inside

  -- ---- pads
  -- what a pad is driven or enabled with is among what its SB_IO uses
  uses_need : (i : ℕ) (b : IsBuffer n.cells i) (k : ℕ) → Needs (has_level p.origins true (slice_index_or (pad_uses b.pin_type b.cell.ins) k None))
  uses_need i b k e =
      cell_one n i b.cell b.at (ap (λ x. reads_one p.origins x b.cell.ins b.cell.outs) b.is ∙ any (pad_uses b.pin_type b.cell.ins) k e)
    where
      any : (xs : List (Option SignalNo)) (k : ℕ) → has_level p.origins true (slice_index_or xs k None) ≡ true → list_any (has_level p.origins true) xs ≡ true
      any [] k e = cc e
      any (x ∷ xs) zero e = or_left (has_level p.origins true x) (list_any (has_level p.origins true) xs) e
      any (x ∷ xs) (suc k) e = or_right (has_level p.origins true x) (list_any (has_level p.origins true) xs) (any xs k e)

  bare_read : (port : Port) (place : ℕ) → At n.ports place port → buffer_at n.cells port.signal.0 ≡ None → (way : Way) → port.way ≡ way → MayRead d (bare_drive p way port.signal)
  bare_read port place at none Input is = none_read d
  bare_read port place at none Both is = none_read d
  bare_read port place at none Output is =
      let bare : is_bare_output n.cells port ≡ true = ap (λ w. is_bare_way w (is_there (buffer_at n.cells port.signal.0))) is ∙ ap (λ o. not (is_there o)) none in
      let has = Has_filter (is_bare_output n.cells) n.ports port (place, at) bare in
      sink_read n (Some port.signal) (λ e. port_needs n has.0 port has.1 e)

  base_read : (k : ℕ) (base : DesignPad) → PadAt p n.cells n.ports k k base → (i : ℕ) (o : Option Root) → At (pad_roots base) i o → MayRead d o
  base_read k base (Bare port at none e) i o there = by i (subst (λ (y : DesignPad). At (pad_roots y) i o) (sym e) there)
    where
      by : (i : ℕ) → At (pad_roots (bare_pad p k port)) i o → MayRead d o
      by zero g = subst (MayRead d) (same_Some (bare_drive p port.way port.signal) o g) (bare_read port k at none port.way refl)
      by (suc zero) g = subst (MayRead d) (let nothing : Option Root = None in same_Some nothing o g) (none_read d)
      by (suc (suc i)) g = cc g
  base_read k base (Buffered port i b at e) j o there = by j (subst (λ (y : DesignPad). At (pad_roots y) j o) (sym e) there)
    where
      by : (j : ℕ) → At (pad_roots (buffered_pad p k port b.cell.ins (kind.PadCell b.pin_type b.pullup))) j o → MayRead d o
      by zero g = subst (MayRead d) (same_Some (sink p (slice_index_or (pad_uses b.pin_type b.cell.ins) 0 None)) o g) (sink_read n (slice_index_or (pad_uses b.pin_type b.cell.ins) 0 None) (uses_need i b 0))
      by (suc zero) g = subst (MayRead d) (same_Some (sink p (slice_index_or (pad_uses b.pin_type b.cell.ins) 1 None)) o g) (sink_read n (slice_index_or (pad_uses b.pin_type b.cell.ins) 1 None) (uses_need i b 1))
      by (suc (suc j)) g = cc g

  pads_read : (i : ℕ) (o : Option Root) → At (flat_map pad_roots d.pads) i o → MayRead d o
  pads_read i o at =
      let one = flat_back pad_roots d.pads o (i, at) in
      let x = packed_pad n one.row one.item one.at in
      base_read one.row x.base x.pad one.place o (subst (λ (y : DesignPad). At (pad_roots y) one.place o) (sym x.is) one.inside)

  -- ---- global buffers
  global_read : (k : CellKind) (ins outs : List (Option SignalNo)) → Needs (reads_one p.origins k ins outs) → (i : ℕ) (o : Option Root) → At (global_by p k ins) i o → MayRead d o
  global_read (kind.Lut t) ins outs high i o at = cc at
  global_read (kind.Cover t width) ins outs high i o at = cc at
  global_read kind.Carry ins outs high i o at = cc at
  global_read (kind.Flop falling enable reset) ins outs high i o at = cc at
  global_read (kind.PadCell pin_type pullup) ins outs high i o at = cc at
  global_read kind.Global ins outs high zero o at = subst (MayRead d) (same_Some (sink p (slice_index_or ins 0 None)) o at) (sink_read n (slice_index_or ins 0 None) high)
  global_read kind.Global ins outs high (suc i) o at = cc at

  globals_read : (i : ℕ) (o : Option Root) → At d.globals i o → MayRead d o
  globals_read i o at =
      let one = flat_back (λ (cell : Cell). global_by p cell.kind cell.ins) n.cells o (i, at) in
      global_read one.item.kind one.item.ins one.item.outs (λ e. cell_one n one.row one.item one.at e) one.place o one.inside

  -- ---- all that is read
  each_read : (i : ℕ) (o : Option Root) → At (roots_read d) i o → MayRead d o
  each_read i o at = elim (At_parts (map carry_root d.carries ++ flat_map cell_roots d.cells ++ flat_map pad_roots d.pads) d.globals i o at) [
    | inr last ↦ globals_read last.0 o last.2
    | inl front ↦ elim (At_parts (map carry_root d.carries ++ flat_map cell_roots d.cells) (flat_map pad_roots d.pads) i o front) [
      | inr third ↦ pads_read third.0 o third.2
      | inl two ↦ elim (At_parts (map carry_root d.carries) (flat_map cell_roots d.cells) i o two) [
        | inr second ↦ cells_read second.0 o second.2
        | inl first ↦ carries_read i o first
      ]
    ]
  ]

  pub is_there_read : (r : Root) → Has (roots_read d) (Some r) → IsThere d r
  is_there_read r has = each_read has.0 (Some r) has.1 r refl
