-- What reads a cell of the netlist, so that no flip-flop has it for itself.
use Rattle.std.proofs.Common.{◌≡◌, ℕ, zero, suc, ◌+◌, Option, None, Some, List, [], ◌∷◌, map, refl, sym, ap, ◌∙◌, subst, arith}
use Rattle.std.proofs.lemmas.Option.{same_Some}
use Rattle.ice_base.specs.declared.number.SignalNo.{SignalNo}
use Rattle.ice_base_values.specs.Order.{At, Has}
use Rattle.ice_base_values.proofs.Members.{At_map}
use Rattle.ice_base_values.proofs.Places.{At_same}
use Rattle.ice_base_values.proofs.ListPlaces.{Has_left, Has_right}
use Rattle.ice_net.specs.declared.cell.Cell.{Cell}
use Rattle.ice_net.specs.declared.kind.CellKind.{CellKind}
use Rattle.ice_net.specs.declared.port.Port.{Port}
use Rattle.ice_cells.specs.declared.origin.Origin.{Origin}
use Rattle.ice_cells.specs.declared.origin.Origin.TheVariants.{Made}
use Rattle.ice_cells.specs.declared.origin.Use.TheVariants.{Nobody}
use Rattle.ice_cells.specs.Homes.{facts_of}
use Rattle.ice_cells.specs.Homes as homes
use Rattle.ice_cells.specs.Origins.{input_origin}
use Rattle.ice_cells.specs.Uses.{Reading, taker, reading_ins, reads_from, cells_read, port_reading, readings}
use Rattle.ice_pack_share.proofs.UseLaws.{read_otherwise, taken_once, taken_other}
use Rattle.ice_pack_share.proofs.HomeLaws.{taker_use, taker_reads}

module _ (os : List Origin) where
  reads_there : (j : ℕ) (kind : CellKind) (place : ℕ) (ins : List (Option SignalNo)) (i q : ℕ) (input : Option SignalNo) → q ≡ place + i → At ins i input
      → At (reads_from os j kind place ins) i (input_origin os input, taker j kind q)
  reads_there j kind place [] i q input e at = cc at
  reads_there j kind place (x ∷ ins) zero q input e at =
      let same : x ≡ input = same_Some x input at in
      let here : place ≡ q = omega arith in
      ap Some (λ i. (input_origin os (same i), taker j kind (here i)))
  reads_there j kind place (x ∷ ins) (suc i) q input e at = reads_there j kind (place + 1) ins i q input (omega arith) at

  cell_there : (j k m : ℕ) (cells : List Cell) (cell : Cell) (r : Reading) → m ≡ j + k → At cells k cell → Has (reads_from os m cell.kind 0 (reading_ins cell.kind cell.ins cell.outs)) r → Has (cells_read os j cells) r
  cell_there j k m [] cell r e at has = cc at
  cell_there j zero m (x ∷ cells) cell r e at has =
      let same : cell ≡ x = sym (same_Some x cell at) in
      let here : m ≡ j = omega arith in
      Has_left (reads_from os j x.kind 0 (reading_ins x.kind x.ins x.outs)) (cells_read os (j + 1) cells) r
      (subst (λ (y : Cell). Has (reads_from os j y.kind 0 (reading_ins y.kind y.ins y.outs)) r) same (subst (λ h. Has (reads_from os h cell.kind 0 (reading_ins cell.kind cell.ins cell.outs)) r) here has))
  cell_there j (suc k) m (x ∷ cells) cell r e at has =
      Has_right (reads_from os j x.kind 0 (reading_ins x.kind x.ins x.outs)) (cells_read os (j + 1) cells) r (cell_there (j + 1) k m cells cell r (omega arith) at has)

  module _ (cells : List Cell) (bare : List Port) where
    -- an input of a cell is read
    pub read_cell : (j : ℕ) (cell : Cell) (i : ℕ) (input : Option SignalNo) → At cells j cell → At (reading_ins cell.kind cell.ins cell.outs) i input
        → Has (readings os cells bare) (input_origin os input, taker j cell.kind i)
    read_cell j cell i input at there =
        Has_left (cells_read os 0 cells) (map (port_reading os) bare) (input_origin os input, taker j cell.kind i)
        (cell_there 0 j j cells cell (input_origin os input, taker j cell.kind i) (omega arith) at
        (i, reads_there j cell.kind 0 (reading_ins cell.kind cell.ins cell.outs) i i input (omega arith) there))

    -- the signal of a port without an SB_IO is read
    pub read_port : (i : ℕ) (port : Port) → At bare i port → Has (readings os cells bare) (input_origin os (Some port.signal), None)
    read_port i port at = Has_right (cells_read os 0 cells) (map (port_reading os) bare) (input_origin os (Some port.signal), None) (i, At_map (port_reading os) bare i port at)

    -- no flip-flop has for itself what is read in another way
    pub opened : (o : Origin) → Has (readings os cells bare) (o, None) → (i : ℕ) → o ≡ Made i → homes.taker (facts_of os cells bare) i ≡ None
    opened o has i e = by (homes.taker (facts_of os cells bare) i) refl
      where
        by : (x : Option ℕ) → homes.taker (facts_of os cells bare) i ≡ x → x ≡ None
        by None f = refl
        by (Some g) f =
            absurd (taken_other g (sym (taker_use os cells bare i g f)
            ∙ read_otherwise i (readings os cells bare) Nobody has.0 (subst (λ (x : Origin). At (readings os cells bare) has.0 (x, None)) e has.1)))

    one_reading : (rs : List Reading) (a b : ℕ) (x y : Reading) → At rs a x → At rs b y → a ≡ b → x ≡ y
    one_reading rs a b x y at there e = At_same rs b x y (subst (λ k. At rs k x) e at) there

    -- a flip-flop that has a cell for itself is the one that takes it
    pub taken_by : (i f g : ℕ) → Has (readings os cells bare) (Made i, Some f) → homes.taker (facts_of os cells bare) i ≡ Some g → f ≡ g
    taken_by i f g has e =
        let other = taker_reads os cells bare i g e in
        let place : has.0 ≡ other.0 = taken_once i g (readings os cells bare) (taker_use os cells bare i g e) has.0 other.0 (Some f) (Some g) has.1 other.1 in
        same_Some f g (ap (λ (x : Reading). x.1) (one_reading (readings os cells bare) has.0 other.0 (Made i, Some f) (Made i, Some g) has.1 other.1 place))
