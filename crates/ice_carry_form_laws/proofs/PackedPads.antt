-- The pads of a packed design: one for each port, as the port or its SB_IO says.
use Rattle.std.proofs.Common.{◌≡◌, ℕ, zero, suc, ◌+◌, ◌<◌, Bool, true, false, cond, Option, None, Some, List, [], ◌∷◌, ◌++◌, length, map, option_map, inl, inr, refl, sym, ap, ◌∙◌, subst, arith}
use Rattle.std.specs.Prelude.{not, ◌==◌}
use Rattle.std.specs.List.{flat_map, list_any}
use Rattle.std.specs.Option.{option_map_or}
use Rattle.std.proofs.lemmas.Bool.{eqb-true}
use Rattle.std.proofs.lemmas.List.{length-map}
use Rattle.std.proofs.lemmas.Option.{same_Some}
use Rattle.ice_base.specs.declared.number.SignalNo.{SignalNo}
use Rattle.ice_base_values.specs.Order.{At}
use Rattle.ice_base_values.proofs.Members.{map_At, At_within}
use Rattle.ice_net.specs.declared.cell.Cell.{Cell}
use Rattle.ice_net.specs.declared.kind.CellKind.{CellKind}
use Rattle.ice_net.specs.declared.kind.CellKind.TheVariants.{Lut, Cover, Carry, Flop, PadCell, Global}
use Rattle.ice_net.specs.declared.port.Port.{Port}
use Rattle.ice_net.specs.declared.port.Way.{Way}
use Rattle.ice_net.specs.declared.port.Way.TheVariants.{Input, Output, Both}
use Rattle.ice_net.specs.NetlistData.{NetlistData}
use Rattle.ice_net.specs.Drivers.{is_signal, place_of, pin_by, pin_of, buffer_at}
use Rattle.ice_net.specs.Drives.{output_type, enabled_type}
use Rattle.ice_net.specs.Uses.{is_type, input_type}
use Rattle.ice_check.specs.Faults.{first_number, cell_is, is_type_out}
use Rattle.ice_check.specs.Sound.{IsSound}
use Rattle.ice_cells.specs.declared.design.Design.{Design}
use Rattle.ice_cells.specs.declared.design.DesignPad.{DesignPad}
use Rattle.ice_cells.specs.declared.root.Root.{Root}
use Rattle.ice_cells.specs.declared.root.Root.TheVariants.{PadIn}
use Rattle.ice_cells.specs.Formed.{IsPad}
use Rattle.ice_cells.specs.Readings.{carry_root, cell_roots, pad_roots, is_read}
use Rattle.ice_cells.specs.Same.{same_source}
use Rattle.ice_cells.specs.Packed.{PackPlan, bare_pad, buffered_pad, pad_by, pads_from, plan_of, unread_by, read_pad, packed}

-- ---- buffers
place_back : (s : ℕ) (list : List (Option SignalNo)) (i : ℕ) → place_of s list ≡ Some i → (x : Option SignalNo) × At list i x × (is_signal s x ≡ true)
place_back s [] i e = cc e
place_back s (x ∷ list) i e = by (is_signal s x) refl (place_of s list) refl e (λ k g. place_back s list k g)
  where
    by : (b : Bool) → is_signal s x ≡ b → (o : Option ℕ) → place_of s list ≡ o → cond b (Some 0) (option_map suc o) ≡ Some i
        → ((k : ℕ) → place_of s list ≡ Some k → (y : Option SignalNo) × At list k y × (is_signal s y ≡ true)) → (y : Option SignalNo) × At (x ∷ list) i y × (is_signal s y ≡ true)
    by true is o known g more = subst (λ (k : ℕ). (y : Option SignalNo) × At (x ∷ list) k y × (is_signal s y ≡ true)) (same_Some 0 i g) (x, refl, is)
    by false is None known g more = cc g
    by false is (Some k) known g more =
        let there = more k known in
        subst (λ (j : ℕ). (y : Option SignalNo) × At (x ∷ list) j y × (is_signal s y ≡ true)) (same_Some (suc k) i g) (there.0, there.1, there.2)

-- the SB_IO at a place
pub record IsBuffer (cells : List Cell) (i : ℕ) : Type 0 where
  pub cell : Cell
  pub at : At cells i cell
  pub pin_type : ℕ
  pub pullup : Bool
  pub is : cell.kind ≡ PadCell pin_type pullup

pin_kind : (s : ℕ) (k : CellKind) (ins : List (Option SignalNo)) → is_signal s (pin_by k ins) ≡ true → (t : ℕ) × (u : Bool) × (k ≡ PadCell t u)
pin_kind s (Lut t) ins e = cc e
pin_kind s (Cover t width) ins e = cc e
pin_kind s Carry ins e = cc e
pin_kind s (Flop falling enable reset) ins e = cc e
pin_kind s (PadCell pin_type pullup) ins e = (pin_type, pullup, refl)
pin_kind s Global ins e = cc e

pub buffer_is : (cells : List Cell) (s i : ℕ) → buffer_at cells s ≡ Some i → IsBuffer cells i
buffer_is cells s i e =
    let back = place_back s (map pin_of cells) i e in
    let cell = map_At pin_of cells i back.0 back.1 in
    let kind = pin_kind s (cell.0).kind (cell.0).ins (ap (is_signal s) cell.2 ∙ back.2) in
    record { cell = cell.0; at = cell.1; pin_type = kind.0; pullup = kind.1; is = kind.2 }

-- ---- pads by place
-- the pad of a port without an SB_IO, or that of one with it
pub data PadAt (p : PackPlan) (cells : List Cell) (ports : List Port) (place k : ℕ) (pad : DesignPad) : Type 0 where
  Bare : (port : Port) → At ports place port → buffer_at cells port.signal.0 ≡ None → bare_pad p k port ≡ pad → PadAt p cells ports place k pad
  Buffered : (port : Port) (i : ℕ) (b : IsBuffer cells i) → At ports place port → buffered_pad p k port b.cell.ins (PadCell b.pin_type b.pullup) ≡ pad → PadAt p cells ports place k pad

first_pad : (p : PackPlan) (cells : List Cell) (ports : List Port) (k : ℕ) (port : Port) (o : Option ℕ) → buffer_at cells port.signal.0 ≡ o → PadAt p cells (port ∷ ports) 0 k (pad_by p cells k port o)
first_pad p cells ports k port None e = Bare port refl e refl
first_pad p cells ports k port (Some i) e =
    let b = buffer_is cells port.signal.0 i e in
    Buffered port i b refl
    (ap (buffered_pad p k port b.cell.ins) (sym b.is) ∙ sym (ap (λ o. option_map_or (λ (cell : Cell). buffered_pad p k port cell.ins cell.kind) o (bare_pad p k port)) b.at))

pad_later : (p : PackPlan) (cells : List Cell) (first : Port) (ports : List Port) (place k : ℕ) (pad : DesignPad) → PadAt p cells ports place k pad → PadAt p cells (first ∷ ports) (suc place) k pad
pad_later p cells first ports place k pad (Bare port at none e) = Bare port at none e
pad_later p cells first ports place k pad (Buffered port i b at e) = Buffered port i b at e

pub pad_at : (p : PackPlan) (cells : List Cell) (j : ℕ) (ports : List Port) (place : ℕ) (pad : DesignPad) → At (pads_from p cells j ports) place pad → PadAt p cells ports place (j + place) pad
pad_at p cells j [] place pad at = cc at
pad_at p cells j (port ∷ ports) zero pad at =
    subst (λ (k : ℕ). PadAt p cells (port ∷ ports) 0 k pad) (let z : j ≡ j + 0 = omega arith in z)
    (subst (λ (x : DesignPad). PadAt p cells (port ∷ ports) 0 j x) (same_Some (pad_by p cells j port (buffer_at cells port.signal.0)) pad at) (first_pad p cells ports j port (buffer_at cells port.signal.0) refl))
pad_at p cells j (port ∷ ports) (suc place) pad at =
    subst (λ (k : ℕ). PadAt p cells (port ∷ ports) (suc place) k pad) (let z : j + 1 + place ≡ j + suc place = omega arith in z)
    (pad_later p cells port ports place (j + 1 + place) pad (pad_at p cells (j + 1) ports place pad at))

pub pads_long : (p : PackPlan) (cells : List Cell) (j : ℕ) (ports : List Port) → length (pads_from p cells j ports) ≡ length ports
pads_long p cells j [] = refl
pads_long p cells j (port ∷ ports) = ap suc (pads_long p cells (j + 1) ports)

-- ---- marking pads that are read leaves what they read
roots_stay : (u : Design) (pads : List DesignPad) → flat_map pad_roots (map (read_pad u) pads) ≡ flat_map pad_roots pads
roots_stay u [] = refl
roots_stay u (pad ∷ pads) = ap (λ xs. pad.drive ∷ pad.enable ∷ xs) (roots_stay u pads)

module _ (n : NetlistData) where
  abbrev p : PackPlan
  p = plan_of n

  abbrev u : Design
  u = unread_by n p

  -- a pad before it is known whether it is read
  pub record IsPacked (k : ℕ) (marked : DesignPad) : Type 0 where
    pub base : DesignPad
    pub is : read_pad u base ≡ marked
    pub pad : PadAt p n.cells n.ports k k base

  pub packed_pad : (k : ℕ) (pad : DesignPad) → At (packed n).pads k pad → IsPacked k pad
  packed_pad k pad at =
      let back = map_At (read_pad u) u.pads k pad at in
      record { base = back.0; is = back.2; pad = subst (λ (j : ℕ). PadAt p n.cells n.ports k j back.0) (let z : 0 + k ≡ k = omega arith in z) (pad_at p n.cells 0 n.ports k back.0 back.1) }

  pub packed_long : length (packed n).pads ≡ length n.ports
  packed_long = length-map u.pads (read_pad u) ∙ pads_long p n.cells 0 n.ports

  -- ---- pads stand in the order of ports
  port_of : (k : ℕ) (base : DesignPad) → PadAt p n.cells n.ports k k base → base.port ≡ k
  port_of k base (Bare port at none e) = sym (ap (λ (x : DesignPad). x.port) e)
  port_of k base (Buffered port i b at e) = sym (ap (λ (x : DesignPad). x.port) e)

  pub ports_stand : (k : ℕ) (pad : DesignPad) → At (packed n).pads k pad → pad.port ≡ k
  ports_stand k pad at = let x = packed_pad k pad at in sym (ap (λ (y : DesignPad). y.port) x.is) ∙ port_of k x.base x.pad

  -- ---- and tell whether they are read
  reads_stay : (k : ℕ) → is_read u (PadIn k) ≡ is_read (packed n) (PadIn k)
  reads_stay k = ap (λ (xs : List (Option Root)). list_any (same_source (Some (PadIn k))) (map carry_root u.carries ++ flat_map cell_roots u.cells ++ xs ++ u.globals)) (sym (roots_stay u u.pads))

  pub reads_tell : (k : ℕ) (pad : DesignPad) → At (packed n).pads k pad → pad.reads ≡ is_read (packed n) (PadIn k)
  reads_tell k pad at =
      let x = packed_pad k pad at in
      sym (ap (λ (y : DesignPad). y.reads) x.is) ∙ ap (λ (j : ℕ). is_read u (PadIn j)) (port_of k x.base x.pad) ∙ reads_stay k

  -- ---- types
  none_passes : (test : ℕ → Bool) (k count i : ℕ) → first_number test k count ≡ None → i < count → test (k + i) ≡ false
  none_passes test k zero i e lt = absurd (omega (arith, lt))
  none_passes test k (suc more) i e lt = by (test k) refl e i lt (λ j g. none_passes test (k + 1) more j g)
    where
      by : (b : Bool) → test k ≡ b → cond b (Some k) (first_number test (k + 1) more) ≡ None → (i : ℕ) → i < suc more
          → ((j : ℕ) → first_number test (k + 1) more ≡ None → j < more → test (k + 1 + j) ≡ false) → test (k + i) ≡ false
      by true is g i lt rest = cc g
      by false is g zero lt rest = ap test (let z : k + 0 ≡ k = omega arith in z) ∙ is
      by false is g (suc j) lt rest = ap test (let z : k + suc j ≡ k + 1 + j = omega arith in z) ∙ rest j g (omega (arith, lt))

  type_is : IsSound n → (i : ℕ) (b : IsBuffer n.cells i) → is_type b.pin_type ≡ true
  type_is sound i b =
      let lt : i < length n.cells = At_within n.cells i b.cell b.at in
      let out : cell_is n (λ (cell : Cell). is_type_out cell.kind) (0 + i) ≡ false = none_passes (cell_is n (λ (cell : Cell). is_type_out cell.kind)) 0 (length n.cells) i sound.pin_types lt in
      not_back (is_type b.pin_type)
      (ap is_type_out (sym b.is) ∙ ap (λ o. option_map_or (λ (cell : Cell). is_type_out cell.kind) o false) (sym b.at)
      ∙ ap (cell_is n (λ (cell : Cell). is_type_out cell.kind)) (let z : i ≡ 0 + i = omega arith in z) ∙ out)
    where
      not_back : (x : Bool) → not x ≡ false → x ≡ true
      not_back true e = refl
      not_back false e = cc e

  typed_pad : (k : ℕ) (port : Port) (ins : List (Option SignalNo)) (t : ℕ) (pullup : Bool) → is_type t ≡ true → IsPad (buffered_pad p k port ins (PadCell t pullup))
  typed_pad k port ins t pullup e = by (t == input_type) refl (t == output_type) refl e
    where
      Pad : ℕ → Type 0
      Pad x = IsPad (buffered_pad p k port ins (PadCell x pullup))

      by : (one : Bool) → (t == input_type) ≡ one → (two : Bool) → (t == output_type) ≡ two → cond one true (cond two true (t == enabled_type)) ≡ true → Pad t
      by true is two also g = subst Pad (sym (eqb-true t input_type is)) (inl (refl, refl, refl))
      by false is true also g = subst Pad (sym (eqb-true t output_type also)) (inr (inl (refl, refl)))
      by false is false also g = subst Pad (sym (eqb-true t enabled_type g)) (inr (inr refl))

  bare_is : (k : ℕ) (port : Port) (way : Way) → IsPad (bare_pad p k (record { signal = port.signal; way = way }))
  bare_is k port Input = inl (refl, refl, refl)
  bare_is k port Output = inr (inl (refl, refl))
  bare_is k port Both = inl (refl, refl, refl)

  base_is : IsSound n → (k : ℕ) (base : DesignPad) → PadAt p n.cells n.ports k k base → IsPad base
  base_is sound k base (Bare port at none e) = subst IsPad e (bare_is k port port.way)
  base_is sound k base (Buffered port i b at e) = subst IsPad e (typed_pad k port b.cell.ins b.pin_type b.pullup (type_is sound i b))

  pub pads_are : IsSound n → (k : ℕ) (pad : DesignPad) → At (packed n).pads k pad → IsPad pad
  pads_are sound k pad at = let x = packed_pad k pad at in subst IsPad x.is (base_is sound k x.base x.pad)
