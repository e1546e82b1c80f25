-- A flip-flop of a packed design that is neither set nor reset has nothing there.
use Rattle.std.proofs.Common.{◌≡◌, ℕ, Bool, true, false, Option, None, Some, List, length, refl, sym, ap, ◌∙◌, subst, arith}
use Rattle.std.specs.Prelude.{slice_get, slice_index_or}
use Rattle.std.specs.Option.{option_map_or}
use Rattle.std.proofs.lemmas.List.{get_or_past}
use Rattle.std.proofs.lemmas.Option.{same_Some, slice_get_within, get_or_from_slice_get}
use Rattle.ice_base.specs.declared.number.SignalNo.{SignalNo}
use Rattle.ice_base_values.specs.Order.{At}
use Rattle.ice_net.specs.declared.cell.Cell.{Cell}
use Rattle.ice_net.specs.declared.kind.CellKind.{CellKind}
use Rattle.ice_net.specs.declared.kind.CellKind.TheVariants.{Lut, Cover, Carry, Flop, PadCell, Global}
use Rattle.ice_net.specs.declared.kind.Reset.{Reset}
use Rattle.ice_net.specs.declared.kind.Reset.TheVariants.{Nothing}
use Rattle.ice_net.specs.Formed.{IsFormed, IsFormedCell}
use Rattle.ice_net.specs.Kinds.{ins_count}
use Rattle.ice_net.specs.NetlistData.{NetlistData}
use Rattle.ice_cells.specs.declared.cell.Control.{Control}
use Rattle.ice_cells.specs.declared.cell.LogicCell.{LogicCell}
use Rattle.ice_cells.specs.Homes.{openers, anchor, part}
use Rattle.ice_cells.specs.Packed.{PackPlan, plan_of, packed, sink, plain_sink, enable_sink, enable_input, set_input, flop_by, flop_of, flop_for}
use Rattle.ice_carry_form_laws.proofs.PackedCells.{CellAt, Opened, Constant, packed_at}

-- the input at the set or reset is missing
set_missing : (p : PackPlan) (falling enable : Bool) (ins : List (Option SignalNo)) → length ins ≡ ins_count (Flop falling enable Nothing) → sink p (set_input enable ins) ≡ None
set_missing p falling true ins long = ap (sink p) (get_or_past ins 3 None (omega (arith, long)))
set_missing p falling false ins long = ap (sink p) (get_or_past ins 2 None (omega (arith, long)))

kind_resets : (p : PackPlan) (k : CellKind) (ins : List (Option SignalNo)) (control : Control) → length ins ≡ ins_count k → flop_by p k ins ≡ Some (control, Nothing) → control.reset ≡ None
kind_resets p (Lut t) ins control long e = cc e
kind_resets p (Cover t width) ins control long e = cc e
kind_resets p Carry ins control long e = cc e
kind_resets p (PadCell pin_type pullup) ins control long e = cc e
kind_resets p Global ins control long e = cc e
kind_resets p (Flop falling enable reset) ins control long e =
    let flop : Control × Reset
    = (record { clock = plain_sink p (slice_index_or ins 0 None); falling = falling; enable = enable_sink p (enable_input enable ins); reset = sink p (set_input enable ins) }, reset) in
    let same = same_Some flop (control, Nothing) e in
    sym (ap (λ (x : Control × Reset). (x.0).reset) same)
    ∙ set_missing p falling enable ins (long ∙ ap (λ (r : Reset). ins_count (Flop falling enable r)) (ap (λ (x : Control × Reset). x.1) same))

module _ (n : NetlistData) (formed : IsFormed n) where
  formed_at : (cell : Cell) (i : ℕ) → At n.cells i cell → IsFormedCell (length n.names) cell
  formed_at cell i at = subst (λ (c : Cell). IsFormedCell (length n.names) c) (get_or_from_slice_get n.cells i cell cell at) (formed.cells i cell (slice_get_within n.cells i cell at))

  flop_resets : (o : Option ℕ) (control : Control) → flop_of (plan_of n) n.cells o ≡ Some (control, Nothing) → control.reset ≡ None
  flop_resets None control e = cc e
  flop_resets (Some f) control e = by (slice_get n.cells f) refl e
    where
      by : (o : Option Cell) → slice_get n.cells f ≡ o → option_map_or (λ (cell : Cell). flop_by (plan_of n) cell.kind cell.ins) o None ≡ Some (control, Nothing) → control.reset ≡ None
      by None at g = cc g
      by (Some cell) at g = kind_resets (plan_of n) cell.kind cell.ins control (formed_at cell f at).ins_long g

  pub resets_missing : (c : ℕ) (x : LogicCell) (control : Control) → At (packed n).cells c x → x.flop ≡ Some (control, Nothing) → control.reset ≡ None
  resets_missing c x control at e = by (packed_at n c x at)
    where
      by : CellAt (plan_of n) n.cells (openers (plan_of n).facts) c x → control.reset ≡ None
      by (Constant level is) = let bad : None ≡ Some (control, Nothing) = ap (λ (y : LogicCell). y.flop) is ∙ e in cc bad
      by (Opened j opened is) = flop_resets (flop_for (plan_of n) (anchor (plan_of n).facts j) (part (plan_of n).facts (anchor (plan_of n).facts j))) control (ap (λ (y : LogicCell). y.flop) is ∙ e)
