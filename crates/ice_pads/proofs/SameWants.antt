-- Two netlists whose pads are read alike, and whose ports have buffers of the same kinds, want the same of their pads.
use Rattle.std.proofs.Common.{◌≡◌, ℕ, ◌+◌, ◌==◌, Bool, false, ◌||◌, Option, None, Some, List, [], ◌∷◌, map, refl, ap, sym, ◌∙◌}
use Rattle.std.specs.Prelude.{slice_get}
use Rattle.std.specs.Option.{option_map_or}
use Rattle.std.proofs.Math.Path.{fun_ext}
use Rattle.ice_base.specs.declared.number.SignalNo.{SignalNo}
use Rattle.ice_net.specs.declared.cell.Cell.{Cell}
use Rattle.ice_net.specs.declared.kind.CellKind.{CellKind}
use Rattle.ice_net.specs.declared.kind.CellKind.TheVariants.{Lut, Cover, Carry, Flop, PadCell, Global}
use Rattle.ice_net.specs.declared.port.Port.{Port}
use Rattle.ice_net.specs.Drivers.{buffer_at}
use Rattle.ice_net.specs.NetlistData.{NetlistData}
use Rattle.ice_cells.specs.declared.design.DesignPad.{DesignPad}
use Rattle.ice_cells.specs.declared.root.Root.TheVariants.{PadIn}
use Rattle.ice_cells.specs.Packed.{PackPlan, plan_of, bare_type, bare_pad, buffered_pad, pad_by, pads_from, read_pad, unread_by, packed}
use Rattle.ice_cells.specs.Readings.{is_read}
use Rattle.ice_cells.specs.Runs.{fed_numbers, moved_numbers, renamed_pad, design_of}
use Rattle.ice_pads.specs.declared.want.Want.{Want}
use Rattle.ice_pads.specs.Wants.{want_at, wants}

-- ---- what a pad is but for its roots
abbrev pub Shape : Type 0
Shape = ℕ × ℕ × Bool

abbrev shape : DesignPad → Shape
shape pad = (pad.port, pad.pin_type, pad.pullup)

abbrev pub bare_shape : ℕ → Port → Shape
bare_shape m port = (m, bare_type port.way, false)

abbrev pub kind_shape : ℕ → Port → CellKind → Shape
kind_shape m port (Lut t) = bare_shape m port
kind_shape m port (Cover t width) = bare_shape m port
kind_shape m port Carry = bare_shape m port
kind_shape m port (Flop falling enable reset) = bare_shape m port
kind_shape m port (PadCell pin_type pullup) = (m, pin_type, pullup)
kind_shape m port Global = bare_shape m port

abbrev pub shape_by : List Cell → ℕ → Port → Option ℕ → Shape
shape_by cells m port None = bare_shape m port
shape_by cells m port (Some i) = option_map_or (λ (cell : Cell). kind_shape m port cell.kind) (slice_get cells i) (bare_shape m port)

kind_shaped : (p : PackPlan) (m : ℕ) (port : Port) (kind : CellKind) (ins : List (Option SignalNo)) → shape (buffered_pad p m port ins kind) ≡ kind_shape m port kind
kind_shaped p m port (Lut t) ins = refl
kind_shaped p m port (Cover t width) ins = refl
kind_shaped p m port Carry ins = refl
kind_shaped p m port (Flop falling enable reset) ins = refl
kind_shaped p m port (PadCell pin_type pullup) ins = refl
kind_shaped p m port Global ins = refl

shaped : (p : PackPlan) (cells : List Cell) (m : ℕ) (port : Port) (o : Option ℕ) → shape (pad_by p cells m port o) ≡ shape_by cells m port o
shaped p cells m port None = refl
shaped p cells m port (Some i) = by (slice_get cells i)
  where
    by : (o : Option Cell) → shape (option_map_or (λ (cell : Cell). buffered_pad p m port cell.ins cell.kind) o (bare_pad p m port)) ≡ option_map_or (λ (cell : Cell). kind_shape m port cell.kind) o (bare_shape m port)
    by None = refl
    by (Some cell) = kind_shaped p m port cell.kind cell.ins

-- ---- what ports want
abbrev want_by : (ℕ → Bool) → Shape → Want
want_by reads (port, pin_type, pullup) = record { input = reads port; output = (pin_type == 25) || (pin_type == 41); enable = pin_type == 41; pullup = pullup }

abbrev pub reads_of : NetlistData → ℕ → Bool
reads_of m k = is_read (unread_by m (plan_of m)) (PadIn k)

abbrev wanted : NetlistData → List DesignPad → List Want
wanted m pads = map want_at (map (renamed_pad (moved_numbers (packed m)) (fed_numbers (packed m))) (map (read_pad (unread_by m (plan_of m))) pads))

module _ (n new : NetlistData) (same_read : (k : ℕ) → reads_of new k ≡ reads_of n k) (same_buffer : (s : ℕ) → buffer_at new.cells s ≡ buffer_at n.cells s)
    (same_kind : (m : ℕ) (port : Port) (i : ℕ) → shape_by new.cells m port (Some i) ≡ shape_by n.cells m port (Some i)) where
  same_shape_by : (m : ℕ) (port : Port) (o : Option ℕ) → shape_by new.cells m port o ≡ shape_by n.cells m port o
  same_shape_by m port None = refl
  same_shape_by m port (Some i) = same_kind m port i

  same_shape : (m : ℕ) (port : Port) → shape (pad_by (plan_of new) new.cells m port (buffer_at new.cells port.signal.0)) ≡ shape (pad_by (plan_of n) n.cells m port (buffer_at n.cells port.signal.0))
  same_shape m port =
      shaped (plan_of new) new.cells m port (buffer_at new.cells port.signal.0)
      ∙ ap (shape_by new.cells m port) (same_buffer port.signal.0)
      ∙ same_shape_by m port (buffer_at n.cells port.signal.0)
      ∙ sym (shaped (plan_of n) n.cells m port (buffer_at n.cells port.signal.0))

  wants_from : (m : ℕ) (ports : List Port) → wanted new (pads_from (plan_of new) new.cells m ports) ≡ wanted n (pads_from (plan_of n) n.cells m ports)
  wants_from m [] = refl
  wants_from m (port ∷ ports) =
      ap (λ (reads : ℕ → Bool). want_by reads (shape (pad_by (plan_of new) new.cells m port (buffer_at new.cells port.signal.0))) ∷ wanted new (pads_from (plan_of new) new.cells (m + 1) ports)) (fun_ext same_read)
      ∙ ap (λ (x : Shape). want_by (reads_of n) x ∷ wanted new (pads_from (plan_of new) new.cells (m + 1) ports)) (same_shape m port)
      ∙ ap (λ (rest : List Want). want_by (reads_of n) (shape (pad_by (plan_of n) n.cells m port (buffer_at n.cells port.signal.0))) ∷ rest) (wants_from (m + 1) ports)

  -- what the design of either wants, where both have the same ports
  pub wants_alike : new.ports ≡ n.ports → wants (design_of new) ≡ wants (design_of n)
  wants_alike ports = ap (λ (ps : List Port). wanted new (pads_from (plan_of new) new.cells 0 ps)) ports ∙ wants_from 0 n.ports
