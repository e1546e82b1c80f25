-- The pads of ports, by a table of the SB_IO at each signal, and the ports that they have.
use Rattle.std.proofs.Common.{◌≡◌, ℕ, suc, ◌+◌, ◌<◌, ◌≤◌, Option, None, Some, List, [], ◌∷◌, length, map, All, refl, ap, sym, ◌∙◌, subst, arith}
use Rattle.std.specs.Prelude.{slice_get}
use Rattle.std.specs.Option.{option_map_or}
use Rattle.std.proofs.lemmas.List.Elements.{All-nil, All-cons, All-head, All-tail}
use Rattle.ice_base.specs.declared.number.SignalNo.{SignalNo}
use Rattle.ice_net.specs.declared.cell.Cell.{Cell}
use Rattle.ice_net.specs.declared.kind.CellKind.{CellKind}
use Rattle.ice_net.specs.declared.kind.CellKind.TheVariants.{Lut, Cover, Carry, Flop, PadCell, Global}
use Rattle.ice_net.specs.declared.port.Port.{Port}
use Rattle.ice_net.specs.Drivers.{pin_of, buffer_at}
use Rattle.ice_net.specs.Formed.{IsFormed, IsPortBelow}
use Rattle.ice_net.specs.NetlistData.{NetlistData}
use Rattle.ice_check.specs.Tables.{ArePlaces}
use Rattle.ice_cells.specs.Packed.{PackPlan, buffered_pad, bare_pad, pad_by, pads_from}
use Rattle.ice_pack.specs.Buffered.{pads_by}
use Rattle.ice_pack.specs.Marks.{HasPort}

pads_alike : (p : PackPlan) (cells : List Cell) (n : ℕ) (buffers : List (Option ℕ)) (k : ℕ) (ports : List Port) → ArePlaces n (map pin_of cells) buffers → All (IsPortBelow n) ports
    → pads_by p cells buffers k ports ≡ pads_from p cells k ports
pads_alike p cells n buffers k [] are below = refl
pads_alike p cells n buffers k (port ∷ ports) are below =
    ap (λ b. pad_by p cells k port b ∷ pads_by p cells buffers (k + 1) ports) (are.places port.signal.0 (All-head (IsPortBelow n) port ports below))
    ∙ ap (λ pads. pad_by p cells k port (buffer_at cells port.signal.0) ∷ pads) (pads_alike p cells n buffers (k + 1) ports are (All-tail (IsPortBelow n) port ports below))

-- the table gives what the definition looks for
pub pads_are : (p : PackPlan) (n : NetlistData) (buffers : List (Option ℕ)) → ArePlaces (length n.names) (map pin_of n.cells) buffers → IsFormed n
    → pads_by p n.cells buffers 0 n.ports ≡ pads_from p n.cells 0 n.ports
pads_are p n buffers are formed = pads_alike p n.cells (length n.names) buffers 0 n.ports are formed.ports

-- ---- the ports of pads
kind_port : (p : PackPlan) (k : ℕ) (port : Port) (ins : List (Option SignalNo)) (kind : CellKind) → (buffered_pad p k port ins kind).port ≡ k
kind_port p k port ins (Lut t) = refl
kind_port p k port ins (Cover t width) = refl
kind_port p k port ins Carry = refl
kind_port p k port ins (Flop falling enable reset) = refl
kind_port p k port ins (PadCell pin_type pullup) = refl
kind_port p k port ins Global = refl

cell_port : (p : PackPlan) (k : ℕ) (port : Port) (cell : Option Cell) → (option_map_or (λ (cell : Cell). buffered_pad p k port cell.ins cell.kind) cell (bare_pad p k port)).port ≡ k
cell_port p k port None = refl
cell_port p k port (Some cell) = kind_port p k port cell.ins cell.kind

pad_port : (p : PackPlan) (cells : List Cell) (k : ℕ) (port : Port) (buffer : Option ℕ) → (pad_by p cells k port buffer).port ≡ k
pad_port p cells k port None = refl
pad_port p cells k port (Some i) = cell_port p k port (slice_get cells i)

pub pads_long : (p : PackPlan) (cells : List Cell) (k : ℕ) (ports : List Port) → length (pads_from p cells k ports) ≡ length ports
pads_long p cells k [] = refl
pads_long p cells k (port ∷ ports) = ap suc (pads_long p cells (k + 1) ports)

ports_within : (p : PackPlan) (cells : List Cell) (k n : ℕ) (ports : List Port) → k + length ports ≤ n → All (HasPort n) (pads_from p cells k ports)
ports_within p cells k n [] le = All-nil (HasPort n)
ports_within p cells k n (port ∷ ports) le =
    let is = pad_port p cells k port (buffer_at cells port.signal.0) in
    All-cons (HasPort n) (pad_by p cells k port (buffer_at cells port.signal.0)) (pads_from p cells (k + 1) ports) (subst (λ (m : ℕ). m < n) (sym is) (omega arith))
    (ports_within p cells (k + 1) n ports (omega arith))

-- each pad has a port, of as many as there are pads
pub ports_are_within : (p : PackPlan) (cells : List Cell) (ports : List Port) → All (HasPort (length (pads_from p cells 0 ports))) (pads_from p cells 0 ports)
ports_are_within p cells ports = ports_within p cells 0 (length (pads_from p cells 0 ports)) ports (let long = pads_long p cells 0 ports in omega arith)
