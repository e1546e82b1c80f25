-- Gates: their kinds, which are those of cells and the pad that feeds a global, their ports, and digits of their parameters.
use Rattle.std.specs.Prelude.{ℕ, ◌+◌, Bool, true, false, List, Option, Some, None, if◌then◌else◌, option_map, codes, bytes_eq, ◌*◌, ◌==◌}
use Rattle.ice_net.specs.declared.kind.CellKind.{CellKind}
use Rattle.ice_net.specs.declared.kind.CellKind.TheVariants.{PadCell}
use Rattle.ice_net.specs.Kinds.{kind_of, port_place, outs_count}
use Rattle.ice_blif.specs.declared.kind.GateKind.{GateKind}

-- a gate that is a cell of its kind
abbrev pub plain_gate : CellKind → GateKind
plain_gate kind = record { kind = kind; feeds_global = false }

-- the kind of gate that a word names, with parameters of 0: SB_GB_IO is an SB_IO that feeds a global
abbrev pub gate_kind_of : List ℕ → Option GateKind
gate_kind_of word = if bytes_eq word (codes "SB_GB_IO") then Some (record { kind = PadCell 0 false; feeds_global = true }) else option_map plain_gate (kind_of word)

-- the place of a port, behind those of an SB_IO where it is the global's
abbrev pub place_by : Bool → Option ℕ → List ℕ → Option ℕ
place_by false place name = place
place_by true (Some place) name = Some place
place_by true None name = if bytes_eq name (codes "GLOBAL_BUFFER_OUTPUT") then Some 10 else None

-- the place of a port among the inputs and then the outputs
abbrev pub gate_place : GateKind → List ℕ → Option ℕ
gate_place gate name = place_by gate.feeds_global (port_place gate.kind name) name

-- how many outputs a gate has
abbrev pub gate_outs : GateKind → ℕ
gate_outs gate = if gate.feeds_global then outs_count gate.kind + 1 else outs_count gate.kind

-- the number behind n's digits and one more, where `x` counts as 0
abbrev pub with_param_digit : ℕ → ℕ → ℕ
with_param_digit n digit = 2 * n + (if digit == 49 then 1 else 0)
