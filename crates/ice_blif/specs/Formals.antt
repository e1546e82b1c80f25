-- Whose formals the connections of a line have: those of a gate that is a cell, or those of a RAM.
use Rattle.std.specs.Prelude.{ℕ, List, Option}
use Rattle.ice_net.specs.Kinds.{ins_count}
use Rattle.ice_ram_words.specs.declared.kind.Edges.{Edges}
use Rattle.ice_ram_words.specs.Words.{place}
use Rattle.ice_blif.specs.declared.kind.GateKind.{GateKind}
use Rattle.ice_blif.specs.declared.kind.Formals.{Formals}
use Rattle.ice_blif.specs.declared.kind.Formals.TheVariants.{OfGate, OfRam}
use Rattle.ice_blif.specs.Gates.{gate_place}

-- as crates above name them
abbrev pub FormalsForm : Type 0
FormalsForm = Formals

-- the place of a formal among the inputs and then the outputs
abbrev pub formal_place : Formals → List ℕ → Option ℕ
formal_place (OfGate gate) name = gate_place gate name
formal_place (OfRam edges) name = place edges name

-- how many inputs there are
abbrev pub formal_ins : Formals → ℕ
formal_ins (OfGate gate) = ins_count gate.kind
formal_ins (OfRam edges) = 60

-- the formals of a gate that is a cell
abbrev pub of_gate : GateKind → Formals
of_gate gate = OfGate gate

-- those of a RAM
abbrev pub of_ram : Edges → Formals
of_ram edges = OfRam edges
