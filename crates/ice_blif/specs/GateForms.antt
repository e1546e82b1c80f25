-- What a gate is, as crates above name it.
use Rattle.ice_blif.specs.declared.kind.GateKind.{GateKind}

abbrev pub GateForm : Type 0
GateForm = GateKind
