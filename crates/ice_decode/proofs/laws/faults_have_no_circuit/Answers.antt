use Rattle.ice_decode.proofs.Valued.{no_circuit}
use Rattle.ice_decode.proofs.laws.faults_have_no_circuit.Goals as goal

pub returns : goal.returns
returns c = no_circuit
