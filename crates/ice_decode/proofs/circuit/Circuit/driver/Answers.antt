use Rattle.ice_decode.proofs.Driven.{told}
use Rattle.ice_decode.proofs.circuit.Circuit.driver.Goals as goal

pub returns-clause-driver : goal.returns-clause-driver
returns-clause-driver c parts is lt = told parts c.args.self.now.configuration c.args.self.now c.args.wire.0 c.row_kept.result c.row_kept.ensures is lt
