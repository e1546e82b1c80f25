use Rattle.ice_chip_read_pieces.specs.Held.{said_view}
use Rattle.ice_chip_read_pieces.proofs.SaidLaws.{text_said}
use Rattle.ice_chip_read_pieces.proofs.said.take.Goals as goal

pub returns-clause-said : goal.returns-clause-said
returns-clause-said c = λ ls h. text_said (said_view c.take_bytes.new.said) ls c.args.number c.args.line.now (c.take_bytes.ensures.said _ h)
