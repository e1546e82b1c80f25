use Rattle.ice_chip_read_pieces.proofs.reader.ChipReader.take_whole.Goals as goal

pub returns-clause-taken : goal.returns-clause-taken
returns-clause-taken c = record { line = c.in_ok-line.line.now; whole = c.in_ok-line.ensures.whole; more = c.end_with.ensures.taken }
