use Rattle.ice_core.proofs.Moving.{counted_again, counted_new}
use Rattle.ice_core.proofs.rounds.count_one.Goals as goal

pub returns-then-marks-wire : goal.returns-then-marks-wire
returns-then-marks-wire c = λ places wires k v at is h. counted_again places c.args.net wires k c.args.seen.now c.args.marks.now v c.args.wire at is c.requires.lengths.1 c.if-marks-wire.true h

pub returns : goal.returns
returns c = λ places wires k v at is h. counted_new places c.args.net wires k c.args.seen.now c.args.marks.now v c.args.wire at is c.requires.lengths.1 c.if-marks-wire.false h
