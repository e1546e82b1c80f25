use Rattle.std.proofs.Common.{subst}
use Rattle.memchr.specs.Find.{IsFirstByte, is_byte}
use Rattle.ice_chip_read_pieces.proofs.FeedLaws.{line_before, feed_between, line_whole}
use Rattle.ice_chip_read_pieces.proofs.cut.cut.Goals as goal

pub returns-in-Some-clause-line : goal.returns-in-Some-clause-line
returns-in-Some-clause-line c =
    let piece = c.args.piece.now in line_before piece c.in-Some.end (subst (λ r. IsFirstByte (is_byte 10) piece r) c.in-Some.is c.memchr.ensures)

pub returns-in-Some-clause-whole : goal.returns-in-Some-clause-whole
returns-in-Some-clause-whole c =
    let piece = c.args.piece.now in feed_between piece c.in-Some.end (subst (λ r. IsFirstByte (is_byte 10) piece r) c.in-Some.is c.memchr.ensures)

pub returns-in-None-clause-none : goal.returns-in-None-clause-none
returns-in-None-clause-none c =
    let piece = c.args.piece.now in line_whole piece (subst (λ r. IsFirstByte (is_byte 10) piece r) c.in-None.is c.memchr.ensures)
