use Rattle.std.proofs.Common.{Ok, Some, sym, subst}
use Rattle.ice_chip.specs.Answers.{Answers, StopsBy}
use Rattle.ice_chip_read.specs.Views.{reading_view}
use Rattle.ice_chip_read.specs.Whole.{chip_says}
use Rattle.ice_chip_read_pieces.specs.Held.{said_view, IsMade}
use Rattle.ice_chip_read_pieces.proofs.Following.{follows_says, made_more}
use Rattle.ice_chip_read_pieces.proofs.SaidLaws.{Means, rows_made, stop_answers}
use Rattle.ice_chip_read_pieces.proofs.reader.ChipReader.finish.Goals as goal

pub returns-in-Nothing-clause-chip : goal.returns-in-Nothing-clause-chip
returns-in-Nothing-clause-chip c = λ text stands.
    let said = follows_says c.args.self (said_view c.self.inside.said) (said_view c.take.new.said) c.self.inside.number c.self.inside.rest.items c.as_slice.result.now text c.self.view_is c.as_slice.ensures.value c.take.ensures.said c.take.ensures.stopped stands in
    subst (λ s. Means (said_view s) (chip_says text)) c.in-Nothing.is said

pub finish-requires : goal.finish-requires
finish-requires c =
    let made = made_more (said_view c.self.inside.said) (said_view c.take.new.said) c.self.inside.number c.as_slice.result.now c.self.invariant c.take.ensures.said in
    let rows : IsMade (Ok (Some (reading_view c.in-Rows.reading))) = subst (λ s. IsMade (said_view s)) c.in-Rows.is made in
    rows_made (reading_view c.in-Rows.reading) rows.0 rows.1

pub returns-in-Rows-clause-chip : goal.returns-in-Rows-clause-chip
returns-in-Rows-clause-chip c = λ text stands.
    let said = follows_says c.args.self (said_view c.self.inside.said) (said_view c.take.new.said) c.self.inside.number c.self.inside.rest.items c.as_slice.result.now text c.self.view_is c.as_slice.ensures.value c.take.ensures.said c.take.ensures.stopped stands in
    subst (Answers c.finish.result) (sym (subst (λ s. Means (said_view s) (chip_says text)) c.in-Rows.is said)) c.finish.ensures

pub returns-in-Stopped-clause-chip : goal.returns-in-Stopped-clause-chip
returns-in-Stopped-clause-chip c = λ text stands.
    let said = follows_says c.args.self (said_view c.self.inside.said) (said_view c.take.new.said) c.self.inside.number c.self.inside.rest.items c.as_slice.result.now text c.self.view_is c.as_slice.ensures.value c.take.ensures.said c.take.ensures.stopped stands in
    subst (λ fault. StopsBy fault (chip_says text)) (sym c.from.ensures) (stop_answers c.in-Stopped.stop (chip_says text) (subst (λ s. Means (said_view s) (chip_says text)) c.in-Stopped.is said))
