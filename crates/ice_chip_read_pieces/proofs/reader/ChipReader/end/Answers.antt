use Rattle.std.proofs.Common.{rules, ◌≡◌, [], ◌++◌, sym, subst, ◌∙◌, append-nil}
use Rattle.ice_chip_read_pieces.specs.Held.{said_view}
use Rattle.ice_chip_read_pieces.specs.Stands.{Follows}
use Rattle.ice_base.specs.Text.{next_number}
use Rattle.ice_chip_read_pieces.proofs.Following.{follows_line}
use Rattle.ice_chip_read_pieces.proofs.reader.ChipReader.end.Goals as goal

pub returns-clause-taken : goal.returns-clause-taken
returns-clause-taken c = λ text f.
    let r = c.self.inside in
    let next : c.saturating_add-self-inside.result ≡ next_number r.number = search rules in
    let taken : c.as_slice.result.now ≡ r.rest.items ++ [] = c.as_slice.ensures.value ∙ sym (append-nil r.rest.items) in
    follows_line (said_view r.said) (said_view c.take.new.said) r.number c.saturating_add-self-inside.result r.rest.items c.clear.new.self.items text [] c.as_slice.result.now
    (subst (λ held. Follows held text) (sym c.self.view_is) f) tt taken next c.clear.ensures.items c.take.ensures.said c.take.ensures.stopped
