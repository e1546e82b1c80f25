use Rattle.std.proofs.Common.{rules, tests, ◌≡◌, [], ◌∷◌, ◌++◌, sym, ap, subst, append_assoc}
use Rattle.std.proofs.lemmas.List.{nil_from_length}
use Rattle.ice_chip_read_pieces.specs.Held.{said_view}
use Rattle.ice_chip_read_pieces.specs.Stands.{Follows}
use Rattle.ice_base.specs.Text.{next_number}
use Rattle.ice_chip_read_pieces.proofs.Following.{follows_line}
use Rattle.ice_chip_read_pieces.proofs.reader.ChipReader.end_with.Goals as goal

pub returns-then-is_empty-clause-taken : goal.returns-then-is_empty-clause-taken
returns-then-is_empty-clause-taken c = λ text f.
    let r = c.self.inside in
    let next : c.saturating_add-self-inside.result ≡ next_number r.number = search rules in
    let none : r.rest.items ≡ [] = nil_from_length r.rest.items (search (rules, tests)) in
    follows_line (said_view r.said) (said_view c.take.new.said) r.number c.saturating_add-self-inside.result r.rest.items r.rest.items text c.args.line.now c.args.line.now
    (subst (λ held. Follows held text) (sym c.self.view_is) f) c.requires (sym (ap (λ t. t ++ c.args.line.now) none)) next none c.take.ensures.said c.take.ensures.stopped

pub returns-clause-taken : goal.returns-clause-taken
returns-clause-taken c = λ text f.
    subst (Follows c.end.new.self) (append_assoc text c.args.line.now (10 ∷ [])) (c.end.ensures.taken (text ++ c.args.line.now) (c.keep.ensures.taken text f))

pub returns-clause-out : goal.returns-clause-out
returns-clause-out c = λ e. c.end.ensures.out (c.keep.ensures.out e)
