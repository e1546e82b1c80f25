use Rattle.std.proofs.Common.{rules, tests, ◌≡◌, [], ◌++◌, sym, ap, subst}
use Rattle.std.proofs.lemmas.List.{nil_from_length}
use Rattle.ice_chip_read_pieces.specs.Held.{said_view}
use Rattle.ice_chip_read_pieces.specs.Stands.{Follows}
use Rattle.ice_base.specs.Text.{next_number}
use Rattle.ice_chip_read_pieces.proofs.Following.{follows_line}
use Rattle.ice_chip_read_pieces.proofs.reader.ChipReader.take_front.Goals as goal

pub returns-clause-taken : goal.returns-clause-taken
returns-clause-taken c =
    let r = c.self.inside in
    let took = c.in_ok-rest.ensures.taken in
    let next : c.saturating_add-self-inside.result ≡ next_number r.number = search rules in
    let none : r.rest.items ≡ [] = nil_from_length r.rest.items (search (rules, tests)) in
    record {
      line = took.line;
      whole = took.whole;
      more = λ text f.
          follows_line (said_view r.said) (said_view c.take_front.new.said) r.number c.saturating_add-self-inside.result r.rest.items r.rest.items text took.line took.line
          (subst (λ held. Follows held text) (sym c.self.view_is) f) took.ends (sym (ap (λ t. t ++ took.line) none)) next none took.said took.stopped;
    }
