use Rattle.std.proofs.Common.{◌≡◌, None, Some, sym, ap, ◌∙◌}
use Rattle.std.specs.Map.{lookup}
use Rattle.indexmap.specs.IndexMap.{insert_entry}
use Rattle.ice_chip.specs.Indices.{put_first}
use Rattle.ice_chip.proofs.Entries.{new_goes_last, restored}
use Rattle.ice_chip.proofs.index.note_first.Goals as goal

pub returns-in_ok-insert : goal.returns-in_ok-insert
returns-in_ok-insert g c =
    let eq = g.K.PartialEq.eq in
    let entries = c.args.map.now.entries in
    let there : lookup (eq c.args.key) entries ≡ Some c.in-Some.first = sym c.in_ok-first.ensures.old ∙ c.in-Some.is in
    c.in_ok-insert.ensures.entries
    ∙ ap (λ es. insert_entry eq es c.args.key c.in-Some.first) c.in_ok-first.ensures.entries
    ∙ restored eq entries c.args.key c.args.value c.in-Some.first there
    ∙ ap (put_first entries (c.args.key, c.args.value)) (sym there)

pub returns-in_default : goal.returns-in_default
returns-in_default g c =
    let eq = g.K.PartialEq.eq in
    let entries = c.args.map.now.entries in
    let none : lookup (eq c.args.key) entries ≡ None = sym c.in_ok-first.ensures.old ∙ c.in_default.is in
    new_goes_last eq c.args.map.now c.insert.new.self c.args.key c.args.value none c.in_ok-first.ensures.entries
    ∙ ap (put_first entries (c.args.key, c.args.value)) (sym none)
