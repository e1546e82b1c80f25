use Rattle.std.proofs.Common.{◌≡◌, ◌&&◌, not, is_some, None, sym, ap, ◌∙◌, rules}
use Rattle.std.specs.List.{list_any}
use Rattle.ice_chip.specs.Database.{same_pad}
use Rattle.ice_pads.specs.declared.given.Chosen.{Chosen}
use Rattle.ice_pads.proofs.choosing.is_free.Goals as goal

pub returns-then-is_none : goal.returns-then-is_none
returns-then-is_none c =
    let none : c.of_pad.result ≡ None = search rules in
    ap not (c.contains.ensures ∙ c.requires.taken c.args.pad)
    ∙ sym (ap (λ b. b && not (list_any (λ (d : Chosen). same_pad c.args.pad d.pad) c.args.progress.now.chosen.items)) (ap (λ o. not (is_some o)) (sym c.of_pad.ensures ∙ none)))
