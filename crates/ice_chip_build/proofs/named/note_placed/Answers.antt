use Rattle.std.proofs.Common.{◌≡◌, Some, None, sym, ap, ◌∙◌}
use Rattle.std.specs.Map.{lookup}
use Rattle.ice_chip.specs.WholeFaults.{clash_or}
use Rattle.ice_chip.proofs.Entries.{new_goes_last}
use Rattle.ice_chip_build.specs.PlacedTexts.{by_placed}
use Rattle.ice_chip_build.proofs.PlacedTexts.{same_text, joins, stays}
use Rattle.ice_chip_build.proofs.named.note_placed.Goals as goal

pub returns-in-None : goal.returns-in-None
returns-in-None c =
    let none : lookup (same_text c.args.placed) c.args.seen.now.entries ≡ None = sym c.in_ok-met.ensures.old ∙ c.in-None.is in
    joins c.args.placed c.args.known c.args.seen.now.entries c.insert.new.self.entries none
    (new_goes_last same_text c.args.seen.now c.insert.new.self c.args.placed c.args.known none c.in_ok-met.ensures.entries)

pub returns-in_ok-insert-in-Some : goal.returns-in_ok-insert-in-Some
returns-in_ok-insert-in-Some c =
    let there : lookup (same_text c.args.placed) c.args.seen.now.entries ≡ Some c.in-Some.first = sym c.in_ok-met.ensures.old ∙ c.in-Some.is in
    stays c.args.placed c.args.known c.in-Some.first c.args.seen.now.entries c.insert.new.self.entries c.insert-in-Some.new.self.entries there c.in_ok-met.ensures.entries c.in_ok-insert-in-Some.ensures.entries
    ∙ ap (λ lines. clash_or lines (by_placed c.insert-in-Some.new.self.entries)) (sym c.clash_of.ensures)
