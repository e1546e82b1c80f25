use Rattle.std.proofs.Common.{◌≡◌, [], None, length, rules, tests, sym, ap, subst, ◌∙◌}
use Rattle.std.proofs.lemmas.List.{length-map}
use Rattle.ice_chip.specs.Database.{Parts}
use Rattle.ice_chip.specs.Indices.{Numbered}
use Rattle.ice_chip.specs.Views.{name_view, parts_view}
use Rattle.ice_chip.specs.WholeFaults.{name_of_two_wires}
use Rattle.ice_chip.proofs.Different.{different}
use Rattle.ice_chip.proofs.named_parts.NamedParts.are_different.Goals as goal

pub returns : goal.returns
returns c = λ e.
    let parts = parts_view c.self.inside.parts in
    let same : length c.self.inside.names.wires.entries ≡ length c.self.inside.parts.names.items = search (rules, tests) in
    subst (λ (p : Parts). name_of_two_wires p.tiles [] p.names ≡ None) c.self.view_is
    (different parts.tiles parts.names (sym (ap (λ (s : Numbered). length s.wires) c.self.invariant) ∙ same ∙ sym (length-map c.self.inside.parts.names.items name_view)))
