use Rattle.std.proofs.Common.{◌≡◌, ◌<◌, ◌≤◌, map, length, get_or, sym, ap, ◌∙◌, arith}
use Rattle.std.proofs.lemmas.List.{at_drop_all}
use Rattle.ice_chip.specs.Database.{tile_known}
use Rattle.ice_chip.specs.SharedPins.{with_pin_name, shared_from}
use Rattle.ice_chip.specs.Views.{name_view, parts_view}
use Rattle.ice_chip.specs.declared.sections.NameRow.{NameRow}
use Rattle.ice_chip_build.proofs.SharedPinSteps.{pin_passed}
use Rattle.ice_chip_build.proofs.pins.pin_again.Goals as goal

pub loop-name-preserved : goal.loop-name-preserved
loop-name-preserved c =
    let tiles = (parts_view c.args.parts.now).tiles in
    let names = c.args.parts.now.names.items in
    let seen = c.loop-name.seen.entries in
    let i = c.loop-name.name-index in
    let name = c.name-item.result in
    let within : i < length names = omega (arith, c.loop-name-test.true, ap length c.deref-name-items.ensures.value) in
    let is : name ≡ get_or names i name = c.name-item.is ∙ ap (λ ns. get_or ns i name) c.deref-name-items.ensures.value in
    c.loop-name.invariant
    ∙ pin_passed tiles seen c.note_pin_name.new.seen.entries names i name c.in_ok-lines.lines within
    (ap (λ (n : NameRow). with_pin_name (tile_known tiles n.tile) seen (name_view n)) (sym is) ∙ c.in_ok-lines.ensures)
    (sym c.if-is_some.ensures)

pub returns : goal.returns
returns c =
    let names = c.args.parts.now.names.items in
    let behind : length names ≤ c.loop-name.name-index = omega (arith, c.loop-name-test.false, ap length c.deref-name-items.ensures.value) in
    sym (c.loop-name.invariant ∙ at_drop_all (λ ns. shared_from (parts_view c.args.parts.now).tiles c.loop-name.seen.entries (map name_view ns)) names c.loop-name.name-index behind)
