use Rattle.std.proofs.Common.{◌∷◌, ◌++◌, [], Ok, sym, ap, ◌∙◌}
use Rattle.ice_chip.specs.Views.{group_view, package_view, parts_view}
use Rattle.ice_chip_read.proofs.Closing.{closed_package, closed_group, closed_other, closing}
use Rattle.ice_chip_read.proofs.reading.close.Goals as goal

pub returns-in_default : goal.returns-in_default
returns-in_default c =
    let r = c.args.reading.now in
    ap Ok (closing r r.parts c.replace-section.new.dest c.replace-group.new.dest c.clear_package-in_default.new.pins
    (closed_other r.section (group_view r.group) (package_view r.pins) (parts_view r.parts)
    (λ e. c.in_default.not-Pins (c.replace-section.ensures.value ∙ e))
    (λ e. c.in_default.not-Switches (c.replace-section.ensures.value ∙ e)))
    c.replace-section.ensures.after
    (ap group_view c.replace-group.ensures.after ∙ c.no_group.ensures)
    c.clear_package-in_default.ensures)

pub returns-in_ok-push-in-Pins : goal.returns-in_ok-push-in-Pins
returns-in_ok-push-in-Pins c =
    let r = c.args.reading.now in
    ap Ok (closing r (record r.parts { packages = c.push.new.self }) c.replace-section.new.dest c.replace-group.new.dest c.replace-package.new.dest
    (closed_package r c.push.new.self (sym c.replace-section.ensures.value ∙ c.in-Pins.is)
    (c.in_ok-push-in-Pins.ensures.items ∙ ap (λ p. r.parts.packages.items ++ p ∷ []) c.replace-package.ensures.value))
    c.replace-section.ensures.after
    (ap group_view c.replace-group.ensures.after ∙ c.no_group.ensures)
    (ap package_view c.replace-package.ensures.after ∙ c.no_package.ensures))

pub returns-in_ok-push-in-Switches : goal.returns-in_ok-push-in-Switches
returns-in_ok-push-in-Switches c =
    let r = c.args.reading.now in
    ap Ok (closing r (record r.parts { groups = c.push-in-Switches.new.self }) c.replace-section.new.dest c.replace-group.new.dest c.clear_package.new.pins
    (closed_group r c.push-in-Switches.new.self (sym c.replace-section.ensures.value ∙ c.in-Switches.is)
    (c.in_ok-push-in-Switches.ensures.items ∙ ap (λ g. r.parts.groups.items ++ g ∷ []) c.replace-group.ensures.value))
    c.replace-section.ensures.after
    (ap group_view c.replace-group.ensures.after ∙ c.no_group.ensures)
    c.clear_package.ensures)
