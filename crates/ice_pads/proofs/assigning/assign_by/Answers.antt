use Rattle.std.proofs.Common.{◌≡◌, take, drop, sym, ap, ap₂, ◌∙◌}
use Rattle.ice_chip.specs.Views.{package_view}
use Rattle.ice_pads.specs.Assign.{chosen_pads, chosen_by, with_rams, pads_with}
use Rattle.ice_pads.specs.Closings.{with_first}
use Rattle.ice_pads.specs.Globals.{globals_of}
use Rattle.ice_pads.specs.Wants.{wants, buffers}
use Rattle.ice_pads.proofs.AssignLaws.{assigned_by}
use Rattle.ice_pads.proofs.assigning.assign_by.Goals as goal

pub returns : goal.returns
returns c =
    let parts = c.args.index.now.chip.now in
    let rows = package_view c.in-Some.bonded.now in
    let first = c.args.closing.first in
    let seen = c.in_ok-chosen.chosen.items in
    let wanted : wants c.args.design.now ≡ c.deref.result.now = sym (c.deref.ensures.value ∙ c.in_ok-wants.ensures) in
    assigned_by parts c.args.name.now c.args.pcf.now c.args.netlist.now c.args.closing c.args.design.now rows seen c.add_rams.new.chosen.items c.in_ok-taken.taken c.in_ok-pads_with.field-0 (sym c.in-Some.ensures)
    (ap₂ (λ lines ws. chosen_by parts rows lines (with_first first c.args.netlist.now) ws) (sym c.constraints.ensures) (ap (take first) wanted ∙ sym c.parted.ensures.seen) ∙ c.in_ok-chosen.ensures)
    (ap (λ ports. globals_of parts (buffers c.args.design.now (chosen_pads ports))) (sym c.deref-2.ensures.value) ∙ c.in_ok-taken.ensures)
    (ap (with_rams parts c.args.netlist.now seen c.args.closing.rams) (ap (drop first) wanted ∙ sym c.parted.ensures.hidden) ∙ c.in_ok-add_rams.ensures)
    (c.in_ok-pads_with.ensures ∙ ap (λ ports. pads_with ports c.in_ok-taken.taken) c.deref-3.ensures.value)
