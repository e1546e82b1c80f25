use Rattle.std.proofs.Common.{◌≡◌, ◌||◌, true, List, [], map, length, sym, ap, ◌∙◌}
use Rattle.ice_chip.specs.Views.{group_view, row_view}
use Rattle.ice_chip.specs.declared.sections.Row.{Row}
use Rattle.ice_bits_rows.specs.Plain.{do_rise, do_differ}
use Rattle.ice_bits_rows.proofs.Meeting.{lone_rows, plain_rows}
use Rattle.ice_bits_rows.proofs.plain.is_plain.Goals as goal

pub returns-in-None : goal.returns-in-None
returns-in-None c = λ e.
    let g = group_view c.args.group.now in
    let count : c.len.result ≡ length g.bits = c.len.ensures.value in
    let told : (do_rise (length g.bits) [] g.rows || do_differ (length g.bits) g.rows) ≡ true =
    sym (c.are_told_apart.ensures
    ∙ ap (λ n. do_rise n [] (map row_view c.deref.result.now) || do_differ n (map row_view c.deref.result.now)) count
    ∙ ap (λ (rows : List Row). do_rise (length g.bits) [] (map row_view rows) || do_differ (length g.bits) (map row_view rows)) c.deref.ensures.value)
    ∙ e in
    lone_rows c.args.index.now.chip.now.groups g c.requires.member (c.in-None.ensures.nothing.1 g c.requires.member) told

pub returns-in-Some : goal.returns-in-Some
returns-in-Some c = λ e. plain_rows c.args.index.now.chip.now.groups (group_view c.args.group.now) c.requires.member (sym c.looks_plain.ensures ∙ e)
