use Rattle.std.proofs.Common.{◌++◌, ap, sym, ◌∙◌}
use Rattle.ice_chip.specs.Lookups.{wire_named}
use Rattle.ice_chip.specs.WireNames.{carry_in_name, first_carry_name}
use Rattle.ice_emit_settings.specs.Views.{switches}
use Rattle.ice_emit.proofs.Listed.{link_added, later_chunk}
use Rattle.ice_emit.proofs.links.push_entry.Goals as goal

pub returns : goal.returns
returns c =
    let parts = c.args.index.now.chip.now in
    let t = c.args.tile in
    let old = switches parts c.args.rows.now.items in
    link_added parts old (switches parts c.push_row.new.rows.items) c.link-row.result c.wire_named.result c.wire_named-2.result (wire_named parts t carry_in_name) (wire_named parts t first_carry_name)
    (c.wire_named.ensures ∙ ap (wire_named parts t) c.carry_in_name.ensures) (c.wire_named-2.ensures ∙ ap (wire_named parts t) c.first_carry_name.ensures) c.link-row.ensures (c.in_ok-push_row.ensures parts)
    ∙ ap (λ xs. old ++ xs) (sym (later_chunk parts t c.args.chunk c.in-Some.field-0-0 c.in-Some.k c.in-Some.is c.if-k-eq0.false))
