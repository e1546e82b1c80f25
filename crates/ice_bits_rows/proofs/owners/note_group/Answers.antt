use Rattle.std.proofs.Common.{◌≡◌, ap, ◌∙◌}
use Rattle.std.specs.Vec.{with_items}
use Rattle.std.proofs.lemmas.List.{with_items_is}
use Rattle.ice_chip.specs.Views.{group_view}
use Rattle.ice_bits_rows.specs.Owners.{is_other, holds_more, items_of, owner_among}
use Rattle.ice_bits_rows.proofs.owners.note_group.Goals as goal

pub returns-clause-held : goal.returns-clause-held
returns-clause-held c = λ t b w.
    let tiles = c.number_of.new.owners.tiles.keys in
    let old = c.number_of.new.owners.blocks in
    let items : (with_items old c.note_bits.new.blocks).items ≡ c.note_bits.new.blocks = with_items_is old c.note_bits.new.blocks (c.note_bits.auto.blocks ∙ c.deref_mut.ensures.len) in
    ap (λ blocks. is_other w (owner_among tiles (items_of blocks) t b)) items
    ∙ c.note_bits.ensures.held t b w
    ∙ ap (λ blocks. holds_more (group_view c.args.group.now) t w b (is_other w (owner_among tiles (items_of blocks) t b))) c.deref_mut.ensures.value
    ∙ ap (λ o. holds_more (group_view c.args.group.now) t w b (is_other w o)) (c.in_ok-number.ensures.same t b)
