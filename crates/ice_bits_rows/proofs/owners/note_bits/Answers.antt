use Rattle.std.proofs.Common.{◌≡◌, ◌+◌, ◌<◌, true, drop, get_or, length, ap, sym, subst, ◌∙◌, arith}
use Rattle.std.specs.Prelude.{◌==◌, ◌&&◌, ◌||◌, not}
use Rattle.std.proofs.lemmas.List.{at_drop_more}
use Rattle.ice_base.specs.declared.bit.BitAt.{BitAt}
use Rattle.ice_chip.specs.Database.{same_tile}
use Rattle.ice_base.specs.Places.{same_place}
use Rattle.ice_bits_rows.specs.Bundles.{has_bit}
use Rattle.ice_bits_rows.specs.Owners.{items_of, owner_among, is_other, is_within, AreEven}
use Rattle.ice_bits_rows.proofs.Blocks.{even_with, items_long, noted}
use Rattle.ice_bits_rows.proofs.Shares.{one_more}
use Rattle.ice_bits_rows.proofs.owners.note_bits.Goals as goal

pub note-requires-clause-there : goal.note-requires-clause-there
note-requires-clause-there c =
    let old = c.requires.even.count in
    let now = c.loop-bit.invariant.even.count in
    omega (arith, c.requires.there, old, now, items_long c.args.blocks.now, items_long c.loop-bit.blocks)

pub note-requires-clause-within : goal.note-requires-clause-within
note-requires-clause-within c =
    let zero_bit : BitAt = record { row = 0; col = 0 } in
    let long = ap length c.as_slice-bit-items.ensures in
    subst (λ bits. is_within (get_or bits c.loop-bit.bit-index zero_bit) ≡ true) (sym c.as_slice-bit-items.ensures)
    (c.requires.bits c.loop-bit.bit-index zero_bit (omega (arith, long, c.loop-bit-test.true)))

pub note-requires-clause-long : goal.note-requires-clause-long
note-requires-clause-long c =
    let old = c.requires.even.count in
    let now = c.loop-bit.invariant.even.count in
    c.loop-bit.invariant.even.full c.args.number (omega (arith, c.requires.there, old, now, items_long c.args.blocks.now))

pub loop-bit-preserved : goal.loop-bit-preserved
loop-bit-preserved c =
    let zero_bit : BitAt = record { row = 0; col = 0 } in
    let long = ap length c.as_slice-bit-items.ensures in
    let i = c.loop-bit.invariant in
    let tiles = c.args.tiles.now.keys in
    let bit = get_or c.as_slice-bit-items.result.now c.loop-bit.bit-index zero_bit in
    let there : c.args.number < length (items_of c.loop-bit.blocks) =
    (let old = c.requires.even.count in let now = i.even.count in omega (arith, c.requires.there, old, now, items_long c.args.blocks.now)) in
    let within : is_within bit ≡ true =
    subst (λ bits. is_within (get_or bits c.loop-bit.bit-index zero_bit) ≡ true) (sym c.as_slice-bit-items.ensures)
    (c.requires.bits c.loop-bit.bit-index zero_bit (omega (arith, long, c.loop-bit-test.true))) in
    record {
      even = subst (AreEven tiles) (sym c.note.ensures) (even_with tiles (items_of c.loop-bit.blocks) c.args.number bit c.args.group.now.wire.0 i.even there);
      held = λ t b w.
          one_more (λ x y. owner_among tiles (items_of c.loop-bit.blocks) x y) c.args.group.now.tile bit c.args.group.now.wire.0 t b w (owner_among tiles (items_of c.note.new.blocks) t b)
          (has_bit (drop (c.loop-bit.bit-index + 1) c.args.group.now.bits.items) b)
          (noted tiles (items_of c.loop-bit.blocks) (items_of c.note.new.blocks) c.args.number c.args.group.now.tile bit c.args.group.now.wire.0 t b c.requires.number there i.even within c.note.ensures)
          ∙ ap (λ z. is_other w (owner_among tiles (items_of c.loop-bit.blocks) t b) || (same_tile c.args.group.now.tile t && (not (c.args.group.now.wire.0 == w) && z)))
          (ap (λ zs. same_place (get_or zs c.loop-bit.bit-index zero_bit) b || has_bit (drop (c.loop-bit.bit-index + 1) c.args.group.now.bits.items) b) c.as_slice-bit-items.ensures
          ∙ sym (at_drop_more (λ xs. has_bit xs b) c.args.group.now.bits.items c.loop-bit.bit-index zero_bit (omega (arith, long, c.loop-bit-test.true))))
          ∙ i.held t b w;
    }
