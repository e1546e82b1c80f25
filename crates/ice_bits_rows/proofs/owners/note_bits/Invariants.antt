use Rattle.std.proofs.Common.{◌≡◌, ℕ, drop}
use Rattle.std.specs.Prelude.{◌==◌, ◌&&◌, ◌||◌, not}
use Rattle.ice_base.specs.declared.number.TileAt.{TileAt}
use Rattle.ice_base.specs.declared.bit.BitAt.{BitAt}
use Rattle.ice_chip.specs.Database.{same_tile}
use Rattle.ice_chip.specs.Views.{group_view}
use Rattle.ice_bits_rows.specs.Bundles.{has_bit}
use Rattle.ice_bits_rows.specs.Owners.{items_of, owner_among, is_other, holds_more, AreEven}
use Rattle.ice_bits_rows.proofs.owners.note_bits.Given as goal

abbrev pub invariant-loop-bit : goal.invariant-loop-bit
invariant-loop-bit l = record {
  even : AreEven l.tiles.keys (items_of l.blocks);
  held : (t : TileAt) (b : BitAt) (w : ℕ)
      → (is_other w (owner_among l.tiles.keys (items_of l.blocks) t b) || (same_tile l.group.tile t && (not (l.group.wire.0 == w) && has_bit (drop l.bit-index l.group.bits.items) b)))
      ≡ holds_more (group_view l.group) t w b (is_other w (owner_among l.tiles.keys (items_of l.fn.blocks) t b));
}
