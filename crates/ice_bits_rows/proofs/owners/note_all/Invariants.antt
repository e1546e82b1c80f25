use Rattle.std.proofs.Common.{◌≡◌, ℕ, drop, map}
use Rattle.std.specs.Prelude.{◌||◌}
use Rattle.ice_base.specs.declared.number.TileAt.{TileAt}
use Rattle.ice_base.specs.declared.bit.BitAt.{BitAt}
use Rattle.ice_chip.specs.Views.{group_view}
use Rattle.ice_bits_rows.specs.Bundles.{is_of_other}
use Rattle.ice_bits_rows.specs.Owners.{items_of, owner_at, is_other, AreEven}
use Rattle.ice_bits_rows.proofs.owners.note_all.Given as goal

abbrev pub invariant-loop-group : goal.invariant-loop-group
invariant-loop-group l = record {
  even : AreEven l.owners.tiles.keys (items_of l.owners.blocks.items);
  held : (t : TileAt) (b : BitAt) (w : ℕ) → (is_other w (owner_at l.owners t b) || is_of_other (map group_view (drop l.group-index l.groups)) t w b) ≡ is_of_other (map group_view l.groups) t w b;
}
