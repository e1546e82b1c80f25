-- A name that shares no wire with another pin leaves the rest to look at.
use Rattle.std.proofs.Common.{◌≡◌, ℕ, ◌+◌, ◌<◌, Option, None, Some, false, List, map, length, drop, get_or, ap, ◌∙◌, true≢false}
use Rattle.std.specs.Prelude.{is_some}
use Rattle.std.proofs.lemmas.List.{at_drop_more}
use Rattle.ice_base.specs.declared.number.TileAt.{TileAt}
use Rattle.ice_chip.specs.Database.{tile_known}
use Rattle.ice_chip.specs.SharedPins.{with_pin_name, shared_from}
use Rattle.ice_chip.specs.Views.{name_view}
use Rattle.ice_chip.specs.WholeFaults.{clash_or, unless_clash}
use Rattle.ice_chip.specs.declared.rows.TileLine.{TileLine}
use Rattle.ice_chip.specs.declared.name_lines.PinLine.{PinLine}
use Rattle.ice_chip.specs.declared.sections.NameRow.{NameRow}

pub pin_passed : (tiles : List (TileAt × TileLine)) (seen more : List (ℕ × PinLine)) (names : List NameRow) (i : ℕ) (d : NameRow) (lines : Option (ℕ × ℕ)) → i < length names
    → with_pin_name (tile_known tiles (get_or names i d).tile) seen (name_view (get_or names i d)) ≡ clash_or lines more → is_some lines ≡ false
    → shared_from tiles seen (map name_view (drop i names)) ≡ shared_from tiles more (map name_view (drop (i + 1) names))
pin_passed tiles seen more names i d None lt noted none =
    at_drop_more (λ ns. shared_from tiles seen (map name_view ns)) names i d lt
    ∙ ap (λ r. unless_clash r (λ s. shared_from tiles s (map name_view (drop (i + 1) names)))) noted
pin_passed tiles seen more names i d (Some both) lt noted none = absurd (true≢false none)
