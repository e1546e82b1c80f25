-- The names that are numbered, one row on.
use Rattle.std.proofs.Common.{◌≡◌, ℕ, ◌+◌, ◌<◌, true, false, cond, List, ◌∷◌, map, filter, length, get_or, drop, sym, ap, ◌∙◌}
use Rattle.std.proofs.lemmas.List.{drop_more}
use Rattle.ice_base.specs.declared.number.TileAt.{TileAt}
use Rattle.ice_chip.specs.Lookups.{is_placed, placed_wire}
use Rattle.ice_chip.specs.Indices.{Numbered, with_named, numbered}
use Rattle.ice_chip.specs.Views.{name_view}
use Rattle.ice_chip.specs.declared.rows.TileLine.{TileLine}
use Rattle.ice_chip.specs.declared.sections.NameRow.{NameRow}

module _ (tiles : List (TileAt × TileLine)) (rows : List NameRow) where
  -- the names that are left from a row on
  abbrev pub left : ℕ → Numbered → Numbered
  left i s = numbered s (map placed_wire (filter (is_placed tiles) (map name_view (drop i rows))))

  step : (i : ℕ) (x : NameRow) (s : Numbered) → i < length rows → x ≡ get_or rows i x
      → left i s ≡ numbered s (map placed_wire (cond (is_placed tiles (name_view x)) (name_view x ∷ filter (is_placed tiles) (map name_view (drop (i + 1) rows))) (filter (is_placed tiles) (map name_view (drop (i + 1) rows)))))
  step i x s lt at =
      ap (λ xs. numbered s (map placed_wire (filter (is_placed tiles) (map name_view xs)))) (drop_more rows i x lt ∙ ap (λ y. y ∷ drop (i + 1) rows) (sym at))

  pub named_on : (i : ℕ) (x : NameRow) (whole before now : Numbered) → i < length rows → x ≡ get_or rows i x → whole ≡ left i before
      → is_placed tiles (name_view x) ≡ true → now ≡ with_named before (placed_wire (name_view x)) → whole ≡ left (i + 1) now
  named_on i x whole before now lt at so_far placed is =
      so_far ∙ step i x before lt at
      ∙ ap (λ b. numbered before (map placed_wire (cond b (name_view x ∷ filter (is_placed tiles) (map name_view (drop (i + 1) rows))) (filter (is_placed tiles) (map name_view (drop (i + 1) rows)))))) placed
      ∙ ap (left (i + 1)) (sym is)

  pub named_past : (i : ℕ) (x : NameRow) (whole before : Numbered) → i < length rows → x ≡ get_or rows i x → whole ≡ left i before
      → is_placed tiles (name_view x) ≡ false → whole ≡ left (i + 1) before
  named_past i x whole before lt at so_far placed =
      so_far ∙ step i x before lt at
      ∙ ap (λ b. numbered before (map placed_wire (cond b (name_view x ∷ filter (is_placed tiles) (map name_view (drop (i + 1) rows))) (filter (is_placed tiles) (map name_view (drop (i + 1) rows)))))) placed
