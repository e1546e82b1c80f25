-- The column buffers of rows by their numbers.
use Rattle.std.proofs.Common.{◌≡◌, ℕ, ◌+◌, ◌<◌, ◌≤◌, Bool, true, false, Option, None, Some, List, [], ◌∷◌, ◌++◌, length, take, get_or, refl, ap, sym, true≢false, ◌∙◌}
use Rattle.std.specs.Prelude.{◌&&◌, ◌||◌, if◌then◌else◌, slice_get, flat_map, option_map}
use Rattle.std.specs.List.{list_any}
use Rattle.std.proofs.lemmas.List.{append_assoc, append-nil, take_more}
use Rattle.std.proofs.lemmas.List.Concat.{flat_map-append}
use Rattle.std.proofs.lemmas.Option.{slice_get_past}
use Rattle.ice_base.specs.declared.number.RowNo.{RowNo}
use Rattle.ice_base.specs.declared.number.TileAt.{TileAt}
use Rattle.ice_chip.specs.Database.{Parts, SwitchGroup, SwitchRow, same_tile}
use Rattle.ice_chip.specs.Lookups.{names_of}
use Rattle.ice_chip.specs.Listings.{rows_of}
use Rattle.ice_chip.specs.Names.{is_global_name}
use Rattle.ice_chip.specs.declared.placed.PlacedName.{PlacedName}
use Rattle.ice_decode.specs.Meaning.{global_at}
use Rattle.ice_decode.specs.Drivers.{number_at}
use Rattle.ice_emit_rows_laws.specs.Settings.{Setting}
use Rattle.ice_emit_defs.specs.Functions.{global_settings, buffer_settings}
use Rattle.ice_emit_defs.specs.Links.{tree_switch, listed, switch_of_row}
use Rattle.ice_emit_settings.specs.Buffers.{row_buffers, has_global_name}
use Rattle.ice_emit_settings.specs.Views.{switches}
use Rattle.ice_emit_settings.proofs.Listed.{last_row}

pub row_buffers_are : (parts : Parts) (row : RowNo) (g : SwitchGroup) (r : SwitchRow) (old new : List Setting) → slice_get (rows_of parts.groups) row.0 ≡ Some (g, r)
    → new ≡ old ++ global_settings parts g.tile (global_at g.tile (names_of parts r.source)) → new ≡ old ++ row_buffers parts row
row_buffers_are parts row g r old new is e =
    e ∙ ap (λ xs. old ++ xs)
    (sym (append-nil (global_settings parts g.tile (global_at g.tile (names_of parts r.source)))) ∙ sym (ap (λ o. flat_map (buffer_settings parts) (listed (option_map (switch_of_row row.0) o))) is))

passed : (here named more : Bool) (found later : Option ℕ) → (named || more) ≡ false → (more ≡ false → later ≡ None) → (if here && named then found else later) ≡ None
passed true true more found later e next = absurd (true≢false e)
passed true false more found later e next = next e
passed false true more found later e next = absurd (true≢false e)
passed false false more found later e next = next e

-- a wire without the name of a global is none in any tile
pub no_global : (t : TileAt) (names : List PlacedName) → list_any (λ n. is_global_name n.name) names ≡ false → global_at t names ≡ None
no_global t [] e = refl
no_global t (n ∷ names) e =
    passed (same_tile n.tile t) (is_global_name n.name) (list_any (λ m. is_global_name m.name) names) (Some (number_at n.name 10)) (global_at t names) e (no_global t names)

pub unnamed_buffers : (parts : Parts) (row : RowNo) (g : SwitchGroup) (r : SwitchRow) (old : List Setting) → slice_get (rows_of parts.groups) row.0 ≡ Some (g, r)
    → has_global_name parts r.source ≡ false → old ≡ old ++ row_buffers parts row
unnamed_buffers parts row g r old is unnamed =
    row_buffers_are parts row g r old old is
    (sym (append-nil old) ∙ ap (λ o. old ++ global_settings parts g.tile o) (sym (no_global g.tile (names_of parts r.source) unnamed)))

pub no_row_buffers : (parts : Parts) (row : RowNo) (old : List Setting) → length (rows_of parts.groups) ≤ row.0 → old ≡ old ++ row_buffers parts row
no_row_buffers parts row old le =
    sym (append-nil old) ∙ ap (λ xs. old ++ xs) (sym (ap (λ o. flat_map (buffer_settings parts) (listed (option_map (switch_of_row row.0) o))) (slice_get_past (rows_of parts.groups) row.0 le)))

pub next_buffers : (parts : Parts) (rows : List RowNo) (k : ℕ) (row d : RowNo) (start old new : List Setting) → k < length rows → row ≡ get_or rows k d → old ≡ start ++ flat_map (buffer_settings parts) (switches parts (take k rows))
    → new ≡ old ++ row_buffers parts row → new ≡ start ++ flat_map (buffer_settings parts) (switches parts (take (k + 1) rows))
next_buffers parts rows k row d start old new lt at before put =
    put ∙ ap (λ xs. xs ++ row_buffers parts row) before
    ∙ append_assoc start (flat_map (buffer_settings parts) (switches parts (take k rows))) (row_buffers parts row)
    ∙ ap (λ xs. start ++ xs)
    (sym (flat_map-append (buffer_settings parts) (switches parts (take k rows)) (listed (tree_switch parts row)))
    ∙ ap (flat_map (buffer_settings parts)) (sym (last_row parts (take k rows) row))
    ∙ ap (λ (rs : List RowNo). flat_map (buffer_settings parts) (switches parts rs)) (ap (λ (r : RowNo). take k rows ++ r ∷ []) at ∙ sym (take_more rows k d lt)))
