-- Places in order, one more at a time.
use Rattle.std.proofs.Common.{◌≡◌, ℕ, zero, suc, ◌+◌, ◌==◌, ◌&&◌, Bool, true, false, cond, Option, None, Some, option_map, List, [], ◌∷◌, ◌++◌, map, filter, refl, ap, sym, ◌∙◌, append-nil, append_assoc, arith}
use Rattle.std.specs.List.{list_any}
use Rattle.std.specs.Map.{lookup}
use Rattle.std.proofs.lemmas.Bool.{or_parts}
use Rattle.std.proofs.lemmas.List.Elements.{filter-append}
use Rattle.ice_base.specs.declared.number.TileAt.{TileAt}
use Rattle.ice_chip.specs.Database.{Parts, same_tile}
use Rattle.ice_chip.specs.Listings.{tile_of}
use Rattle.ice_chip.specs.declared.rows.TileLine.{TileLine}
use Rattle.ice_sites.specs.Site.{all_below, has_cell, has_chain, has_controls, has_entry, is_logic, is_site}
use Rattle.ice_sites.specs.Stretches.{column, columns}

pub no_place : (test : TileAt → Bool) (x : ℕ) (sites : List TileAt) → sites ≡ sites ++ filter test (column x 0)
unfolding column
no_place test x sites = sym (append-nil sites)

at : ℕ → ℕ → TileAt
at x y = record { x = x; y = y }

one_more : (test : TileAt → Bool) (x y : ℕ) → column x (y + 1) ≡ column x y ++ (record { x = x; y = y }) ∷ []
unfolding column
one_more test x y = let one : y + 1 ≡ suc y = omega arith in rw one refl

taken : (test : TileAt → Bool) (t : TileAt) → test t ≡ true → filter test (t ∷ []) ≡ t ∷ []
taken test t e = rw e refl

left_out : (test : TileAt → Bool) (t : TileAt) → test t ≡ false → filter test (t ∷ []) ≡ []
left_out test t e = rw e refl

-- a place that is taken
pub next_place : (test : TileAt → Bool) (x y : ℕ) (sites old : List TileAt) → sites ≡ old ++ filter test (column x y) → test (record { x = x; y = y }) ≡ true
    → sites ++ (record { x = x; y = y }) ∷ [] ≡ old ++ filter test (column x (y + 1))
next_place test x y sites old e is =
    ap (λ xs. xs ++ (record { x = x; y = y }) ∷ []) e
    ∙ append_assoc old (filter test (column x y)) ((record { x = x; y = y }) ∷ [])
    ∙ ap (λ xs. old ++ xs) (sym (ap (filter test) (one_more test x y) ∙ filter-append test (column x y) ((record { x = x; y = y }) ∷ []) ∙ ap (λ xs. filter test (column x y) ++ xs) (taken test (record { x = x; y = y }) is)))

-- a place that is left out
pub other_place : (test : TileAt → Bool) (x y : ℕ) (sites old : List TileAt) → sites ≡ old ++ filter test (column x y) → test (record { x = x; y = y }) ≡ false
    → sites ≡ old ++ filter test (column x (y + 1))
other_place test x y sites old e is =
    e ∙ ap (λ xs. old ++ xs) (sym (ap (filter test) (one_more test x y) ∙ filter-append test (column x y) ((record { x = x; y = y }) ∷ []) ∙ ap (λ xs. filter test (column x y) ++ xs) (left_out test (record { x = x; y = y }) is) ∙ append-nil (filter test (column x y))))

pub no_column : (test : TileAt → Bool) → filter test (columns 0) ≡ []
unfolding columns
no_column test = refl

pub next_column : (test : TileAt → Bool) (x : ℕ) (sites new : List TileAt) → sites ≡ filter test (columns x) → new ≡ sites ++ filter test (column x 256) → new ≡ filter test (columns (x + 1))
unfolding columns
next_column test x sites new e more =
    more ∙ ap (λ xs. xs ++ filter test (column x 256)) e
    ∙ sym (filter-append test (columns x) (column x 256))
    ∙ ap (λ n. filter test (columns n)) (let one : suc x ≡ x + 1 = omega arith in one)

-- ---- a column without tiles
no_tile : (tiles : List (TileAt × TileLine)) (x y : ℕ) → list_any (λ t. x == t.at.x) (map tile_of tiles) ≡ false → lookup (same_tile (record { x = x; y = y })) tiles ≡ None
no_tile [] x y e = refl
no_tile (row ∷ tiles) x y e =
    let parts = or_parts (x == row.0.x) (list_any (λ t. x == t.at.x) (map tile_of tiles)) e in
    ap (λ b. cond (b && (y == row.0.y)) (Some row.1) (lookup (same_tile (record { x = x; y = y })) tiles)) parts.0 ∙ no_tile tiles x y parts.1

no_site : (parts : Parts) (x y : ℕ) → list_any (λ t. x == t.at.x) (map tile_of parts.tiles) ≡ false → is_site parts (record { x = x; y = y }) ≡ false
no_site parts x y e =
    let t : TileAt = record { x = x; y = y } in
    ap (λ (known : Option TileLine). is_logic (option_map (λ k. k.kind) known) && all_below (has_cell parts t) 8 && has_controls parts t && has_entry parts t && all_below (has_chain parts t) 7) (no_tile parts.tiles x y e)

none_in : (parts : Parts) (x n : ℕ) → list_any (λ t. x == t.at.x) (map tile_of parts.tiles) ≡ false → filter (is_site parts) (column x n) ≡ []
unfolding column
none_in parts x zero e = refl
none_in parts x (suc n) e =
    filter-append (is_site parts) (column x n) ((record { x = x; y = n }) ∷ [])
    ∙ ap (λ xs. xs ++ filter (is_site parts) ((record { x = x; y = n }) ∷ [])) (none_in parts x n e)
    ∙ left_out (is_site parts) (record { x = x; y = n }) (no_site parts x n e)

pub no_sites : (parts : Parts) (x n : ℕ) (sites : List TileAt) → list_any (λ t. x == t.at.x) (map tile_of parts.tiles) ≡ false → sites ≡ sites ++ filter (is_site parts) (column x n)
no_sites parts x n sites e = sym (ap (λ xs. sites ++ xs) (none_in parts x n e) ∙ append-nil sites)
