-- Tiles that are added one after another, slice by slice.
use Rattle.std.proofs.Common.{◌≡◌, ℕ, ◌+◌, ◌<◌, ◌≤◌, List, [], ◌∷◌, ◌++◌, length, get_or, take, sym, ap, ◌∙◌, append_assoc, append-nil, take_all}
use Rattle.std.specs.Borrow.{Bor}
use Rattle.std.proofs.lemmas.List.{take_more, map_more}
use Rattle.std.proofs.lemmas.List.Concat.{flat_map-append}
use Rattle.ice_base.specs.declared.number.TileAt.{TileAt}
use Rattle.ice_place.specs.Place.{joined}
use Rattle.ice_place.specs.Views.{tiles_of}

pub tile_more : (more : List TileAt) (i : ℕ) (d : TileAt) (start old new : List TileAt) → i < length more → old ≡ start ++ take i more → new ≡ old ++ get_or more i d ∷ [] → new ≡ start ++ take (i + 1) more
tile_more more i d start old new lt were is =
    is ∙ ap (λ ts. ts ++ get_or more i d ∷ []) were ∙ append_assoc start (take i more) (get_or more i d ∷ []) ∙ ap (λ ts. start ++ ts) (sym (take_more more i d lt))

pub all_tiles : (more : List TileAt) (i : ℕ) (start made : List TileAt) → length more ≤ i → made ≡ start ++ take i more → made ≡ start ++ more
all_tiles more i start made le is = is ∙ ap (λ ts. start ++ ts) (take_all i more le)

pub slice_more : (slices : List (Bor (List TileAt))) (i : ℕ) (d : Bor (List TileAt)) (start old new : List TileAt) → i < length slices → old ≡ start ++ joined (tiles_of (take i slices))
    → new ≡ old ++ (get_or slices i d).now → new ≡ start ++ joined (tiles_of (take (i + 1) slices))
slice_more slices i d start old new lt were is =
    let before = tiles_of (take i slices) in
    let slice = (get_or slices i d).now in
    let both : joined (tiles_of (take (i + 1) slices)) ≡ joined before ++ slice =
    ap joined (map_more (λ (s : Bor (List TileAt)). s.now) slices i d lt) ∙ flat_map-append (λ (sites : List TileAt). sites) before (slice ∷ []) ∙ ap (λ ts. joined before ++ ts) (append-nil slice) in
    is ∙ ap (λ ts. ts ++ slice) were ∙ append_assoc start (joined before) slice ∙ ap (λ ts. start ++ ts) (sym both)

pub all_slices : (slices : List (Bor (List TileAt))) (i : ℕ) (start made : List TileAt) → length slices ≤ i → made ≡ start ++ joined (tiles_of (take i slices)) → made ≡ start ++ joined (tiles_of slices)
all_slices slices i start made le is = is ∙ ap (λ ss. start ++ joined (tiles_of ss)) (take_all i slices le)
