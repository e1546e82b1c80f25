-- The text that is written for bits of a chip says these bits.
use Rattle.std.proofs.Common.{◌≡◌, ◌≢◌, ℕ, Bool, true, false, Option, Some, Ok, List, [], ◌∷◌, ◌++◌, length, map, refl, sym, ap, ◌∙◌, subst, append-nil, append_assoc, arith}
use Rattle.std.specs.Prelude.{codes, decimal, All, ◌≤◌}
use Rattle.std.specs.List.{AllByRecursion, flat_map, range_with_len, IsDistinct}
use Rattle.std.specs.Map.{lookup, keys_of}
use Rattle.std.proofs.lemmas.List.Elements.{recursion_from_All, All-weaker}
use Rattle.ice_base.specs.declared.number.TileAt.{TileAt}
use Rattle.ice_base.specs.declared.bit.BitAt.{BitAt}
use Rattle.ice_base.specs.Text.{numbered}
use Rattle.ice_base.specs.Lines.{IsLine}
use Rattle.ice_base.proofs.TextLines.{all_append, word_line, lines_read}
use Rattle.ice_chip.specs.Database.{Parts, same_tile, columns, tile_known}
use Rattle.ice_chip.specs.Listings.{tile_of}
use Rattle.ice_chip.specs.Within.{IsPlace}
use Rattle.ice_chip.specs.declared.rows.TileLine.{TileLine}
use Rattle.ice_chip.specs.declared.rows.TileKind.{TileKind}
use Rattle.ice_chip.specs.declared.tile.Tile.{Tile}
use Rattle.ice_bits.specs.Configuration.{Configuration, bit_at, bits_of, rows_at}
use Rattle.ice_bits.specs.Grids.{IsGrid, AreGrids, IsOf, blank_rows, blank_tile, blank}
use Rattle.ice_bits.specs.Rewriting.{with_rows}
use Rattle.ice_asc.specs.Faults.{◌>>=◌}
use Rattle.ice_asc.specs.Grammar.{Reading, start, lines_say, end_says, asc_in}
use Rattle.ice_asc.specs.Words.{heading_of_kind}
use Rattle.ice_asc.specs.RoundTrip.{IsSmall, WrittenIsRead}
use Rattle.ice_asc.specs.Text.{digit_of_bit, bit_at_place, spaced, row_line, tile_heading, tile_lines, content_heading, content_lines, extra_line, asc_lines, asc_text}
use Rattle.ice_asc.specs.Hex.{row_digits}
use Rattle.ice_asc.proofs.Filled.{keys_push}
use Rattle.ice_asc.proofs.TextLines.{plain_line, decimal_line, kind_word}
use Rattle.ice_asc.proofs.WrittenContents.{contents_said, contents_near}
use Rattle.ice_asc.proofs.WrittenWords.{digits_line}
use Rattle.ice_asc.proofs.WrittenLines.{rows_are, IsElsewhere, apart_before, unseen, found, changed, self_same}
use Rattle.ice_asc.proofs.WrittenReading.{IsNear, Reads, reads_line, behind, rows_read, ready, entered, heading_read, extra_read, in_comment, comment_read, remark_read, device_read}

abbrev Tiles : Type 0
Tiles = List (TileAt × List (List Bool))

abbrev bits_with : List TileKind → Tiles → List (ℕ × ℕ × ℕ) → Tiles → Configuration
bits_with kinds tiles extras contents = record { tiles = tiles; kinds = kinds; extras = extras; contents = contents }

-- ---- extra bits, and the end
extras_read : (parts : Parts) (seen : List TileAt) (kinds : List TileKind) (tiles contents : Tiles) (done left : List (ℕ × ℕ × ℕ)) → AllByRecursion IsSmall left
    → Reads parts (ready seen (bits_with kinds tiles done contents)) (map extra_line left) (bits_with kinds tiles (done ++ left) contents)
extras_read parts seen kinds tiles contents done [] small = λ last n. ap (λ extras. Ok (bits_with kinds tiles extras contents)) (sym (append-nil done))
extras_read parts seen kinds tiles contents done (extra ∷ left) small =
    reads_line parts (ready seen (bits_with kinds tiles done contents)) (λ n. ready seen (bits_with kinds tiles (done ++ extra ∷ []) contents)) (extra_line extra) (map extra_line left)
    (bits_with kinds tiles (done ++ extra ∷ left) contents)
    (λ n. extra_read parts seen (bits_with kinds tiles done contents) extra n small.0)
    (λ n. subst (λ extras. Reads parts (ready seen (bits_with kinds tiles (done ++ extra ∷ []) contents)) (map extra_line left) (bits_with kinds tiles extras contents)) (append_assoc done (extra ∷ []) left)
    (extras_read parts seen kinds tiles contents (done ++ extra ∷ []) left small.1))

-- ---- tiles
-- the lines of a tile whose rows are these
lines_of : (k : Configuration) (tile : Tile) (rows : List (List Bool)) → rows_at k tile.at ≡ Some rows → IsGrid (columns tile.kind) rows → tile_lines k tile ≡ tile_heading tile ∷ map (map digit_of_bit) rows
lines_of k tile rows at is =
    ap (λ ls. tile_heading tile ∷ ls) (rows_are (bits_of k tile.at) rows (columns tile.kind) is (λ b. ap (λ (o : Option (List (List Bool))). bit_at o b) at))

tiles_read : (parts : Parts) (k : Configuration) (front rest : List (TileAt × TileLine)) (done grids : Tiles) (ls : List (List ℕ))
    → parts.tiles ≡ front ++ rest → k.tiles ≡ done ++ grids → keys_of done ≡ keys_of front → AreGrids rest grids
    → IsDistinct same_tile (keys_of front ++ keys_of rest) → AllByRecursion IsNear (keys_of rest)
    → Reads parts (ready (keys_of parts.tiles) (bits_with k.kinds k.tiles [] [])) ls k
    → Reads parts (ready (keys_of front) (bits_with k.kinds (done ++ map blank_tile rest) [] [])) (flat_map (tile_lines k) (map tile_of rest) ++ ls) k
tiles_read parts k front [] done [] ls stand held keys are apart near later =
    let tiles : parts.tiles ≡ front = stand ∙ append-nil front in
    let grids : k.tiles ≡ done ++ [] = held in
    subst (λ (f : List (TileAt × TileLine)). Reads parts (ready (keys_of f) (bits_with k.kinds (done ++ []) [] [])) ls k) tiles
    (subst (λ (ts : Tiles). Reads parts (ready (keys_of parts.tiles) (bits_with k.kinds ts [] [])) ls k) grids later)
tiles_read parts k front [] done (grid ∷ grids) ls stand held keys are apart near later = absurd are
tiles_read parts k front (tile ∷ rest) done [] ls stand held keys are apart near later = absurd are
tiles_read parts k front (tile ∷ rest) done (grid ∷ grids) ls stand held keys are apart near later =
    let at : TileAt = tile.0 in
    let rows : List (List Bool) = grid.1 in
    let new : IsElsewhere at (keys_of front) = apart_before at (keys_of front) (keys_of rest) apart in
    let new_done : IsElsewhere at (keys_of done) = subst (IsElsewhere at) (sym keys) new in
    let known : tile_known parts.tiles at ≡ Some tile.1 = ap (lookup (same_tile at)) stand ∙ found at tile.1 front rest new (self_same at) in
    let same_grid : grid ≡ (at, rows) = λ i. (are.0 i, grid.1) in
    let kept : rows_at k at ≡ Some rows = ap (lookup (same_tile at)) (held ∙ ap (λ (g : TileAt × List (List Bool)). done ++ g ∷ grids) same_grid) ∙ found at rows done grids new_done (self_same at) in
    let said : tile_lines k (tile_of tile) ≡ tile_heading (tile_of tile) ∷ map (map digit_of_bit) rows = lines_of k (tile_of tile) rows kept are.1 in
    let more : List (List ℕ) = flat_map (tile_lines k) (map tile_of rest) ++ ls in
    let bits : Configuration = bits_with k.kinds (done ++ map blank_tile (tile ∷ rest)) [] [] in
    let next : Reads parts (ready (keys_of (front ++ tile ∷ [])) (bits_with k.kinds ((done ++ grid ∷ []) ++ map blank_tile rest) [] [])) more k =
    tiles_read parts k (front ++ tile ∷ []) rest (done ++ grid ∷ []) grids ls
    (stand ∙ sym (append_assoc front (tile ∷ []) rest))
    (held ∙ sym (append_assoc done (grid ∷ []) grids))
    (keys_push done grid ∙ ap (λ ks. ks ++ grid.0 ∷ []) keys ∙ ap (λ (t : TileAt). keys_of front ++ t ∷ []) are.0 ∙ sym (keys_push front tile))
    are.2
    (subst (IsDistinct same_tile) (sym (ap (λ ks. ks ++ keys_of rest) (keys_push front tile) ∙ append_assoc (keys_of front) (at ∷ []) (keys_of rest))) apart)
    near.1 later in
    let written : with_rows at rows bits ≡ bits_with k.kinds ((done ++ grid ∷ []) ++ map blank_tile rest) [] [] =
    ap (λ (ts : Tiles). bits_with k.kinds ts [] [])
    (changed at (λ _. rows) (blank_rows (columns tile.1.kind)) done (map blank_tile rest) new_done (self_same at)
    ∙ ap (λ (g : TileAt × List (List Bool)). done ++ g ∷ map blank_tile rest) (sym same_grid) ∙ sym (append_assoc done (grid ∷ []) (map blank_tile rest))) in
    let after : (n : ℕ) → Reads parts (behind (entered (keys_of front) bits n at tile.1.kind) at rows) more k = λ n.
    subst (λ (c : Configuration). Reads parts (ready (keys_of front ++ at ∷ []) c) more k) (sym written)
    (subst (λ (ks : List TileAt). Reads parts (ready ks (bits_with k.kinds ((done ++ grid ∷ []) ++ map blank_tile rest) [] [])) more k) (keys_push front tile) next) in
    let all : Reads parts (ready (keys_of front) bits) (tile_heading (tile_of tile) ∷ (map (map digit_of_bit) rows ++ more)) k =
    reads_line parts (ready (keys_of front) bits) (λ n. entered (keys_of front) bits n at tile.1.kind) (tile_heading (tile_of tile)) (map (map digit_of_bit) rows ++ more) k
    (λ n. heading_read parts (keys_of front) bits (tile_of tile) tile.1 n near.0 known refl (unseen at (keys_of front) new))
    (λ n. rows_read parts (entered (keys_of front) bits n at tile.1.kind) n at tile.1.kind [] rows more k
    (recursion_from_All (λ (row : List Bool). length row ≡ columns tile.1.kind) rows are.1.wide) (omega arith) (let e = are.1.tall in omega arith) (after n)) in
    subst (λ (written_lines : List (List ℕ)). Reads parts (ready (keys_of front) bits) written_lines k)
    (sym (append_assoc (tile_lines k (tile_of tile)) (flat_map (tile_lines k) (map tile_of rest)) ls ∙ ap (λ own. own ++ more) said)) all

-- ---- lines of the text
spaced_line : (l m : List ℕ) → IsLine l → IsLine m → IsLine (spaced l m)
spaced_line l m h h' = all_append (λ b. b ≢ 10) l (32 ∷ m) h (λ e. omega arith, h')

heading_line : (tile : Tile) → IsNear tile.at → IsLine (tile_heading tile)
heading_line tile near =
    let x : IsLine (decimal tile.at.x) = decimal_line tile.at.x (let lt = near.x in omega arith) in
    let y : IsLine (decimal tile.at.y) = decimal_line tile.at.y (let lt = near.y in omega arith) in
    spaced_line (heading_of_kind tile.kind) (spaced (decimal tile.at.x) (decimal tile.at.y)) (word_line (heading_of_kind tile.kind) (kind_word tile.kind).1)
    (spaced_line (decimal tile.at.x) (decimal tile.at.y) x y)

row_is_line : (f : ℕ → Bool) (cols : List ℕ) → IsLine (map (λ col. digit_of_bit (f col)) cols)
row_is_line f [] = tt
row_is_line f (col ∷ cols) = (by (f col), row_is_line f cols)
  where
    by : (bit : Bool) → digit_of_bit bit ≢ 10
    by true e = omega arith
    by false e = omega arith

rows_are_lines : (bits : BitAt → Bool) (width : ℕ) (rows : List ℕ) → AllByRecursion IsLine (map (row_line bits width) rows)
rows_are_lines bits width [] = tt
rows_are_lines bits width (row ∷ rows) = (row_is_line (λ col. bits (bit_at_place row col)) (range_with_len 0 width), rows_are_lines bits width rows)

tiles_are_lines : (k : Configuration) (tiles : List (TileAt × TileLine)) → AllByRecursion IsNear (keys_of tiles) → AllByRecursion IsLine (flat_map (tile_lines k) (map tile_of tiles))
tiles_are_lines k [] near = tt
tiles_are_lines k (tile ∷ tiles) near =
    all_append IsLine (tile_lines k (tile_of tile)) (flat_map (tile_lines k) (map tile_of tiles))
    (heading_line (tile_of tile) near.0, rows_are_lines (bits_of k tile.0) (columns tile.1.kind) (range_with_len 0 16)) (tiles_are_lines k tiles near.1)

extras_are_lines : (extras : List (ℕ × ℕ × ℕ)) → AllByRecursion IsSmall extras → AllByRecursion IsLine (map extra_line extras)
extras_are_lines [] small = tt
extras_are_lines (extra ∷ extras) small =
    let b : IsLine (decimal extra.0) = decimal_line extra.0 (let lt = small.0.bank in omega arith) in
    let x : IsLine (decimal extra.1) = decimal_line extra.1 (let lt = small.0.column in omega arith) in
    let y : IsLine (decimal extra.2) = decimal_line extra.2 (let lt = small.0.row in omega arith) in (
      spaced_line (codes ".extra_bit") (spaced (decimal extra.0) (spaced (decimal extra.1) (decimal extra.2))) (plain_line (codes ".extra_bit") refl)
          (spaced_line (decimal extra.0) (spaced (decimal extra.1) (decimal extra.2)) b (spaced_line (decimal extra.1) (decimal extra.2) x y)),
      extras_are_lines extras small.1,
    )

content_heading_line : (t : TileAt) → IsNear t → IsLine (content_heading t)
content_heading_line t near =
    let x : IsLine (decimal t.x) = decimal_line t.x (let lt = near.x in omega arith) in
    let y : IsLine (decimal t.y) = decimal_line t.y (let lt = near.y in omega arith) in
    spaced_line (codes ".ram_data") (spaced (decimal t.x) (decimal t.y)) (plain_line (codes ".ram_data") refl) (spaced_line (decimal t.x) (decimal t.y) x y)

digits_are_lines : (words : List (List Bool)) (rows : List ℕ) → AllByRecursion IsLine (map (row_digits words) rows)
digits_are_lines words [] = tt
digits_are_lines words (row ∷ rows) = (digits_line words row, digits_are_lines words rows)

contents_are_lines : (contents : Tiles) → AllByRecursion IsNear (keys_of contents) → AllByRecursion IsLine (flat_map content_lines contents)
contents_are_lines [] near = tt
contents_are_lines (content ∷ contents) near =
    all_append IsLine (content_lines content) (flat_map content_lines contents) (content_heading_line content.0 near.0, digits_are_lines content.1 (range_with_len 0 16)) (contents_are_lines contents near.1)

-- ---- the whole text
-- bits of a database whose tiles stand at different places, with numbers that can be written
record IsWritable (parts : Parts) (k : Configuration) : Type 0 where
  form : IsOf parts k
  apart : IsDistinct same_tile (keys_of parts.tiles)
  near : All IsNear (keys_of parts.tiles)
  small : All IsSmall k.extras

written_says : (parts : Parts) (k : Configuration) → IsWritable parts k → asc_in parts (asc_text parts k) ≡ Ok k
written_says parts k w =
    let near : AllByRecursion IsNear (keys_of parts.tiles) = recursion_from_All IsNear (keys_of parts.tiles) w.near in
    let small : AllByRecursion IsSmall k.extras = recursion_from_All IsSmall k.extras w.small in
    let near_rams : AllByRecursion IsNear (keys_of k.contents) = contents_near parts k.contents near w.form.contents.each in
    let extras : List (List ℕ) = map extra_line k.extras in
    let ends : List (List ℕ) = flat_map content_lines k.contents ++ extras in
    let body : List (List ℕ) = flat_map (tile_lines k) (map tile_of parts.tiles) ++ ends in
    let are_lines : AllByRecursion IsLine (asc_lines parts k) = (
      plain_line (codes ".comment") refl,
      (
        plain_line (codes "placed and routed") refl,
        (
          plain_line (codes ".device 1k") refl,
          all_append IsLine (flat_map (tile_lines k) (map tile_of parts.tiles)) ends (tiles_are_lines k parts.tiles near)
              (all_append IsLine (flat_map content_lines k.contents) extras (contents_are_lines k.contents near_rams) (extras_are_lines k.extras small)),
        ),
      ),
    ) in
    let extras_end : Reads parts (ready (keys_of parts.tiles) (bits_with k.kinds k.tiles [] k.contents)) extras k = extras_read parts (keys_of parts.tiles) k.kinds k.tiles k.contents [] k.extras small in
    let ended : Reads parts (ready (keys_of parts.tiles) (bits_with k.kinds k.tiles [] [])) ends k =
    contents_said parts (keys_of parts.tiles) (bits_with k.kinds k.tiles [] []) [] k.contents extras k w.form.contents.each near_rams w.form.contents.once extras_end in
    let tiles : Reads parts (ready [] (blank parts)) body k =
    subst (λ (kinds : List TileKind). Reads parts (ready [] (bits_with kinds (map blank_tile parts.tiles) [] [])) body k) w.form.kinds
    (tiles_read parts k [] parts.tiles [] k.tiles ends refl refl refl w.form.grids w.apart near ended) in
    let device : Reads parts (in_comment parts) (codes ".device 1k" ∷ body) k = reads_line parts (in_comment parts) (λ n. ready [] (blank parts)) (codes ".device 1k") body k (device_read parts) (λ n. tiles) in
    let remark : Reads parts (in_comment parts) (codes "placed and routed" ∷ codes ".device 1k" ∷ body) k =
    reads_line parts (in_comment parts) (λ n. in_comment parts) (codes "placed and routed") (codes ".device 1k" ∷ body) k (remark_read parts) (λ n. device) in
    let comment : Reads parts (start parts) (asc_lines parts k) k =
    reads_line parts (start parts) (λ n. in_comment parts) (codes ".comment") (codes "placed and routed" ∷ codes ".device 1k" ∷ body) k (comment_read parts) (λ n. remark) in
    ap (λ ls. lines_say parts (start parts) (numbered 1 ls) >>= (λ (r : Reading). end_says r r.section)) (lines_read (asc_lines parts k) are_lines) ∙ comment 0 1

-- ---- the text of a chip
near_place : (width height : ℕ) (t : TileAt) → width ≤ 256 → height ≤ 256 → IsPlace width height t → IsNear t
near_place width height t narrow low place =
    let x = place.x in
    let y = place.y in
    record { x = omega arith; y = omega arith }

pub chip_says : WrittenIsRead
chip_says parts k chip form small =
    let read = chip.read in
    written_says parts k (record {
      form = form;
      apart = read.tiles_once;
      near = All-weaker (IsPlace parts.width parts.height) IsNear (λ t place. near_place parts.width parts.height t read.narrow read.low place) (keys_of parts.tiles) read.tile_places;
      small = small;
    })
