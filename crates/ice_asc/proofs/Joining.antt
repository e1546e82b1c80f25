-- Parts of a text that are written one after another.
use Rattle.std.proofs.Common.{arith, Bool, ◌≡◌, ℕ, ◌+◌, ◌<◌, List, [], ◌∷◌, ◌++◌, length, get_or, take, map, sym, ap, ◌∙◌, append-nil, append_assoc, Option, codes, decimal, refl}
use Rattle.std.proofs.lemmas.Grind.{flat_map-append}
use Rattle.std.specs.List.{flat_map, range_with_len}
use Rattle.std.proofs.lemmas.List.{take_more}
use Rattle.std.proofs.lemmas.List.FromFn.{map-range_with_len_more}
use Rattle.ice_base.specs.declared.bit.BitAt.{BitAt}
use Rattle.ice_base.specs.Lines.{text_of_lines}
use Rattle.ice_base.proofs.Pieces.{text_join, further}
use Rattle.ice_chip.specs.declared.tile.Tile.{Tile}
use Rattle.ice_chip.specs.Database.{Parts, columns}
use Rattle.ice_chip.specs.Listings.{tile_of}
use Rattle.ice_bits.specs.Configuration.{Configuration, bit_at, rows_at}
use Rattle.ice_asc.specs.Text.{digit_of_bit, bit_at_place, row_line, spaced, tile_heading, tile_lines, content_heading, content_lines, extra_line, asc_text}
use Rattle.ice_asc.specs.Hex.{row_digits}
use Rattle.ice_bits.specs.ContentViews.{content_view, contents_view}
use Rattle.ice_base.specs.declared.number.TileAt.{TileAt}
use Rattle.std.specs.declared.alloc.Global.{Global}
use Rattle.std.specs.Prelude.{Vec}

-- lines behind other lines
pub joined : (out : List ℕ) (ls ms : List (List ℕ)) → (out ++ text_of_lines ls) ++ text_of_lines ms ≡ out ++ text_of_lines (ls ++ ms)
joined out ls ms = append_assoc out (text_of_lines ls) (text_of_lines ms) ∙ ap (λ text. out ++ text) (text_join ls ms)

-- the three lines in front, and three lists of lines behind them
pub all_joined : (out comment remark device : List ℕ) (tiles contents extras : List (List ℕ))
    → (((((out ++ text_of_lines (comment ∷ [])) ++ text_of_lines (remark ∷ [])) ++ text_of_lines (device ∷ [])) ++ text_of_lines tiles) ++ text_of_lines contents) ++ text_of_lines extras
    ≡ out ++ text_of_lines (comment ∷ remark ∷ device ∷ (tiles ++ (contents ++ extras)))
all_joined out comment remark device tiles contents extras =
    ap (λ text. (((text ++ text_of_lines (device ∷ [])) ++ text_of_lines tiles) ++ text_of_lines contents) ++ text_of_lines extras) (joined out (comment ∷ []) (remark ∷ []))
    ∙ ap (λ text. ((text ++ text_of_lines tiles) ++ text_of_lines contents) ++ text_of_lines extras) (joined out (comment ∷ remark ∷ []) (device ∷ []))
    ∙ ap (λ text. (text ++ text_of_lines contents) ++ text_of_lines extras) (joined out (comment ∷ remark ∷ device ∷ []) tiles)
    ∙ ap (λ text. text ++ text_of_lines extras) (joined out (comment ∷ remark ∷ device ∷ tiles) contents)
    ∙ joined out ((comment ∷ remark ∷ device ∷ tiles) ++ contents) extras
    ∙ ap (λ ls. out ++ text_of_lines (comment ∷ remark ∷ device ∷ ls)) (append_assoc tiles contents extras)

-- the lines of one more of several parts
pub part_more : {X : Type 0} (lines : X → List (List ℕ)) (xs : List X) (i : ℕ) (d : X) (out done : List ℕ) → i < length xs → done ≡ out ++ text_of_lines (flat_map lines (take i xs))
    → done ++ text_of_lines (lines (get_or xs i d)) ≡ out ++ text_of_lines (flat_map lines (take (i + 1) xs))
part_more lines xs i d out done lt so_far =
    ap (λ text. text ++ text_of_lines (lines (get_or xs i d))) so_far
    ∙ joined out (flat_map lines (take i xs)) (lines (get_or xs i d))
    ∙ ap (λ ls. out ++ text_of_lines ls)
    (ap (λ ls. flat_map lines (take i xs) ++ ls) (sym (append-nil (lines (get_or xs i d))))
    ∙ sym (flat_map-append lines (take i xs) (get_or xs i d ∷ [])) ∙ ap (flat_map lines) (sym (take_more xs i d lt)))

-- a tile more
pub tile_more : (k : Configuration) (tiles : List Tile) (i : ℕ) (d : Tile) (out done : List ℕ) → i < length tiles → done ≡ out ++ text_of_lines (flat_map (tile_lines k) (take i tiles))
    → done ++ text_of_lines (tile_lines k (get_or tiles i d)) ≡ out ++ text_of_lines (flat_map (tile_lines k) (take (i + 1) tiles))
tile_more k = part_more (tile_lines k)

-- one more of a numbered row of things
pub one_more : {X : Type 0} (f : ℕ → X) (k : ℕ) (x : X) (out done : List X) → done ≡ out ++ map f (range_with_len 0 k) → x ≡ f k → done ++ x ∷ [] ≡ out ++ map f (range_with_len 0 (k + 1))
one_more f k x out done so_far is =
    ap (λ xs. xs ++ x ∷ []) so_far ∙ append_assoc out (map f (range_with_len 0 k)) (x ∷ []) ∙ ap (λ y. out ++ (map f (range_with_len 0 k) ++ y ∷ [])) is
    ∙ ap (λ xs. out ++ xs) (sym (map-range_with_len_more f 0 k k (omega arith)))

-- one more of a numbered row of lines
pub line_more : (f : ℕ → List ℕ) (k : ℕ) (out done : List ℕ) → done ≡ out ++ text_of_lines (map f (range_with_len 0 k)) → done ++ text_of_lines (f k ∷ []) ≡ out ++ text_of_lines (map f (range_with_len 0 (k + 1)))
line_more f k out done so_far =
    ap (λ text. text ++ text_of_lines (f k ∷ [])) so_far ∙ joined out (map f (range_with_len 0 k)) (f k ∷ []) ∙ ap (λ ls. out ++ text_of_lines ls) (sym (map-range_with_len_more f 0 k k (omega arith)))

-- the end of a line of so many numbered digits
pub digits_ended : (f : ℕ → ℕ) (size place : ℕ) (out done new : List ℕ) → done ≡ out ++ map f (range_with_len 0 place) → place ≡ size → new ≡ done ++ 10 ∷ []
    → new ≡ out ++ text_of_lines (map f (range_with_len 0 size) ∷ [])
digits_ended f size place out done new so_far is ended =
    ended ∙ ap (λ text. text ++ 10 ∷ []) (so_far ∙ ap (λ n. out ++ map f (range_with_len 0 n)) is) ∙ append_assoc out (map f (range_with_len 0 size)) (10 ∷ [])
    ∙ ap (λ text. out ++ text) (sym (append-nil (map f (range_with_len 0 size) ++ 10 ∷ [])))

-- the end of so many numbered lines
pub lines_ended : (f : ℕ → List ℕ) (size row : ℕ) (out done : List ℕ) → done ≡ out ++ text_of_lines (map f (range_with_len 0 row)) → row ≡ size
    → done ≡ out ++ text_of_lines (map f (range_with_len 0 size))
lines_ended f size row out done so_far is = so_far ∙ ap (λ n. out ++ text_of_lines (map f (range_with_len 0 n))) is

-- a row more
pub row_more : (bits : BitAt → Bool) (columns row : ℕ) (out done : List ℕ) → done ≡ out ++ text_of_lines (map (row_line bits columns) (range_with_len 0 row))
    → done ++ text_of_lines (row_line bits columns row ∷ []) ≡ out ++ text_of_lines (map (row_line bits columns) (range_with_len 0 (row + 1)))
row_more bits columns row out done so_far =
    ap (λ text. text ++ text_of_lines (row_line bits columns row ∷ [])) so_far
    ∙ joined out (map (row_line bits columns) (range_with_len 0 row)) (row_line bits columns row ∷ [])
    ∙ ap (λ ls. out ++ text_of_lines ls) (sym (map-range_with_len_more (row_line bits columns) 0 row row (omega arith)))

-- a digit more
pub digit_more : (bits : BitAt → Bool) (col row digit : ℕ) (out done : List ℕ) → done ≡ out ++ row_line bits col row → digit ≡ digit_of_bit (bits (bit_at_place row col))
    → done ++ digit ∷ [] ≡ out ++ row_line bits (col + 1) row
digit_more bits col row digit out done so_far is =
    ap (λ text. text ++ digit ∷ []) so_far ∙ append_assoc out (row_line bits col row) (digit ∷ []) ∙ ap (λ d. out ++ (row_line bits col row ++ d ∷ [])) is
    ∙ ap (λ line. out ++ line) (sym (map-range_with_len_more (λ c. digit_of_bit (bits (bit_at_place row c))) 0 col col (omega arith)))

-- a word and three fields behind it, and the end of their line
fields_joined : (word a b c : List ℕ) → (((word ++ 32 ∷ a) ++ 32 ∷ b) ++ 32 ∷ c) ++ 10 ∷ [] ≡ text_of_lines (spaced word (spaced a (spaced b c)) ∷ [])
fields_joined word a b c =
    ap (λ line. line ++ 10 ∷ []) (append_assoc (word ++ 32 ∷ a) (32 ∷ b) (32 ∷ c) ∙ append_assoc word (32 ∷ a) (32 ∷ (b ++ 32 ∷ c)))
    ∙ sym (append-nil (spaced word (spaced a (spaced b c)) ++ 10 ∷ []))

-- an extra bit
pub extra_joined : (extra : ℕ × ℕ × ℕ) (out p q r s new : List ℕ) → p ≡ out ++ codes ".extra_bit" → q ≡ p ++ 32 ∷ decimal extra.0 → r ≡ q ++ 32 ∷ decimal extra.1 → s ≡ r ++ 32 ∷ decimal extra.2
    → new ≡ s ++ 10 ∷ [] → new ≡ out ++ text_of_lines (extra_line extra ∷ [])
extra_joined extra out p q r s new begun first second third ended =
    further out s new _ _ _ (further out r s _ _ _ (further out q r _ _ _ (further out p q _ _ _ begun first refl) second refl) third refl) ended
    (fields_joined (codes ".extra_bit") (decimal extra.0) (decimal extra.1) (decimal extra.2))

-- the heading of a tile, and so many rows
headed : (heading : List ℕ) (o p : Option (List (List Bool))) (width wide rows : ℕ) (out mid new : List ℕ) → mid ≡ out ++ text_of_lines (heading ∷ []) → o ≡ p → width ≡ wide
    → new ≡ mid ++ text_of_lines (map (row_line (bit_at o) width) (range_with_len 0 rows))
    → new ≡ out ++ text_of_lines (heading ∷ map (row_line (bit_at p) wide) (range_with_len 0 rows))
headed heading o p width wide rows out mid new begun found same wrote =
    wrote ∙ ap (λ text. text ++ text_of_lines (map (row_line (bit_at o) width) (range_with_len 0 rows))) begun
    ∙ joined out (heading ∷ []) (map (row_line (bit_at o) width) (range_with_len 0 rows))
    ∙ ap (λ q. out ++ text_of_lines (heading ∷ map (row_line (bit_at q) width) (range_with_len 0 rows))) found
    ∙ ap (λ w. out ++ text_of_lines (heading ∷ map (row_line (bit_at p) w) (range_with_len 0 rows))) same

pub tile_joined : (k : Configuration) (tile : Tile) (o : Option (List (List Bool))) (width : ℕ) (out mid new : List ℕ) → mid ≡ out ++ text_of_lines (tile_heading tile ∷ []) → o ≡ rows_at k tile.at → width ≡ columns tile.kind
    → new ≡ mid ++ text_of_lines (map (row_line (bit_at o) width) (range_with_len 0 16)) → new ≡ out ++ text_of_lines (tile_lines k tile)
tile_joined k tile o width out mid new begun found same wrote = headed (tile_heading tile) o (rows_at k tile.at) width (columns tile.kind) 16 out mid new begun found same wrote

-- the heading of a block RAM
two_joined : (word a b : List ℕ) → ((word ++ 32 ∷ a) ++ 32 ∷ b) ++ 10 ∷ [] ≡ text_of_lines (spaced word (spaced a b) ∷ [])
two_joined word a b = ap (λ line. line ++ 10 ∷ []) (append_assoc word (32 ∷ a) (32 ∷ b)) ∙ sym (append-nil (spaced word (spaced a b) ++ 10 ∷ []))

pub place_joined : (t : TileAt) (out p q r new : List ℕ) → p ≡ out ++ codes ".ram_data" → q ≡ p ++ 32 ∷ decimal t.x → r ≡ q ++ 32 ∷ decimal t.y → new ≡ r ++ 10 ∷ []
    → new ≡ out ++ text_of_lines (content_heading t ∷ [])
place_joined t out p q r new begun first second ended =
    further out r new _ _ _ (further out q r _ _ _ (further out p q _ _ _ begun first refl) second refl) ended (two_joined (codes ".ram_data") (decimal t.x) (decimal t.y))

-- a block RAM
pub content_joined : (content : TileAt × List (List Bool)) (words : List (List Bool)) (out mid new : List ℕ) → mid ≡ out ++ text_of_lines (content_heading content.0 ∷ []) → words ≡ content.1
    → new ≡ mid ++ text_of_lines (map (row_digits words) (range_with_len 0 16)) → new ≡ out ++ text_of_lines (content_lines content)
content_joined content words out mid new begun same wrote =
    wrote ∙ ap (λ text. text ++ text_of_lines (map (row_digits words) (range_with_len 0 16))) begun ∙ joined out (content_heading content.0 ∷ []) (map (row_digits words) (range_with_len 0 16))
    ∙ ap (λ ws. out ++ text_of_lines (content_heading content.0 ∷ map (row_digits ws) (range_with_len 0 16))) same

viewed_lines : (contents : List (TileAt × Vec (List Bool) Global)) → flat_map (λ content. content_lines (content_view content)) contents ≡ flat_map content_lines (contents_view contents)
viewed_lines [] = refl
viewed_lines (content ∷ contents) = ap (λ ls. content_lines (content_view content) ++ ls) (viewed_lines contents)

-- the whole text
pub text_joined : (parts : Parts) (k : Configuration) (tiles : List Tile) (contents : List (TileAt × Vec (List Bool) Global)) (extras : List (ℕ × ℕ × ℕ)) (out a b c d e new : List ℕ)
    → a ≡ out ++ text_of_lines (codes ".comment" ∷ []) → b ≡ a ++ text_of_lines (codes "placed and routed" ∷ []) → c ≡ b ++ text_of_lines (codes ".device 1k" ∷ [])
    → tiles ≡ map tile_of parts.tiles → d ≡ c ++ text_of_lines (flat_map (tile_lines k) tiles) → contents_view contents ≡ k.contents
    → e ≡ d ++ text_of_lines (flat_map (λ content. content_lines (content_view content)) contents) → extras ≡ k.extras → new ≡ e ++ text_of_lines (map extra_line extras) → new ≡ out ++ asc_text parts k
text_joined parts k tiles contents extras out a b c d e new one two three are four held five same six =
    let ends : List ℕ = text_of_lines (map extra_line extras) in
    let words : List ℕ = text_of_lines (flat_map (λ content. content_lines (content_view content)) contents) in
    let body : List ℕ = text_of_lines (flat_map (tile_lines k) tiles) in
    six ∙ ap (λ text. text ++ ends) five ∙ ap (λ text. (text ++ words) ++ ends) four ∙ ap (λ text. ((text ++ body) ++ words) ++ ends) three
    ∙ ap (λ text. (((text ++ text_of_lines (codes ".device 1k" ∷ [])) ++ body) ++ words) ++ ends) two
    ∙ ap (λ text. ((((text ++ text_of_lines (codes "placed and routed" ∷ [])) ++ text_of_lines (codes ".device 1k" ∷ [])) ++ body) ++ words) ++ ends) one
    ∙ all_joined out (codes ".comment") (codes "placed and routed") (codes ".device 1k") (flat_map (tile_lines k) tiles) (flat_map (λ content. content_lines (content_view content)) contents) (map extra_line extras)
    ∙ ap (λ ts. out ++ text_of_lines (codes ".comment" ∷ codes "placed and routed" ∷ codes ".device 1k" ∷ (flat_map (tile_lines k) ts ++ (flat_map (λ content. content_lines (content_view content)) contents ++ map extra_line extras)))) are
    ∙ ap (λ cs. out ++ text_of_lines (codes ".comment" ∷ codes "placed and routed" ∷ codes ".device 1k" ∷ (flat_map (tile_lines k) (map tile_of parts.tiles) ++ (cs ++ map extra_line extras)))) (viewed_lines contents)
    ∙ ap (λ cs. out ++ text_of_lines (codes ".comment" ∷ codes "placed and routed" ∷ codes ".device 1k" ∷ (flat_map (tile_lines k) (map tile_of parts.tiles) ++ (flat_map content_lines cs ++ map extra_line extras)))) held
    ∙ ap (λ es. out ++ text_of_lines (codes ".comment" ∷ codes "placed and routed" ∷ codes ".device 1k" ∷ (flat_map (tile_lines k) (map tile_of parts.tiles) ++ (flat_map content_lines k.contents ++ map extra_line es)))) same
