-- What the lines of a written text say, one after another.
use Rattle.std.proofs.Common.{rules, tests, ◌≡◌, ℕ, ◌+◌, ◌<◌, ◌^◌, nat_lt, Bool, true, false, cond, if◌then◌else◌, Option, Some, option_map, Result, Ok, Err, List, [], ◌∷◌, ◌++◌, length, map, refl, sym, ap, ◌∙◌, subst, append_assoc, length-append, arith}
use Rattle.std.specs.Prelude.{codes, decimal, eqb}
use Rattle.std.specs.List.{AllByRecursion, list_any}
use Rattle.std.specs.Map.{keys_of}
use Rattle.std.specs.Option.{option_and_then}
use Rattle.std.proofs.lemmas.List.{length-map}
use Rattle.std.proofs.lemmas.Bool.{eq-eqb}
use Rattle.ice_base.specs.declared.number.TileAt.{TileAt}
use Rattle.ice_base.specs.Text.{number_in, numbered, next_number, words, pieces, begins_with}
use Rattle.ice_base.specs.Lines.{IsWord}
use Rattle.ice_base.proofs.TextLaws.{first_word, last_word, number_in_decimal, decimal_is_word}
use Rattle.ice_chip.specs.Database.{Parts, same_tile, columns, tile_known}
use Rattle.ice_chip.specs.Functions.{same_kind}
use Rattle.ice_chip.specs.Lookups.{kind_at}
use Rattle.ice_chip.specs.declared.rows.TileKind.{TileKind}
use Rattle.ice_chip.specs.declared.rows.TileKind.TheVariants.{Io, Logic, RamBottom, RamTop}
use Rattle.ice_chip.specs.declared.rows.TileLine.{TileLine}
use Rattle.ice_chip.specs.declared.tile.Tile.{Tile}
use Rattle.ice_bits.specs.Configuration.{Configuration}
use Rattle.ice_bits.specs.Grids.{is_of_kind, blank}
use Rattle.ice_bits.specs.Rewriting.{with_rows}
use Rattle.ice_asc.specs.Faults.{◌>>=◌}
use Rattle.ice_asc.specs.Words.{heading_of_kind, row_of_words, tile_below, tile_of_words, extra_bit, extra_of_words}
use Rattle.ice_asc.specs.Headings.{heading_of}
use Rattle.ice_base.specs.Lists.{all_known}
use Rattle.ice_base.specs.Places.{digit_value}
use Rattle.ice_chip.proofs.SameKinds.{kind_self}
use Rattle.ice_asc.specs.Grammar.{Reading, start, with_row, known_row, opened, tile_says, extra_says, heading_says, line_says, at_line, lines_say, end_says}
use Rattle.ice_asc.specs.RoundTrip.{IsSmall}
use Rattle.ice_asc.specs.Text.{digit_of_bit, spaced, tile_heading, extra_line}
use Rattle.ice_asc.specs.declared.fault.AscFault.{AscFault}
use Rattle.ice_asc.specs.declared.fault.AscFault.TheVariants as fault
use Rattle.ice_asc.specs.declared.section.Section.TheVariants.{Nowhere, ReadOver, Rows}
use Rattle.ice_asc.specs.declared.section.Heading.TheVariants.{Tile as TileHeading}
use Rattle.ice_asc.proofs.TextLines.{digits_end_no_word, plain_word, kind_word}

-- ---- lines say a configuration, whatever their numbers are
abbrev pub Reads : Parts → Reading → List (List ℕ) → Configuration → Type 0
Reads parts r ls k = (last n : ℕ) → (lines_say parts (at_line r last) (numbered n ls) >>= (λ (s : Reading). end_says s s.section)) ≡ Ok k

pub reads_line : (parts : Parts) (r : Reading) (u : ℕ → Reading) (l : List ℕ) (ls : List (List ℕ)) (k : Configuration) → ((n : ℕ) → line_says parts (at_line r n) (words l) ≡ Ok (at_line (u n) n))
    → ((n : ℕ) → Reads parts (u n) ls k) → Reads parts r (l ∷ ls) k
reads_line parts r u l ls k says later last n =
    ap (λ (x : Result Reading AscFault). (x >>= (λ (s : Reading). lines_say parts s (numbered (next_number n) ls))) >>= (λ (s : Reading). end_says s s.section)) (says n)
    ∙ later n n (next_number n)

-- ---- the rows of a tile
word_of_digits : (row : List Bool) → 0 < length row → words (map digit_of_bit row) ≡ map digit_of_bit row ∷ []
word_of_digits row some = last_word (map digit_of_bit row) (let lt : 0 < length (map digit_of_bit row) = omega (arith, length-map row digit_of_bit) in lt, digits_end_no_word row)

bits_of_row : (row : List Bool) → all_known (map digit_value (map digit_of_bit row)) ≡ Some row
bits_of_row [] = refl
bits_of_row (true ∷ row) = ap (option_map (λ bits. true ∷ bits)) (bits_of_row row)
bits_of_row (false ∷ row) = ap (option_map (λ bits. false ∷ bits)) (bits_of_row row)

row_of_digits : (width : ℕ) (row : List Bool) → length row ≡ width → row_of_words width (map digit_of_bit row) [] ≡ Some row
row_of_digits width row long =
    let test : eqb (length (map digit_of_bit row)) width ≡ true = eq-eqb (length (map digit_of_bit row)) width (length-map row digit_of_bit ∙ long) in
    rw test (bits_of_row row)

-- within a tile, with these rows so far
abbrev pub within : Reading → ℕ → TileAt → TileKind → List (List Bool) → Reading
within r heading at kind rows = record r { section = Rows heading at kind; rows = rows }

row_read : (parts : Parts) (r : Reading) (heading : ℕ) (at : TileAt) (kind : TileKind) (before : List (List Bool)) (row : List Bool) (n : ℕ) → length row ≡ columns kind → 0 < length row
    → line_says parts (at_line (within r heading at kind before) n) (words (map digit_of_bit row)) ≡ Ok (at_line (with_row (within r heading at kind before) heading at kind (before ++ row ∷ [])) n)
row_read parts r heading at kind before row n long some =
    ap (line_says parts (at_line (within r heading at kind before) n)) (word_of_digits row some)
    ∙ ap (λ (o : Option (List Bool)). known_row n o >>= (λ bits. Ok (with_row (at_line (within r heading at kind before) n) heading at kind (before ++ bits ∷ [])))) (row_of_digits (columns kind) row long)
    ∙ ap Ok (with_line (eqb (length (before ++ row ∷ [])) 16))
  where
    with_line : (x : Bool)
        → cond x (record (at_line r n) { section = Nowhere; rows = []; bits = with_rows at (before ++ row ∷ []) r.bits }) (record (at_line r n) { section = Rows heading at kind; rows = before ++ row ∷ [] })
        ≡ at_line (cond x (record r { section = Nowhere; rows = []; bits = with_rows at (before ++ row ∷ []) r.bits }) (record r { section = Rows heading at kind; rows = before ++ row ∷ [] })) n
    with_line true = refl
    with_line false = refl

-- behind a tile with these rows
abbrev pub behind : Reading → TileAt → List (List Bool) → Reading
behind r at rows = record r { section = Nowhere; rows = []; bits = with_rows at rows r.bits }

last_row : (r : Reading) (heading : ℕ) (at : TileAt) (kind : TileKind) (before rows : List (List Bool)) → length rows ≡ 16 → with_row (within r heading at kind before) heading at kind rows ≡ behind r at rows
last_row r heading at kind before rows long = let test : eqb (length rows) 16 ≡ true = eq-eqb (length rows) 16 long in rw test refl

differs : (a b : ℕ) → a < b → eqb a b ≡ false
differs a b lt = search (rules, tests)

early_row : (r : Reading) (heading : ℕ) (at : TileAt) (kind : TileKind) (before rows : List (List Bool)) → length rows < 16
    → with_row (within r heading at kind before) heading at kind rows ≡ within r heading at kind rows
early_row r heading at kind before rows lt = let test : eqb (length rows) 16 ≡ false = differs (length rows) 16 lt in rw test refl

wide_enough : (kind : TileKind) → 0 < columns kind
wide_enough Io = omega arith
wide_enough Logic = omega arith
wide_enough RamBottom = omega arith
wide_enough RamTop = omega arith

-- the rows that are left of a tile, one or more
pub rows_read : (parts : Parts) (r : Reading) (heading : ℕ) (at : TileAt) (kind : TileKind) (before after : List (List Bool)) (ls : List (List ℕ)) (k : Configuration)
    → AllByRecursion (λ (row : List Bool). length row ≡ columns kind) after → length before < 16 → length before + length after ≡ 16
    → Reads parts (behind r at (before ++ after)) ls k → Reads parts (within r heading at kind before) (map (map digit_of_bit) after ++ ls) k
rows_read parts r heading at kind before [] ls k wide some tall later = absurd (omega arith)
rows_read parts r heading at kind before (row ∷ []) ls k wide some tall later =
    let lt : 0 < length row = let e = wide.0 in let w = wide_enough kind in omega arith in
    let full : length (before ++ row ∷ []) ≡ 16 = omega (arith, length-append before (row ∷ [])) in
    reads_line parts (within r heading at kind before) (λ n. with_row (within r heading at kind before) heading at kind (before ++ row ∷ [])) (map digit_of_bit row) ls k
    (λ n. row_read parts r heading at kind before row n wide.0 lt)
    (λ n. subst (λ (u : Reading). Reads parts u ls k) (sym (last_row r heading at kind before (before ++ row ∷ []) full)) later)
rows_read parts r heading at kind before (row ∷ next ∷ after) ls k wide some tall later =
    let lt : 0 < length row = let e = wide.0 in let w = wide_enough kind in omega arith in
    let early : length (before ++ row ∷ []) < 16 = omega (arith, length-append before (row ∷ [])) in
    let long : length (before ++ row ∷ []) + length (next ∷ after) ≡ 16 = omega (arith, length-append before (row ∷ [])) in
    reads_line parts (within r heading at kind before) (λ n. with_row (within r heading at kind before) heading at kind (before ++ row ∷ [])) (map digit_of_bit row) (map (map digit_of_bit) (next ∷ after) ++ ls) k
    (λ n. row_read parts r heading at kind before row n wide.0 lt)
    (λ n. subst (λ (u : Reading). Reads parts u (map (map digit_of_bit) (next ∷ after) ++ ls) k) (sym (early_row r heading at kind before (before ++ row ∷ []) early))
    (rows_read parts r heading at kind (before ++ row ∷ []) (next ∷ after) ls k wide.1 early long
    (subst (λ (rows : List (List Bool)). Reads parts (behind r at rows) ls k) (sym (append_assoc before (row ∷ []) (next ∷ after))) later)))

-- ---- headings of tiles
-- both coordinates are below 65,536
pub record IsNear (at : TileAt) : Type 0 where
  pub x : at.x < 2 ^ 16
  pub y : at.y < 2 ^ 16

heading_words : (tile : Tile) → IsNear tile.at → words (tile_heading tile) ≡ heading_of_kind tile.kind ∷ decimal tile.at.x ∷ decimal tile.at.y ∷ []
heading_words tile near =
    let x : IsWord (decimal tile.at.x) = decimal_is_word tile.at.x (let lt = near.x in omega arith) in
    let y : IsWord (decimal tile.at.y) = decimal_is_word tile.at.y (let lt = near.y in omega arith) in
    first_word (heading_of_kind tile.kind) 32 (spaced (decimal tile.at.x) (decimal tile.at.y)) (kind_word tile.kind) refl
    ∙ ap (λ ws. heading_of_kind tile.kind ∷ ws) (first_word (decimal tile.at.x) 32 (decimal tile.at.y) x refl ∙ ap (λ ws. decimal tile.at.x ∷ ws) (last_word (decimal tile.at.y) y))

pub place_read : (at : TileAt) → IsNear at → tile_of_words (decimal at.x ∷ decimal at.y ∷ []) ≡ Some at
place_read at near =
    let x : at.x < 2 ^ 16 = near.x in
    let y : at.y < 2 ^ 16 = near.y in
    let lt_x : nat_lt at.x 65536 ≡ true = search (rules, tests) in
    let lt_y : nat_lt at.y 65536 ≡ true = search (rules, tests) in
    let place : tile_below at.x at.y ≡ Some at = rw (lt_x, lt_y) refl in
    ap (λ (o : Option ℕ). option_and_then (λ a. option_and_then (tile_below a) (number_in (decimal at.y))) o) (number_in_decimal at.x (omega arith))
    ∙ ap (λ (o : Option ℕ). option_and_then (tile_below at.x) o) (number_in_decimal at.y (omega arith)) ∙ place

heading_named : (kind : TileKind) → heading_of (heading_of_kind kind) ≡ TileHeading kind
heading_named Io = refl
heading_named Logic = refl
heading_named RamBottom = refl
heading_named RamTop = refl

heading_begins : (kind : TileKind) → begins_with 46 (heading_of_kind kind) ≡ true
heading_begins Io = refl
heading_begins Logic = refl
heading_begins RamBottom = refl
heading_begins RamTop = refl

-- the device is named, no section takes the next line, and neither a tile nor a block RAM is open
abbrev pub ready : List TileAt → Configuration → Reading
ready seen bits = record { line = 0; has_device = true; section = Nowhere; rows = []; words = []; seen = seen; filled = keys_of bits.contents; bits = bits }

abbrev pub entered : List TileAt → Configuration → ℕ → TileAt → TileKind → Reading
entered seen bits heading at kind = within (ready (seen ++ at ∷ []) bits) heading at kind []

pub heading_read : (parts : Parts) (seen : List TileAt) (bits : Configuration) (tile : Tile) (known : TileLine) (n : ℕ) → IsNear tile.at → tile_known parts.tiles tile.at ≡ Some known → known.kind ≡ tile.kind
    → list_any (same_tile tile.at) seen ≡ false → line_says parts (at_line (ready seen bits) n) (words (tile_heading tile)) ≡ Ok (at_line (entered seen bits n tile.at tile.kind) n)
heading_read parts seen bits tile known n near found of_kind new =
    let r : Reading = at_line (ready seen bits) n in
    let kinds : is_of_kind tile.kind (kind_at parts tile.at) ≡ true =
    ap (λ (o : Option TileLine). is_of_kind tile.kind (option_map (λ (line : TileLine). line.kind) o)) found ∙ ap (λ (kind : TileKind). same_kind kind tile.kind) of_kind ∙ kind_self tile.kind in
    ap (line_says parts r) (heading_words tile near)
    ∙ ap (λ (x : Bool). if x then heading_says parts r (heading_of (heading_of_kind tile.kind)) (decimal tile.at.x ∷ decimal tile.at.y ∷ []) else Err (fault.UnknownWord n)) (heading_begins tile.kind)
    ∙ ap (λ h. heading_says parts r h (decimal tile.at.x ∷ decimal tile.at.y ∷ [])) (heading_named tile.kind)
    ∙ ap (tile_says parts r tile.kind) (place_read tile.at near)
    ∙ ap (λ (x : Bool). if x then opened r tile.kind tile.at else Err (fault.UnknownTile n)) kinds
    ∙ ap (λ (x : Bool). if x then Err (fault.TileTwice n) else Ok (at_line (entered seen bits n tile.at tile.kind) n)) new

-- ---- extra bits
extra_words : (extra : ℕ × ℕ × ℕ) → IsSmall extra → words (extra_line extra) ≡ codes ".extra_bit" ∷ decimal extra.0 ∷ decimal extra.1 ∷ decimal extra.2 ∷ []
extra_words extra small =
    let b : IsWord (decimal extra.0) = decimal_is_word extra.0 (let lt = small.bank in omega arith) in
    let x : IsWord (decimal extra.1) = decimal_is_word extra.1 (let lt = small.column in omega arith) in
    let y : IsWord (decimal extra.2) = decimal_is_word extra.2 (let lt = small.row in omega arith) in
    first_word (codes ".extra_bit") 32 (spaced (decimal extra.0) (spaced (decimal extra.1) (decimal extra.2))) (plain_word (codes ".extra_bit") (omega arith) refl) refl
    ∙ ap (λ ws. codes ".extra_bit" ∷ ws) (first_word (decimal extra.0) 32 (spaced (decimal extra.1) (decimal extra.2)) b refl
    ∙ ap (λ ws. decimal extra.0 ∷ ws) (first_word (decimal extra.1) 32 (decimal extra.2) x refl ∙ ap (λ ws. decimal extra.1 ∷ ws) (last_word (decimal extra.2) y)))

three_read : (extra : ℕ × ℕ × ℕ) → IsSmall extra → extra_of_words (decimal extra.0 ∷ decimal extra.1 ∷ decimal extra.2 ∷ []) ≡ Some extra
three_read extra small =
    ap (λ (o : Option ℕ). option_and_then (λ bank. option_and_then (λ column. option_map (extra_bit bank column) (number_in (decimal extra.2))) (number_in (decimal extra.1))) o) (number_in_decimal extra.0 small.bank)
    ∙ ap (λ (o : Option ℕ). option_and_then (λ column. option_map (extra_bit extra.0 column) (number_in (decimal extra.2))) o) (number_in_decimal extra.1 small.column)
    ∙ ap (option_map (extra_bit extra.0 extra.1)) (number_in_decimal extra.2 small.row)

pub extra_read : (parts : Parts) (seen : List TileAt) (bits : Configuration) (extra : ℕ × ℕ × ℕ) (n : ℕ) → IsSmall extra
    → line_says parts (at_line (ready seen bits) n) (words (extra_line extra)) ≡ Ok (at_line (ready seen (record { tiles = bits.tiles; kinds = bits.kinds; extras = bits.extras ++ extra ∷ []; contents = bits.contents })) n)
extra_read parts seen bits extra n small =
    ap (line_says parts (at_line (ready seen bits) n)) (extra_words extra small) ∙ ap (extra_says (at_line (ready seen bits) n)) (three_read extra small)

-- ---- the lines before the tiles
abbrev pub in_comment : Parts → Reading
in_comment parts = record { line = 0; has_device = false; section = ReadOver; rows = []; words = []; seen = []; filled = []; bits = blank parts }

pub comment_read : (parts : Parts) (n : ℕ) → line_says parts (at_line (start parts) n) (words (codes ".comment")) ≡ Ok (at_line (in_comment parts) n)
unfolding words pieces
comment_read parts n = refl

pub remark_read : (parts : Parts) (n : ℕ) → line_says parts (at_line (in_comment parts) n) (words (codes "placed and routed")) ≡ Ok (at_line (in_comment parts) n)
unfolding words pieces
remark_read parts n = refl

pub device_read : (parts : Parts) (n : ℕ) → line_says parts (at_line (in_comment parts) n) (words (codes ".device 1k")) ≡ Ok (at_line (ready [] (blank parts)) n)
unfolding words pieces
device_read parts n = refl
