-- The lines that are written for the words of block RAMs say these words.
use Rattle.std.proofs.Common.{rules, tests, ◌≡◌, ℕ, zero, suc, ◌+◌, ◌*◌, ◌<◌, Bool, true, false, cond, if◌then◌else◌, is_some, Option, Some, Ok, Err, List, [], ◌∷◌, ◌++◌, length, map, take, refl, sym, ap, ◌∙◌, subst, append_assoc, append-nil, arith}
use Rattle.std.specs.Prelude.{codes, decimal, eqb}
use Rattle.std.specs.List.{AllByRecursion, IsDistinct, flat_map, list_any, range_with_len}
use Rattle.std.specs.Map.{keys_of, lookup}
use Rattle.std.proofs.lemmas.Bool.{eq-eqb}
use Rattle.std.proofs.lemmas.List.{length-take-le, take_all}
use Rattle.ice_base.specs.declared.number.TileAt.{TileAt}
use Rattle.ice_base.specs.Text.{words}
use Rattle.ice_base.specs.Lines.{IsWord}
use Rattle.ice_base.proofs.TextLaws.{first_word, last_word, decimal_is_word}
use Rattle.ice_base.proofs.Keys.{tile_same}
use Rattle.ice_base.proofs.Options.{option_map_some}
use Rattle.ice_chip.specs.Database.{Parts, same_tile, tile_known}
use Rattle.ice_chip.specs.declared.rows.TileLine.{TileLine}
use Rattle.ice_chip_rams.specs.Sites.{site_at}
use Rattle.ice_chip_rams.proofs.SiteTiles.{site_known}
use Rattle.ice_bits.specs.Configuration.{Configuration}
use Rattle.ice_bits.specs.Grids.{IsContent, AreWords}
use Rattle.ice_bits.specs.Rewriting.{with_content}
use Rattle.ice_asc.specs.Faults.{◌>>=◌}
use Rattle.ice_asc.specs.Grammar.{Reading, with_words, known_values, ram_opened, ram_says, line_says, at_line}
use Rattle.ice_asc.specs.Hex.{row_words, row_digits}
use Rattle.ice_asc.specs.Text.{spaced, content_heading, content_lines}
use Rattle.ice_asc.specs.declared.fault.AscFault.TheVariants as fault
use Rattle.ice_asc.specs.declared.section.Section.TheVariants.{Nowhere, Words}
use Rattle.ice_asc.proofs.Filled.{keys_push}
use Rattle.ice_asc.proofs.TextLines.{plain_word}
use Rattle.ice_asc.proofs.WrittenLines.{IsElsewhere, apart_before, unseen}
use Rattle.ice_asc.proofs.WrittenReading.{IsNear, Reads, reads_line, place_read, ready}
use Rattle.ice_asc.proofs.WrittenWords.{values, one_word, values_back, row_joins}

-- ---- the rows of a block RAM
-- within a block RAM, with these words so far, and behind it
abbrev filling : Reading → ℕ → TileAt → List (List Bool) → Reading
filling r heading at words = record r { section = Words heading at; words = words }

abbrev filled_behind : Reading → TileAt → List (List Bool) → Reading
filled_behind r at words = record r { section = Nowhere; words = []; bits = with_content at words r.bits }

row_said : (parts : Parts) (r : Reading) (heading : ℕ) (at : TileAt) (before ws : List (List Bool)) (row n : ℕ)
    → line_says parts (at_line (filling r heading at before) n) (words (row_digits ws row)) ≡ Ok (at_line (with_words (filling r heading at before) heading at (before ++ row_words (values ws row))) n)
row_said parts r heading at before ws row n =
    ap (line_says parts (at_line (filling r heading at before) n)) (one_word ws row)
    ∙ ap (λ (o : Option (List ℕ)). known_values n o >>= (λ vs. Ok (with_words (at_line (filling r heading at before) n) heading at (before ++ row_words vs)))) (values_back ws row)
    ∙ ap Ok (with_line (eqb (length (before ++ row_words (values ws row))) 256))
  where
    with_line : (x : Bool)
        → cond x (record (at_line r n) { section = Nowhere; words = []; bits = with_content at (before ++ row_words (values ws row)) r.bits }) (record (at_line r n) { section = Words heading at; words = before ++ row_words (values ws row) })
        ≡ at_line (cond x (record r { section = Nowhere; words = []; bits = with_content at (before ++ row_words (values ws row)) r.bits }) (record r { section = Words heading at; words = before ++ row_words (values ws row) })) n
    with_line true = refl
    with_line false = refl

differs : (a b : ℕ) → a < b → eqb a b ≡ false
differs a b lt = search (rules, tests)

-- behind the row of this number
after_row : (r : Reading) (heading : ℕ) (at : TileAt) (ws : List (List Bool)) (row : ℕ) → AreWords ws → row < 15 → with_words (filling r heading at (take (16 * row) ws)) heading at (take (16 * (row + 1)) ws) ≡ filling r heading at (take (16 * (row + 1)) ws)
after_row r heading at ws row are few =
    let long : length (take (16 * (row + 1)) ws) ≡ 16 * (row + 1) = length-take-le (16 * (row + 1)) ws (let many = are.many in omega arith) in
    let test : eqb (length (take (16 * (row + 1)) ws)) 256 ≡ false = differs (length (take (16 * (row + 1)) ws)) 256 (omega arith) in
    rw test refl

after_last : (r : Reading) (heading : ℕ) (at : TileAt) (ws before : List (List Bool)) → AreWords ws → with_words (filling r heading at before) heading at ws ≡ filled_behind r at ws
after_last r heading at ws before are = let test : eqb (length ws) 256 ≡ true = eq-eqb (length ws) 256 are.many in rw test refl

all_taken : (ws : List (List Bool)) → AreWords ws → take (16 * (15 + 1)) ws ≡ ws
all_taken ws are = take_all 256 ws (let many = are.many in omega arith)

-- the rows that are left of a block RAM, one or more
rows_said : (parts : Parts) (r : Reading) (heading : ℕ) (at : TileAt) (ws : List (List Bool)) (row left : ℕ) (ls : List (List ℕ)) (k : Configuration) → AreWords ws → row + suc left ≡ 16
    → Reads parts (filled_behind r at ws) ls k → Reads parts (filling r heading at (take (16 * row) ws)) (map (row_digits ws) (range_with_len row (suc left)) ++ ls) k
rows_said parts r heading at ws row zero ls k are all later =
    let last : row ≡ 15 = omega arith in
    let few : row < 16 = omega arith in
    let whole : take (16 * row) ws ++ row_words (values ws row) ≡ ws = row_joins ws row are few ∙ ap (λ n. take (16 * (n + 1)) ws) last ∙ all_taken ws are in
    reads_line parts (filling r heading at (take (16 * row) ws)) (λ n. with_words (filling r heading at (take (16 * row) ws)) heading at (take (16 * row) ws ++ row_words (values ws row))) (row_digits ws row) ls k
    (λ n. row_said parts r heading at (take (16 * row) ws) ws row n)
    (λ n. subst (λ (u : Reading). Reads parts u ls k) (sym (ap (with_words (filling r heading at (take (16 * row) ws)) heading at) whole ∙ after_last r heading at ws (take (16 * row) ws) are)) later)
rows_said parts r heading at ws row (suc left) ls k are all later =
    let few : row < 16 = omega arith in
    let early : row < 15 = omega arith in
    reads_line parts (filling r heading at (take (16 * row) ws)) (λ n. with_words (filling r heading at (take (16 * row) ws)) heading at (take (16 * row) ws ++ row_words (values ws row))) (row_digits ws row)
    (map (row_digits ws) (range_with_len (row + 1) (suc left)) ++ ls) k
    (λ n. row_said parts r heading at (take (16 * row) ws) ws row n)
    (λ n. subst (λ (u : Reading). Reads parts u (map (row_digits ws) (range_with_len (row + 1) (suc left)) ++ ls) k)
    (sym (ap (with_words (filling r heading at (take (16 * row) ws)) heading at) (row_joins ws row are few) ∙ after_row r heading at ws row are early))
    (rows_said parts r heading at ws (row + 1) left ls k are (omega arith) later))

-- ---- the heading
heading_words : (t : TileAt) → IsNear t → words (content_heading t) ≡ codes ".ram_data" ∷ decimal t.x ∷ decimal t.y ∷ []
heading_words t near =
    let x : IsWord (decimal t.x) = decimal_is_word t.x (let lt = near.x in omega arith) in
    let y : IsWord (decimal t.y) = decimal_is_word t.y (let lt = near.y in omega arith) in
    first_word (codes ".ram_data") 32 (spaced (decimal t.x) (decimal t.y)) (plain_word (codes ".ram_data") (omega arith) refl) refl
    ∙ ap (λ ws. codes ".ram_data" ∷ ws) (first_word (decimal t.x) 32 (decimal t.y) x refl ∙ ap (λ ws. decimal t.x ∷ ws) (last_word (decimal t.y) y))

-- a block RAM is open, and has no words yet
abbrev opened : List TileAt → Configuration → ℕ → TileAt → Reading
opened seen bits heading at = filling (record (ready seen bits) { filled = keys_of bits.contents ++ at ∷ [] }) heading at []

heading_said : (parts : Parts) (seen : List TileAt) (bits : Configuration) (t : TileAt) (n : ℕ) → IsNear t → is_some (site_at parts t) ≡ true → list_any (same_tile t) (keys_of bits.contents) ≡ false
    → line_says parts (at_line (ready seen bits) n) (words (content_heading t)) ≡ Ok (at_line (opened seen bits n t) n)
heading_said parts seen bits t n near site new =
    let r : Reading = at_line (ready seen bits) n in
    ap (line_says parts r) (heading_words t near)
    ∙ ap (ram_says parts r) (place_read t near)
    ∙ ap (λ (x : Bool). if x then ram_opened r t else Err (fault.UnknownTile n)) site
    ∙ ap (λ (x : Bool). if x then Err (fault.TileTwice n) else Ok (at_line (opened seen bits n t) n)) new

-- ---- block RAMs in order
abbrev Contents : Type 0
Contents = List (TileAt × List (List Bool))

abbrev with_all : Configuration → Contents → Configuration
with_all bits contents = record { tiles = bits.tiles; kinds = bits.kinds; extras = bits.extras; contents = contents }

pub contents_said : (parts : Parts) (seen : List TileAt) (bits : Configuration) (done left : Contents) (ls : List (List ℕ)) (k : Configuration)
    → AllByRecursion (IsContent parts) left → AllByRecursion IsNear (keys_of left) → IsDistinct same_tile (keys_of done ++ keys_of left)
    → Reads parts (ready seen (with_all bits (done ++ left))) ls k → Reads parts (ready seen (with_all bits done)) (flat_map content_lines left ++ ls) k
contents_said parts seen bits done [] ls k each near apart later = subst (λ (contents : Contents). Reads parts (ready seen (with_all bits contents)) ls k) (append-nil done) later
contents_said parts seen bits done (content ∷ left) ls k each near apart later =
    let at : TileAt = content.0 in
    let ws : List (List Bool) = content.1 in
    let new : IsElsewhere at (keys_of done) = apart_before at (keys_of done) (keys_of left) apart in
    let more : List (List ℕ) = flat_map content_lines left ++ ls in
    let pushed : keys_of (done ++ content ∷ []) ≡ keys_of done ++ at ∷ [] = keys_push done content in
    let next : Reads parts (ready seen (with_all bits (done ++ content ∷ []))) more k =
    contents_said parts seen bits (done ++ content ∷ []) left ls k each.1 near.1
    (subst (IsDistinct same_tile) (sym (ap (λ ks. ks ++ keys_of left) pushed ∙ append_assoc (keys_of done) (at ∷ []) (keys_of left))) apart)
    (subst (λ (contents : Contents). Reads parts (ready seen (with_all bits contents)) ls k) (sym (append_assoc done (content ∷ []) left)) later) in
    let after : (n : ℕ) → Reads parts (filled_behind (record (ready seen (with_all bits done)) { filled = keys_of done ++ at ∷ [] }) at ws) more k = λ n.
    subst (λ (ks : List TileAt). Reads parts (record (ready seen (with_all bits (done ++ content ∷ []))) { filled = ks }) more k) pushed next in
    let all : Reads parts (ready seen (with_all bits done)) (content_heading at ∷ (map (row_digits ws) (range_with_len 0 16) ++ more)) k =
    reads_line parts (ready seen (with_all bits done)) (λ n. opened seen (with_all bits done) n at) (content_heading at) (map (row_digits ws) (range_with_len 0 16) ++ more) k
    (λ n. heading_said parts seen (with_all bits done) at n near.0 each.0.site (unseen at (keys_of done) new))
    (λ n. rows_said parts (record (ready seen (with_all bits done)) { filled = keys_of done ++ at ∷ [] }) n at ws 0 15 more k each.0.words refl (after n)) in
    subst (λ (lines : List (List ℕ)). Reads parts (ready seen (with_all bits done)) lines k) (sym (append_assoc (content_lines content) (flat_map content_lines left) ls)) all

-- ---- the places of block RAMs
near_known : (tiles : List (TileAt × TileLine)) (t : TileAt) (known : TileLine) → lookup (same_tile t) tiles ≡ Some known → AllByRecursion IsNear (keys_of tiles) → IsNear t
near_known [] t known e near = absurd (cc)
near_known (tile ∷ tiles) t known e near = by (same_tile t tile.0) refl (λ f. near_known tiles t known f near.1) e
  where
    by : (b : Bool) → same_tile t tile.0 ≡ b → (lookup (same_tile t) tiles ≡ Some known → IsNear t) → cond b (Some tile.1) (lookup (same_tile t) tiles) ≡ Some known → IsNear t
    by true is later f = subst IsNear (sym (tile_same t tile.0 is)) near.0
    by false is later f = later f

pub contents_near : (parts : Parts) (contents : Contents) → AllByRecursion IsNear (keys_of parts.tiles) → AllByRecursion (IsContent parts) contents → AllByRecursion IsNear (keys_of contents)
contents_near parts [] near each = tt
contents_near parts (content ∷ contents) near each =
    let kind = site_known parts content.0 each.0.site in
    let line = option_map_some (λ (known : TileLine). known.kind) (tile_known parts.tiles content.0) kind.0 kind.1 in
    (near_known parts.tiles content.0 line.0 line.1 near, contents_near parts contents near each.1)
