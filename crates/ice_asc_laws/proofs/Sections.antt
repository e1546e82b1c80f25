-- What lines say from what was read before them: with one line more in front, they say the same from before that line.
use Rattle.std.proofs.Common.{◌≡◌, ℕ, zero, suc, ◌<◌, Bool, true, false, cond, Option, Some, is_some, List, [], ◌∷◌, ◌++◌, length, map, filter, drop, IsSomeAnd, slice_get, refl, sym, ap, ◌∙◌, subst, true≢false, append_assoc, arith}
use Rattle.std.specs.List.{list_any}
use Rattle.std.specs.Option.{option_and_then}
use Rattle.std.proofs.lemmas.Bool.{or_parts}
use Rattle.std.proofs.lemmas.List.{map-append}
use Rattle.std.proofs.lemmas.List.Folds.{list_any-append}
use Rattle.ice_base.specs.declared.number.TileAt.{TileAt}
use Rattle.ice_base.proofs.Keys.{tile_same, tile_self}
use Rattle.ice_chip.specs.Database.{Parts, same_tile, columns}
use Rattle.ice_chip.specs.Lookups.{kind_at}
use Rattle.ice_chip.specs.declared.rows.TileKind.{TileKind}
use Rattle.ice_bits.specs.Configuration.{Configuration, rows_at}
use Rattle.ice_bits.specs.Rewriting.{with_rows}
use Rattle.ice_asc.specs.Words.{heading_of_kind, bits_of_digits, tile_of_words}
use Rattle.ice_asc.specs.Headings.{heading_of}
use Rattle.ice_asc.specs.declared.section.Section.{Section}
use Rattle.ice_asc.specs.declared.section.Section.TheVariants.{Nowhere, ReadOver, Rows, Words}
use Rattle.ice_asc.specs.declared.section.Heading.TheVariants.{Tile}
use Rattle.ice_asc_laws.specs.NamedTiles.{Line, Begins, IsHeading, row_of, begins_extra, extra_of, Names, IsUnnamed}
use Rattle.ice_asc_laws.proofs.Headed.{word_of_tile, tile_of_word, extra_is, plain_line, plain_extra, row_plain}
use Rattle.ice_asc_laws.proofs.TilesWith.{Grid, changed_here, same_elsewhere}

-- ---- what was read so far
-- the tile that is open is one of the chip's, and is among those that had a heading
pub record IsBegun (parts : Parts) (seen : List TileAt) (at : TileAt) (kind : TileKind) : Type 0 where
  pub known : kind_at parts at ≡ Some kind
  pub noted : list_any (same_tile at) seen ≡ true

abbrev pub BeganRight : Parts → List TileAt → Section → Type 0
BeganRight parts seen Nowhere = Unit {0}
BeganRight parts seen ReadOver = Unit {0}
BeganRight parts seen (Rows heading at kind) = IsBegun parts seen at kind
BeganRight parts seen (Words heading at) = Unit {0}

-- there are rows for each tile of the chip
pub record IsReady (parts : Parts) (section : Section) (seen : List TileAt) (bits : Configuration) : Type 0 where
  pub there : (t : TileAt) (kind : TileKind) → kind_at parts t ≡ Some kind → is_some (rows_at bits t) ≡ true
  pub begun : BeganRight parts seen section

-- ---- what the lines that are left say, if in the end these are the bits
-- the lines begin with the rest of the sixteen rows of the tile that is open
pub record Finishes (at : TileAt) (kind : TileKind) (rows : Grid) (lines : List Line) (k : Configuration) : Type 0 where
  pub more : Grid
  pub whole : length (rows ++ more) ≡ 16
  pub has : rows_at k at ≡ Some (rows ++ more)
  pub each : (j : ℕ) → j < length more → option_and_then (row_of (columns kind)) (slice_get lines j) ≡ slice_get more j

abbrev pub Closes : Section → Grid → List Line → Configuration → Type 0
Closes Nowhere rows lines k = Unit {0}
Closes ReadOver rows lines k = Unit {0}
Closes (Rows heading at kind) rows lines k = Finishes at kind rows lines k
Closes (Words heading at) rows lines k = Unit {0}

-- a tile of this kind stands there, and its sixteen rows are those of the lines behind its heading
pub record HasRows (parts : Parts) (behind : List Line) (kind : TileKind) (t : TileAt) (k : Configuration) : Type 0 where
  pub of_kind : kind_at parts t ≡ Some kind
  pub rows : Grid
  pub has : rows_at k t ≡ Some rows
  pub tall : length rows ≡ 16
  pub each : (j : ℕ) → j < 16 → option_and_then (row_of (columns kind)) (slice_get behind j) ≡ slice_get rows j

abbrev pub is_open : Section → TileAt → Bool
is_open Nowhere t = false
is_open ReadOver t = false
is_open (Rows heading at kind) t = same_tile at t
is_open (Words heading at) t = false

abbrev pub BeginsAt : List Line → ℕ → TileKind → Type 0
BeginsAt lines i kind = IsSomeAnd (slice_get lines i) (λ (line : Line). Begins line kind)

-- what extra bits there are behind these, if the lines are right
abbrev pub extras_with : List (ℕ × ℕ × ℕ) → List Line → List (Option (ℕ × ℕ × ℕ))
extras_with extras lines = map Some extras ++ map extra_of (filter begins_extra lines)

-- a line that writes none
pub no_extra : (extras : List (ℕ × ℕ × ℕ)) (line : Line) (lines : List Line) → begins_extra line ≡ false → extras_with extras (line ∷ lines) ≡ extras_with extras lines
no_extra extras line lines none = ap (λ (x : Bool). map Some extras ++ map extra_of (cond x (line ∷ filter begins_extra lines) (filter begins_extra lines))) none

-- a line that writes one
pub extra_more : (extras : List (ℕ × ℕ × ℕ)) (extra : ℕ × ℕ × ℕ) (line : Line) (lines : List Line) → begins_extra line ≡ true → extra_of line ≡ Some extra
    → extras_with extras (line ∷ lines) ≡ extras_with (extras ++ extra ∷ []) lines
extra_more extras extra line lines begins is =
    ap (λ (x : Bool). map Some extras ++ map extra_of (cond x (line ∷ filter begins_extra lines) (filter begins_extra lines))) begins
    ∙ ap (λ (o : Option (ℕ × ℕ × ℕ)). map Some extras ++ o ∷ map extra_of (filter begins_extra lines)) is
    ∙ sym (append_assoc (map Some extras) (Some extra ∷ []) (map extra_of (filter begins_extra lines)))
    ∙ ap (λ (os : List (Option (ℕ × ℕ × ℕ))). os ++ map extra_of (filter begins_extra lines)) (sym (map-append Some extras (extra ∷ [])))

pub record Says (parts : Parts) (section : Section) (rows : Grid) (seen : List TileAt) (bits : Configuration) (lines : List Line) (k : Configuration) : Type 0 where
  pub placed : (i : ℕ) (kind : TileKind) → BeginsAt lines i kind → (t : TileAt) × Names lines i kind t
  pub named : (i : ℕ) (kind : TileKind) (t : TileAt) → Names lines i kind t → HasRows parts (drop (suc i) lines) kind t k
  pub fresh : (i : ℕ) (kind : TileKind) (t : TileAt) → Names lines i kind t → list_any (same_tile t) seen ≡ false
  pub once : (i j : ℕ) (kind other : TileKind) (t : TileAt) → Names lines i kind t → Names lines j other t → i ≡ j
  pub others : (t : TileAt) → is_open section t ≡ false → IsUnnamed lines t → rows_at k t ≡ rows_at bits t
  pub extras : extras_with bits.extras lines ≡ map Some k.extras
  pub closes : Closes section rows lines k

-- a line that names no tile, before others
pub beside : (parts : Parts) (section next : Section) (rows next_rows : Grid) (seen : List TileAt) (bits next_bits : Configuration) (line : Line) (lines : List Line) (k : Configuration)
    → ((kind : TileKind) → Begins line kind → ⊥)
    → ((t : TileAt) → is_open section t ≡ false → IsUnnamed lines t → rows_at k t ≡ rows_at bits t)
    → extras_with bits.extras (line ∷ lines) ≡ map Some k.extras
    → Closes section rows (line ∷ lines) k
    → Says parts next next_rows seen next_bits lines k → Says parts section rows seen bits (line ∷ lines) k
beside parts section next rows next_rows seen bits next_bits line lines k other others extras closes f = record {
  placed = placed;
  named = named;
  fresh = fresh;
  once = once;
  others = λ t shut none. others t shut (λ i kind is. none (suc i) kind is);
  extras = extras;
  closes = closes;
}
  where
    unnamed : (one : Line) → ((kind : TileKind) → Begins one kind → ⊥) → (kind : TileKind) (t : TileAt) → IsHeading one kind t → ⊥
    unnamed [] other kind t is = is
    unnamed (w ∷ ws) other kind t is = other kind is.0

    placed : (i : ℕ) (kind : TileKind) → BeginsAt (line ∷ lines) i kind → (t : TileAt) × Names (line ∷ lines) i kind t
    placed zero kind is = absurd (other kind is)
    placed (suc i) kind is = f.placed i kind is

    named : (i : ℕ) (kind : TileKind) (t : TileAt) → Names (line ∷ lines) i kind t → HasRows parts (drop (suc i) (line ∷ lines)) kind t k
    named zero kind t is = absurd (unnamed line other kind t is)
    named (suc i) kind t is = f.named i kind t is

    fresh : (i : ℕ) (kind : TileKind) (t : TileAt) → Names (line ∷ lines) i kind t → list_any (same_tile t) seen ≡ false
    fresh zero kind t is = absurd (unnamed line other kind t is)
    fresh (suc i) kind t is = f.fresh i kind t is

    once : (i j : ℕ) (kind other : TileKind) (t : TileAt) → Names (line ∷ lines) i kind t → Names (line ∷ lines) j other t → i ≡ j
    once zero j kind two t is too = absurd (unnamed line other kind t is)
    once (suc i) zero kind two t is too = absurd (unnamed line other two t too)
    once (suc i) (suc j) kind two t is too = ap suc (f.once i j kind two t is too)

-- ---- lines while no tile is open
abbrev pub IsShut : Section → Type 0
IsShut Nowhere = Unit {0}
IsShut ReadOver = Unit {0}
IsShut (Rows heading at kind) = ⊥
IsShut (Words heading at) = Unit {0}

pub shut_closes : (section : Section) (rows : Grid) (lines : List Line) (k : Configuration) → IsShut section → Closes section rows lines k
shut_closes Nowhere rows lines k shut = tt
shut_closes ReadOver rows lines k shut = tt
shut_closes (Rows heading at kind) rows lines k shut = absurd shut
shut_closes (Words heading at) rows lines k shut = tt

none_open : (section : Section) (t : TileAt) → IsShut section → is_open section t ≡ false
none_open Nowhere t shut = refl
none_open ReadOver t shut = refl
none_open (Rows heading at kind) t shut = absurd shut
none_open (Words heading at) t shut = refl

-- a line that says nothing of the bits
pub skipped : (parts : Parts) (section next : Section) (rows next_rows : Grid) (seen : List TileAt) (bits : Configuration) (line : Line) (lines : List Line) (k : Configuration)
    → IsShut section → IsShut next → ((kind : TileKind) → Begins line kind → ⊥) → begins_extra line ≡ false
    → Says parts next next_rows seen bits lines k → Says parts section rows seen bits (line ∷ lines) k
skipped parts section next rows next_rows seen bits line lines k shut shut_next other none f =
    beside parts section next rows next_rows seen bits bits line lines k other (λ t _ free. f.others t (none_open next t shut_next) free)
    (no_extra bits.extras line lines none ∙ f.extras) (shut_closes section rows (line ∷ lines) k shut) f

-- the heading of a tile
pub named_first : (parts : Parts) (section : Section) (rows : Grid) (seen : List TileAt) (bits : Configuration) (n : ℕ) (at : TileAt) (kind : TileKind) (w : List ℕ) (ws : List (List ℕ)) (lines : List Line) (k : Configuration)
    → IsShut section → heading_of w ≡ Tile kind → tile_of_words ws ≡ Some at → kind_at parts at ≡ Some kind → list_any (same_tile at) seen ≡ false
    → Says parts (Rows n at kind) [] (seen ++ at ∷ []) bits lines k → Says parts section rows seen bits ((w ∷ ws) ∷ lines) k
named_first parts section rows seen bits n at kind w ws lines k shut is_word is_place known unseen f = record {
  placed = placed;
  named = named;
  fresh = fresh;
  once = once;
  others = λ t _ free. elsewhere t free (same_tile at t) refl;
  extras = no_extra bits.extras (w ∷ ws) lines (extra_is w ws (Tile kind) is_word) ∙ f.extras;
  closes = shut_closes section rows ((w ∷ ws) ∷ lines) k shut;
}
  where
    this_kind : (other : TileKind) → w ≡ heading_of_kind other → kind ≡ other
    this_kind other is = let kinds : Tile kind ≡ Tile other = sym is_word ∙ tile_of_word w other is in cc

    is_this : (other : TileKind) (t : TileAt) → IsHeading (w ∷ ws) other t → (kind ≡ other) × (at ≡ t)
    is_this other t is = let places : Some at ≡ Some t = sym is_place ∙ is.1 in (this_kind other is.0, cc)

    placed : (i : ℕ) (other : TileKind) → BeginsAt ((w ∷ ws) ∷ lines) i other → (t : TileAt) × Names ((w ∷ ws) ∷ lines) i other t
    placed zero other is = (at, (is, is_place))
    placed (suc i) other is = f.placed i other is

    here : HasRows parts lines kind at k
    here = record {
      of_kind = known;
      rows = f.closes.more;
      has = f.closes.has;
      tall = f.closes.whole;
      each = λ j lt. f.closes.each j (let tall : length f.closes.more ≡ 16 = f.closes.whole in omega arith);
    }

    later : (i : ℕ) (other : TileKind) (t : TileAt) → Names lines i other t → (list_any (same_tile t) seen ≡ false) × (list_any (same_tile t) (at ∷ []) ≡ false)
    later i other t is =
        or_parts (list_any (same_tile t) seen) (list_any (same_tile t) (at ∷ [])) (sym (list_any-append (same_tile t) seen (at ∷ [])) ∙ f.fresh i other t is)

    never : (i : ℕ) (other : TileKind) → Names lines i other at → ⊥
    never i other is = true≢false (sym (rw (tile_self at) refl) ∙ (later i other at is).1)

    named : (i : ℕ) (other : TileKind) (t : TileAt) → Names ((w ∷ ws) ∷ lines) i other t → HasRows parts (drop (suc i) ((w ∷ ws) ∷ lines)) other t k
    named zero other t is =
        let same = is_this other t is in
        subst (λ (other : TileKind). HasRows parts lines other t k) same.0 (subst (λ (u : TileAt). HasRows parts lines kind u k) same.1 here)
    named (suc i) other t is = f.named i other t is

    fresh : (i : ℕ) (other : TileKind) (t : TileAt) → Names ((w ∷ ws) ∷ lines) i other t → list_any (same_tile t) seen ≡ false
    fresh zero other t is = subst (λ (u : TileAt). list_any (same_tile u) seen ≡ false) (is_this other t is).1 unseen
    fresh (suc i) other t is = (later i other t is).0

    once : (i j : ℕ) (one other : TileKind) (t : TileAt) → Names ((w ∷ ws) ∷ lines) i one t → Names ((w ∷ ws) ∷ lines) j other t → i ≡ j
    once zero zero one other t is too = refl
    once zero (suc j) one other t is too = absurd (never j other (subst (λ (u : TileAt). Names lines j other u) (sym (is_this one t is).1) too))
    once (suc i) zero one other t is too = absurd (never i one (subst (λ (u : TileAt). Names lines i one u) (sym (is_this other t too).1) is))
    once (suc i) (suc j) one other t is too = ap suc (f.once i j one other t is too)

    elsewhere : (t : TileAt) → IsUnnamed ((w ∷ ws) ∷ lines) t → (x : Bool) → same_tile at t ≡ x → rows_at k t ≡ rows_at bits t
    elsewhere t free true same =
        absurd (free zero kind (word_of_tile w kind is_word, is_place ∙ ap (λ (u : TileAt). Some u) (tile_same at t same)))
    elsewhere t free false other = f.others t other (λ i kind is. free (suc i) kind is)

-- ---- rows of the tile that is open
one_more : (rows : Grid) (row : List Bool) (more : Grid) → (rows ++ row ∷ []) ++ more ≡ rows ++ row ∷ more
one_more rows row more = append_assoc rows (row ∷ []) more

-- a row before others
pub row_before : (parts : Parts) (rows : Grid) (seen : List TileAt) (bits : Configuration) (n : ℕ) (at : TileAt) (kind : TileKind) (w : List ℕ) (row : List Bool) (lines : List Line) (k : Configuration)
    → bits_of_digits (columns kind) w ≡ Some row → Says parts (Rows n at kind) (rows ++ row ∷ []) seen bits lines k → Says parts (Rows n at kind) rows seen bits ((w ∷ []) ∷ lines) k
row_before parts rows seen bits n at kind w row lines k is f =
    beside parts (Rows n at kind) (Rows n at kind) rows (rows ++ row ∷ []) seen bits bits (w ∷ []) lines k (plain_line w [] (row_plain (columns kind) w row is)) f.others
    (no_extra bits.extras (w ∷ []) lines (plain_extra w [] (row_plain (columns kind) w row is)) ∙ f.extras)
    (record {
      more = row ∷ f.closes.more;
      whole = ap length (sym (one_more rows row f.closes.more)) ∙ f.closes.whole;
      has = f.closes.has ∙ ap (λ (all : Grid). Some all) (one_more rows row f.closes.more);
      each = each;
    })
    f
  where
    each : (j : ℕ) → j < length (row ∷ f.closes.more) → option_and_then (row_of (columns kind)) (slice_get ((w ∷ []) ∷ lines) j) ≡ slice_get (row ∷ f.closes.more) j
    each zero lt = is
    each (suc j) lt = f.closes.each j (omega arith)

-- the last row
pub row_last : (parts : Parts) (rows : Grid) (seen : List TileAt) (bits : Configuration) (n : ℕ) (at : TileAt) (kind : TileKind) (w : List ℕ) (row : List Bool) (lines : List Line) (k : Configuration)
    → bits_of_digits (columns kind) w ≡ Some row → IsReady parts (Rows n at kind) seen bits → length (rows ++ row ∷ []) ≡ 16
    → Says parts Nowhere [] seen (with_rows at (rows ++ row ∷ []) bits) lines k → Says parts (Rows n at kind) rows seen bits ((w ∷ []) ∷ lines) k
row_last parts rows seen bits n at kind w row lines k is ready tall f =
    beside parts (Rows n at kind) Nowhere rows [] seen bits (with_rows at (rows ++ row ∷ []) bits) (w ∷ []) lines k (plain_line w [] (row_plain (columns kind) w row is))
    (λ t other free. f.others t refl free ∙ same_elsewhere at t (rows ++ row ∷ []) bits.tiles other)
    (no_extra bits.extras (w ∷ []) lines (plain_extra w [] (row_plain (columns kind) w row is)) ∙ f.extras)
    (record {
      more = row ∷ [];
      whole = tall;
      has = f.others at refl (λ i other named. true≢false (sym ready.begun.noted ∙ f.fresh i other at named)) ∙ changed_here at (rows ++ row ∷ []) bits.tiles (ready.there at kind ready.begun.known);
      each = each;
    })
    f
  where
    each : (j : ℕ) → j < length (row ∷ []) → option_and_then (row_of (columns kind)) (slice_get ((w ∷ []) ∷ lines) j) ≡ slice_get (row ∷ []) j
    each zero lt = is
    each (suc j) lt = absurd (omega arith)
