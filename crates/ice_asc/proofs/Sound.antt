-- The bits that a text says are bits of the chip.
use Rattle.std.proofs.Common.{◌≡◌, ℕ, Bool, true, false, cond, if◌then◌else◌, Option, None, Some, option_map, Result, Ok, Err, IfOk, List, [], ◌∷◌, ◌++◌, length, map, is_some, append-nil, refl, sym, ap, ◌∙◌, subst, arith, rules, tests}
use Rattle.std.specs.Prelude.{All, codes, bytes_eq, nat_eq}
use Rattle.std.specs.List.{list_any, IsDistinct}
use Rattle.std.specs.Map.{keys_of}
use Rattle.std.proofs.lemmas.List.{length-map}
use Rattle.std.proofs.lemmas.List.Elements.{All-nil, All-push, All-append}
use Rattle.ice_base.specs.Text.{lines, numbered, words, begins_with}
use Rattle.ice_base.specs.declared.number.TileAt.{TileAt}
use Rattle.ice_chip.specs.Database.{Parts, same_tile, columns, tile_known}
use Rattle.ice_chip.specs.Functions.{same_kind}
use Rattle.ice_chip.specs.declared.rows.TileKind.{TileKind}
use Rattle.ice_chip.specs.declared.rows.TileKind.TheVariants.{Io, Logic, RamBottom, RamTop}
use Rattle.ice_chip.specs.declared.rows.TileLine.{TileLine}
use Rattle.ice_bits.specs.Configuration.{Configuration}
use Rattle.ice_bits.specs.Grids.{is_of_kind, IsGrid, IsOf}
use Rattle.ice_bits.specs.Rewriting.{with_rows, with_content}
use Rattle.ice_chip_rams.specs.Sites.{site_at}
use Rattle.ice_bits.proofs.Forms.{blank_is_of, with_rows_is_of}
use Rattle.ice_asc.proofs.Filled.{keys_push, none_apart, distinct_push, with_content_is_of, row_words_wide}
use Rattle.ice_asc.specs.Faults.{◌>>=◌}
use Rattle.ice_asc.specs.Words.{row_of_words, tile_of_words, extra_of_words}
use Rattle.ice_asc.specs.Headings.{heading_of}
use Rattle.ice_base.specs.Lists.{all_known}
use Rattle.ice_base.specs.Places.{digit_value}
use Rattle.ice_asc.specs.Grammar.{Reading, start, with_row, known_row, row_says, with_words, known_values, words_row_says, device_says, opened, tile_says, ram_opened, ram_says, extra_says, heading_says, words_say, line_says, at_line, lines_say, end_says, asc_in}
use Rattle.ice_asc.specs.Hex.{row_words, values_of_line}
use Rattle.ice_asc.specs.Answers.{Answers}
use Rattle.ice_asc.specs.declared.fault.AscFault.{AscFault}
use Rattle.ice_asc.specs.declared.fault.AscFault.TheVariants as fault
use Rattle.ice_asc.specs.declared.section.Section.{Section}
use Rattle.ice_asc.specs.declared.section.Section.TheVariants.{Nowhere, ReadOver, Rows, Words}
use Rattle.ice_asc.specs.declared.section.Heading.{Heading}
use Rattle.ice_asc.specs.declared.section.Heading.TheVariants.{Device, Tile, RamData, ExtraBit, Symbol, Other}

-- ---- what every line keeps
-- the tile that is open is one of the chip's, and its rows so far have its columns
record IsOpenTile (parts : Parts) (at : TileAt) (kind : TileKind) (rows : List (List Bool)) : Type 0 where
  tile : TileLine
  known : tile_known parts.tiles at ≡ Some tile
  of_kind : tile.kind ≡ kind
  wide : All (λ (row : List Bool). length row ≡ columns kind) rows

abbrev IsOpen : Parts → Section → List (List Bool) → Type 0
IsOpen parts Nowhere rows = Unit {0}
IsOpen parts ReadOver rows = Unit {0}
IsOpen parts (Rows heading at kind) rows = IsOpenTile parts at kind rows
IsOpen parts (Words heading at) rows = Unit {0}

-- the chip has the block RAM that is open, and its words so far have sixteen bits
record IsOpenRam (parts : Parts) (at : TileAt) (words : List (List Bool)) : Type 0 where
  site : is_some (site_at parts at) ≡ true
  wide : All (λ (word : List Bool). length word ≡ 16) words

abbrev IsFilling : Parts → Section → List (List Bool) → Type 0
IsFilling parts Nowhere words = Unit {0}
IsFilling parts ReadOver words = Unit {0}
IsFilling parts (Rows heading at kind) words = Unit {0}
IsFilling parts (Words heading at) words = IsOpenRam parts at words

-- the block RAM that is open
abbrev open_rams : Section → List TileAt
open_rams Nowhere = []
open_rams ReadOver = []
open_rams (Rows heading at kind) = []
open_rams (Words heading at) = at ∷ []

-- the same where this section takes the next line
record IsSoundIn (parts : Parts) (section : Section) (r : Reading) : Type 0 where
  bits : IsOf parts r.bits
  open_tile : IsOpen parts section r.rows
  open_ram : IsFilling parts section r.words
  filled : r.filled ≡ keys_of r.bits.contents ++ open_rams section
  apart : IsDistinct same_tile r.filled

abbrev IsSound : Parts → Reading → Type 0
IsSound parts r = IsSoundIn parts r.section r

then_holds : {A B : Type 0} (P : A → Type 0) (Q : B → Type 0) (r : Result A AscFault) (f : A → Result B AscFault) → IfOk r P → ((x : A) → P x → IfOk (f x) Q) → IfOk (r >>= f) Q
then_holds P Q (Ok x) f here later = later x here
then_holds P Q (Err e) f here later = tt

-- ---- rows
known_length : {A : Type 0} (os : List (Option A)) (xs : List A) → all_known os ≡ Some xs → length xs ≡ length os
known_length [] xs e = let s : [] ≡ xs = cc in ap length (sym s)
known_length (None ∷ os) xs e = absurd (cc)
known_length {A} (Some x ∷ os) xs e = by (all_known os) e (λ ys is. known_length os ys is) refl
  where
    by : (o : Option (List A)) → option_map (λ ys. x ∷ ys) o ≡ Some xs → ((ys : List A) → all_known os ≡ Some ys → length ys ≡ length os) → all_known os ≡ o
        → length xs ≡ length (Some x ∷ os)
    by None said rest is = absurd (cc)
    by (Some ys) said rest is =
        let s : x ∷ ys ≡ xs = cc in
        let long : length ys ≡ length os = rest ys is in
        ap length (sym s) ∙ omega arith

row_length : (width : ℕ) (w : List ℕ) (ws : List (List ℕ)) (row : List Bool) → row_of_words width w ws ≡ Some row → length row ≡ width
row_length width w (v ∷ ws) row e = absurd (cc)
row_length width w [] row e = by (nat_eq (length w) width) refl e
  where
    same : nat_eq (length w) width ≡ true → length w ≡ width
    same test = search (rules, tests)

    by : (x : Bool) → nat_eq (length w) width ≡ x → cond x (all_known (map digit_value w)) None ≡ Some row → length row ≡ width
    by false test said = absurd (cc)
    by true test said = known_length (map digit_value w) row said ∙ (length-map w digit_value ∙ same test)

row_sound : (parts : Parts) (r : Reading) (heading : ℕ) (at : TileAt) (kind : TileKind) (row : List Bool) → IsSoundIn parts (Rows heading at kind) r → length row ≡ columns kind
    → IsSound parts (with_row r heading at kind (r.rows ++ row ∷ []))
row_sound parts r heading at kind row sound long = by (nat_eq (length (r.rows ++ row ∷ [])) 16) refl
  where
    is : IsOpenTile parts at kind r.rows
    is = sound.open_tile

    wide : All (λ (line : List Bool). length line ≡ columns kind) (r.rows ++ row ∷ [])
    wide = All-push (λ (line : List Bool). length line ≡ columns kind) r.rows row is.wide long

    tall : nat_eq (length (r.rows ++ row ∷ [])) 16 ≡ true → length (r.rows ++ row ∷ []) ≡ 16
    tall test = search (rules, tests)

    by : (x : Bool) → nat_eq (length (r.rows ++ row ∷ [])) 16 ≡ x
        → IsSound parts (cond x (record r { section = Nowhere; rows = []; bits = with_rows at (r.rows ++ row ∷ []) r.bits }) (record r { section = Rows heading at kind; rows = r.rows ++ row ∷ [] }))
    by true test = record {
      bits = with_rows_is_of parts r.bits at (r.rows ++ row ∷ []) is.tile sound.bits is.known
          (subst (λ (k : TileKind). IsGrid (columns k) (r.rows ++ row ∷ [])) (sym is.of_kind) (record { tall = tall test; wide = wide }));
      open_tile = tt;
      open_ram = tt;
      filled = sound.filled;
      apart = sound.apart;
    }
    by false test = record {
      bits = sound.bits;
      open_tile = record { tile = is.tile; known = is.known; of_kind = is.of_kind; wide = wide };
      open_ram = tt;
      filled = sound.filled;
      apart = sound.apart;
    }

row_line_sound : (parts : Parts) (r : Reading) (heading : ℕ) (at : TileAt) (kind : TileKind) (w : List ℕ) (ws : List (List ℕ)) → IsSoundIn parts (Rows heading at kind) r
    → IfOk (row_says r heading at kind w ws) (IsSound parts)
row_line_sound parts r heading at kind w ws sound = by (row_of_words (columns kind) w ws) refl
  where
    by : (o : Option (List Bool)) → row_of_words (columns kind) w ws ≡ o → IfOk (known_row r.line o >>= (λ row. Ok (with_row r heading at kind (r.rows ++ row ∷ [])))) (IsSound parts)
    by None e = tt
    by (Some row) e = row_sound parts r heading at kind row sound (row_length (columns kind) w ws row e)

-- ---- rows of words
words_sound : (parts : Parts) (r : Reading) (heading : ℕ) (at : TileAt) (values : List ℕ) → IsSoundIn parts (Words heading at) r → IsSound parts (with_words r heading at (r.words ++ row_words values))
words_sound parts r heading at values sound = by (nat_eq (length (r.words ++ row_words values)) 256) refl
  where
    wide : All (λ (word : List Bool). length word ≡ 16) (r.words ++ row_words values)
    wide = All-append (λ (word : List Bool). length word ≡ 16) r.words (row_words values) sound.open_ram.wide (row_words_wide values)

    many : nat_eq (length (r.words ++ row_words values)) 256 ≡ true → length (r.words ++ row_words values) ≡ 256
    many test = search (rules, tests)

    by : (x : Bool) → nat_eq (length (r.words ++ row_words values)) 256 ≡ x
        → IsSound parts (cond x (record r { section = Nowhere; words = []; bits = with_content at (r.words ++ row_words values) r.bits }) (record r { section = Words heading at; words = r.words ++ row_words values }))
    by true test = record {
      bits = with_content_is_of parts r.bits at (r.words ++ row_words values) sound.bits sound.open_ram.site (record { many = many test; wide = wide }) (subst (IsDistinct same_tile) sound.filled sound.apart);
      open_tile = tt;
      open_ram = tt;
      filled = sound.filled ∙ sym (keys_push r.bits.contents (at, r.words ++ row_words values)) ∙ sym (append-nil (keys_of (r.bits.contents ++ (at, r.words ++ row_words values) ∷ [])));
      apart = sound.apart;
    }
    by false test = record {
      bits = sound.bits;
      open_tile = tt;
      open_ram = record { site = sound.open_ram.site; wide = wide };
      filled = sound.filled;
      apart = sound.apart;
    }

words_line_sound : (parts : Parts) (r : Reading) (heading : ℕ) (at : TileAt) (w : List ℕ) (ws : List (List ℕ)) → IsSoundIn parts (Words heading at) r → IfOk (words_row_says r heading at w ws) (IsSound parts)
words_line_sound parts r heading at w ws sound = by (values_of_line w ws)
  where
    by : (o : Option (List ℕ)) → IfOk (known_values r.line o >>= (λ values. Ok (with_words r heading at (r.words ++ row_words values)))) (IsSound parts)
    by None = tt
    by (Some values) = words_sound parts r heading at values sound

-- ---- headings
kinds_same : (a b : TileKind) → same_kind a b ≡ true → a ≡ b
kinds_same Io Io e = refl
kinds_same Io Logic e = absurd (cc)
kinds_same Io RamBottom e = absurd (cc)
kinds_same Io RamTop e = absurd (cc)
kinds_same Logic Io e = absurd (cc)
kinds_same Logic Logic e = refl
kinds_same Logic RamBottom e = absurd (cc)
kinds_same Logic RamTop e = absurd (cc)
kinds_same RamBottom Io e = absurd (cc)
kinds_same RamBottom Logic e = absurd (cc)
kinds_same RamBottom RamBottom e = refl
kinds_same RamBottom RamTop e = absurd (cc)
kinds_same RamTop Io e = absurd (cc)
kinds_same RamTop Logic e = absurd (cc)
kinds_same RamTop RamBottom e = absurd (cc)
kinds_same RamTop RamTop e = refl

device_sound : (parts : Parts) (r : Reading) (ws : List (List ℕ)) → IsSoundIn parts Nowhere r → IfOk (device_says r ws) (IsSound parts)
device_sound parts r [] sound = tt
device_sound parts r (name ∷ w ∷ ws) sound = tt
device_sound parts r (name ∷ []) sound = by (bytes_eq name (codes "1k"))
  where
    by : (x : Bool) → IfOk (cond x (Ok (record r { has_device = true; section = Nowhere })) (Err (fault.OtherDevice r.line))) (IsSound parts)
    by true = record { bits = sound.bits; open_tile = tt; open_ram = tt; filled = sound.filled; apart = sound.apart }
    by false = tt

tile_sound : (parts : Parts) (r : Reading) (kind : TileKind) (tile : Option TileAt) → IsSoundIn parts Nowhere r → IfOk (tile_says parts r kind tile) (IsSound parts)
tile_sound parts r kind None sound = tt
tile_sound parts r kind (Some at) sound = by (tile_known parts.tiles at) refl
  where
    opens : (tile : TileLine) → tile_known parts.tiles at ≡ Some tile → tile.kind ≡ kind → IfOk (opened r kind at) (IsSound parts)
    opens tile e same = by (list_any (same_tile at) r.seen)
      where
        by : (x : Bool) → IfOk (cond x (Err (fault.TileTwice r.line)) (Ok (record r { section = Rows r.line at kind; rows = []; seen = r.seen ++ at ∷ [] }))) (IsSound parts)
        by true = tt
        by false = record {
          bits = sound.bits;
          open_tile = record { tile = tile; known = e; of_kind = same; wide = All-nil (λ (row : List Bool). length row ≡ columns kind) };
          open_ram = tt;
          filled = sound.filled;
          apart = sound.apart;
        }

    by : (o : Option TileLine) → tile_known parts.tiles at ≡ o
        → IfOk (if is_of_kind kind (option_map (λ (known : TileLine). known.kind) o) then opened r kind at else Err (fault.UnknownTile r.line)) (IsSound parts)
    by None e = tt
    by (Some tile) e = of_test (same_kind tile.kind kind) refl
      where
        of_test : (x : Bool) → same_kind tile.kind kind ≡ x → IfOk (if x then opened r kind at else Err (fault.UnknownTile r.line)) (IsSound parts)
        of_test true same = opens tile e (kinds_same tile.kind kind same)
        of_test false other = tt

ram_sound : (parts : Parts) (r : Reading) (tile : Option TileAt) → IsSoundIn parts Nowhere r → IfOk (ram_says parts r tile) (IsSound parts)
ram_sound parts r None sound = tt
ram_sound parts r (Some at) sound = by (is_some (site_at parts at)) refl
  where
    opens : is_some (site_at parts at) ≡ true → IfOk (ram_opened r at) (IsSound parts)
    opens site = of (list_any (same_tile at) r.filled) refl
      where
        of : (x : Bool) → list_any (same_tile at) r.filled ≡ x
            → IfOk (cond x (Err (fault.TileTwice r.line)) (Ok (record r { section = Words r.line at; words = []; filled = r.filled ++ at ∷ [] }))) (IsSound parts)
        of true seen = tt
        of false new = record {
          bits = sound.bits;
          open_tile = tt;
          open_ram = record { site = site; wide = All-nil (λ (word : List Bool). length word ≡ 16) };
          filled = ap (λ ts. ts ++ at ∷ []) (sound.filled ∙ append-nil (keys_of r.bits.contents));
          apart = distinct_push at r.filled sound.apart new;
        }

    by : (x : Bool) → is_some (site_at parts at) ≡ x → IfOk (if x then ram_opened r at else Err (fault.UnknownTile r.line)) (IsSound parts)
    by true site = opens site
    by false none = tt

extra_sound : (parts : Parts) (r : Reading) (extra : Option (ℕ × ℕ × ℕ)) → IsSoundIn parts Nowhere r → IfOk (extra_says r extra) (IsSound parts)
extra_sound parts r None sound = tt
extra_sound parts r (Some extra) sound = record {
  bits = record { grids = sound.bits.grids; kinds = sound.bits.kinds; contents = sound.bits.contents };
  open_tile = tt;
  open_ram = tt;
  filled = sound.filled;
  apart = sound.apart;
}

heading_sound : (parts : Parts) (r : Reading) (heading : Heading) (ws : List (List ℕ)) → IsSoundIn parts Nowhere r → IfOk (heading_says parts r heading ws) (IsSound parts)
heading_sound parts r Device ws sound = device_sound parts r ws sound
heading_sound parts r (Tile kind) ws sound = by r.has_device
  where
    by : (x : Bool) → IfOk (if x then tile_says parts r kind (tile_of_words ws) else Err (fault.NoDevice r.line)) (IsSound parts)
    by true = tile_sound parts r kind (tile_of_words ws) sound
    by false = tt
heading_sound parts r RamData ws sound = by r.has_device
  where
    by : (x : Bool) → IfOk (if x then ram_says parts r (tile_of_words ws) else Err (fault.NoDevice r.line)) (IsSound parts)
    by true = ram_sound parts r (tile_of_words ws) sound
    by false = tt
heading_sound parts r ExtraBit ws sound = extra_sound parts r (extra_of_words ws) sound
heading_sound parts r Symbol ws sound = record { bits = sound.bits; open_tile = tt; open_ram = tt; filled = sound.filled; apart = sound.apart }
heading_sound parts r Other ws sound = record { bits = sound.bits; open_tile = tt; open_ram = tt; filled = sound.filled; apart = sound.apart }

-- ---- lines
section_sound : (parts : Parts) (r : Reading) (section : Section) (w : List ℕ) (ws : List (List ℕ)) → r.section ≡ section → IsSoundIn parts section r → IfOk (words_say parts r section w ws) (IsSound parts)
section_sound parts r (Rows heading at kind) w ws e sound = row_line_sound parts r heading at kind w ws sound
section_sound parts r (Words heading at) w ws e sound = words_line_sound parts r heading at w ws sound
section_sound parts r ReadOver w ws e sound = by (begins_with 46 w)
  where
    by : (x : Bool) → IfOk (if x then heading_says parts r (heading_of w) ws else Ok r) (IsSound parts)
    by true = heading_sound parts r (heading_of w) ws (record { bits = sound.bits; open_tile = tt; open_ram = tt; filled = sound.filled; apart = sound.apart })
    by false = subst (λ (s : Section). IsSoundIn parts s r) (sym e) sound
section_sound parts r Nowhere w ws e sound = by (begins_with 46 w)
  where
    by : (x : Bool) → IfOk (if x then heading_says parts r (heading_of w) ws else Err (fault.UnknownWord r.line)) (IsSound parts)
    by true = heading_sound parts r (heading_of w) ws sound
    by false = tt

line_sound : (parts : Parts) (r : Reading) (ws : List (List ℕ)) → IsSound parts r → IfOk (line_says parts r ws) (IsSound parts)
line_sound parts r [] sound = sound
line_sound parts r (w ∷ ws) sound = section_sound parts r r.section w ws refl sound

lines_sound : (parts : Parts) (r : Reading) (ls : List (ℕ × List ℕ)) → IsSound parts r → IfOk (lines_say parts r ls) (IsSound parts)
lines_sound parts r [] sound = sound
lines_sound parts r (l ∷ ls) sound =
    then_holds (IsSound parts) (IsSound parts) (line_says parts (at_line r l.0) (words l.1)) (λ (s : Reading). lines_say parts s ls)
    (line_sound parts (at_line r l.0) (words l.1) (record { bits = sound.bits; open_tile = sound.open_tile; open_ram = sound.open_ram; filled = sound.filled; apart = sound.apart }))
    (λ s now. lines_sound parts s ls now)

end_sound : (parts : Parts) (r : Reading) (section : Section) → IsSound parts r → IfOk (end_says r section) (IsOf parts)
end_sound parts r (Rows heading at kind) sound = tt
end_sound parts r (Words heading at) sound = tt
end_sound parts r ReadOver sound = by r.has_device
  where
    by : (x : Bool) → IfOk (if x then Ok r.bits else Err (fault.NoDevice r.line)) (IsOf parts)
    by true = sound.bits
    by false = tt
end_sound parts r Nowhere sound = by r.has_device
  where
    by : (x : Bool) → IfOk (if x then Ok r.bits else Err (fault.NoDevice r.line)) (IsOf parts)
    by true = sound.bits
    by false = tt

pub text_sound : (parts : Parts) (text : List ℕ) → IfOk (asc_in parts text) (IsOf parts)
text_sound parts text =
    then_holds (IsSound parts) (IsOf parts) (lines_say parts (start parts) (numbered 1 (lines text))) (λ (r : Reading). end_says r r.section)
    (lines_sound parts (start parts) (numbered 1 (lines text)) (record { bits = blank_is_of parts; open_tile = tt; open_ram = tt; filled = refl; apart = none_apart })) (λ r sound. end_sound parts r r.section sound)

-- what is answered is what is said
pub answered : (P : Configuration → Type 0) (result said : Result Configuration AscFault) → Answers result said → IfOk said P → IfOk result P
answered P (Ok bits) said is h = subst (λ (s : Result Configuration AscFault). IfOk s P) is h
answered P (Err e) said is h = tt
