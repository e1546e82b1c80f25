-- What each line of a text does to what is read, and so what a whole text says.
use Rattle.std.proofs.Common.{◌≡◌, ℕ, zero, suc, ◌+◌, Bool, true, false, cond, Option, None, Some, is_some, Result, Ok, Err, IfOk, List, [], ◌∷◌, ◌++◌, length, map, filter, drop, slice_get, nat_eq, codes, bytes_eq, if◌then◌else◌, refl, sym, ap, ◌∙◌, subst, append-nil, arith, rules, tests}
use Rattle.std.specs.List.{list_any}
use Rattle.std.specs.Option.{option_and_then}
use Rattle.std.proofs.lemmas.List.Folds.{list_any-append}
use Rattle.std.proofs.lemmas.Result.{IfOk-weaker}
use Rattle.ice_base.specs.Text.{lines, numbered, next_number, words, begins_with}
use Rattle.ice_base.specs.declared.number.TileAt.{TileAt}
use Rattle.ice_base.proofs.Keys.{tile_self}
use Rattle.ice_chip.specs.Database.{Parts, same_tile, columns}
use Rattle.ice_chip.specs.Functions.{same_kind}
use Rattle.ice_chip.specs.Lookups.{kind_at}
use Rattle.ice_chip.specs.declared.rows.TileKind.{TileKind}
use Rattle.ice_chip.proofs.SameKinds.{kind_same}
use Rattle.ice_bits.specs.Configuration.{Configuration, bit_at}
use Rattle.ice_bits.specs.Grids.{is_of_kind, blank}
use Rattle.ice_bits.specs.Rewriting.{with_rows, with_content}
use Rattle.ice_chip_rams.specs.Sites.{site_at}
use Rattle.ice_asc.specs.Faults.{◌>>=◌}
use Rattle.ice_asc.specs.Words.{bits_of_digits, tile_of_words, extra_of_words}
use Rattle.ice_asc.specs.Headings.{heading_of}
use Rattle.ice_asc.specs.Grammar.{Reading, start, with_row, known_row, row_says, device_says, opened, tile_says, extra_says, heading_says, words_say, line_says, at_line, lines_say, end_says, asc_in, ram_opened, ram_says, known_values, with_words, words_row_says}
use Rattle.ice_asc.specs.Hex.{row_words, values_of_line}
use Rattle.ice_asc.specs.declared.fault.AscFault.{AscFault}
use Rattle.ice_asc.specs.declared.fault.AscFault.TheVariants as fault
use Rattle.ice_asc.specs.declared.section.Section.{Section}
use Rattle.ice_asc.specs.declared.section.Section.TheVariants.{Nowhere, ReadOver, Rows, Words}
use Rattle.ice_asc.specs.declared.section.Heading.{Heading}
use Rattle.ice_asc.specs.declared.section.Heading.TheVariants.{Device, Tile, RamData, ExtraBit, Symbol, Other}
use Rattle.ice_asc_laws.specs.NamedTiles.{Line, has_words, worded, row_of, begins_extra, HasItsRows, SayBits}
use Rattle.ice_asc_laws.proofs.Headed.{is_tile, other_heading, extra_is, plain_line, plain_extra, values_plain}
use Rattle.ice_asc_laws.proofs.TilesWith.{Grid, tiles_stay, blank_has, blank_bit}
use Rattle.ice_asc_laws.proofs.Sections.{BeganRight, HasRows, IsReady, IsShut, Says, beside, no_extra, extra_more, named_first, row_before, row_last, shut_closes, skipped}

-- ---- one line
abbrev with_line : Line → List Line → List Line
with_line [] lines = lines
with_line (w ∷ ws) lines = (w ∷ ws) ∷ lines

-- what is read with the line is ready for the next one, and what the later lines say from there, the line and these say from here
abbrev GoesOn : Parts → Section → Reading → Line → Reading → Type 0
GoesOn parts section r line next =
    IsReady parts next.section next.seen next.bits
    × ((lines : List Line) (k : Configuration) → Says parts next.section next.rows next.seen next.bits lines k → Says parts section r.rows r.seen r.bits (with_line line lines) k)

row_line : (parts : Parts) (r : Reading) (n : ℕ) (at : TileAt) (kind : TileKind) (w : List ℕ) (ws : List (List ℕ)) → IsReady parts (Rows n at kind) r.seen r.bits
    → IfOk (row_says r n at kind w ws) (GoesOn parts (Rows n at kind) r (w ∷ ws))
row_line parts r n at kind w (v ∷ ws) ready = tt
row_line parts r n at kind w [] ready = by (bits_of_digits (columns kind) w) refl
  where
    tall : (row : List Bool) → nat_eq (length (r.rows ++ row ∷ [])) 16 ≡ true → length (r.rows ++ row ∷ []) ≡ 16
    tall row test = search (rules, tests)

    of_length : (row : List Bool) → bits_of_digits (columns kind) w ≡ Some row → (x : Bool) → nat_eq (length (r.rows ++ row ∷ [])) 16 ≡ x
        → GoesOn parts (Rows n at kind) r (w ∷ [])
        (cond x (record r { section = Nowhere; rows = []; bits = with_rows at (r.rows ++ row ∷ []) r.bits }) (record r { section = Rows n at kind; rows = r.rows ++ row ∷ [] }))
    of_length row is true test = (
      record {
        there = λ t other known. tiles_stay at t (r.rows ++ row ∷ []) r.bits.tiles ∙ ready.there t other known;
        begun = tt;
      },
      λ lines k f. row_last parts r.rows r.seen r.bits n at kind w row lines k is ready (tall row test) f,
    )
    of_length row is false test = (ready, λ lines k f. row_before parts r.rows r.seen r.bits n at kind w row lines k is f)

    by : (o : Option (List Bool)) → bits_of_digits (columns kind) w ≡ o
        → IfOk (known_row r.line o >>= (λ row. Ok (with_row r n at kind (r.rows ++ row ∷ [])))) (GoesOn parts (Rows n at kind) r (w ∷ []))
    by None is = tt
    by (Some row) is = of_length row is (nat_eq (length (r.rows ++ row ∷ [])) 16) refl

-- a row of a block RAM's words
words_row : (parts : Parts) (r : Reading) (n : ℕ) (at : TileAt) (w : List ℕ) (ws : List (List ℕ)) → IsReady parts (Words n at) r.seen r.bits
    → IfOk (words_row_says r n at w ws) (GoesOn parts (Words n at) r (w ∷ ws))
words_row parts r n at w ws ready = by (values_of_line w ws) refl
  where
    of_length : (values : List ℕ) → begins_with 46 w ≡ false → (x : Bool)
        → GoesOn parts (Words n at) r (w ∷ ws)
        (cond x (record r { section = Nowhere; words = []; bits = with_content at (r.words ++ row_words values) r.bits }) (record r { section = Words n at; words = r.words ++ row_words values }))
    of_length values plain true = (
      record { there = ready.there; begun = tt },
      λ lines k f. beside parts (Words n at) Nowhere r.rows r.rows r.seen r.bits (with_content at (r.words ++ row_words values) r.bits) (w ∷ ws) lines k (plain_line w ws plain)
          (λ t _ free. f.others t refl free) (no_extra r.bits.extras (w ∷ ws) lines (plain_extra w ws plain) ∙ f.extras) tt f,
    )
    of_length values plain false = (
      record { there = ready.there; begun = tt },
      λ lines k f. skipped parts (Words n at) (Words n at) r.rows r.rows r.seen r.bits (w ∷ ws) lines k tt tt (plain_line w ws plain) (plain_extra w ws plain) f,
    )

    by : (o : Option (List ℕ)) → values_of_line w ws ≡ o
        → IfOk (known_values r.line o >>= (λ values. Ok (with_words r n at (r.words ++ row_words values)))) (GoesOn parts (Words n at) r (w ∷ ws))
    by None is = tt
    by (Some values) is = of_length values (values_plain w ws values is) (nat_eq (length (r.words ++ row_words values)) 256)

-- a heading that names no tile and writes no extra bit
other_line : (parts : Parts) (section next : Section) (r : Reading) (h : Heading) (device : Bool) (w : List ℕ) (ws : List (List ℕ)) → IsShut section → IsShut next → BeganRight parts r.seen next
    → IsReady parts section r.seen r.bits → heading_of w ≡ h → is_tile h ≡ false → begins_extra (w ∷ ws) ≡ false
    → GoesOn parts section r (w ∷ ws) (record r { has_device = device; section = next })
other_line parts section next r h device w ws shut shut_next begun ready is none not_extra = (
  record { there = ready.there; begun = begun },
  λ lines k f. skipped parts section next r.rows r.rows r.seen r.bits (w ∷ ws) lines k shut shut_next (other_heading w ws h is none) not_extra f,
)

device_line : (parts : Parts) (section : Section) (r : Reading) (w : List ℕ) (ws : List (List ℕ)) → IsShut section → IsReady parts section r.seen r.bits → heading_of w ≡ Device
    → IfOk (device_says r ws) (GoesOn parts section r (w ∷ ws))
device_line parts section r w [] shut ready is = tt
device_line parts section r w (name ∷ v ∷ ws) shut ready is = tt
device_line parts section r w (name ∷ []) shut ready is = by (bytes_eq name (codes "1k"))
  where
    by : (x : Bool) → IfOk (if x then Ok (record r { has_device = true; section = Nowhere }) else Err (fault.OtherDevice r.line)) (GoesOn parts section r (w ∷ name ∷ []))
    by true = other_line parts section Nowhere r Device true w (name ∷ []) shut tt tt ready is refl (extra_is w (name ∷ []) Device is)
    by false = tt

extra_line : (parts : Parts) (section : Section) (r : Reading) (w : List ℕ) (ws : List (List ℕ)) → IsShut section → IsReady parts section r.seen r.bits → heading_of w ≡ ExtraBit
    → IfOk (extra_says r (extra_of_words ws)) (GoesOn parts section r (w ∷ ws))
extra_line parts section r w ws shut ready is = by (extra_of_words ws) refl
  where
    by : (o : Option (ℕ × ℕ × ℕ)) → extra_of_words ws ≡ o → IfOk (extra_says r o) (GoesOn parts section r (w ∷ ws))
    by None e = tt
    by (Some extra) e = (
      record { there = ready.there; begun = tt },
      λ lines k f. beside parts section Nowhere r.rows r.rows r.seen r.bits (record { tiles = r.bits.tiles; kinds = r.bits.kinds; extras = r.bits.extras ++ extra ∷ []; contents = r.bits.contents }) (w ∷ ws) lines k
          (other_heading w ws ExtraBit is refl) (λ t _ free. f.others t refl free)
          (extra_more r.bits.extras extra (w ∷ ws) lines (extra_is w ws ExtraBit is) e ∙ f.extras)
          (shut_closes section r.rows ((w ∷ ws) ∷ lines) k shut) f,
    )

tile_line : (parts : Parts) (section : Section) (r : Reading) (kind : TileKind) (w : List ℕ) (ws : List (List ℕ)) → IsShut section → IsReady parts section r.seen r.bits → heading_of w ≡ Tile kind
    → IfOk (tile_says parts r kind (tile_of_words ws)) (GoesOn parts section r (w ∷ ws))
tile_line parts section r kind w ws shut ready is = by (tile_of_words ws) refl
  where
    opens : (at : TileAt) → tile_of_words ws ≡ Some at → kind_at parts at ≡ Some kind → IfOk (opened r kind at) (GoesOn parts section r (w ∷ ws))
    opens at place known = by (list_any (same_tile at) r.seen) refl
      where
        noted : list_any (same_tile at) r.seen ≡ false → list_any (same_tile at) (r.seen ++ at ∷ []) ≡ true
        noted unseen = list_any-append (same_tile at) r.seen (at ∷ []) ∙ (rw (unseen, tile_self at) refl)

        by : (x : Bool) → list_any (same_tile at) r.seen ≡ x
            → IfOk (if x then Err (fault.TileTwice r.line) else Ok (record r { section = Rows r.line at kind; rows = []; seen = r.seen ++ at ∷ [] })) (GoesOn parts section r (w ∷ ws))
        by true e = tt
        by false e = (
          record { there = ready.there; begun = record { known = known; noted = noted e } },
          λ lines k f. named_first parts section r.rows r.seen r.bits r.line at kind w ws lines k shut is place known e f,
        )

    of_kind : (at : TileAt) → tile_of_words ws ≡ Some at → (o : Option TileKind) → kind_at parts at ≡ o
        → IfOk (if is_of_kind kind o then opened r kind at else Err (fault.UnknownTile r.line)) (GoesOn parts section r (w ∷ ws))
    of_kind at place None e = tt
    of_kind at place (Some known) e = tested (same_kind known kind) refl
      where
        tested : (x : Bool) → same_kind known kind ≡ x → IfOk (if x then opened r kind at else Err (fault.UnknownTile r.line)) (GoesOn parts section r (w ∷ ws))
        tested true same = opens at place (e ∙ ap (λ (one : TileKind). Some one) (kind_same known kind same))
        tested false other = tt

    by : (o : Option TileAt) → tile_of_words ws ≡ o → IfOk (tile_says parts r kind o) (GoesOn parts section r (w ∷ ws))
    by None e = tt
    by (Some at) e = of_kind at e (kind_at parts at) refl

-- the heading of a block RAM's words
ram_line : (parts : Parts) (section : Section) (r : Reading) (w : List ℕ) (ws : List (List ℕ)) → IsShut section → IsReady parts section r.seen r.bits → heading_of w ≡ RamData
    → IfOk (ram_says parts r (tile_of_words ws)) (GoesOn parts section r (w ∷ ws))
ram_line parts section r w ws shut ready is = by (tile_of_words ws)
  where
    opens : (at : TileAt) (x : Bool)
        → IfOk (if x then Err (fault.TileTwice r.line) else Ok (record r { section = Words r.line at; words = []; filled = r.filled ++ at ∷ [] })) (GoesOn parts section r (w ∷ ws))
    opens at true = tt
    opens at false = (
      record { there = ready.there; begun = tt },
      λ lines k f. skipped parts section (Words r.line at) r.rows r.rows r.seen r.bits (w ∷ ws) lines k shut tt (other_heading w ws RamData is refl) (extra_is w ws RamData is) f,
    )

    there : (at : TileAt) (x : Bool) → IfOk (if x then ram_opened r at else Err (fault.UnknownTile r.line)) (GoesOn parts section r (w ∷ ws))
    there at true = opens at (list_any (same_tile at) r.filled)
    there at false = tt

    by : (o : Option TileAt) → IfOk (ram_says parts r o) (GoesOn parts section r (w ∷ ws))
    by None = tt
    by (Some at) = there at (is_some (site_at parts at))

heading_line : (parts : Parts) (section : Section) (r : Reading) (w : List ℕ) (ws : List (List ℕ)) → IsShut section → IsReady parts section r.seen r.bits → (h : Heading) → heading_of w ≡ h
    → IfOk (heading_says parts r h ws) (GoesOn parts section r (w ∷ ws))
heading_line parts section r w ws shut ready Device is = device_line parts section r w ws shut ready is
heading_line parts section r w ws shut ready (Tile kind) is = by r.has_device
  where
    by : (x : Bool) → IfOk (if x then tile_says parts r kind (tile_of_words ws) else Err (fault.NoDevice r.line)) (GoesOn parts section r (w ∷ ws))
    by true = tile_line parts section r kind w ws shut ready is
    by false = tt
heading_line parts section r w ws shut ready RamData is = by r.has_device
  where
    by : (x : Bool) → IfOk (if x then ram_says parts r (tile_of_words ws) else Err (fault.NoDevice r.line)) (GoesOn parts section r (w ∷ ws))
    by true = ram_line parts section r w ws shut ready is
    by false = tt
heading_line parts section r w ws shut ready ExtraBit is = extra_line parts section r w ws shut ready is
heading_line parts section r w ws shut ready Symbol is = other_line parts section Nowhere r Symbol r.has_device w ws shut tt tt ready is refl (extra_is w ws Symbol is)
heading_line parts section r w ws shut ready Other is = other_line parts section ReadOver r Other r.has_device w ws shut tt tt ready is refl (extra_is w ws Other is)

words_line : (parts : Parts) (r : Reading) (section : Section) (w : List ℕ) (ws : List (List ℕ)) → section ≡ r.section → IsReady parts section r.seen r.bits
    → IfOk (words_say parts r section w ws) (GoesOn parts section r (w ∷ ws))
words_line parts r (Rows n at kind) w ws same ready = row_line parts r n at kind w ws ready
words_line parts r (Words n at) w ws same ready = words_row parts r n at w ws ready
words_line parts r Nowhere w ws same ready = by (begins_with 46 w)
  where
    by : (x : Bool) → IfOk (if x then heading_says parts r (heading_of w) ws else Err (fault.UnknownWord r.line)) (GoesOn parts Nowhere r (w ∷ ws))
    by true = heading_line parts Nowhere r w ws tt ready (heading_of w) refl
    by false = tt
words_line parts r ReadOver w ws same ready = by (begins_with 46 w) refl
  where
    over : begins_with 46 w ≡ false → GoesOn parts ReadOver r (w ∷ ws) (record r { section = ReadOver })
    over plain = (
      record { there = ready.there; begun = tt },
      λ lines k f. skipped parts ReadOver ReadOver r.rows r.rows r.seen r.bits (w ∷ ws) lines k tt tt (plain_line w ws plain) (plain_extra w ws plain) f,
    )

    by : (x : Bool) → begins_with 46 w ≡ x → IfOk (if x then heading_says parts r (heading_of w) ws else Ok r) (GoesOn parts ReadOver r (w ∷ ws))
    by true dot = heading_line parts ReadOver r w ws tt ready (heading_of w) refl
    by false plain = subst (λ (s : Section). GoesOn parts ReadOver r (w ∷ ws) (record r { section = s })) same (over plain)

said_line : (parts : Parts) (r : Reading) (ws : Line) → IsReady parts r.section r.seen r.bits → IfOk (line_says parts r ws) (GoesOn parts r.section r ws)
said_line parts r [] ready = (ready, λ lines k f. f)
said_line parts r (w ∷ ws) ready = words_line parts r r.section w ws refl ready

-- ---- all lines
at_end : (parts : Parts) (r : Reading) (section : Section) → IfOk (end_says r section) (Says parts section r.rows r.seen r.bits [])
at_end parts r (Rows n at kind) = tt
at_end parts r (Words n at) = tt
at_end parts r ReadOver = by r.has_device
  where
    by : (x : Bool) → IfOk (if x then Ok r.bits else Err (fault.NoDevice r.line)) (Says parts ReadOver r.rows r.seen r.bits [])
    by true = record {
      placed = λ i kind is. absurd is;
      named = λ i kind t is. absurd is;
      fresh = λ i kind t is. absurd is;
      once = λ i j kind other t is too. absurd is;
      others = λ t shut free. refl;
      extras = append-nil (map Some r.bits.extras);
      closes = tt;
    }
    by false = tt
at_end parts r Nowhere = by r.has_device
  where
    by : (x : Bool) → IfOk (if x then Ok r.bits else Err (fault.NoDevice r.line)) (Says parts Nowhere r.rows r.seen r.bits [])
    by true = record {
      placed = λ i kind is. absurd is;
      named = λ i kind t is. absurd is;
      fresh = λ i kind t is. absurd is;
      once = λ i j kind other t is too. absurd is;
      others = λ t shut free. refl;
      extras = append-nil (map Some r.bits.extras);
      closes = tt;
    }
    by false = tt

abbrev worded_lines : List (ℕ × List ℕ) → List Line
worded_lines [] = []
worded_lines (l ∷ ls) = with_line (words l.1) (worded_lines ls)

all_said : (parts : Parts) (r : Reading) (ls : List (ℕ × List ℕ)) → IsReady parts r.section r.seen r.bits
    → IfOk (lines_say parts r ls >>= (λ (s : Reading). end_says s s.section)) (Says parts r.section r.rows r.seen r.bits (worded_lines ls))
all_said parts r [] ready = at_end parts r r.section
all_said parts r (l ∷ ls) ready =
    by (line_says parts (at_line r l.0) (words l.1)) (said_line parts (at_line r l.0) (words l.1) (record { there = ready.there; begun = ready.begun })) (λ next now. all_said parts next ls now)
  where
    by : (said : Result Reading AscFault) → IfOk said (GoesOn parts r.section (at_line r l.0) (words l.1))
        → ((next : Reading) → IsReady parts next.section next.seen next.bits
        → IfOk (lines_say parts next ls >>= (λ (s : Reading). end_says s s.section)) (Says parts next.section next.rows next.seen next.bits (worded_lines ls)))
        → IfOk ((said >>= (λ (s : Reading). lines_say parts s ls)) >>= (λ (s : Reading). end_says s s.section)) (Says parts r.section r.rows r.seen r.bits (with_line (words l.1) (worded_lines ls)))
    by (Ok next) goes later =
        IfOk-weaker (lines_say parts next ls >>= (λ (s : Reading). end_says s s.section)) (Says parts next.section next.rows next.seen next.bits (worded_lines ls))
        (Says parts r.section r.rows r.seen r.bits (with_line (words l.1) (worded_lines ls))) (λ k f. goes.1 (worded_lines ls) k f) (later next goes.0)
    by (Err e) goes later = tt

-- ---- a whole text
are_worded : (n : ℕ) (ls : List (List ℕ)) → worded_lines (numbered n ls) ≡ filter has_words (map words ls)
are_worded n [] = refl
are_worded n (l ∷ ls) = by (words l) (are_worded (next_number n) ls)
  where
    by : (line : Line) → worded_lines (numbered (next_number n) ls) ≡ filter has_words (map words ls)
        → with_line line (worded_lines (numbered (next_number n) ls)) ≡ cond (has_words line) (line ∷ filter has_words (map words ls)) (filter has_words (map words ls))
    by [] rest = rest
    by (w ∷ ws) rest = ap (λ (lines : List Line). (w ∷ ws) ∷ lines) rest

line_behind : (lines : List Line) (i j at : ℕ) → at ≡ i + j → slice_get (drop i lines) j ≡ slice_get lines at
line_behind lines zero j at e = let same : j ≡ at = omega arith in ap (slice_get lines) same
line_behind [] (suc i) j at e = refl
line_behind (l ∷ lines) (suc i) j zero e = absurd (omega arith)
line_behind (l ∷ lines) (suc i) j (suc at) e = line_behind lines i j at (omega arith)

held : (parts : Parts) (k : Configuration) (lines : List Line) (i : ℕ) (kind : TileKind) (t : TileAt) → HasRows parts (drop (suc i) lines) kind t k → HasItsRows parts k lines i kind t
held parts k lines i kind t h = record {
  of_kind = h.of_kind;
  rows = h.rows;
  has = h.has;
  held = record {
    tall = h.tall;
    each = λ j lt. ap (option_and_then (row_of (columns kind))) (sym (line_behind lines (suc i) j (i + 1 + j) (omega arith))) ∙ h.each j lt;
  };
}

pub text_says : (parts : Parts) (text : List ℕ) (k : Configuration) → asc_in parts text ≡ Ok k → SayBits parts (worded text) k
text_says parts text k e =
    let ls : List (ℕ × List ℕ) = numbered 1 (lines text) in
    let all = all_said parts (start parts) ls (record { there = blank_has parts.tiles; begun = tt }) in
    let numbered_lines : Says parts Nowhere [] [] (blank parts) (worded_lines ls) k = subst (λ (said : Result Configuration AscFault). IfOk said (Says parts Nowhere [] [] (blank parts) (worded_lines ls))) e all in
    let f : Says parts Nowhere [] [] (blank parts) (worded text) k = subst (λ (lines : List Line). Says parts Nowhere [] [] (blank parts) lines k) (are_worded 1 (lines text)) numbered_lines in
    record {
      placed = f.placed;
      named = λ i kind t is. held parts k (worded text) i kind t (f.named i kind t is);
      once = f.once;
      others = λ t free b. ap (λ (o : Option Grid). bit_at o b) (f.others t refl free) ∙ blank_bit parts.tiles t b;
      extras = f.extras;
    }
