-- What is read of a chip text names its pins by words.
use Rattle.std.proofs.Common.{ℕ, ◌==◌, ◌&&◌, Bool, true, false, Option, None, Some, List, [], ◌∷◌, ◌++◌, length, IfOk, Result, Ok, Err, subst, nat_lt, nat_eq, bytes_eq, if◌then◌else◌}
use Rattle.std.specs.Prelude.{codes}
use Rattle.std.specs.List.{AllByRecursion}
use Rattle.std.specs.Map.{lookup}
use Rattle.std.proofs.lemmas.List.Elements.{All-from_recursion}
use Rattle.ice_base.specs.Places.{bits_named}
use Rattle.ice_base.specs.Text.{lines, numbered, begins_with, plain_lines}
use Rattle.ice_base.specs.Lines.{IsWord}
use Rattle.ice_base_values.specs.Order.{Has}
use Rattle.ice_base_values.proofs.Members.{Has_all}
use Rattle.ice_chip.specs.Answers.{unless_fault, chip_of}
use Rattle.ice_chip.specs.Database.{Parts, SwitchGroup, PackageRows, columns, tile_known}
use Rattle.ice_chip.specs.Limits.{most_places, most_wires, most_rows}
use Rattle.ice_chip.specs.Functions.{is_read, is_foreign, function_line}
use Rattle.ice_chip.specs.Whole.{whole_fault}
use Rattle.ice_chip.specs.declared.fault.ChipFault.{ChipFault}
use Rattle.ice_chip.specs.declared.fault.ChipFault.TheVariants.{NoDevice, OutOfRange, TooMany}
use Rattle.ice_chip.specs.declared.rows.TileLine.{TileLine}
use Rattle.ice_chip.specs.declared.rows.Pad.{Pad}
use Rattle.ice_chip.specs.declared.rows.TileKind.{TileKind}
use Rattle.ice_chip_read.specs.declared.section.Section.{Section}
use Rattle.ice_chip_read.specs.declared.section.Section.TheVariants as section
use Rattle.ice_chip_read.specs.declared.section.Heading.{Heading}
use Rattle.ice_chip_read.specs.declared.section.Heading.TheVariants as heading
use Rattle.ice_chip_read.specs.Faults.{◌>>=◌}
use Rattle.ice_chip_read.specs.Words.{number, two, three, no_word_left, heading_of}
use Rattle.ice_chip.specs.Names.{padin_global}
use Rattle.ice_chip_read.specs.Lines.{tile_in, pad_in, wire_in, global_in, unseen, one_word, sizes_in, begun_within, device_first, new_tile, bits_at, group_bits, heading_says, with_pin, kept_function, function_row, extra_row, values_at, with_row, row_says, with_closed, chip_line_says, chip_lines_say, first_says, plain_says, chip_text_says}
use Rattle.ice_chip_read.specs.Reading.{Reading, begun, parts_closed}
use Rattle.ice_chip_read.specs.Whole.{chip_says}
use Rattle.ice_chip_read_laws.specs.Pins.{PinsAreWords}
use Rattle.ice_chip_read_laws.proofs.LineWords.{AreWords, AreLines, lines_good}

pub bind : {A B : Type 0} (P : B → Type 0) (m : Result A ChipFault) (f : A → Result B ChipFault) → ((x : A) → IfOk (f x) P) → IfOk (m >>= f) P
bind P (Ok x) f h = h x
bind P (Err e) f h = tt

pub bind_meeting : {A B : Type 0} (P : B → Type 0) (Q : A → Type 0) (m : Result A ChipFault) (f : A → Result B ChipFault) → IfOk m Q → ((x : A) → Q x → IfOk (f x) P) → IfOk (m >>= f) P
bind_meeting P Q (Ok x) f q h = h x q
bind_meeting P Q (Err e) f q h = tt

rec_push : {X : Type 0} (P : X → Type 0) (xs : List X) (x : X) → AllByRecursion P xs → P x → AllByRecursion P (xs ++ x ∷ [])
rec_push P [] x all last = (last, tt)
rec_push P (y ∷ xs) x all last = (all.0, rec_push P xs x all.1 last)

-- ---- pins
abbrev ArePins : List (List ℕ × Pad) → Type 0
ArePins pins = AllByRecursion (λ (pin : List ℕ × Pad). IsWord pin.0) pins

abbrev ArePackages : List PackageRows → Type 0
ArePackages packages = AllByRecursion (λ (rows : PackageRows). ArePins rows.pins) packages

-- the pins of the packages, and those of the open one
record Named (r : Reading) : Type 0 where
  pub ended : ArePackages r.parts.packages
  pub opened : ArePins r.pins.pins

close_named : (s : Section) (g : SwitchGroup) (p : PackageRows) (parts : Parts) → ArePackages parts.packages → ArePins p.pins → ArePackages (parts_closed s g p parts).packages
close_named section.Rowless g p parts all here = all
close_named section.ReadOver g p parts all here = all
close_named section.Pins g p parts all here = rec_push (λ (rows : PackageRows). ArePins rows.pins) parts.packages p all here
close_named section.BufferInputs g p parts all here = all
close_named section.BufferPins g p parts all here = all
close_named section.ExtraBits g p parts all here = all
close_named section.InputEnables g p parts all here = all
close_named section.ColumnBuffers g p parts all here = all
close_named (section.Bits kind) g p parts all here = all
close_named (section.Names wire) g p parts all here = all
close_named section.Switches g p parts all here = all

-- ---- headings
heading_named : (r : Reading) (line : ℕ) (h : Heading) (ws : List (List ℕ)) → Named r → IfOk (heading_says r line h ws) Named
heading_named r line heading.Device ws is = bind Named (sizes_in line ws) _ (λ x. tt)
heading_named r line heading.Pins ws is = bind Named (one_word line ws) _ (λ name. record { ended = is.ended; opened = tt })
heading_named r line heading.BufferInputs ws is = bind Named (no_word_left line ws) _ (λ x. record { ended = is.ended; opened = is.opened })
heading_named r line heading.BufferPins ws is = bind Named (no_word_left line ws) _ (λ x. record { ended = is.ended; opened = is.opened })
heading_named r line heading.ExtraBits ws is = bind Named (no_word_left line ws) _ (λ x. record { ended = is.ended; opened = is.opened })
heading_named r line heading.InputEnables ws is = bind Named (no_word_left line ws) _ (λ x. record { ended = is.ended; opened = is.opened })
heading_named r line heading.ColumnBuffers ws is = bind Named (no_word_left line ws) _ (λ x. record { ended = is.ended; opened = is.opened })
heading_named r line (heading.Tile kind) ws is =
    bind Named (two line ws) _ (λ a. bind Named (no_word_left line a.1) _ (λ u. bind Named (tile_in line r.parts a.0.0 a.0.1) _ (λ tile. by tile (tile_known r.parts.tiles tile))))
  where
    by : (tile : _) (old : Option TileLine) → IfOk (new_tile r line kind tile old) Named
    by tile None = record { ended = is.ended; opened = is.opened }
    by tile (Some old) = tt
heading_named r line (heading.Bits kind) ws is = bind Named (two line ws) _ (λ a. bind Named (no_word_left line a.1) _ (λ u. by ((a.0.0 == columns kind) && (a.0.1 == 16))))
  where
    by : (b : Bool) → IfOk (if b then Ok (record r { open_section = section.Bits kind }) else Err (OutOfRange line)) Named
    by true = record { ended = is.ended; opened = is.opened }
    by false = tt
heading_named r line heading.Net ws is =
    bind Named (number line ws) _ (λ a. bind Named (no_word_left line a.1) _ (λ u. bind Named (wire_in line r.parts a.0) _ (λ wire.
    bind Named (unseen line (lookup (nat_eq wire) r.nets)) _ (λ v. record { ended = is.ended; opened = is.opened }))))
heading_named r line heading.Switches ws is =
    bind Named (three line ws) _ (λ a. bind Named (tile_in line r.parts a.0.0 a.0.1) _ (λ tile. bind Named (wire_in line r.parts a.0.2) _ (λ wire.
    bind Named (group_bits line a.1) _ (λ bits. record { ended = is.ended; opened = is.opened }))))
heading_named r line heading.Other ws is = record { ended = is.ended; opened = is.opened }

-- ---- rows
pin_named : (held : PackageRows) (pin : List ℕ) (pad : Pad) (old : Option Pad) → ArePins held.pins → IsWord pin → ArePins (with_pin held pin pad old).pins
pin_named held pin pad None all word = rec_push (λ (p : List ℕ × Pad). IsWord p.0) held.pins (pin, pad) all word
pin_named held pin pad (Some old) all word = all

kept_named : (r : Reading) (line : ℕ) (kind : TileKind) (name : List ℕ) (ws : List (List ℕ)) → Named r → IfOk (kept_function r line kind name ws) Named
kept_named r line kind name ws is = bind Named (bits_at line (bits_named (columns kind) ws)) _ (λ bits. record { ended = is.ended; opened = is.opened })

function_named : (r : Reading) (line : ℕ) (kind : TileKind) (name : List ℕ) (ws : List (List ℕ)) → Named r → IfOk (function_row r line kind name ws) Named
function_named r line kind name ws is = by (is_read kind name) (is_foreign kind name)
  where
    by : (b c : Bool) → IfOk (if b then (unseen line (function_line kind name r.parts.functions) >>= (λ u. kept_function r line kind name ws)) else (if c then kept_function r line kind name ws else Ok r)) Named
    by true c = bind Named (unseen line (function_line kind name r.parts.functions)) _ (λ u. kept_named r line kind name ws is)
    by false true = kept_named r line kind name ws is
    by false false = is

extra_named : (r : Reading) (line : ℕ) (o : Option ℕ) (ws : List (List ℕ)) → Named r → IfOk (extra_row r line o ws) Named
extra_named r line None ws is = is
extra_named r line (Some n) ws is =
    bind Named (three line ws) _ (λ a. bind Named (no_word_left line a.1) _ (λ u. bind Named (global_in line n) _ (λ global. record { ended = is.ended; opened = is.opened })))

row_named : (r : Reading) (s : Section) (line : ℕ) (w : List ℕ) (ws : List (List ℕ)) → IsWord w → Named r → IfOk (row_says r line s w ws) Named
row_named r section.Rowless line w ws word is = tt
row_named r section.ReadOver line w ws word is = is
row_named r section.Pins line w ws word is =
    bind Named (three line ws) _ (λ a. bind Named (no_word_left line a.1) _ (λ u. bind Named (pad_in line r.parts a.0.0 a.0.1 a.0.2) _ (λ pad.
    record { ended = is.ended; opened = pin_named r.pins w pad (lookup (bytes_eq w) r.pins.pins) is.opened word })))
row_named r section.BufferInputs line w ws word is =
    bind Named (three line (w ∷ ws)) _ (λ a. bind Named (no_word_left line a.1) _ (λ u. bind Named (tile_in line r.parts a.0.0 a.0.1) _ (λ tile. bind Named (global_in line a.0.2) _ (λ global.
    record { ended = is.ended; opened = is.opened }))))
row_named r section.BufferPins line w ws word is =
    bind Named (three line (w ∷ ws)) _ (λ a. bind Named (number line a.1) _ (λ b. bind Named (no_word_left line b.1) _ (λ u. bind Named (pad_in line r.parts a.0.0 a.0.1 a.0.2) _ (λ pad. bind Named (global_in line b.0) _ (λ global.
    record { ended = is.ended; opened = is.opened })))))
row_named r section.ExtraBits line w ws word is = extra_named r line (padin_global w) ws is
row_named r section.InputEnables line w ws word is =
    bind Named (three line (w ∷ ws)) _ (λ a. bind Named (three line a.1) _ (λ b. bind Named (no_word_left line b.1) _ (λ u.
    bind Named (pad_in line r.parts a.0.0 a.0.1 a.0.2) _ (λ pad. bind Named (pad_in line r.parts b.0.0 b.0.1 b.0.2) _ (λ enable. record { ended = is.ended; opened = is.opened })))))
row_named r section.ColumnBuffers line w ws word is =
    bind Named (two line (w ∷ ws)) _ (λ a. bind Named (two line a.1) _ (λ b. bind Named (no_word_left line b.1) _ (λ u.
    bind Named (tile_in line r.parts a.0.0 a.0.1) _ (λ source. bind Named (tile_in line r.parts b.0.0 b.0.1) _ (λ served. record { ended = is.ended; opened = is.opened })))))
row_named r (section.Bits kind) line w ws word is = function_named r line kind w ws is
row_named r (section.Names wire) line w ws word is =
    bind Named (two line (w ∷ ws)) _ (λ a. bind Named (one_word line a.1) _ (λ name. bind Named (tile_in line r.parts a.0.0 a.0.1) _ (λ tile. record { ended = is.ended; opened = is.opened })))
row_named r section.Switches line w ws word is =
    bind Named (number line ws) _ (λ a. bind Named (no_word_left line a.1) _ (λ u. bind Named (wire_in line r.parts a.0) _ (λ source.
    bind Named (values_at line (length r.group.bits) w) _ (λ values. by values source (nat_lt r.rows most_rows)))))
  where
    by : (values : List Bool) (source : ℕ) (b : Bool) → IfOk (if b then Ok (with_row r line values source) else Err (TooMany most_rows)) Named
    by values source true = record { ended = is.ended; opened = is.opened }
    by values source false = tt

-- ---- lines
line_named : (r : Reading) → Named r → (line : ℕ) (ws : List (List ℕ)) → AreWords ws → IfOk (chip_line_says r line ws) Named
line_named r is line [] good = is
line_named r is line (w ∷ ws) good = by (begins_with 46 w)
  where
    by : (b : Bool) → IfOk (if b then heading_says (with_closed r) line (heading_of w) ws else row_says r line r.open_section w ws) Named
    by true = heading_named (with_closed r) line (heading_of w) ws (record { ended = close_named r.open_section r.group r.pins r.parts is.ended is.opened; opened = tt })
    by false = row_named r r.open_section line w ws good.0 is

lines_named : (ls : List (ℕ × List (List ℕ))) (r : Reading) → AreLines ls → Named r → IfOk (chip_lines_say r ls) Named
lines_named [] r good is = is
lines_named (l ∷ ls) r good is = bind_meeting Named Named (chip_line_says r l.0 l.1) _ (line_named r is l.0 l.1 good.0) (λ more next. lines_named ls more good.1 next)

begun_named : (line : ℕ) (sizes : ℕ × ℕ × ℕ) → IfOk (begun_within line sizes) Named
begun_named line (width, height, wires) = by (nat_lt most_wires wires) (nat_lt most_places width) (nat_lt most_places height)
  where
    by : (a b c : Bool) → IfOk (if a then Err (TooMany most_wires) else (if b then Err (TooMany most_places) else (if c then Err (TooMany most_places) else Ok (begun line width height wires)))) Named
    by true b c = tt
    by false true c = tt
    by false false true = tt
    by false false false = record { ended = tt; opened = tt }

first_named : (line : ℕ) (ws : List (List ℕ)) → IfOk (first_says line ws) Named
first_named line [] = tt
first_named line (w ∷ ws) = by (bytes_eq w (codes ".device"))
  where
    by : (b : Bool) → IfOk (if b then device_first line ws else Err (NoDevice line)) Named
    by true = bind Named (sizes_in line ws) _ (λ sizes. begun_named line sizes)
    by false = tt

plain_named : (ls : List (ℕ × List (List ℕ))) → AreLines ls → IfOk (plain_says ls) Named
plain_named [] good = tt
plain_named (l ∷ ls) good = bind_meeting Named Named (first_says l.0 l.1) _ (first_named l.0 l.1) (λ r is. lines_named ls r good.1 is)

-- ---- the whole
abbrev IsNamed : Parts → Type 0
IsNamed parts = ArePackages parts.packages

text_named : (text : List ℕ) → IfOk (chip_text_says text) IsNamed
text_named text =
    bind_meeting IsNamed Named (plain_says (plain_lines (numbered 1 (lines text)))) _ (plain_named (plain_lines (numbered 1 (lines text))) (lines_good (numbered 1 (lines text))))
    (λ r is. close_named r.open_section r.group r.pins r.parts is.ended is.opened)

whole_named : (parts : Parts) (fault : Option ChipFault) → IsNamed parts → IfOk (unless_fault parts fault) IsNamed
whole_named parts None is = is
whole_named parts (Some fault) is = tt

chip_named : (text : List ℕ) → IfOk (chip_says text) IsNamed
chip_named text = bind_meeting IsNamed IsNamed (chip_text_says text) chip_of (text_named text) (λ parts is. whole_named parts (whole_fault parts) is)

one_of : (packages : List PackageRows) (rows : PackageRows) → ArePackages packages → Has packages rows → ArePins rows.pins
one_of packages rows all has = Has_all (λ (r : PackageRows). ArePins r.pins) packages rows (All-from_recursion (λ (r : PackageRows). ArePins r.pins) packages all) has

pub pins_named : PinsAreWords
pins_named text parts e rows has =
    All-from_recursion (λ (pin : List ℕ × Pad). IsWord pin.0) rows.pins (one_of parts.packages rows (subst (λ (said : Result Parts ChipFault). IfOk said IsNamed) e (chip_named text)) has)
