-- The rows that are read of a text are those of a database: each line keeps it so.
use Rattle.std.proofs.Common.{◌≡◌, ℕ, ◌+◌, ◌<◌, ◌≤◌, ◌==◌, ◌&&◌, Bool, true, false, List, [], ◌∷◌, ◌++◌, map, length, All, IfOk, Option, None, Some, Ok, Err, refl, sym, ap, ◌∙◌, arith, rules, tests, subst, nat_lt, nat_eq, bytes_eq, codes, if◌then◌else◌, length-append, append-nil}
use Rattle.std.proofs.lemmas.List.{length-map}
use Rattle.std.proofs.lemmas.List.Elements.{All-nil, All-push}
use Rattle.std.specs.Map.{lookup}
use Rattle.ice_base.specs.Text.{begins_with}
use Rattle.ice_base.specs.declared.number.TileAt.{TileAt}
use Rattle.ice_chip.specs.Database.{Parts, WireName, SwitchGroup, SwitchRow, columns, tile_known}
use Rattle.ice_chip.specs.Limits.{most_wires, most_places, most_rows}
use Rattle.ice_chip.specs.Functions.{is_read, is_foreign, function_line}
use Rattle.ice_chip.specs.IsRead.{HasWiresBelow, AreNumbered, IsRead}
use Rattle.ice_chip.specs.Listings.{in_group, rows_of}
use Rattle.ice_chip.specs.declared.fault.ChipFault.TheVariants.{NoDevice, OutOfRange, TooMany}
use Rattle.ice_chip.specs.declared.rows.TileKind.{TileKind}
use Rattle.ice_chip.specs.declared.rows.TileLine.{TileLine}
use Rattle.ice_chip_read.specs.declared.section.Section.{Section}
use Rattle.ice_chip_read.specs.declared.section.Section.TheVariants as section
use Rattle.ice_chip_read.specs.declared.section.Heading.{Heading}
use Rattle.ice_chip_read.specs.declared.section.Heading.TheVariants as heading
use Rattle.ice_chip_read.specs.Faults.{◌>>=◌}
use Rattle.ice_chip_read.specs.Words.{number, two, three, no_word_left, heading_of}
use Rattle.ice_chip.specs.Names.{padin_global}
use Rattle.ice_chip_read.specs.Reading.{Reading, begun, closed}
use Rattle.ice_base.specs.Places.{bits_named}
use Rattle.ice_chip_read.specs.Lines.{tile_in, pad_in, wire_in, global_in, unseen, one_word, sizes_in, begun_within, device_first, new_tile, bits_at, group_bits, heading_says, kept_function, extra_row, values_at, with_row, row_says, with_closed, chip_line_says, chip_lines_say, first_says, plain_says}
use Rattle.ice_chip_read.specs.Whole.{AreReadOfLines}
use Rattle.ice_chip_read.proofs.Results.{bind, held}
use Rattle.ice_chip_read.proofs.ReadForms.{AreWithin, plain_within}

-- ---- groups of switches
rows-append : (gs : List SwitchGroup) (g : SwitchGroup) → length (rows_of (gs ++ g ∷ [])) ≡ length (rows_of gs) + length g.rows
rows-append [] g = omega (arith, ap length (append-nil (map (in_group g) g.rows)) ∙ length-map g.rows (in_group g))
rows-append (h ∷ hs) g =
    omega (arith, length-append (map (in_group h) h.rows) (rows_of (hs ++ g ∷ [])), length-append (map (in_group h) h.rows) (rows_of hs), rows-append hs g)

numbered-append : (n : ℕ) (gs : List SwitchGroup) (g : SwitchGroup) → AreNumbered n gs → g.first ≡ n + length (rows_of gs) → AreNumbered n (gs ++ g ∷ [])
numbered-append n [] g all first = (omega arith, tt)
numbered-append n (h ∷ hs) g all first =
    (all.0, numbered-append (n + length h.rows) hs g all.1 (omega (arith, length-append (map (in_group h) h.rows) (rows_of hs), length-map h.rows (in_group h))))

-- ---- what every line keeps
-- the sections that are ended
record AreRead (wires : ℕ) (names : List WireName) (groups : List SwitchGroup) : Type 0 where
  named_wires : All (λ n. n.wire < wires) names
  group_wires : All (HasWiresBelow wires) groups
  numbers : AreNumbered 0 groups
  few_wires : wires ≤ most_wires

-- a group that is open behind these
record IsNext (wires : ℕ) (groups : List SwitchGroup) (g : SwitchGroup) (rows : ℕ) : Type 0 where
  first : g.first ≡ length (rows_of groups)
  below : HasWiresBelow wires g
  count : rows ≡ length (rows_of groups) + length g.rows

-- the section that is open
abbrev IsOpen : Section → ℕ → List SwitchGroup → SwitchGroup → ℕ → Type 0
IsOpen section.Rowless wires groups g rows = rows ≡ length (rows_of groups)
IsOpen section.ReadOver wires groups g rows = rows ≡ length (rows_of groups)
IsOpen section.Pins wires groups g rows = rows ≡ length (rows_of groups)
IsOpen section.BufferInputs wires groups g rows = rows ≡ length (rows_of groups)
IsOpen section.BufferPins wires groups g rows = rows ≡ length (rows_of groups)
IsOpen section.ExtraBits wires groups g rows = rows ≡ length (rows_of groups)
IsOpen section.InputEnables wires groups g rows = rows ≡ length (rows_of groups)
IsOpen section.ColumnBuffers wires groups g rows = rows ≡ length (rows_of groups)
IsOpen (section.Bits kind) wires groups g rows = rows ≡ length (rows_of groups)
IsOpen (section.Names wire) wires groups g rows = (wire < wires) × (rows ≡ length (rows_of groups))
IsOpen section.Switches wires groups g rows = IsNext wires groups g rows

record Holds (r : Reading) : Type 0 where
  sound : AreRead r.parts.wires r.parts.names r.parts.groups
  few : r.rows ≤ most_rows
  opened : IsOpen r.open_section r.parts.wires r.parts.groups r.group r.rows

-- ---- wires
wire_below : (line : ℕ) (parts : Parts) (wire x : ℕ) → wire_in line parts wire ≡ Ok x → x < parts.wires
wire_below line parts wire x e = by (nat_lt wire parts.wires) refl e
  where
    by : (b : Bool) → nat_lt wire parts.wires ≡ b → (if b then Ok wire else Err (OutOfRange line)) ≡ Ok x → x < parts.wires
    by true lt is = let same : wire ≡ x = cc in subst (λ w. w < parts.wires) same (search (rules, tests))
    by false lt is = absurd (cc)

-- ---- a section ends
close_group : (r : Reading) → Holds (record r { open_section = section.Switches }) → AreRead r.parts.wires r.parts.names (r.parts.groups ++ r.group ∷ [])
close_group r h = record {
  named_wires = h.sound.named_wires;
  group_wires = All-push (HasWiresBelow r.parts.wires) r.parts.groups r.group h.sound.group_wires h.opened.below;
  numbers = numbered-append 0 r.parts.groups r.group h.sound.numbers (omega (arith, h.opened.first));
  few_wires = h.sound.few_wires;
}

close_holds : (s : Section) (r : Reading) → Holds (record r { open_section = s }) → Holds (with_closed (record r { open_section = s }))
close_holds section.Rowless r h = record { sound = h.sound; few = h.few; opened = h.opened }
close_holds section.ReadOver r h = record { sound = h.sound; few = h.few; opened = h.opened }
close_holds section.Pins r h = record { sound = h.sound; few = h.few; opened = h.opened }
close_holds section.BufferInputs r h = record { sound = h.sound; few = h.few; opened = h.opened }
close_holds section.BufferPins r h = record { sound = h.sound; few = h.few; opened = h.opened }
close_holds section.ExtraBits r h = record { sound = h.sound; few = h.few; opened = h.opened }
close_holds section.InputEnables r h = record { sound = h.sound; few = h.few; opened = h.opened }
close_holds section.ColumnBuffers r h = record { sound = h.sound; few = h.few; opened = h.opened }
close_holds (section.Bits kind) r h = record { sound = h.sound; few = h.few; opened = h.opened }
close_holds (section.Names wire) r h = record { sound = h.sound; few = h.few; opened = h.opened.1 }
close_holds section.Switches r h = record { sound = close_group r h; few = h.few; opened = h.opened.count ∙ sym (rows-append r.parts.groups r.group) }

-- ---- headings, behind a section that is ended
heading_holds : (r : Reading) (line : ℕ) (h : Heading) (ws : List (List ℕ)) → Holds (record r { open_section = section.Rowless }) → IfOk (heading_says (record r { open_section = section.Rowless }) line h ws) Holds
heading_holds r line heading.Device ws h = bind Holds (sizes_in line ws) _ (λ x e. tt)
heading_holds r line heading.Pins ws h = bind Holds (one_word line ws) _ (λ x e. record { sound = h.sound; few = h.few; opened = h.opened })
heading_holds r line heading.BufferInputs ws h = bind Holds (no_word_left line ws) _ (λ x e. record { sound = h.sound; few = h.few; opened = h.opened })
heading_holds r line heading.BufferPins ws h = bind Holds (no_word_left line ws) _ (λ x e. record { sound = h.sound; few = h.few; opened = h.opened })
heading_holds r line heading.ExtraBits ws h = bind Holds (no_word_left line ws) _ (λ x e. record { sound = h.sound; few = h.few; opened = h.opened })
heading_holds r line heading.InputEnables ws h = bind Holds (no_word_left line ws) _ (λ x e. record { sound = h.sound; few = h.few; opened = h.opened })
heading_holds r line heading.ColumnBuffers ws h = bind Holds (no_word_left line ws) _ (λ x e. record { sound = h.sound; few = h.few; opened = h.opened })
heading_holds r line heading.Net ws h =
    bind Holds (number line ws) _ (λ a e. bind Holds (no_word_left line a.1) _ (λ u f. bind Holds (wire_in line r.parts a.0) _ (λ wire below.
    bind Holds (unseen line (lookup (nat_eq wire) r.nets)) _ (λ v g. record { sound = h.sound; few = h.few; opened = (wire_below line r.parts a.0 wire below, h.opened) }))))
heading_holds r line heading.Switches ws h =
    bind Holds (three line ws) _ (λ a e. bind Holds (tile_in line r.parts a.0.0 a.0.1) _ (λ tile f. bind Holds (wire_in line r.parts a.0.2) _ (λ wire below.
    bind Holds (group_bits line a.1) _ (λ bits g. record {
      sound = h.sound;
      few = h.few;
      opened = record { first = h.opened; below = record { target = wire_below line r.parts a.0.2 wire below; sources = All-nil (λ s. s.source < r.parts.wires) }; count = omega (arith, h.opened) };
    }))))
heading_holds r line heading.Other ws h = record { sound = h.sound; few = h.few; opened = h.opened }
heading_holds r line (heading.Tile kind) ws h =
    bind Holds (two line ws) _ (λ a e. bind Holds (no_word_left line a.1) _ (λ u f. bind Holds (tile_in line r.parts a.0.0 a.0.1) _ (λ tile g. by tile (tile_known r.parts.tiles tile))))
  where
    by : (tile : TileAt) (o : Option TileLine) → IfOk (new_tile (record r { open_section = section.Rowless }) line kind tile o) Holds
    by tile None = record { sound = h.sound; few = h.few; opened = h.opened }
    by tile (Some old) = tt
heading_holds r line (heading.Bits kind) ws h =
    bind Holds (two line ws) _ (λ a e. bind Holds (no_word_left line a.1) _ (λ u f. by ((a.0.0 == columns kind) && (a.0.1 == 16))))
  where
    by : (b : Bool) → IfOk (if b then Ok (record r { open_section = section.Bits kind }) else Err (OutOfRange line)) Holds
    by true = record { sound = h.sound; few = h.few; opened = h.opened }
    by false = tt

-- ---- rows
kept_holds : (r : Reading) (line : ℕ) (kind : TileKind) (name : List ℕ) (ws : List (List ℕ)) → Holds (record r { open_section = section.Bits kind })
    → IfOk (kept_function (record r { open_section = section.Bits kind }) line kind name ws) Holds
kept_holds r line kind name ws h = bind Holds (bits_at line (bits_named (columns kind) ws)) _ (λ bits e. record { sound = h.sound; few = h.few; opened = h.opened })

extra_holds : (r : Reading) (line : ℕ) (o : Option ℕ) (ws : List (List ℕ)) → Holds (record r { open_section = section.ExtraBits })
    → IfOk (extra_row (record r { open_section = section.ExtraBits }) line o ws) Holds
extra_holds r line None ws h = h
extra_holds r line (Some n) ws h =
    bind Holds (three line ws) _ (λ a e. bind Holds (no_word_left line a.1) _ (λ u f. bind Holds (global_in line n) _ (λ global g. record { sound = h.sound; few = h.few; opened = h.opened })))

row_holds : (r : Reading) (s : Section) (line : ℕ) (w : List ℕ) (ws : List (List ℕ)) → Holds (record r { open_section = s }) → IfOk (row_says (record r { open_section = s }) line s w ws) Holds
row_holds r section.Rowless line w ws h = tt
row_holds r section.ReadOver line w ws h = h
row_holds r section.Pins line w ws h =
    bind Holds (three line ws) _ (λ a e. bind Holds (no_word_left line a.1) _ (λ u f. bind Holds (pad_in line r.parts a.0.0 a.0.1 a.0.2) _ (λ pad g. record { sound = h.sound; few = h.few; opened = h.opened })))
row_holds r section.BufferInputs line w ws h =
    bind Holds (three line (w ∷ ws)) _ (λ a e. bind Holds (no_word_left line a.1) _ (λ u f. bind Holds (tile_in line r.parts a.0.0 a.0.1) _ (λ tile g.
    bind Holds (global_in line a.0.2) _ (λ global k. record { sound = h.sound; few = h.few; opened = h.opened }))))
row_holds r section.BufferPins line w ws h =
    bind Holds (three line (w ∷ ws)) _ (λ a e. bind Holds (number line a.1) _ (λ b f. bind Holds (no_word_left line b.1) _ (λ u g.
    bind Holds (pad_in line r.parts a.0.0 a.0.1 a.0.2) _ (λ pad k. bind Holds (global_in line b.0) _ (λ global m. record { sound = h.sound; few = h.few; opened = h.opened })))))
row_holds r section.ExtraBits line w ws h = extra_holds r line (padin_global w) ws h
row_holds r section.InputEnables line w ws h =
    bind Holds (three line (w ∷ ws)) _ (λ a e. bind Holds (three line a.1) _ (λ b f. bind Holds (no_word_left line b.1) _ (λ u g.
    bind Holds (pad_in line r.parts a.0.0 a.0.1 a.0.2) _ (λ pad k. bind Holds (pad_in line r.parts b.0.0 b.0.1 b.0.2) _ (λ enable m. record { sound = h.sound; few = h.few; opened = h.opened })))))
row_holds r section.ColumnBuffers line w ws h =
    bind Holds (two line (w ∷ ws)) _ (λ a e. bind Holds (two line a.1) _ (λ b f. bind Holds (no_word_left line b.1) _ (λ u g.
    bind Holds (tile_in line r.parts a.0.0 a.0.1) _ (λ source k. bind Holds (tile_in line r.parts b.0.0 b.0.1) _ (λ served m. record { sound = h.sound; few = h.few; opened = h.opened })))))
row_holds r (section.Bits kind) line w ws h = by (is_read kind w) (is_foreign kind w)
  where
    by : (read foreign : Bool) → IfOk (if read then (unseen line (function_line kind w r.parts.functions) >>= (λ u. kept_function (record r { open_section = section.Bits kind }) line kind w ws))
        else (if foreign then kept_function (record r { open_section = section.Bits kind }) line kind w ws else Ok (record r { open_section = section.Bits kind }))) Holds
    by true foreign = bind Holds (unseen line (function_line kind w r.parts.functions)) _ (λ u e. kept_holds r line kind w ws h)
    by false true = kept_holds r line kind w ws h
    by false false = h
row_holds r (section.Names wire) line w ws h =
    bind Holds (two line (w ∷ ws)) _ (λ a e. bind Holds (one_word line a.1) _ (λ name f. bind Holds (tile_in line r.parts a.0.0 a.0.1) _ (λ tile g. record {
      sound = record {
        named_wires = All-push (λ n. n.wire < r.parts.wires) r.parts.names (record { wire = wire; tile = tile; name = name; line = line }) h.sound.named_wires h.opened.0;
        group_wires = h.sound.group_wires;
        numbers = h.sound.numbers;
        few_wires = h.sound.few_wires;
      };
      few = h.few;
      opened = h.opened;
    })))
row_holds r section.Switches line w ws h =
    bind Holds (number line ws) _ (λ a e. bind Holds (no_word_left line a.1) _ (λ u f. bind Holds (wire_in line r.parts a.0) _ (λ source below.
    bind Holds (values_at line (length r.group.bits) w) _ (λ values g. by values source (wire_below line r.parts a.0 source below) (nat_lt r.rows most_rows) refl))))
  where
    by : (values : List Bool) (source : ℕ) → source < r.parts.wires → (b : Bool) → nat_lt r.rows most_rows ≡ b
        → IfOk (if b then Ok (with_row (record r { open_section = section.Switches }) line values source) else Err (TooMany most_rows)) Holds
    by values source lt false is = tt
    by values source lt true is =
        let row : SwitchRow = record { values = values; source = source; line = line } in
        let fewer : r.rows < most_rows = search (rules, tests) in
        record {
          sound = h.sound;
          few = omega arith;
          opened = record {
            first = h.opened.first;
            below = record { target = h.opened.below.target; sources = All-push (λ s. s.source < r.parts.wires) r.group.rows row h.opened.below.sources lt };
            count = omega (arith, h.opened.count, length-append r.group.rows (row ∷ []));
          };
        }

-- ---- lines
line_holds : (r : Reading) → Holds r → (line : ℕ) (ws : List (List ℕ)) → IfOk (chip_line_says r line ws) Holds
line_holds r h line [] = h
line_holds r h line (w ∷ ws) = by (begins_with 46 w)
  where
    by : (b : Bool) → IfOk (if b then heading_says (with_closed r) line (heading_of w) ws else row_says r line r.open_section w ws) Holds
    by true = heading_holds (with_closed r) line (heading_of w) ws (close_holds r.open_section r h)
    by false = row_holds r r.open_section line w ws h

lines_hold : (ls : List (ℕ × List (List ℕ))) (r : Reading) → Holds r → IfOk (chip_lines_say r ls) Holds
lines_hold [] r h = h
lines_hold (l ∷ ls) r h = bind Holds (chip_line_says r l.0 l.1) _ (λ more e. lines_hold ls more (held Holds (chip_line_says r l.0 l.1) more e (line_holds r h l.0 l.1)))

begun_holds : (line width height wires : ℕ) → wires ≤ most_wires → Holds (begun line width height wires)
begun_holds line width height wires le = record {
  sound = record { named_wires = All-nil (λ n. n.wire < wires); group_wires = All-nil (HasWiresBelow wires); numbers = tt; few_wires = le };
  few = omega arith;
  opened = refl;
}

within_holds : (line : ℕ) (sizes : ℕ × ℕ × ℕ) → IfOk (begun_within line sizes) Holds
within_holds line (width, height, wires) = by (nat_lt most_wires wires) (nat_lt most_places width) (nat_lt most_places height) refl
  where
    by : (a b c : Bool) → nat_lt most_wires wires ≡ a
        → IfOk (if a then Err (TooMany most_wires) else (if b then Err (TooMany most_places) else (if c then Err (TooMany most_places) else Ok (begun line width height wires)))) Holds
    by true b c is = tt
    by false true c is = tt
    by false false true is = tt
    by false false false is = let le : wires ≤ most_wires = search (rules, tests) in begun_holds line width height wires le

first_holds : (line : ℕ) (ws : List (List ℕ)) → IfOk (first_says line ws) Holds
first_holds line [] = tt
first_holds line (w ∷ ws) = by (bytes_eq w (codes ".device"))
  where
    by : (b : Bool) → IfOk (if b then device_first line ws else Err (NoDevice line)) Holds
    by true = bind Holds (sizes_in line ws) _ (λ sizes e. within_holds line sizes)
    by false = tt

plain_holds : (ls : List (ℕ × List (List ℕ))) → IfOk (plain_says ls) Holds
plain_holds [] = tt
plain_holds (l ∷ ls) = bind Holds (first_says l.0 l.1) _ (λ r e. lines_hold ls r (held Holds (first_says l.0 l.1) r e (first_holds l.0 l.1)))

closed_is_read : (r : Reading) → Holds r → AreWithin (closed r) → IsRead (closed r)
closed_is_read r h within =
    let whole = close_holds r.open_section r h in
    let few : length (rows_of (closed r).groups) ≤ most_rows = omega (arith, whole.few, whole.opened) in
    record {
      narrow = within.small.narrow;
      low = within.small.low;
      few_wires = whole.sound.few_wires;
      few_rows = few;
      tiles_once = within.listed.tiles_once;
      tile_places = within.listed.tile_places;
      functions_kept = within.listed.functions_kept;
      functions_once = within.listed.functions_once;
      named_wires = whole.sound.named_wires;
      named_places = within.listed.named_places;
      group_wires = whole.sound.group_wires;
      group_forms = within.joined.group_forms;
      numbered = whole.sound.numbers;
      package_forms = within.joined.package_forms;
      feeds = within.served.feeds;
      pad_feeds = within.served.pad_feeds;
      padins = within.served.padins;
      enables = within.served.enables;
      buffers = within.served.buffers;
    }

-- what is read of lines are the rows of a database
pub rows_are_read : (r : Reading) → AreReadOfLines r → IsRead (closed r)
rows_are_read r (ls, e) = closed_is_read r (held Holds (plain_says ls) r e (plain_holds ls)) (plain_within ls r e)
