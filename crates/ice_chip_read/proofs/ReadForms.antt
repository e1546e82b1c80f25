-- What the rows that are read name is within the database, and what may stand once stands once: each line keeps it so.
use Rattle.std.proofs.Common.{◌≡◌, ℕ, ◌<◌, ◌≤◌, ◌==◌, ◌&&◌, ◌||◌, Bool, true, false, List, [], ◌∷◌, ◌++◌, length, All, IfOk, Option, None, Some, Ok, Err, refl, ap, ◌∙◌, rules, tests, nat_lt, nat_eq, bytes_eq, codes, if◌then◌else◌}
use Rattle.std.proofs.lemmas.List.{map-append}
use Rattle.std.proofs.lemmas.List.Elements.{All-nil, All-push, All-same}
use Rattle.std.specs.List.{IsDistinct}
use Rattle.std.specs.Map.{lookup, keys_of}
use Rattle.ice_base.specs.Text.{begins_with}
use Rattle.ice_base.specs.declared.number.TileAt.{TileAt}
use Rattle.ice_chip.specs.Database.{Parts, FunctionRow, WireName, SwitchGroup, PackageRows, columns, same_tile, tile_known}
use Rattle.ice_chip.specs.Limits.{most_wires, most_places, most_rows}
use Rattle.ice_chip.specs.Functions.{is_read, is_foreign, function_line}
use Rattle.ice_chip.specs.Within.{IsPlace, IsPad, FeedsGlobal, PadFeedsGlobal, ArePads, ArePlaces, IsBit, IsKept, is_again, IsGroup, IsPackage}
use Rattle.ice_chip.specs.declared.fault.ChipFault.TheVariants.{NoDevice, OutOfRange, TooMany}
use Rattle.ice_chip.specs.declared.rows.TileLine.{TileLine}
use Rattle.ice_chip.specs.declared.rows.Pad.{Pad}
use Rattle.ice_chip.specs.declared.rows.TileKind.{TileKind}
use Rattle.ice_chip_read.specs.declared.section.Section.{Section}
use Rattle.ice_chip_read.specs.declared.section.Section.TheVariants as section
use Rattle.ice_chip_read.specs.declared.section.Heading.{Heading}
use Rattle.ice_chip_read.specs.declared.section.Heading.TheVariants as heading
use Rattle.ice_chip_read.specs.Faults.{◌>>=◌}
use Rattle.ice_chip_read.specs.Words.{number, two, three, no_word_left, heading_of}
use Rattle.ice_chip.specs.Names.{padin_global}
use Rattle.ice_chip_read.specs.Reading.{Reading, begun, closed}
use Rattle.ice_base.specs.Places.{bits_named}
use Rattle.ice_chip_read.specs.Lines.{tile_in, pad_in, wire_in, global_in, unseen, one_word, sizes_in, begun_within, device_first, tile_line, new_tile, bits_at, group_bits, heading_says, kept_function, function_row, extra_row, values_at, with_row, row_says, with_closed, chip_line_says, chip_lines_say, first_says, plain_says}
use Rattle.ice_chip_read.proofs.Results.{bind, bind_meeting, held}
use Rattle.ice_chip_read.proofs.Once.{distinct_none, keys_further, tile_laws, AreOthers, others_unseen, others_unread, functions_further, package_further}
use Rattle.ice_chip_read.proofs.InRange.{place_read, pad_read, global_read, bits_read, AreSomeBits, group_bits_read, values_read}

-- ---- what every line keeps
-- the limits
pub record AreSmall (width height : ℕ) : Type 0 where
  pub narrow : width ≤ 256
  pub low : height ≤ 256

-- tiles, functions and names
pub record AreListed (width height : ℕ) (tiles : List (TileAt × TileLine)) (functions : List FunctionRow) (names : List WireName) : Type 0 where
  pub tiles_once : IsDistinct same_tile (keys_of tiles)
  pub tile_places : All (IsPlace width height) (keys_of tiles)
  pub functions_kept : All IsKept functions
  pub functions_once : IsDistinct is_again functions
  pub named_places : All (λ n. IsPlace width height n.tile) names

-- groups and packages
pub record AreJoined (width height : ℕ) (groups : List SwitchGroup) (packages : List PackageRows) : Type 0 where
  pub group_forms : All (IsGroup width height) groups
  pub package_forms : All (IsPackage width height) packages

-- the rows of globals, input enables and column buffers
pub record AreServed (width height : ℕ) (gbufin : List (TileAt × ℕ)) (gbufpin : List (Pad × ℕ)) (padin : List (ℕ × (ℕ × ℕ × ℕ))) (ieren : List (Pad × Pad)) (colbuf : List (TileAt × TileAt)) : Type 0 where
  pub feeds : All (FeedsGlobal width height) gbufin
  pub pad_feeds : All (PadFeedsGlobal width height) gbufpin
  pub enables : All (ArePads width height) ieren
  pub padins : All (λ row. row.0 < 8) padin
  pub buffers : All (ArePlaces width height) colbuf

-- the sections that are ended
pub record AreWithin (parts : Parts) : Type 0 where
  pub small : AreSmall parts.width parts.height
  pub listed : AreListed parts.width parts.height parts.tiles parts.functions parts.names
  pub joined : AreJoined parts.width parts.height parts.groups parts.packages
  pub served : AreServed parts.width parts.height parts.gbufin parts.gbufpin parts.padin parts.ieren parts.colbuf

-- the section that is open
abbrev IsOpenForm : Section → ℕ → ℕ → SwitchGroup → PackageRows → Type 0
IsOpenForm section.Rowless width height g p = Unit {0}
IsOpenForm section.ReadOver width height g p = Unit {0}
IsOpenForm section.Pins width height g p = IsPackage width height p
IsOpenForm section.BufferInputs width height g p = Unit {0}
IsOpenForm section.BufferPins width height g p = Unit {0}
IsOpenForm section.ExtraBits width height g p = Unit {0}
IsOpenForm section.InputEnables width height g p = Unit {0}
IsOpenForm section.ColumnBuffers width height g p = Unit {0}
IsOpenForm (section.Bits kind) width height g p = Unit {0}
IsOpenForm (section.Names wire) width height g p = Unit {0}
IsOpenForm section.Switches width height g p = IsGroup width height g

record Forms (r : Reading) : Type 0 where
  within : AreWithin r.parts
  opened : IsOpenForm r.open_section r.parts.width r.parts.height r.group r.pins

-- ---- a section ends
close_forms : (s : Section) (r : Reading) → Forms (record r { open_section = s }) → Forms (with_closed (record r { open_section = s }))
close_forms section.Rowless r h = record { within = h.within; opened = tt }
close_forms section.ReadOver r h = record { within = h.within; opened = tt }
close_forms section.Pins r h = record {
  within = record {
    small = h.within.small;
    listed = h.within.listed;
    joined = record {
      group_forms = h.within.joined.group_forms;
      package_forms = All-push (IsPackage r.parts.width r.parts.height) r.parts.packages r.pins h.within.joined.package_forms h.opened;
    };
    served = h.within.served;
  };
  opened = tt;
}
close_forms section.BufferInputs r h = record { within = h.within; opened = tt }
close_forms section.BufferPins r h = record { within = h.within; opened = tt }
close_forms section.ExtraBits r h = record { within = h.within; opened = tt }
close_forms section.InputEnables r h = record { within = h.within; opened = tt }
close_forms section.ColumnBuffers r h = record { within = h.within; opened = tt }
close_forms (section.Bits kind) r h = record { within = h.within; opened = tt }
close_forms (section.Names wire) r h = record { within = h.within; opened = tt }
close_forms section.Switches r h = record {
  within = record {
    small = h.within.small;
    listed = h.within.listed;
    joined = record {
      group_forms = All-push (IsGroup r.parts.width r.parts.height) r.parts.groups r.group h.within.joined.group_forms h.opened;
      package_forms = h.within.joined.package_forms;
    };
    served = h.within.served;
  };
  opened = tt;
}

-- ---- headings, behind a section that is ended
tile_forms : (r : Reading) (line : ℕ) (kind : TileKind) (tile : TileAt) → Forms (record r { open_section = section.Rowless }) → IsPlace r.parts.width r.parts.height tile → (old : Option TileLine)
    → tile_known r.parts.tiles tile ≡ old → IfOk (new_tile (record r { open_section = section.Rowless }) line kind tile old) Forms
tile_forms r line kind tile h at (Some old) found = tt
tile_forms r line kind tile h at None none = record {
  within = record {
    small = h.within.small;
    listed = record {
      tiles_once = keys_further same_tile tile_laws r.parts.tiles tile (tile_line kind line) h.within.listed.tiles_once none;
      tile_places = All-same (IsPlace r.parts.width r.parts.height) _ (keys_of r.parts.tiles ++ tile ∷ []) (map-append (λ t. t.0) r.parts.tiles ((tile, tile_line kind line) ∷ []))
          (All-push (IsPlace r.parts.width r.parts.height) (keys_of r.parts.tiles) tile h.within.listed.tile_places at);
      functions_kept = h.within.listed.functions_kept;
      functions_once = h.within.listed.functions_once;
      named_places = h.within.listed.named_places;
    };
    joined = h.within.joined;
    served = h.within.served;
  };
  opened = tt;
}

heading_forms : (r : Reading) (line : ℕ) (h : Heading) (ws : List (List ℕ)) → Forms (record r { open_section = section.Rowless }) → IfOk (heading_says (record r { open_section = section.Rowless }) line h ws) Forms
heading_forms r line heading.Device ws h = bind Forms (sizes_in line ws) _ (λ x e. tt)
heading_forms r line heading.Pins ws h =
    bind Forms (one_word line ws) _ (λ name e. record {
      within = h.within;
      opened = record { once = distinct_none bytes_eq; pins = All-nil (λ pin. IsPad r.parts.width r.parts.height pin.1); pads = refl };
    })
heading_forms r line heading.BufferInputs ws h = bind Forms (no_word_left line ws) _ (λ x e. record { within = h.within; opened = tt })
heading_forms r line heading.BufferPins ws h = bind Forms (no_word_left line ws) _ (λ x e. record { within = h.within; opened = tt })
heading_forms r line heading.ExtraBits ws h = bind Forms (no_word_left line ws) _ (λ x e. record { within = h.within; opened = tt })
heading_forms r line heading.InputEnables ws h = bind Forms (no_word_left line ws) _ (λ x e. record { within = h.within; opened = tt })
heading_forms r line heading.ColumnBuffers ws h = bind Forms (no_word_left line ws) _ (λ x e. record { within = h.within; opened = tt })
heading_forms r line heading.Net ws h =
    bind Forms (number line ws) _ (λ a e. bind Forms (no_word_left line a.1) _ (λ u f. bind Forms (wire_in line r.parts a.0) _ (λ wire g.
    bind Forms (unseen line (lookup (nat_eq wire) r.nets)) _ (λ v k. record { within = h.within; opened = tt }))))
heading_forms r line heading.Switches ws h =
    bind Forms (three line ws) _ (λ a e.
    bind_meeting Forms (IsPlace r.parts.width r.parts.height) (tile_in line r.parts a.0.0 a.0.1) _ (place_read line r.parts a.0.0 a.0.1) (λ tile at.
    bind Forms (wire_in line r.parts a.0.2) _ (λ wire f.
    bind_meeting Forms AreSomeBits (group_bits line a.1) _ (group_bits_read line a.1) (λ bits are. record {
      within = h.within;
      opened = record { place = at; some = are.some; bits = are.within; values = All-nil (λ s. length s.values ≡ length bits) };
    }))))
heading_forms r line heading.Other ws h = record { within = h.within; opened = tt }
heading_forms r line (heading.Tile kind) ws h =
    bind Forms (two line ws) _ (λ a e. bind Forms (no_word_left line a.1) _ (λ u f.
    bind_meeting Forms (IsPlace r.parts.width r.parts.height) (tile_in line r.parts a.0.0 a.0.1) _ (place_read line r.parts a.0.0 a.0.1) (λ tile at.
    tile_forms r line kind tile h at (tile_known r.parts.tiles tile) refl)))
heading_forms r line (heading.Bits kind) ws h =
    bind Forms (two line ws) _ (λ a e. bind Forms (no_word_left line a.1) _ (λ u f. by ((a.0.0 == columns kind) && (a.0.1 == 16))))
  where
    by : (b : Bool) → IfOk (if b then Ok (record r { open_section = section.Bits kind }) else Err (OutOfRange line)) Forms
    by true = record { within = h.within; opened = tt }
    by false = tt

-- ---- rows
kept_forms : (r : Reading) (line : ℕ) (kind : TileKind) (name : List ℕ) (ws : List (List ℕ)) → Forms (record r { open_section = section.Bits kind })
    → (is_read kind name || is_foreign kind name) ≡ true → AreOthers kind name r.parts.functions → IfOk (kept_function (record r { open_section = section.Bits kind }) line kind name ws) Forms
kept_forms r line kind name ws h known others =
    bind_meeting Forms (All (IsBit (columns kind))) (bits_at line (bits_named (columns kind) ws)) _ (bits_read line (columns kind) ws) (λ bits are. record {
      within = record {
        small = h.within.small;
        listed = record {
          tiles_once = h.within.listed.tiles_once;
          tile_places = h.within.listed.tile_places;
          functions_kept = All-push IsKept r.parts.functions (record { kind = kind; name = name; bits = bits; line = line }) h.within.listed.functions_kept (record { known = known; bits = are });
          functions_once = functions_further r.parts.functions kind name bits line h.within.listed.functions_once others;
          named_places = h.within.listed.named_places;
        };
        joined = h.within.joined;
        served = h.within.served;
      };
      opened = tt;
    })

function_forms : (r : Reading) (line : ℕ) (kind : TileKind) (name : List ℕ) (ws : List (List ℕ)) → Forms (record r { open_section = section.Bits kind })
    → IfOk (function_row (record r { open_section = section.Bits kind }) line kind name ws) Forms
function_forms r line kind name ws h = by (is_read kind name) (is_foreign kind name) refl refl
  where
    new : (old : Option ℕ) → function_line kind name r.parts.functions ≡ old → is_read kind name ≡ true
        → IfOk (unseen line old >>= (λ u. kept_function (record r { open_section = section.Bits kind }) line kind name ws)) Forms
    new None none is = kept_forms r line kind name ws h (ap (λ b. b || is_foreign kind name) is) (others_unseen kind name r.parts.functions none)
    new (Some other) found is = tt

    by : (read foreign : Bool) → is_read kind name ≡ read → is_foreign kind name ≡ foreign
        → IfOk (if read then (unseen line (function_line kind name r.parts.functions) >>= (λ u. kept_function (record r { open_section = section.Bits kind }) line kind name ws))
        else (if foreign then kept_function (record r { open_section = section.Bits kind }) line kind name ws else Ok (record r { open_section = section.Bits kind }))) Forms
    by true foreign is other = new (function_line kind name r.parts.functions) refl is
    by false true is other = kept_forms r line kind name ws h (ap (λ b. b || is_foreign kind name) is ∙ other) (others_unread kind name r.parts.functions is)
    by false false is other = h

extra_forms : (r : Reading) (line : ℕ) (o : Option ℕ) (ws : List (List ℕ)) → Forms (record r { open_section = section.ExtraBits })
    → IfOk (extra_row (record r { open_section = section.ExtraBits }) line o ws) Forms
extra_forms r line None ws h = h
extra_forms r line (Some n) ws h =
    bind Forms (three line ws) _ (λ a e. bind Forms (no_word_left line a.1) _ (λ u f.
    bind_meeting Forms (λ n. n < 8) (global_in line n) _ (global_read line n) (λ global lt. record {
      within = record {
        small = h.within.small;
        listed = h.within.listed;
        joined = h.within.joined;
        served = record {
          feeds = h.within.served.feeds;
          pad_feeds = h.within.served.pad_feeds;
          padins = All-push (λ (row : ℕ × (ℕ × ℕ × ℕ)). row.0 < 8) r.parts.padin (global, a.0) h.within.served.padins lt;
          enables = h.within.served.enables;
          buffers = h.within.served.buffers;
        };
      };
      opened = tt;
    })))

row_forms : (r : Reading) (s : Section) (line : ℕ) (w : List ℕ) (ws : List (List ℕ)) → Forms (record r { open_section = s }) → IfOk (row_says (record r { open_section = s }) line s w ws) Forms
row_forms r section.Rowless line w ws h = tt
row_forms r section.ReadOver line w ws h = h
row_forms r section.Pins line w ws h =
    bind Forms (three line ws) _ (λ a e. bind Forms (no_word_left line a.1) _ (λ u f.
    bind_meeting Forms (IsPad r.parts.width r.parts.height) (pad_in line r.parts a.0.0 a.0.1 a.0.2) _ (pad_read line r.parts a.0.0 a.0.1 a.0.2) (λ pad at. record {
      within = h.within;
      opened = package_further r.parts.width r.parts.height r.pins w pad h.opened at (lookup (bytes_eq w) r.pins.pins) refl;
    })))
row_forms r section.BufferInputs line w ws h =
    bind Forms (three line (w ∷ ws)) _ (λ a e. bind Forms (no_word_left line a.1) _ (λ u f.
    bind_meeting Forms (IsPlace r.parts.width r.parts.height) (tile_in line r.parts a.0.0 a.0.1) _ (place_read line r.parts a.0.0 a.0.1) (λ tile at.
    bind_meeting Forms (λ n. n < 8) (global_in line a.0.2) _ (global_read line a.0.2) (λ global lt. record {
      within = record {
        small = h.within.small;
        listed = h.within.listed;
        joined = h.within.joined;
        served = record {
          feeds = All-push (FeedsGlobal r.parts.width r.parts.height) r.parts.gbufin (tile, global) h.within.served.feeds (record { place = at; global = lt });
          pad_feeds = h.within.served.pad_feeds;
          padins = h.within.served.padins;
          enables = h.within.served.enables;
          buffers = h.within.served.buffers;
        };
      };
      opened = tt;
    }))))
row_forms r section.BufferPins line w ws h =
    bind Forms (three line (w ∷ ws)) _ (λ a e. bind Forms (number line a.1) _ (λ b f. bind Forms (no_word_left line b.1) _ (λ u g.
    bind_meeting Forms (IsPad r.parts.width r.parts.height) (pad_in line r.parts a.0.0 a.0.1 a.0.2) _ (pad_read line r.parts a.0.0 a.0.1 a.0.2) (λ pad at.
    bind_meeting Forms (λ n. n < 8) (global_in line b.0) _ (global_read line b.0) (λ global lt. record {
      within = record {
        small = h.within.small;
        listed = h.within.listed;
        joined = h.within.joined;
        served = record {
          feeds = h.within.served.feeds;
          pad_feeds = All-push (PadFeedsGlobal r.parts.width r.parts.height) r.parts.gbufpin (pad, global) h.within.served.pad_feeds (record { pad = at; global = lt });
          padins = h.within.served.padins;
          enables = h.within.served.enables;
          buffers = h.within.served.buffers;
        };
      };
      opened = tt;
    })))))
row_forms r section.ExtraBits line w ws h = extra_forms r line (padin_global w) ws h
row_forms r section.InputEnables line w ws h =
    bind Forms (three line (w ∷ ws)) _ (λ a e. bind Forms (three line a.1) _ (λ b f. bind Forms (no_word_left line b.1) _ (λ u g.
    bind_meeting Forms (IsPad r.parts.width r.parts.height) (pad_in line r.parts a.0.0 a.0.1 a.0.2) _ (pad_read line r.parts a.0.0 a.0.1 a.0.2) (λ pad at.
    bind_meeting Forms (IsPad r.parts.width r.parts.height) (pad_in line r.parts b.0.0 b.0.1 b.0.2) _ (pad_read line r.parts b.0.0 b.0.1 b.0.2) (λ enable there. record {
      within = record {
        small = h.within.small;
        listed = h.within.listed;
        joined = h.within.joined;
        served = record {
          feeds = h.within.served.feeds;
          pad_feeds = h.within.served.pad_feeds;
          padins = h.within.served.padins;
          enables = All-push (ArePads r.parts.width r.parts.height) r.parts.ieren (pad, enable) h.within.served.enables (record { pad = at; enable = there });
          buffers = h.within.served.buffers;
        };
      };
      opened = tt;
    })))))
row_forms r section.ColumnBuffers line w ws h =
    bind Forms (two line (w ∷ ws)) _ (λ a e. bind Forms (two line a.1) _ (λ b f. bind Forms (no_word_left line b.1) _ (λ u g.
    bind_meeting Forms (IsPlace r.parts.width r.parts.height) (tile_in line r.parts a.0.0 a.0.1) _ (place_read line r.parts a.0.0 a.0.1) (λ source at.
    bind_meeting Forms (IsPlace r.parts.width r.parts.height) (tile_in line r.parts b.0.0 b.0.1) _ (place_read line r.parts b.0.0 b.0.1) (λ served there. record {
      within = record {
        small = h.within.small;
        listed = h.within.listed;
        joined = h.within.joined;
        served = record {
          feeds = h.within.served.feeds;
          pad_feeds = h.within.served.pad_feeds;
          padins = h.within.served.padins;
          enables = h.within.served.enables;
          buffers = All-push (ArePlaces r.parts.width r.parts.height) r.parts.colbuf (source, served) h.within.served.buffers (record { holder = at; served = there });
        };
      };
      opened = tt;
    })))))
row_forms r (section.Bits kind) line w ws h = function_forms r line kind w ws h
row_forms r (section.Names wire) line w ws h =
    bind Forms (two line (w ∷ ws)) _ (λ a e. bind Forms (one_word line a.1) _ (λ name f.
    bind_meeting Forms (IsPlace r.parts.width r.parts.height) (tile_in line r.parts a.0.0 a.0.1) _ (place_read line r.parts a.0.0 a.0.1) (λ tile at. record {
      within = record {
        small = h.within.small;
        listed = record {
          tiles_once = h.within.listed.tiles_once;
          tile_places = h.within.listed.tile_places;
          functions_kept = h.within.listed.functions_kept;
          functions_once = h.within.listed.functions_once;
          named_places = All-push (λ n. IsPlace r.parts.width r.parts.height n.tile) r.parts.names (record { wire = wire; tile = tile; name = name; line = line }) h.within.listed.named_places at;
        };
        joined = h.within.joined;
        served = h.within.served;
      };
      opened = tt;
    })))
row_forms r section.Switches line w ws h =
    bind Forms (number line ws) _ (λ a e. bind Forms (no_word_left line a.1) _ (λ u f. bind Forms (wire_in line r.parts a.0) _ (λ source g.
    bind_meeting Forms (λ values. length values ≡ length r.group.bits) (values_at line (length r.group.bits) w) _ (values_read line (length r.group.bits) w)
    (λ values same. by values source same (nat_lt r.rows most_rows)))))
  where
    by : (values : List Bool) (source : ℕ) → length values ≡ length r.group.bits → (b : Bool)
        → IfOk (if b then Ok (with_row (record r { open_section = section.Switches }) line values source) else Err (TooMany most_rows)) Forms
    by values source same false = tt
    by values source same true = record {
      within = h.within;
      opened = record {
        place = h.opened.place;
        some = h.opened.some;
        bits = h.opened.bits;
        values = All-push (λ s. length s.values ≡ length r.group.bits) r.group.rows (record { values = values; source = source; line = line }) h.opened.values same;
      };
    }

-- ---- lines
line_forms : (r : Reading) → Forms r → (line : ℕ) (ws : List (List ℕ)) → IfOk (chip_line_says r line ws) Forms
line_forms r h line [] = h
line_forms r h line (w ∷ ws) = by (begins_with 46 w)
  where
    by : (b : Bool) → IfOk (if b then heading_says (with_closed r) line (heading_of w) ws else row_says r line r.open_section w ws) Forms
    by true = heading_forms (with_closed r) line (heading_of w) ws (close_forms r.open_section r h)
    by false = row_forms r r.open_section line w ws h

lines_forms : (ls : List (ℕ × List (List ℕ))) (r : Reading) → Forms r → IfOk (chip_lines_say r ls) Forms
lines_forms [] r h = h
lines_forms (l ∷ ls) r h = bind_meeting Forms Forms (chip_line_says r l.0 l.1) _ (line_forms r h l.0 l.1) (λ more k. lines_forms ls more k)

begun_forms : (line width height wires : ℕ) → width ≤ 256 → height ≤ 256 → Forms (begun line width height wires)
begun_forms line width height wires narrow low = record {
  within = record {
    small = record { narrow = narrow; low = low };
    listed = record {
      tiles_once = distinct_none same_tile;
      tile_places = All-nil (IsPlace width height);
      functions_kept = All-nil IsKept;
      functions_once = distinct_none is_again;
      named_places = All-nil (λ n. IsPlace width height n.tile);
    };
    joined = record { group_forms = All-nil (IsGroup width height); package_forms = All-nil (IsPackage width height) };
    served = record { feeds = All-nil (FeedsGlobal width height); pad_feeds = All-nil (PadFeedsGlobal width height); enables = All-nil (ArePads width height); padins = All-nil (λ row. row.0 < 8); buffers = All-nil (ArePlaces width height) };
  };
  opened = tt;
}

within_forms : (line : ℕ) (sizes : ℕ × ℕ × ℕ) → IfOk (begun_within line sizes) Forms
within_forms line (width, height, wires) = by (nat_lt most_wires wires) (nat_lt most_places width) (nat_lt most_places height) refl refl
  where
    by : (a b c : Bool) → nat_lt most_places width ≡ b → nat_lt most_places height ≡ c
        → IfOk (if a then Err (TooMany most_wires) else (if b then Err (TooMany most_places) else (if c then Err (TooMany most_places) else Ok (begun line width height wires)))) Forms
    by true b c p q = tt
    by false true c p q = tt
    by false false true p q = tt
    by false false false p q =
        let narrow : width ≤ 256 = search (rules, tests) in
        let low : height ≤ 256 = search (rules, tests) in
        begun_forms line width height wires narrow low

first_forms : (line : ℕ) (ws : List (List ℕ)) → IfOk (first_says line ws) Forms
first_forms line [] = tt
first_forms line (w ∷ ws) = by (bytes_eq w (codes ".device"))
  where
    by : (b : Bool) → IfOk (if b then device_first line ws else Err (NoDevice line)) Forms
    by true = bind Forms (sizes_in line ws) _ (λ sizes e. within_forms line sizes)
    by false = tt

plain_forms : (ls : List (ℕ × List (List ℕ))) → IfOk (plain_says ls) Forms
plain_forms [] = tt
plain_forms (l ∷ ls) = bind_meeting Forms Forms (first_says l.0 l.1) _ (first_forms l.0 l.1) (λ r h. lines_forms ls r h)

-- the parts of what is read, with the open section
pub plain_within : (ls : List (ℕ × List (List ℕ))) (r : Reading) → plain_says ls ≡ Ok r → AreWithin (closed r)
plain_within ls r e = (close_forms r.open_section r (held Forms (plain_says ls) r e (plain_forms ls))).within
