-- What the readers of a chip find in its maps and lists.
use Rattle.std.proofs.Common.{◌≡◌, ℕ, ◌<◌, List, [], ◌++◌, map, filter, length, get_or, replicate, Vec, sym, ap, ◌∙◌, arith, nat_eq}
use Rattle.std.proofs.lemmas.List.{get_or-replicate, length-map, length-replicate}
use Rattle.std.specs.Map.{lookup}
use Rattle.std.specs.declared.alloc.Global.{Global}
use Rattle.ice_base.specs.declared.number.TileAt.{TileAt}
use Rattle.ice_base.specs.Lists.{number_of_name}
use Rattle.ice_chip.specs.Database.{Parts, same_tile, same_pad}
use Rattle.ice_chip.specs.Lookups.{placed_names, placed_wire, names_of, wire_named, global_tile, fed_pad, enable_counts, buffer_counts, served_tile, global_of, gbufpin_of, padin_of, ieren_of, colbuf_of}
use Rattle.ice_chip.specs.Indices.{Numbered, same_numbered, numbered, lists_of, listed, firsts}
use Rattle.ice_chip.specs.NameIndex.{no_names}
use Rattle.ice_chip.specs.declared.rows.Pad.{Pad}
use Rattle.ice_chip.specs.declared.placed.PlacedName.{PlacedName}
use Rattle.ice_chip.proofs.Firsts.{lookup-firsts}
use Rattle.ice_base.proofs.Keys.{nat_same, tile_same}
use Rattle.ice_chip.proofs.Keys.{pad_same}
use Rattle.ice_chip.proofs.Listing.{items_at, length-listed, listed_at}
use Rattle.ice_chip.proofs.Numbering.{found_by_number}

-- ---- names
pub list_within : (parts : Parts) (lists : List (Vec PlacedName Global)) (wire : ℕ) → lists_of lists ≡ listed (replicate parts.wires []) (placed_names parts) → wire < parts.wires → wire < length lists
list_within parts lists wire e lt =
    omega (arith, sym (length-map lists (λ v. v.items)) ∙ ap length e ∙ length-listed (replicate parts.wires []) (placed_names parts) ∙ length-replicate {A = List PlacedName} parts.wires [])

pub names_found : (parts : Parts) (lists : List (Vec PlacedName Global)) (wire : ℕ) (d : Vec PlacedName Global) → lists_of lists ≡ listed (replicate parts.wires []) (placed_names parts) → wire < parts.wires
    → (get_or lists wire d).items ≡ names_of parts wire
names_found parts lists wire d e lt =
    let long : wire < length (replicate {A = List PlacedName} parts.wires []) = rw (length-replicate {A = List PlacedName} parts.wires []) lt in
    sym (items_at lists wire d (list_within parts lists wire e lt))
    ∙ ap (λ xs. get_or xs wire []) e
    ∙ listed_at wire (replicate parts.wires []) (placed_names parts) long
    ∙ ap (λ xs. xs ++ names_of parts wire) (get_or-replicate parts.wires wire [] [] lt)

pub wire_found : (parts : Parts) (s : Numbered) (tile : TileAt) (name : List ℕ) → s ≡ numbered no_names (map placed_wire (placed_names parts))
    → lookup (same_numbered (record { tile = tile; number = number_of_name s.texts name })) s.wires ≡ wire_named parts tile name
wire_found parts s tile name e =
    ap (λ t. lookup (same_numbered (record { tile = tile; number = number_of_name t.texts name })) t.wires) e
    ∙ found_by_number tile name (map placed_wire (placed_names parts))

-- ---- the first rows
pub global_found : (parts : Parts) (entries : List (ℕ × TileAt)) (n : ℕ) → entries ≡ firsts nat_eq [] (map global_tile parts.gbufin) → lookup (nat_eq n) entries ≡ global_of parts n
global_found parts entries n e = ap (lookup (nat_eq n)) e ∙ lookup-firsts nat_eq nat_same n [] (map global_tile parts.gbufin)

pub global_pad_found : (parts : Parts) (entries : List (ℕ × Pad)) (n : ℕ) → entries ≡ firsts nat_eq [] (map fed_pad parts.gbufpin) → lookup (nat_eq n) entries ≡ gbufpin_of parts n
global_pad_found parts entries n e = ap (lookup (nat_eq n)) e ∙ lookup-firsts nat_eq nat_same n [] (map fed_pad parts.gbufpin)

pub extra_found : (parts : Parts) (entries : List (ℕ × (ℕ × ℕ × ℕ))) (n : ℕ) → entries ≡ firsts nat_eq [] parts.padin → lookup (nat_eq n) entries ≡ padin_of parts n
extra_found parts entries n e = ap (lookup (nat_eq n)) e ∙ lookup-firsts nat_eq nat_same n [] parts.padin

pub enable_found : (parts : Parts) (entries : List (Pad × Pad)) (pad : Pad) → entries ≡ firsts same_pad [] (filter (enable_counts parts.tiles) parts.ieren) → lookup (same_pad pad) entries ≡ ieren_of parts pad
enable_found parts entries pad e = ap (lookup (same_pad pad)) e ∙ lookup-firsts same_pad pad_same pad [] (filter (enable_counts parts.tiles) parts.ieren)

pub buffer_found : (parts : Parts) (entries : List (TileAt × TileAt)) (tile : TileAt) → entries ≡ firsts same_tile [] (map served_tile (filter (buffer_counts parts.tiles parts.functions) parts.colbuf)) → lookup (same_tile tile) entries ≡ colbuf_of parts tile
buffer_found parts entries tile e = ap (lookup (same_tile tile)) e ∙ lookup-firsts same_tile tile_same tile [] (map served_tile (filter (buffer_counts parts.tiles parts.functions) parts.colbuf))
