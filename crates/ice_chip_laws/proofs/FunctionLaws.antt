-- Tiles have the functions that they need.
use Rattle.std.proofs.Common.{◌≡◌, ℕ, Bool, true, false, not, cond, Option, None, Some, option_map, List, [], ◌∷◌, ◌++◌, length, inl, inr, refl, sym, ap, subst, ◌∙◌, append_assoc, true≢false, ◌<◌, slice_get, get_or, arith}
use Rattle.std.specs.Prelude.{◌⊎◌, ◌&&◌, ◌||◌, ◌==◌, is_some, find, bytes_eq, codes, if◌then◌else◌}
use Rattle.std.specs.Map.{values_of}
use Rattle.std.specs.Option.{option_and_then}
use Rattle.std.proofs.lemmas.Bool.{and_parts, and_from, or_left, or_right}
use Rattle.std.proofs.lemmas.Option.{slice_get-get_or}
use Rattle.ice_base.specs.declared.number.TileAt.{TileAt}
use Rattle.ice_base.specs.declared.bit.BitAt.{BitAt}
use Rattle.ice_chip.specs.Database.{Parts, FunctionRow, same_tile, tile_known}
use Rattle.ice_chip.specs.FirstLacking.{needs_buffers, is_needed, Lacks, IsWrong, IsFirstLack, LacksFunctionIsFirst}
use Rattle.ice_chip.specs.Functions.{is_read, is_column_buffer, is_ram_function, same_kind, function_line}
use Rattle.ice_chip.specs.IsRead.{IsChip}
use Rattle.ice_chip.specs.LacksFunction.{is_of_kind, has_kind, has_tile, is_buffer_source, has_function, has_column_buffers, bits_needed, has_wrong_bits}
use Rattle.ice_chip.specs.Lookups.{kind_at, is_function, function_of}
use Rattle.ice_chip.specs.declared.rows.TileLine.{TileLine}
use Rattle.ice_chip.specs.declared.rows.TileKind.{TileKind}
use Rattle.ice_chip.specs.declared.rows.TileKind.TheVariants.{Io, Logic, RamBottom, RamTop}
use Rattle.ice_chip_laws.specs.Bits.{function_place}
use Rattle.ice_chip_laws.specs.Functions.{HasFunction, HasColumnBuffers, HasFunctions}
use Rattle.ice_base_values.specs.Order.{Has}
use Rattle.ice_chip_laws.proofs.FaultFree.{no_fault}
use Rattle.ice_chip_laws.proofs.KnownTiles.{known_kind}
use Rattle.ice_base_values.proofs.Members.{Has_cases, Has_none, find_Has, lookup_Has}
use Rattle.ice_chip_laws.proofs.NameTests.{passes, buffers, is_own, cell_own, first_type_own, second_type_own, enable_own, buffer_is_one, buffer_is_read, buffer_not_ram}
use Rattle.ice_base.proofs.Keys.{nat_same, bytes_same}
use Rattle.ice_chip.proofs.SameKinds.{kind_same, kind_self}

-- ---- functions by their names
line_is : (kind : TileKind) (name : List ℕ) (fs : List FunctionRow) → function_line kind name fs ≡ option_map (λ (f : FunctionRow). f.line) (find (is_function kind name) fs)
line_is kind name [] = refl
line_is kind name (f ∷ fs) = by (same_kind f.kind kind && bytes_eq f.name name) (line_is kind name fs)
  where
    by : (b : Bool) → function_line kind name fs ≡ option_map (λ (f : FunctionRow). f.line) (find (is_function kind name) fs)
        → (if b then Some f.line else function_line kind name fs) ≡ option_map (λ (f : FunctionRow). f.line) (cond b (Some f) (find (is_function kind name) fs))
    by true more = refl
    by false more = more

pub function_there : (parts : Parts) (kind : TileKind) (name : List ℕ) → (function_line kind name parts.functions ≡ None → ⊥) → (f : FunctionRow) × (function_of parts kind name ≡ Some f)
function_there parts kind name some = by (function_of parts kind name) refl
  where
    by : (o : Option FunctionRow) → function_of parts kind name ≡ o → (f : FunctionRow) × (function_of parts kind name ≡ Some f)
    by None none = absurd (some (line_is kind name parts.functions ∙ ap (option_map (λ (f : FunctionRow). f.line)) none))
    by (Some f) found = (f, found)

-- a function that is found is of the kind and has the name
pub record IsOf (parts : Parts) (kind : TileKind) (name : List ℕ) (f : FunctionRow) : Type 0 where
  pub there : Has parts.functions f
  pub of_kind : f.kind ≡ kind
  pub of_name : f.name ≡ name

pub is_of : (parts : Parts) (kind : TileKind) (name : List ℕ) (f : FunctionRow) → function_of parts kind name ≡ Some f → IsOf parts kind name f
is_of parts kind name f e =
    let found = find_Has (is_function kind name) parts.functions f e in
    let both = and_parts (same_kind f.kind kind) (bytes_eq f.name name) found.1 in
    record { there = found.0; of_kind = kind_same f.kind kind both.0; of_name = bytes_same f.name name both.1 }

-- where an item stands
split : {X : Type 0} (xs : List X) (x : X) → Has xs x → (before after : List X) × (xs ≡ before ++ x ∷ after)
split [] x has = absurd (Has_none x has)
split (y ∷ xs) x has = by (Has_cases y x xs has) (split xs x)
  where
    by : (y ≡ x) ⊎ Has xs x → (Has xs x → (before after : List _) × (xs ≡ before ++ x ∷ after)) → (before after : List _) × (y ∷ xs ≡ before ++ x ∷ after)
    by (inl here) more = ([], xs, ap (λ z. z ∷ xs) here)
    by (inr there) more = let s = more there in (y ∷ s.0, s.1, ap (λ zs. y ∷ zs) s.2)

-- a function with so many bits
with_bits : (parts : Parts) (kind : TileKind) (name : List ℕ) (count : ℕ) (f : FunctionRow) → function_of parts kind name ≡ Some f → length f.bits ≡ count → HasFunction parts kind name count
with_bits parts kind name count f found long = record { function = f; there = found; long = long; bits = each }
  where
    default : BitAt
    default = record { row = 0; col = 0 }

    each : (k : ℕ) → k < count → (b : BitAt) × (function_place parts kind name k ≡ Some b)
    each k lt =
        let within : k < length f.bits = omega arith in
        (get_or f.bits k default, ap (option_and_then (λ (g : FunctionRow). slice_get g.bits k)) found ∙ slice_get-get_or f.bits k default within)

-- ---- kinds with tiles
kind_among : (tiles : List (TileAt × TileLine)) (t : TileAt) (known : TileLine) (kind : TileKind) → Has tiles (t, known) → known.kind ≡ kind → has_kind kind (values_of tiles) ≡ true
kind_among [] t known kind has is = absurd (Has_none (t, known) has)
kind_among (tile ∷ tiles) t known kind has is = by (Has_cases tile (t, known) tiles has) (λ there. kind_among tiles t known kind there is)
  where
    kept : (b : Bool) → has_kind kind (values_of tiles) ≡ true → (if b then true else has_kind kind (values_of tiles)) ≡ true
    kept true more = refl
    kept false more = more

    by : (tile ≡ (t, known)) ⊎ Has tiles (t, known) → (Has tiles (t, known) → has_kind kind (values_of tiles) ≡ true) → has_kind kind (values_of (tile ∷ tiles)) ≡ true
    by (inl here) more =
        let same : same_kind tile.1.kind kind ≡ true = ap (λ (k : TileKind). same_kind k kind) (ap (λ (x : TileAt × TileLine). x.1.kind) here ∙ is) ∙ kind_self kind in
        ap (λ b. if b then true else has_kind kind (values_of tiles)) same
    by (inr there) more = kept (same_kind tile.1.kind kind) (more there)

pub tile_of_kind : (parts : Parts) (t : TileAt) (kind : TileKind) → kind_at parts t ≡ Some kind → has_tile kind parts.tiles ≡ true
tile_of_kind parts t kind e =
    let tile = known_kind parts t kind e in
    let found = lookup_Has (same_tile t) parts.tiles tile.0 tile.1 in
    kind_among parts.tiles found.0 tile.0 kind found.1 tile.2

source_among : (kind : TileKind) (tiles : List (TileAt × TileLine)) (rows : List (TileAt × TileAt)) (row : TileAt × TileAt) → Has rows row → is_of_kind kind (tile_known tiles row.0) ≡ true
    → is_buffer_source kind tiles rows ≡ true
source_among kind tiles [] row has is = absurd (Has_none row has)
source_among kind tiles (first ∷ rows) row has is = by (Has_cases first row rows has) (λ there. source_among kind tiles rows row there is)
  where
    kept : (b : Bool) → is_buffer_source kind tiles rows ≡ true → (if b then true else is_buffer_source kind tiles rows) ≡ true
    kept true more = refl
    kept false more = more

    by : (first ≡ row) ⊎ Has rows row → (Has rows row → is_buffer_source kind tiles rows ≡ true) → is_buffer_source kind tiles (first ∷ rows) ≡ true
    by (inl here) more = ap (λ b. if b then true else is_buffer_source kind tiles rows) (ap (λ (x : TileAt × TileAt). is_of_kind kind (tile_known tiles x.0)) here ∙ is)
    by (inr there) more = kept (is_of_kind kind (tile_known tiles first.0)) (more there)

-- ---- nothing is lacking, and nothing has a wrong number of bits
module _ (parts : Parts) (chip : IsChip parts) (first : LacksFunctionIsFirst) where
  abbrev is_source : TileKind → Bool
  is_source kind = is_buffer_source kind parts.tiles parts.colbuf

  none_lacks : (Lacks parts → ⊥) × ((line : ℕ) → IsWrong parts line → ⊥)
  none_lacks = subst (IsFirstLack parts) (no_fault parts chip).functions (first parts)

  needed_there : (t : TileAt) (kind : TileKind) (name : List ℕ) → kind_at parts t ≡ Some kind → is_needed (is_source kind) kind name ≡ true → (f : FunctionRow) × (function_of parts kind name ≡ Some f)
  needed_there t kind name at needed =
      function_there parts kind name (λ none. none_lacks.0 (record { kind = kind; name = name; tile = tile_of_kind parts t kind at; needed = needed; lacking = none }))

  -- a row of functions with a wrong number of bits
  wrong_row : (fs front : List FunctionRow) (f : FunctionRow) → parts.functions ≡ front ++ fs → Has fs f → has_wrong_bits parts.tiles f ≡ true → ⊥
  wrong_row fs front f stands has wrong = by (split fs f has)
    where
      by : (before after : List FunctionRow) × (fs ≡ before ++ f ∷ after) → ⊥
      by (before, after, e) = none_lacks.1 f.line (record { front = front ++ before; function = f; rest = after; stands = stands ∙ ap (λ xs. front ++ xs) e ∙ sym (append_assoc front before (f ∷ after)); wrong = wrong; on_line = refl })

  pub size_of : (t : TileAt) (kind : TileKind) (name : List ℕ) (f : FunctionRow) → kind_at parts t ≡ Some kind → is_read kind name ≡ true → function_of parts kind name ≡ Some f → length f.bits ≡ bits_needed name
  size_of t kind name f at read found = by (length f.bits == bits_needed f.name) refl
    where
      of : IsOf parts kind name f
      of = is_of parts kind name f found

      is_read_there : is_read f.kind f.name ≡ true
      is_read_there = ap (λ (k : TileKind). is_read k f.name) of.of_kind ∙ ap (is_read kind) of.of_name ∙ read

      tile_there : has_tile f.kind parts.tiles ≡ true
      tile_there = ap (λ (k : TileKind). has_tile k parts.tiles) of.of_kind ∙ tile_of_kind parts t kind at

      by : (b : Bool) → (length f.bits == bits_needed f.name) ≡ b → length f.bits ≡ bits_needed name
      by true is = nat_same (length f.bits) (bits_needed f.name) is ∙ ap bits_needed of.of_name
      by false is =
          let wrong : has_wrong_bits parts.tiles f ≡ true =
          and_from (is_read f.kind f.name && not (length f.bits == bits_needed f.name)) (has_tile f.kind parts.tiles)
          (and_from (is_read f.kind f.name) (not (length f.bits == bits_needed f.name)) is_read_there (ap not is)) tile_there in
          absurd (wrong_row parts.functions [] f refl of.there wrong)

  needed_function : (t : TileAt) (kind : TileKind) (name : List ℕ) → kind_at parts t ≡ Some kind → is_read kind name ≡ true → is_needed (is_source kind) kind name ≡ true → HasFunction parts kind name (bits_needed name)
  needed_function t kind name at read needed =
      let found = needed_there t kind name at needed in
      with_bits parts kind name (bits_needed name) found.0 found.1 (size_of t kind name found.0 at read found.1)

  own_function : (t : TileAt) (kind : TileKind) (count : ℕ) (name : List ℕ) → kind_at parts t ≡ Some kind → is_own kind count name ≡ true → HasFunction parts kind name count
  own_function t kind count name at own =
      let read_and = and_parts (is_read kind name) (not (is_ram_function kind name) && (not (is_column_buffer name) && (bits_needed name == count))) own in
      let apart = and_parts (not (is_ram_function kind name)) (not (is_column_buffer name) && (bits_needed name == count)) read_and.1 in
      let others = and_parts (not (is_column_buffer name)) (bits_needed name == count) apart.1 in
      let needed : is_needed (is_source kind) kind name ≡ true =
      and_from (is_read kind name && not (is_ram_function kind name)) (not (is_column_buffer name) || needs_buffers (is_source kind) kind)
      (and_from (is_read kind name) (not (is_ram_function kind name)) read_and.0 apart.0) (or_left (not (is_column_buffer name)) (needs_buffers (is_source kind) kind) others.0) in
      subst (HasFunction parts kind name) (nat_same (bits_needed name) count others.1) (needed_function t kind name at read_and.0 needed)

  pub functions_are : HasFunctions parts
  functions_are = record {
    logic = λ t at. record {
      cells = λ name is. own_function t Logic 20 name at (cell_own name is);
      clock_edge = own_function t Logic 1 (codes "NegClk") at refl;
      first_carry = own_function t Logic 1 (codes "CarryInSet") at refl;
    };
    pads = λ t at. record {
      first_types = λ name is. own_function t Io 1 name at (first_type_own name is);
      second_types = λ name is. own_function t Io 1 name at (second_type_own name is);
      enables = λ name is. own_function t Io 1 name at (enable_own name is);
    };
    sized = size_of;
  }

  -- ---- column buffers
  one_bit : (t : TileAt) (kind : TileKind) (name : List ℕ) → kind_at parts t ≡ Some kind → is_column_buffer name ≡ true → (f : FunctionRow) × (function_of parts kind name ≡ Some f) → HasFunction parts kind name 1
  one_bit t kind name at buffer (f, found) =
      with_bits parts kind name 1 f found (size_of t kind name f at (buffer_is_read kind name buffer) found ∙ nat_same (bits_needed name) 1 (buffer_is_one name buffer))

  pub held_buffers : (t : TileAt) (kind : TileKind) → kind_at parts t ≡ Some kind → has_column_buffers kind parts.functions ≡ true → HasColumnBuffers parts kind
  held_buffers t kind at all = λ name buffer.
      let has : has_function kind name parts.functions ≡ true = passes (λ n. has_function kind n parts.functions) buffers name (omega arith) all buffer in
      one_bit t kind name at buffer (function_there parts kind name (λ none. true≢false (sym has ∙ ap is_some none)))

  pub source_buffers : (t s : TileAt) (kind : TileKind) → Has parts.colbuf (s, t) → kind_at parts s ≡ Some kind → (kind ≡ Io → ⊥) → HasColumnBuffers parts kind
  source_buffers t s kind has at other = λ name buffer. one_bit s kind name at buffer (needed_there s kind name at (needed name buffer))
    where
      needs : (k : TileKind) → (k ≡ Io → ⊥) → needs_buffers true k ≡ true
      needs Io not_io = absurd (not_io refl)
      needs Logic not_io = refl
      needs RamBottom not_io = refl
      needs RamTop not_io = refl

      is_one : is_source kind ≡ true
      is_one =
          let tile = known_kind parts s kind at in
          source_among kind parts.tiles parts.colbuf (s, t) has (ap (is_of_kind kind) tile.1 ∙ ap (λ (k : TileKind). same_kind k kind) tile.2 ∙ kind_self kind)

      needed : (name : List ℕ) → is_column_buffer name ≡ true → is_needed (is_source kind) kind name ≡ true
      needed name buffer =
          and_from (is_read kind name && not (is_ram_function kind name)) (not (is_column_buffer name) || needs_buffers (is_source kind) kind)
          (and_from (is_read kind name) (not (is_ram_function kind name)) (buffer_is_read kind name buffer) (buffer_not_ram kind name buffer))
          (or_right (not (is_column_buffer name)) (needs_buffers (is_source kind) kind) (ap (λ b. needs_buffers b kind) is_one ∙ needs kind other))
