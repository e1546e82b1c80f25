-- What a text of bits says, without the steps of a reader: each tile that is named has these rows, every other bit is 0, and the extra
-- bits are those of the lines, in order.
use Rattle.std.specs.Prelude.{◌≡◌, ℕ, ◌+◌, ◌<◌, Bool, true, false, Option, None, Some, List, [], ◌∷◌, length, map, filter, slice_get, codes, bytes_eq, IsSomeAnd}
use Rattle.std.specs.Option.{option_and_then}
use Rattle.ice_base.specs.Text.{lines, words}
use Rattle.ice_base.specs.declared.number.TileAt.{TileAt}
use Rattle.ice_base.specs.declared.bit.BitAt.{BitAt}
use Rattle.ice_chip.specs.Database.{Parts, columns}
use Rattle.ice_chip.specs.Lookups.{kind_at}
use Rattle.ice_chip.specs.declared.rows.TileKind.{TileKind}
use Rattle.ice_bits.specs.Configuration.{Configuration, rows_at, bits_of}
use Rattle.ice_asc.specs.Words.{heading_of_kind, row_of_words, tile_of_words, extra_of_words}

-- a line as its words
abbrev pub Line : Type 0
Line = List (List ℕ)

abbrev pub has_words : Line → Bool
has_words [] = false
has_words (word ∷ more) = true

-- the lines of a text that have words
abbrev pub worded : List ℕ → List Line
worded text = filter has_words (map words (lines text))

-- ---- what one line writes
-- the line begins with the word for tiles of this kind
abbrev pub Begins : Line → TileKind → Type 0
Begins [] kind = ⊥
Begins (word ∷ more) kind = word ≡ heading_of_kind kind

-- the line names the tile at this place: behind that word stand the two numbers of the place
abbrev pub IsHeading : Line → TileKind → TileAt → Type 0
IsHeading [] kind t = ⊥
IsHeading (word ∷ place) kind t = (word ≡ heading_of_kind kind) × (tile_of_words place ≡ Some t)

-- the row of bits that the line writes: one word of digits, one for each of so many columns
abbrev pub row_of : ℕ → Line → Option (List Bool)
row_of width [] = None
row_of width (digits ∷ more) = row_of_words width digits more

-- the line begins with `.extra_bit`
abbrev pub begins_extra : Line → Bool
begins_extra [] = false
begins_extra (word ∷ more) = bytes_eq word (codes ".extra_bit")

-- the extra bit that the line writes behind its first word: bank, column and row
abbrev pub extra_of : Line → Option (ℕ × ℕ × ℕ)
extra_of [] = None
extra_of (word ∷ numbers) = extra_of_words numbers

-- ---- what the lines say
-- the line numbered i, the first being 0, names this tile
abbrev pub Names : List Line → ℕ → TileKind → TileAt → Type 0
Names lines i kind t = IsSomeAnd (slice_get lines i) (λ (line : Line). IsHeading line kind t)

-- no line names a tile at this place
abbrev pub IsUnnamed : List Line → TileAt → Type 0
IsUnnamed lines t = (i : ℕ) (kind : TileKind) → Names lines i kind t → ⊥

-- the sixteen lines behind line i write these rows of so many columns, in order
pub record HoldsRows (lines : List Line) (i width : ℕ) (rows : List (List Bool)) : Type 0 where
  pub tall : length rows ≡ 16
  pub each : (j : ℕ) → j < 16 → option_and_then (row_of width) (slice_get lines (i + 1 + j)) ≡ slice_get rows j

-- a tile of this kind stands there, and its rows of bits are those that the lines behind line i write
pub record HasItsRows (parts : Parts) (k : Configuration) (lines : List Line) (i : ℕ) (kind : TileKind) (t : TileAt) : Type 0 where
  pub of_kind : kind_at parts t ≡ Some kind
  pub rows : List (List Bool)
  pub has : rows_at k t ≡ Some rows
  pub held : HoldsRows lines i (columns kind) rows

-- these are the bits of the chip that the lines say
pub record SayBits (parts : Parts) (lines : List Line) (k : Configuration) : Type 0 where
  -- each line that begins with the word for tiles of a kind names a tile
  pub placed : (i : ℕ) (kind : TileKind) → IsSomeAnd (slice_get lines i) (λ (line : Line). Begins line kind) → (t : TileAt) × Names lines i kind t
  -- each tile that is named has the rows behind its heading
  pub named : (i : ℕ) (kind : TileKind) (t : TileAt) → Names lines i kind t → HasItsRows parts k lines i kind t
  -- no tile is named twice
  pub once : (i j : ℕ) (kind other : TileKind) (t : TileAt) → Names lines i kind t → Names lines j other t → i ≡ j
  -- every bit of a tile that is not named is 0
  pub others : (t : TileAt) → IsUnnamed lines t → (b : BitAt) → bits_of k t b ≡ false
  -- each line that begins with `.extra_bit` writes an extra bit, and these are the extra bits, in order
  pub extras : map extra_of (filter begins_extra lines) ≡ map Some k.extras
