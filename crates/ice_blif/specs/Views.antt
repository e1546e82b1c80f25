-- The reader's structs, as what is read so far and as what is left of the text.
use Rattle.std.specs.Prelude.{◌≡◌, ℕ, List, [], ◌∷◌, Option, Some, None}
use Rattle.std.specs.Borrow.{Bor}
use Rattle.ice_blif.specs.declared.cursor.Cursor.{Cursor}
use Rattle.ice_blif.specs.declared.cursor.FirstWord.{FirstWord}
use Rattle.ice_blif.specs.declared.reader.Cover.{Cover}
use Rattle.ice_blif.specs.declared.reader.Last as lasts
use Rattle.ice_blif.specs.declared.reader.Last.{Last}
use Rattle.ice_blif.specs.declared.reader.Reader.{Reader}
use Rattle.ice_blif.specs.declared.wiring.Wiring.{Wiring}
use Rattle.ice_blif.specs.State.{OpenCover, LastCell, Nothing, Gate, Rows, Memory}
use Rattle.ice_blif.specs.Reading.{NetReading, Connections}
use Rattle.ice_blif.specs.JoinedLines.{FilledLine, joined, with_next, later_joined}

-- ---- what is read so far
abbrev pub cover_view : Cover → OpenCover
cover_view c = record { line = c.line; ins = c.ins; outs = c.outs; covered = c.covered; level = c.level }

abbrev pub last_view : Last → LastCell
last_view lasts.TheVariants.Nothing = Nothing
last_view (lasts.TheVariants.Gate cell) = Gate cell
last_view lasts.TheVariants.Memory = Memory
last_view (lasts.TheVariants.Rows cover) = Rows (cover_view cover)

abbrev pub reader_view : Reader → NetReading
reader_view r = record { netlist = r.netlist; last = last_view r.last; rows = r.rows }

abbrev pub wiring_view : Wiring → Connections
wiring_view w = record { taken = w.taken; signals = w.signals; twice = w.twice }

-- ---- what is left of the text
-- the words that are left of a joined line
abbrev pub words_left : Cursor → List (List ℕ)
words_left c = with_next c.goes_on c.words (joined c.lines)

-- the joined lines behind it
abbrev pub lines_left : Cursor → List (ℕ × List (List ℕ))
lines_left c = later_joined c.goes_on (joined c.lines)

-- a slice is these bytes, where there are any
abbrev pub IsContinued : Option (Bor (List ℕ)) → Option (List ℕ) → Type 0
IsContinued None said = said ≡ None
IsContinued (Some front) said = said ≡ Some front.now

-- a first word begins the first of the lines that have one, whose other words and whose lines behind are left
abbrev pub IsFirstOf : List FilledLine → Option FirstWord → List (List ℕ) → List FilledLine → Type 0
IsFirstOf ls None ws rest = ls ≡ []
IsFirstOf ls (Some first) ws rest = ls ≡ (record { number = first.line; first = first.word.now; others = ws }) ∷ rest

-- the first of some words, and the others
abbrev pub IsNextWord : List (List ℕ) → Option (Bor (List ℕ)) → List (List ℕ) → Type 0
IsNextWord ws None rest = (ws ≡ []) × (rest ≡ [])
IsNextWord ws (Some w) rest = ws ≡ w.now ∷ rest

-- the number of the first of some lines, its words, and the other lines
abbrev pub IsNextLine : List (ℕ × List (List ℕ)) → Option ℕ → List (List ℕ) → List (ℕ × List (List ℕ)) → Type 0
IsNextLine ls None ws rest = ls ≡ []
IsNextLine ls (Some n) ws rest = ls ≡ (n, ws) ∷ rest
