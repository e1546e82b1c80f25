-- The text of a longest path: how long it is, each of its points with when the signal is there, and its end.
use Rattle.std.specs.Prelude.{ℕ, List, [], ◌∷◌, ◌++◌, Option, None, Some, map, codes, decimal}
use Rattle.ice_base.specs.Lines.{text_of_lines}
use Rattle.ice_base.specs.declared.number.TileAt.{TileAt}
use Rattle.ice_decode.specs.declared.point.Point.{Point}
use Rattle.ice_decode.specs.declared.point.Point.TheVariants.{Wire, Carry}
use Rattle.ice_timing.specs.declared.end.End.{End}
use Rattle.ice_timing.specs.declared.end.End.TheVariants.{Flop, Pad, Ram}
use Rattle.ice_timing.specs.declared.end.TimedPath.{TimedPath}

-- a word and a number behind it
abbrev pub counted : List ℕ → ℕ → List ℕ
counted word n = word ++ (32 ∷ decimal n)

-- a tile: its column and its row
abbrev pub tile_words : List ℕ → TileAt → List ℕ
tile_words word t = word ++ (32 ∷ decimal t.x) ++ (32 ∷ decimal t.y)

-- a place in a tile, and the number there
abbrev pub place : List ℕ → TileAt → ℕ → List ℕ
place word t n = tile_words word t ++ (32 ∷ decimal n)

abbrev pub point_words : Point → List ℕ
point_words (Wire w) = counted (codes "wire") w.0
point_words (Carry t i) = place (codes "carry") t i

abbrev pub end_words : End → List ℕ
end_words (Flop t i) = place (codes "flop") t i
end_words (Pad pad) = place (codes "pad") pad.tile pad.pio
end_words (Ram lower) = tile_words (codes "ram") lower

-- what is reached when
abbrev pub reached_line : List ℕ → ℕ → List ℕ
reached_line words at = words ++ counted (codes " at") at

abbrev pub point_line : Point × ℕ → List ℕ
point_line point = reached_line (point_words point.0) point.1

abbrev pub longest_line : ℕ → List ℕ
longest_line at = counted (codes "longest") at

-- without a path the length 0 alone is said
abbrev pub path_lines : Option TimedPath → List (List ℕ)
path_lines None = longest_line 0 ∷ []
path_lines (Some t) = longest_line t.at ∷ (map point_line t.points.items ++ reached_line (end_words t.end) t.at ∷ [])

abbrev pub path_text : Option TimedPath → List ℕ
path_text found = text_of_lines (path_lines found)
