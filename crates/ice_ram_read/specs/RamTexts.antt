-- The RAMs of a netlist text, as their lines say them.
use Rattle.std.specs.Prelude.{◌≡◌, ◌≤◌, ℕ, ◌+◌, ◌||◌, Bool, List, [], ◌∷◌, ◌++◌, length, take, drop, replicate, position, nat_le, slice_set, Option, Some, None, option_map, if◌then◌else◌, codes, bytes_eq}
use Rattle.ice_base.specs.Text.{lines, numbered}
use Rattle.ice_base.specs.declared.number.SignalNo.{SignalNo}
use Rattle.ice_net.specs.NetlistData.{NetlistData}
use Rattle.ice_ram_words.specs.declared.kind.Edges.{Edges}
use Rattle.ice_ram_words.specs.Words.{edges_of, place}
use Rattle.ice_blif.specs.Grammar.{equals_at, is_missing}
use Rattle.ice_blif.specs.JoinedLines.{FilledLine, joined, filled}
use Rattle.ice_ram_read.specs.RamData.{RamData, is_gate, new_ram, param_said}

-- ---- connections
abbrev pub numbered_signal : ℕ → SignalNo
numbered_signal n = record { 0 = n }

-- the signal of a name that appeared
abbrev pub found : NetlistData → List ℕ → Option SignalNo
found n name = option_map numbered_signal (position (bytes_eq name) n.names)

abbrev pub actual_found : NetlistData → Bool → List ℕ → Option SignalNo
actual_found n output actual = if is_missing output actual then None else found n actual

abbrev pub placed : NetlistData → List (Option SignalNo) → List ℕ → Option ℕ → List (Option SignalNo)
placed n signals actual None = signals
placed n signals actual (Some place) = slice_set signals place (actual_found n (nat_le 60 place) actual)

abbrev pub connected : NetlistData → Edges → List (Option SignalNo) → List ℕ → Option ℕ → List (Option SignalNo)
connected n edges signals word None = signals
connected n edges signals word (Some at) = placed n signals (drop (at + 1) word) (place edges (take at word))

-- the signals of a line's connections
abbrev pub signals_said : NetlistData → Edges → List (Option SignalNo) → List (List ℕ) → List (Option SignalNo)
signals_said n edges signals [] = signals
signals_said n edges signals (w ∷ ws) = signals_said n edges (connected n edges signals w (equals_at w)) ws

-- ---- lines
abbrev pub opened_by : NetlistData → ℕ → List (List ℕ) → Option Edges → Option RamData
opened_by n line ws None = None
opened_by n line ws (Some edges) = Some (new_ram line edges (signals_said n edges (replicate 76 None) ws))

-- the RAM that the words behind `.gate` or `.subckt` open, if it is one
abbrev pub opened : NetlistData → ℕ → List (List ℕ) → Option RamData
opened n line [] = None
opened n line (w ∷ ws) = opened_by n line ws (edges_of w)

abbrev pub listed : Option RamData → List RamData
listed None = []
listed (Some ram) = ram ∷ []

-- a line makes a cell
abbrev pub makes_cell : List ℕ → Bool
makes_cell word = is_gate word || bytes_eq word (codes ".names")

-- the RAM that a line closes: the open one, where the line makes a cell
abbrev pub before_line : Option RamData → List ℕ → List RamData
before_line last word = if makes_cell word then listed last else []

-- the RAM that is open behind a line
abbrev pub after_line : NetlistData → Option RamData → FilledLine → Option RamData
after_line n last l =
    if is_gate l.first then opened n l.number l.others
    else (if bytes_eq l.first (codes ".names") then None
    else (if bytes_eq l.first (codes ".param") then option_map (λ (ram : RamData). param_said ram l.others) last
    else last))

-- the RAMs of lines, of which one may be open: parameters belong to it until a cell is made or `.end` comes
abbrev pub rams_said : NetlistData → Option RamData → List FilledLine → List RamData
rams_said n last [] = listed last
rams_said n last (l ∷ ls) = if bytes_eq l.first (codes ".end") then listed last else before_line last l.first ++ rams_said n (after_line n last l) ls

-- These are the first of all RAMs, and they are all unless they have more hidden signals than a netlist may have: 886 have 65,564.
pub record AreFirst (rams all : List RamData) : Type 0 where
  pub rest : List RamData
  pub behind : all ≡ rams ++ rest
  pub whole : length rams ≤ 885 → rest ≡ []

-- the RAMs of a text that has this netlist, in the order of their lines
abbrev pub rams_of : NetlistData → List ℕ → List RamData
rams_of n text = rams_said n None (filled (joined (numbered 1 (lines text))))
