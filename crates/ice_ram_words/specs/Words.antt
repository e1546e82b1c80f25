-- Kinds of RAMs, names of their contents, and their formals.
use Rattle.std.specs.Prelude.{ℕ, ◌+◌, ◌-◌, ◌==◌, Bool, true, false, ◌&&◌, List, [], ◌∷◌, length, take, drop, nat_le, nat_lt, Option, Some, None, option_map, if◌then◌else◌, codes, bytes_eq}
use Rattle.ice_ram_words.specs.declared.kind.Edges.{Edges}

-- ---- kinds
-- N stands for a falling clock: NR for that of the port that reads, NW for that of the port that writes
abbrev pub edges_of : List ℕ → Option Edges
edges_of word =
    if bytes_eq word (codes "SB_RAM40_4K") then Some (record { read_falls = false; write_falls = false })
    else (if bytes_eq word (codes "SB_RAM40_4KNR") then Some (record { read_falls = true; write_falls = false })
    else (if bytes_eq word (codes "SB_RAM40_4KNW") then Some (record { read_falls = false; write_falls = true })
    else (if bytes_eq word (codes "SB_RAM40_4KNRNW") then Some (record { read_falls = true; write_falls = true })
    else None)))

-- ---- contents
-- a digit to the base 16: `0` to `9` (48 to 57), `A` to `F` (65 to 70)
abbrev pub hex_digit : ℕ → Option ℕ
hex_digit b = if nat_le 48 b && nat_le b 57 then Some (b - 48) else (if nat_le 65 b && nat_le b 70 then Some (b - 65 + 10) else None)

abbrev pub lone_hex : List ℕ → Option ℕ
lone_hex [] = None
lone_hex (b ∷ []) = hex_digit b
lone_hex (b ∷ c ∷ bs) = None

-- the row of sixteen words whose contents a parameter says: INIT_0 to INIT_F
abbrev pub row_of : List ℕ → Option ℕ
row_of name = if bytes_eq (take 5 name) (codes "INIT_") then lone_hex (drop 5 name) else None

-- ---- formals
abbrev pub digit_of : ℕ → Option ℕ
digit_of b = if nat_le 48 b && nat_le b 57 then Some (b - 48) else None

-- the number in brackets (91, 93), without a 0 in front: `[0]` to `[19]`
abbrev pub index_of : List ℕ → Option ℕ
index_of [] = None
index_of (a ∷ []) = None
index_of (a ∷ b ∷ []) = None
index_of (a ∷ b ∷ c ∷ []) = if a == 91 && c == 93 then digit_of b else None
index_of (a ∷ b ∷ c ∷ d ∷ []) = if a == 91 && (b == 49 && d == 93) then option_map (λ n. 10 + n) (digit_of c) else None
index_of (a ∷ b ∷ c ∷ d ∷ e ∷ bs) = None

abbrev pub placed : ℕ → ℕ → Option ℕ → Option ℕ
placed first count None = None
placed first count (Some number) = if nat_lt number count then Some (first + number) else None

-- the place of a formal of a bus of so many, the first of which has this place
abbrev pub bus_place : ℕ → ℕ → List ℕ → List ℕ → Option ℕ
bus_place first count base name = if bytes_eq (take (length base) name) base then placed first count (index_of (drop (length base) name)) else None

abbrev pub or_place : Option ℕ → Option ℕ → Option ℕ
or_place None other = other
or_place (Some place) other = Some place

abbrev pub address_place : List ℕ → Option ℕ
address_place name = or_place (bus_place 0 11 (codes "RADDR") name) (bus_place 11 11 (codes "WADDR") name)

abbrev pub word_place : List ℕ → Option ℕ
word_place name = or_place (bus_place 22 16 (codes "MASK") name) (or_place (bus_place 38 16 (codes "WDATA") name) (bus_place 60 16 (codes "RDATA") name))

-- a clock that falls is named with an N
abbrev pub read_clock : Bool → List ℕ
read_clock true = codes "RCLKN"
read_clock false = codes "RCLK"

abbrev pub write_clock : Bool → List ℕ
write_clock true = codes "WCLKN"
write_clock false = codes "WCLK"

abbrev pub clock_place : Edges → List ℕ → Option ℕ
clock_place edges name = if bytes_eq name (read_clock edges.read_falls) then Some 54 else (if bytes_eq name (write_clock edges.write_falls) then Some 55 else None)

abbrev pub enable_place : List ℕ → Option ℕ
enable_place name =
    if bytes_eq name (codes "RE") then Some 56
    else (if bytes_eq name (codes "WE") then Some 57
    else (if bytes_eq name (codes "RCLKE") then Some 58
    else (if bytes_eq name (codes "WCLKE") then Some 59
    else None)))

-- The place of a formal among the sixty inputs and then the sixteen outputs: RADDR 0 to 10, WADDR 11 to 21, MASK 22 to 37, WDATA 38
-- to 53, RCLK 54, WCLK 55, RE 56, WE 57, RCLKE 58, WCLKE 59, and RDATA 60 to 75.
abbrev pub place : Edges → List ℕ → Option ℕ
place edges name = or_place (address_place name) (or_place (word_place name) (or_place (clock_place edges name) (enable_place name)))
