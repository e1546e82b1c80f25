-- The names of the wires of a block RAM. Each has a number, and stands in one of the RAM's two tiles.
use Rattle.std.specs.Prelude.{ℕ, ◌+◌, ◌==◌, ◌&&◌, ◌||◌, Bool, Option, None, Some, List, [], ◌∷◌, codes, bytes_eq, nat_le, nat_lt, slice_index_or, if◌then◌else◌}

-- The names by their numbers: what is read, the addresses of both ports, the mask, what is written, the clocks and enables of both
-- ports, and the enables of these clocks.
unfoldable pub ram_names : List (List ℕ)
ram_names =
    codes "ram/RDATA_0" ∷ codes "ram/RDATA_1" ∷ codes "ram/RDATA_2" ∷ codes "ram/RDATA_3" ∷ codes "ram/RDATA_4" ∷ codes "ram/RDATA_5" ∷ codes "ram/RDATA_6" ∷ codes "ram/RDATA_7"
    ∷ codes "ram/RDATA_8" ∷ codes "ram/RDATA_9" ∷ codes "ram/RDATA_10" ∷ codes "ram/RDATA_11" ∷ codes "ram/RDATA_12" ∷ codes "ram/RDATA_13" ∷ codes "ram/RDATA_14" ∷ codes "ram/RDATA_15"
    ∷ codes "ram/RADDR_0" ∷ codes "ram/RADDR_1" ∷ codes "ram/RADDR_2" ∷ codes "ram/RADDR_3" ∷ codes "ram/RADDR_4" ∷ codes "ram/RADDR_5"
    ∷ codes "ram/RADDR_6" ∷ codes "ram/RADDR_7" ∷ codes "ram/RADDR_8" ∷ codes "ram/RADDR_9" ∷ codes "ram/RADDR_10"
    ∷ codes "ram/WADDR_0" ∷ codes "ram/WADDR_1" ∷ codes "ram/WADDR_2" ∷ codes "ram/WADDR_3" ∷ codes "ram/WADDR_4" ∷ codes "ram/WADDR_5"
    ∷ codes "ram/WADDR_6" ∷ codes "ram/WADDR_7" ∷ codes "ram/WADDR_8" ∷ codes "ram/WADDR_9" ∷ codes "ram/WADDR_10"
    ∷ codes "ram/MASK_0" ∷ codes "ram/MASK_1" ∷ codes "ram/MASK_2" ∷ codes "ram/MASK_3" ∷ codes "ram/MASK_4" ∷ codes "ram/MASK_5" ∷ codes "ram/MASK_6" ∷ codes "ram/MASK_7"
    ∷ codes "ram/MASK_8" ∷ codes "ram/MASK_9" ∷ codes "ram/MASK_10" ∷ codes "ram/MASK_11" ∷ codes "ram/MASK_12" ∷ codes "ram/MASK_13" ∷ codes "ram/MASK_14" ∷ codes "ram/MASK_15"
    ∷ codes "ram/WDATA_0" ∷ codes "ram/WDATA_1" ∷ codes "ram/WDATA_2" ∷ codes "ram/WDATA_3" ∷ codes "ram/WDATA_4" ∷ codes "ram/WDATA_5" ∷ codes "ram/WDATA_6" ∷ codes "ram/WDATA_7"
    ∷ codes "ram/WDATA_8" ∷ codes "ram/WDATA_9" ∷ codes "ram/WDATA_10" ∷ codes "ram/WDATA_11" ∷ codes "ram/WDATA_12" ∷ codes "ram/WDATA_13" ∷ codes "ram/WDATA_14" ∷ codes "ram/WDATA_15"
    ∷ codes "ram/RCLK" ∷ codes "ram/WCLK" ∷ codes "ram/RE" ∷ codes "ram/WE" ∷ codes "ram/RCLKE" ∷ codes "ram/WCLKE" ∷ []

abbrev pub ram_name : ℕ → List ℕ
ram_name n = slice_index_or ram_names n []

-- ---- the reader
-- the number of a name among these, of which the first has the number n
abbrev pub place_among : List ℕ → ℕ → List (List ℕ) → Option ℕ
place_among name n [] = None
place_among name n (known ∷ names) = if bytes_eq known name then Some n else place_among name (n + 1) names

-- the number of a name, or None where it is no such name
abbrev pub ram_number : List ℕ → Option ℕ
ram_number name = place_among name 0 ram_names

-- ---- what the wires are
-- a bit of what is read, 0 to 15: such a wire leads out of the RAM, and all others lead into it
abbrev pub is_read_out : ℕ → Bool
is_read_out n = nat_lt n 16

-- The wire stands in the lower tile: the lower eight bits of what is read, of the mask and of what is written, and the address, clock and
-- enables of the port that writes. All others stand in the upper tile.
abbrev pub is_lower : ℕ → Bool
is_lower n = nat_lt n 8 || (nat_le 27 n && nat_lt n 46) || (nat_le 54 n && nat_lt n 62) || (n == 71) || (n == 73) || (n == 75)

-- the enable of the clock of a port, which reads 1 where nothing drives it
abbrev pub is_clock_enable : ℕ → Bool
is_clock_enable n = (n == 74) || (n == 75)
