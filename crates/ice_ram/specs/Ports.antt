-- Ports of RAMs that are cut out of a circuit: what RAMs give to theirs, and what they take from them.
use Rattle.std.specs.Prelude.{ℕ, ◌+◌, ◌*◌, ◌/◌, ◌%◌, ◌-◌, nat_lt, Bool, true, false, List, [], ◌∷◌, length, map, if◌then◌else◌, slice_get, slice_index_or}
use Rattle.std.specs.List.{range_with_len}
use Rattle.std.specs.Option.{option_map_or}
use Rattle.ice_net.specs.declared.driver.Drive.{Drive}
use Rattle.ice_net.specs.declared.driver.Drive.TheVariants.{Off, Low, High}
use Rattle.ice_net.specs.Meaning.{number_of}
use Rattle.ice_ram.specs.declared.setup.Setup.{Setup}
use Rattle.ice_ram.specs.declared.setup.Pins.{Pins}
use Rattle.ice_ram.specs.Ram.{Kept, after}

-- A RAM has 74 ports, in this order: the outputs RDATA_0 to RDATA_15, whose levels it gives; and the inputs RADDR_0 to RADDR_10,
-- WADDR_0 to WADDR_10, MASK_0 to MASK_15, WDATA_0 to WDATA_15, RCLK, WCLK, RE and WE, whose drives it takes. RE and WE have the
-- enables of their clocks in them.
abbrev pub ports_each : ℕ
ports_each = 74

-- ---- what RAMs give
-- The level at port k of those of RAMs that stand side by side. It is 0 at a port that is an input of a RAM.
abbrev pub given : List (Setup × Kept) → ℕ → Bool
given rams k = option_map_or (λ (ram : Setup × Kept). slice_index_or ram.1.out (k % ports_each) false) (slice_get rams (k / ports_each)) false

-- the levels of all ports of RAMs
abbrev pub all_given : List (Setup × Kept) → List Bool
all_given rams = map (given rams) (range_with_len 0 (ports_each * length rams))

-- the level of port k of a circuit with so many other ports, behind which those of its RAMs stand; a missing level is 0
abbrev pub port_level : ℕ → List Bool → List (Setup × Kept) → ℕ → Bool
port_level first levels rams k = if nat_lt k first then slice_index_or levels k false else given rams (k - first)

-- the levels of all ports of such a circuit
abbrev pub joined_levels : ℕ → List Bool → List (Setup × Kept) → List Bool
joined_levels first levels rams = map (port_level first levels rams) (range_with_len 0 (first + ports_each * length rams))

-- ---- what RAMs take
-- a port that drives the level 1
abbrev pub is_high : Drive → Bool
is_high Off = false
is_high Low = false
is_high High = true

-- the level that RAMs take from port k
abbrev pub taken_at : List Drive → ℕ → Bool
taken_at drives k = is_high (slice_index_or drives k Off)

-- what they take from so many ports, from port k on
unfoldable pub taken_from : List Drive → ℕ → ℕ → List Bool
taken_from drives k count = map (taken_at drives) (range_with_len k count)

-- the pins of the RAM whose first port is port k
abbrev pub pins_at : List Drive → ℕ → Pins
pins_at drives k = record {
  read_clock = taken_at drives (k + 70);
  read_enable = taken_at drives (k + 72);
  read_address = number_of (taken_from drives (k + 16) 11);
  write_clock = taken_at drives (k + 71);
  write_enable = taken_at drives (k + 73);
  write_address = number_of (taken_from drives (k + 27) 11);
  mask = taken_from drives (k + 38) 16;
  datum = taken_from drives (k + 54) 16;
}

-- RAMs after a step, the first port of the first of them being port k
abbrev pub after_all : List Drive → ℕ → List (Setup × Kept) → List (Setup × Kept)
after_all drives k [] = []
after_all drives k (ram ∷ rams) = (ram.0, after ram.0 ram.1 (pins_at drives k)) ∷ after_all drives (k + ports_each) rams
