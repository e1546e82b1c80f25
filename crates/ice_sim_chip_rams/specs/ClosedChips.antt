-- A configured chip that its block RAMs close.
use Rattle.std.specs.Prelude.{ℕ, ◌+◌, ◌*◌, Bool, false, List, ◌++◌, length, map, replicate, take, unwrap_or, if◌then◌else◌}
use Rattle.std.specs.Map.{lookup}
use Rattle.ice_base_values.specs.System.{machine_shows}
use Rattle.ice_chip.specs.Database.{Parts, same_tile}
use Rattle.ice_chip.specs.FunctionNames.{ram_mode_function}
use Rattle.ice_chip.specs.Names.{falling_clock_function}
use Rattle.ice_chip.specs.declared.rows.Pad.{Pad}
use Rattle.ice_chip_rams.specs.declared.ram_site.RamSite.{RamSite}
use Rattle.ice_bits.specs.Configuration.{Bits, Configuration, bits_of}
use Rattle.ice_bits.specs.Settings.{set_at}
use Rattle.ice_net.specs.declared.driver.Drive.{Drive}
use Rattle.ice_net.specs.Meaning.{State}
use Rattle.ice_decode.specs.Meaning as open_chip
use Rattle.ice_decode.specs.Rams.{rams, pins_of}
use Rattle.ice_ram.specs.Closing.{closed}
use Rattle.ice_ram.specs.Ports.{joined_levels, after_all}
use Rattle.ice_ram.specs.Ram.{Kept, start}
use Rattle.ice_ram.specs.declared.setup.Setup.{Setup}

-- ---- what is settled of a block RAM
-- the digit of the modes of its ports at this place: 0 and 1 are those of the port that writes, 2 and 3 those of the port that reads
abbrev pub mode_digit : Parts → Bits → RamSite → ℕ → ℕ
mode_digit parts bits s place = if set_at parts bits s.upper (ram_mode_function place) 0 then 1 else 0

-- the mode of the port whose digits stand from this place on
abbrev pub mode_at : Parts → Bits → RamSite → ℕ → ℕ
mode_at parts bits s place = mode_digit parts bits s place + 2 * mode_digit parts bits s (place + 1)

abbrev pub setup_of : Parts → Bits → RamSite → Setup
setup_of parts bits s = record {
  read_mode = mode_at parts bits s 2;
  write_mode = mode_at parts bits s 0;
  read_falls = set_at parts bits s.upper falling_clock_function 0;
  write_falls = set_at parts bits s.lower falling_clock_function 0;
}

-- the words that it holds before the first step: those of the bits, or all 0
unfoldable pub no_words : List (List Bool)
no_words = replicate 256 (replicate 16 false)

abbrev pub words_of : Configuration → RamSite → List (List Bool)
words_of k s = unwrap_or (lookup (same_tile s.lower) k.contents) no_words

-- the block RAM before the first step
abbrev pub ram_at : Parts → Configuration → RamSite → Setup × Kept
ram_at parts k s = (setup_of parts (bits_of k) s, start (words_of k s))

abbrev pub rams_at : Parts → Configuration → List RamSite → List (Setup × Kept)
rams_at parts k sites = map (ram_at parts k) sites

-- ---- the closing
-- other pads, and behind them the pins of block RAMs
abbrev pub all_pads : List RamSite → List Pad → List Pad
all_pads sites others = others ++ pins_of sites

-- One step of the chip that block RAMs close. Pads have levels, of which so many stand before the pins: these have the levels from outside,
-- and the pins those that the block RAMs show. Pads are seen, of which so many stand before the pins, whose drives the block RAMs take.
unfoldable pub closed_step : Parts → Configuration → List Pad → ℕ → List Pad → ℕ → State × List (Setup × Kept) → List Bool → (State × List (Setup × Kept)) × List Drive
closed_step parts k pads first shown before =
    closed (open_chip.chip_step parts (bits_of k) k.extras pads shown) (joined_levels first) (λ held drives. after_all drives before held)

-- what is seen at the pads before the pins
abbrev pub shown_from : Parts → Configuration → List Pad → ℕ → List Pad → ℕ → State × List (Setup × Kept) → List (List Bool) → List (List Drive)
shown_from parts k pads first shown before state levels = map (take before) (machine_shows (closed_step parts k pads first shown before) state levels)

-- what the chip that the block RAMs of these sites close drives at the pads `shown`, for a list of levels of the pads `bonded`
abbrev pub shown_with : Parts → Configuration → List RamSite → List Pad → List Pad → List (List Bool) → List (List Drive)
shown_with parts k sites bonded shown levels =
    shown_from parts k (all_pads sites bonded) (length bonded) (all_pads sites shown) (length shown) (open_chip.chip_start parts, rams_at parts k sites) levels

-- What the chip that its block RAMs close drives at the pads `shown`, step by step, for a list of levels of the pads `bonded`.
abbrev pub closed_bits_show : Parts → Configuration → List Pad → List Pad → List (List Bool) → List (List Drive)
closed_bits_show parts k bonded shown levels = shown_with parts k (rams parts (bits_of k)) bonded shown levels
