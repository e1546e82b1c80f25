-- A RAM: 256 words of sixteen bits, a port that reads and a port that writes; what is kept, and one step.
use Rattle.std.specs.Prelude.{ℕ, ◌+◌, ◌-◌, ◌*◌, ◌/◌, ◌%◌, ◌^◌, ◌==◌, Bool, false, ◌&&◌, ◌||◌, not, Option, Some, None, List, [], map, if◌then◌else◌, slice_index_or, slice_set, replicate}
use Rattle.std.specs.List.{range_with_len}
use Rattle.ice_net.specs.Kinds.{is_edge}
use Rattle.ice_ram.specs.declared.setup.Setup.{Setup}
use Rattle.ice_ram.specs.declared.setup.Pins.{Pins}

-- what is kept from step to step
pub record Kept : Type 0 where
  -- the words, each with its lowest bit first
  pub words : List (List Bool)
  -- what the sixteen outputs give
  pub out : List Bool
  -- the level of each clock in the step before, where it has seen a step
  pub read_clock : Option Bool
  pub write_clock : Option Bool

-- ---- modes 0 to 3
-- so many bits of a word share a pin, and the upper bits of the address pick one of them
abbrev pub lanes : ℕ → ℕ
lanes mode = 2 ^ mode

abbrev pub lane : ℕ → ℕ → ℕ
lane mode address = (address / 256) % lanes mode

-- the pin of bit k of a word
abbrev pub pin : ℕ → ℕ → ℕ
pin mode k = lanes mode * (k / lanes mode) + (lanes mode / 2 - 1)

-- the word at an address
abbrev pub word : List (List Bool) → ℕ → List Bool
word words address = slice_index_or words (address % 256) []

-- ---- the port that writes
-- whether a bit of the word takes the level of its pin; masks count in mode 0 alone
abbrev pub is_open : ℕ → Pins → ℕ → Bool
is_open mode pins k = (k % lanes mode == lane mode pins.write_address) && (not (mode == 0) || not (slice_index_or pins.mask k false))

abbrev pub written_bit : ℕ → Pins → List Bool → ℕ → Bool
written_bit mode pins old k = if is_open mode pins k then slice_index_or pins.datum (pin mode k) false else slice_index_or old k false

unfoldable pub written_word : ℕ → Pins → List Bool → List Bool
written_word mode pins old = map (written_bit mode pins old) (range_with_len 0 16)

-- the words after a step
abbrev pub written : Setup → Kept → Pins → List (List Bool)
written setup kept pins =
    if is_edge setup.write_falls kept.write_clock pins.write_clock && pins.write_enable
    then slice_set kept.words (pins.write_address % 256) (written_word setup.write_mode pins (word kept.words pins.write_address))
    else kept.words

-- ---- the port that reads
-- each output in use gives the bit of its lane, the others give 0
abbrev pub read_bit : ℕ → Pins → List Bool → ℕ → Bool
read_bit mode pins old p = (p == pin mode p) && slice_index_or old (lanes mode * (p / lanes mode) + lane mode pins.read_address) false

unfoldable pub read_word : ℕ → Pins → List Bool → List Bool
read_word mode pins old = map (read_bit mode pins old) (range_with_len 0 16)

-- what the outputs give after a step
abbrev pub read : Setup → Kept → Pins → List Bool
read setup kept pins =
    if is_edge setup.read_falls kept.read_clock pins.read_clock && pins.read_enable
    then read_word setup.read_mode pins (word kept.words pins.read_address)
    else kept.out

-- ---- one step
-- both ports act on what was kept before it, so a read beside a write of the same word gives the old one
abbrev pub after : Setup → Kept → Pins → Kept
after setup kept pins = record { words = written setup kept pins; out = read setup kept pins; read_clock = Some pins.read_clock; write_clock = Some pins.write_clock }

-- at the start all outputs are 0, and no clock has been seen
abbrev pub start : List (List Bool) → Kept
start words = record { words = words; out = replicate 16 false; read_clock = None; write_clock = None }
