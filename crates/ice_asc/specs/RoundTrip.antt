-- Bits that are read from the text that is written for them.
use Rattle.std.specs.Prelude.{◌≡◌, ℕ, ◌<◌, ◌^◌, All, Ok}
use Rattle.ice_chip.specs.Database.{Parts}
use Rattle.ice_chip.specs.IsRead.{IsChip}
use Rattle.ice_bits.specs.Configuration.{Configuration}
use Rattle.ice_bits.specs.Grids.{IsOf}
use Rattle.ice_asc.specs.Grammar.{asc_in}
use Rattle.ice_asc.specs.Text.{asc_text}

-- the three numbers of an extra bit are below 4,294,967,296
pub record IsSmall (extra : ℕ × ℕ × ℕ) : Type 0 where
  pub bank : extra.0 < 2 ^ 32
  pub column : extra.1 < 2 ^ 32
  pub row : extra.2 < 2 ^ 32

-- what is written for bits of a chip says exactly these bits, where extra bits have such numbers
abbrev pub WrittenIsRead : Type 0
WrittenIsRead = (parts : Parts) (k : Configuration) → IsChip parts → IsOf parts k → All IsSmall k.extras → asc_in parts (asc_text parts k) ≡ Ok k
