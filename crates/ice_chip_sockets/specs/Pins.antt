-- The pins of the first block RAMs of a chip.
use Rattle.std.specs.Prelude.{◌≡◌, ◌<◌, ℕ, List, flat_map, take}
use Rattle.ice_base_values.specs.Order.{At}
use Rattle.ice_chip.specs.Database.{Parts}
use Rattle.ice_chip.specs.declared.rows.Pad.{Pad}
use Rattle.ice_chip_rams.specs.Sites.{ram_pin, ram_pins, sites}
use Rattle.ice_chip_rams.specs.declared.ram_site.RamSite.{RamSite}

-- the pins of the block RAMs of the first so many sites, those of each in the order of their numbers
abbrev pub first_pins : Parts → ℕ → List Pad
first_pins parts rams = flat_map ram_pins (take rams (sites parts))

-- the pad is one of them
pub record IsRamPin (parts : Parts) (rams : ℕ) (pad : Pad) : Type 0 where
  pub place : ℕ
  pub site : RamSite
  pub number : ℕ
  pub there : At (sites parts) place site
  pub first : place < rams
  pub below : number < 74
  pub is_pin : pad ≡ ram_pin site number
