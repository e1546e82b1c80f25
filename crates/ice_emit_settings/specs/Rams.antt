-- The settings of a site, by what is settled of the block RAM that stands there.
use Rattle.std.specs.Prelude.{ℕ, Option, None, Some, List, [], ◌∷◌, option_map, slice_get}
use Rattle.ice_chip.specs.FunctionNames.{power_up_function}
use Rattle.ice_chip_rams.specs.declared.ram_site.RamSite.{RamSite}
use Rattle.ice_ram.specs.Ram.{Kept}
use Rattle.ice_ram.specs.declared.setup.Setup.{Setup}
use Rattle.ice_emit_rows_laws.specs.Settings.{Setting}
use Rattle.ice_emit_defs.specs.Functions.{setting}
use Rattle.ice_emit_defs.specs.Rams.{ram_settings}

-- what is settled of the block RAM of that number
abbrev pub setup_in : List (Setup × Kept) → ℕ → Option Setup
setup_in rams k = option_map (λ (ram : Setup × Kept). ram.0) (slice_get rams k)

-- a site without a block RAM is switched off
abbrev pub site_gives : RamSite → Option Setup → List Setting
site_gives s None = setting s.lower power_up_function 0 ∷ []
site_gives s (Some setup) = ram_settings s setup
