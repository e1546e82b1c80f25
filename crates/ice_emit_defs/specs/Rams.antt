-- The bits of block RAMs: what is settled of those in use, which all others are not, and the words that they hold.
use Rattle.std.specs.Prelude.{◌≡◌, ◌≤◌, ◌<◌, ℕ, ◌+◌, Bool, true, false, List, [], ◌∷◌, ◌++◌, length, All}
use Rattle.ice_base.specs.declared.number.TileAt.{TileAt}
use Rattle.ice_base_values.specs.Order.{At}
use Rattle.ice_chip.specs.Database.{Parts}
use Rattle.ice_chip.specs.FunctionNames.{power_up_function, ram_mode_function}
use Rattle.ice_chip.specs.Names.{falling_clock_function}
use Rattle.ice_chip_rams.specs.Sites.{sites}
use Rattle.ice_chip_rams.specs.declared.ram_site.RamSite.{RamSite}
use Rattle.ice_bits.specs.Configuration.{Bits}
use Rattle.ice_bits.specs.Grids.{AreWords}
use Rattle.ice_decode.specs.Rams.{is_on}
use Rattle.ice_net.specs.Meaning.{table_bit}
use Rattle.ice_ram.specs.Ram.{Kept}
use Rattle.ice_ram.specs.declared.setup.Setup.{Setup}
use Rattle.ice_sim_chip_rams.specs.ClosedChips.{setup_of}
use Rattle.ice_emit_rows_laws.specs.Settings.{Setting}
use Rattle.ice_emit_defs.specs.SettingLists.{setting, setting_if}

-- modes that there are, and 256 words of sixteen bits
pub record IsFormedRam (ram : Setup × Kept) : Type 0 where
  pub read_mode : ram.0.read_mode < 4
  pub write_mode : ram.0.write_mode < 4
  pub words : AreWords ram.1.words

abbrev pub AreFormed : List (Setup × Kept) → Type 0
AreFormed rams = All IsFormedRam rams

-- the digits of a mode, the first of which stands at this place
abbrev pub mode_settings : TileAt → ℕ → ℕ → List Setting
mode_settings t place mode =
    setting_if (table_bit mode 0) t (ram_mode_function place) 0 ++ setting_if (table_bit mode 1) t (ram_mode_function (place + 1)) 0

-- a block RAM in use: the modes of its ports, and the edges of their clocks
abbrev pub ram_settings : RamSite → Setup → List Setting
ram_settings s setup =
    mode_settings s.upper 0 setup.write_mode ++ mode_settings s.upper 2 setup.read_mode
    ++ setting_if setup.read_falls s.upper falling_clock_function 0 ++ setting_if setup.write_falls s.lower falling_clock_function 0

-- block RAM j of the netlist stands at the site of this number, and those of all other sites are switched off
abbrev pub site_settings : List RamSite → List (Setup × Kept) → List Setting
site_settings [] rams = []
site_settings (s ∷ sites) [] = setting s.lower power_up_function 0 ∷ site_settings sites []
site_settings (s ∷ sites) (ram ∷ rams) = ram_settings s ram.0 ++ site_settings sites rams

-- the words that they hold before the first step, in the order of the sites
abbrev pub site_contents : List RamSite → List (Setup × Kept) → List (TileAt × List (List Bool))
site_contents [] rams = []
site_contents (s ∷ sites) [] = []
site_contents (s ∷ sites) (ram ∷ rams) = (s.lower, ram.1.words) ∷ site_contents sites rams

-- those of the netlist are in use, settled as it says, and no others
pub record AreRamsSet (parts : Parts) (rams : List (Setup × Kept)) (bits : Bits) : Type 0 where
  pub on : (j : ℕ) (s : RamSite) (ram : Setup × Kept) → At (sites parts) j s → At rams j ram → is_on parts bits s ≡ true
  pub settled : (j : ℕ) (s : RamSite) (ram : Setup × Kept) → At (sites parts) j s → At rams j ram → setup_of parts bits s ≡ ram.0
  pub off : (j : ℕ) (s : RamSite) → At (sites parts) j s → length rams ≤ j → is_on parts bits s ≡ false
