-- The headline: the text of bits that is written is a circuit that shows what the netlist that was read shows.
use Rattle.std.specs.Prelude.{◌≡◌, ◌≢◌, ℕ, Bool, true, Some, List, [], ◌∷◌, length, map, replicate}
use Rattle.ice_base_values.specs.Order.{Has}
use Rattle.ice_desk.specs.Desk.{Meaning}
use Rattle.ice_net.specs.NetlistData.{NetlistData}
use Rattle.ice_net.specs.Meaning as net
use Rattle.ice_net.specs.declared.driver.Drive.{Drive}
use Rattle.ice_net.specs.declared.driver.Drive.TheVariants.{Off}
use Rattle.ice_blif_laws.specs.NetlistText.{netlist_in}
use Rattle.ice_chip.specs.Database.{Parts, PackageRows}
use Rattle.ice_chip.specs.Lookups.{package_of}
use Rattle.ice_chip.specs.declared.rows.Pad.{Pad}
use Rattle.ice_chip_read_laws.specs.ChipText.{chip_rows}
use Rattle.ice_bits.specs.Configuration.{Configuration, bits_of}
use Rattle.ice_asc_laws.specs.NamedTiles.{SayBits, worded}
use Rattle.ice_decode.specs.Meaning.{bits_show}
use Rattle.ice_decode.specs.Pads.{pads}
use Rattle.ice_decode_laws.specs.NoFault.{HaveNoFault}
use Rattle.ice_flow_build_cmd.specs.Asked.{Build}
use Rattle.ice_flow_build_cmd.specs.Pinned.{HavePinnedPads, pins_set}

-- What the chip drives at these pads, step by step, where each pad of the package has the level that the step gives it; every other pad has
-- the level 0.
abbrev pub driven_at : Parts → Configuration → PackageRows → List Pad → List (Pad → Bool) → List (List Drive)
driven_at parts k bonded shown steps =
    bits_show parts (bits_of k) k.extras bonded.pads shown (map (λ (level : Pad → Bool). map level bonded.pads) steps)

-- The text of bits, read by the database that the chip's text says, is a circuit without a fault. For every list of levels of the package's
-- pads it shows, step by step, exactly what the netlist shows, at the pads of its ports, and it drives no other pad.
pub record IsShown (name chip_text pins_text netlist_text bits_text : List ℕ) : Type 0 where
  pub parts : Parts
  pub circuit : NetlistData
  pub configuration : Configuration
  pub bonded : PackageRows
  pub ports : List Pad
  -- what three of the four texts say
  pub is_chip : chip_rows chip_text ≡ Some parts
  pub is_circuit : netlist_in netlist_text ≡ Some circuit
  pub say_bits : SayBits parts (worded bits_text) configuration
  -- the bits have no fault
  pub faultless : HaveNoFault parts (bits_of configuration) configuration.extras
  -- the ports have these pads of the package of this name
  pub is_package : package_of parts name ≡ Some bonded
  pub have_pads : HavePinnedPads bonded (pins_set pins_text) circuit ports
  -- what is driven there, and elsewhere
  pub at_ports : (steps : List (Pad → Bool))
      → driven_at parts configuration bonded ports steps ≡ net.shows circuit (map (λ (level : Pad → Bool). map level ports) steps)
  pub elsewhere : (steps : List (Pad → Bool)) (pad : Pad) → Has (pads parts) pad → (Has ports pad → ⊥)
      → driven_at parts configuration bonded (pad ∷ []) steps ≡ replicate (length steps) (Off ∷ [])

-- no report is written to the file of the bits
abbrev pub IsApart : Build → Type 0
IsApart b = (b.pins ≢ Some b.asc) × (b.report ≢ Some b.asc)

-- the three files that are read, and the one that is written, hold such texts; the latter unless a report has its name
pub record HoldShown (b : Build) (old new : Meaning) : Type 0 where
  pub chip_text : List ℕ
  pub pins_text : List ℕ
  pub netlist_text : List ℕ
  pub bits_text : List ℕ
  pub holds_chip : old.files b.chip ≡ Some chip_text
  pub holds_pins : old.files b.pcf ≡ Some pins_text
  pub holds_netlist : old.files b.blif ≡ Some netlist_text
  pub holds_bits : IsApart b → new.files b.asc ≡ Some bits_text
  pub is_shown : IsShown b.package_name chip_text pins_text netlist_text bits_text

-- status 0, where the desk tells its contents
abbrev pub HeadlineRow : Build → Meaning → Meaning → ℕ → Type 0
HeadlineRow b old new status = status ≡ 0 → old.tells ≡ true → HoldShown b old new
