-- Placed and routed designs whose last ports are those of block RAMs, and what the chip shows that its block RAMs close.
use Rattle.std.specs.Prelude.{◌≡◌, ℕ, ◌+◌, ◌*◌, ◌≤◌, ◌<◌, Bool, List, [], ◌∷◌, ◌++◌, length, map, replicate, take}
use Rattle.ice_base_values.specs.Order.{At, Has}
use Rattle.ice_base_values.specs.System.{machine_shows}
use Rattle.ice_chip.specs.Database.{Parts}
use Rattle.ice_chip.specs.declared.rows.Pad.{Pad}
use Rattle.ice_chip_rams.specs.Sites.{sites}
use Rattle.ice_chip_sockets.specs.Pins.{first_pins}
use Rattle.ice_bits.specs.Configuration.{Configuration, bits_of}
use Rattle.ice_net.specs.declared.driver.Drive.{Drive}
use Rattle.ice_net.specs.declared.driver.Drive.TheVariants.{Off}
use Rattle.ice_net.specs.Meaning.{State}
use Rattle.ice_decode.specs.Meaning.{bits_show}
use Rattle.ice_ram.specs.Closing.{closed}
use Rattle.ice_ram.specs.Ports.{joined_levels, after_all}
use Rattle.ice_ram.specs.Ram.{Kept, start}
use Rattle.ice_ram.specs.declared.setup.Setup.{Setup}
use Rattle.ice_sim_chip_rams.specs.ClosedChips.{closed_bits_show}
use Rattle.ice_cells.specs.declared.design.DesignPad.{DesignPad}
use Rattle.ice_place_defs.specs.Plan.{Plan}
use Rattle.ice_emit_defs.specs.Rams.{AreRamsSet, site_contents}
use Rattle.ice_emit_defs.specs.Realised.{port_levels, seen}

-- The first ports have the pads `shown`, none of which is a pin of a block RAM. Behind them stand those of block RAMs, at the pins of the
-- chip's first ones, and each that a block RAM takes is an output, which is of type 25. The block RAMs are at their start.
pub record IsClosedPlan (parts : Parts) (plan : Plan) (shown : List Pad) (rams : List (Setup × Kept)) : Type 0 where
  pub enough : length rams ≤ length (sites parts)
  pub ports : plan.ports ≡ shown ++ first_pins parts (length rams)
  pub outer : (k : ℕ) (pad : Pad) → At shown k pad → pad.pio < 2
  pub outputs : (j n : ℕ) (port : DesignPad) → j < length rams → 16 ≤ n → n < 74 → At plan.design.pads (length shown + 74 * j + n) port → port.pin_type ≡ 25
  pub started : (ram : Setup × Kept) → Has rams ram → ram.1 ≡ start ram.1.words

-- the bits have these block RAMs in use, settled and filled as it says, and no others
pub record HoldsRams (parts : Parts) (rams : List (Setup × Kept)) (k : Configuration) : Type 0 where
  pub settled : AreRamsSet parts rams (bits_of k)
  pub contents : k.contents ≡ site_contents (sites parts) rams

-- what so many first ports of a circuit show that block RAMs close, whose ports stand behind them
abbrev pub closed_shows : (State → List Bool → State × List Drive) → ℕ → State → List (Setup × Kept) → List (List Bool) → List (List Drive)
closed_shows step first begin rams levels =
    map (take first) (machine_shows (closed step (joined_levels first) (λ held drives. after_all drives first held)) (begin, rams) levels)

-- the circuit shows what is seen at all ports' pads of the open chip, whatever the levels of these pads and of the pins of the block RAMs
abbrev pub ShowsAsOpen : Parts → Plan → ℕ → Configuration → List Pad → (State → List Bool → State × List Drive) → State → Type 0
ShowsAsOpen parts plan rams k bonded step begin =
    (steps : List (List Bool))
    → map (seen plan.ports plan.design.pads) (bits_show parts (bits_of k) k.extras (bonded ++ first_pins parts rams) plan.ports steps)
    ≡ machine_shows step begin (map (port_levels (bonded ++ first_pins parts rams) plan.ports) steps)

-- then the closed chip shows what the closed circuit shows, for every list of levels of pads that are no pins of block RAMs
abbrev pub ClosedChipShowsTheSame : Parts → Type 0
ClosedChipShowsTheSame parts =
    (plan : Plan) (shown bonded : List Pad) (rams : List (Setup × Kept)) (k : Configuration) (step : State → List Bool → State × List Drive) (begin : State)
    → IsClosedPlan parts plan shown rams → HoldsRams parts rams k → ((i : ℕ) (pad : Pad) → At bonded i pad → pad.pio < 2)
    → ShowsAsOpen parts plan (length rams) k bonded step begin
    → (steps : List (List Bool)) → closed_bits_show parts k bonded shown steps ≡ closed_shows step (length shown) begin rams (map (port_levels bonded shown) steps)

-- a pad that the open chip does not drive, whatever the levels, the closed chip does not drive
abbrev pub ClosedChipIsOffElsewhere : Type 0
ClosedChipIsOffElsewhere =
    (parts : Parts) (k : Configuration) (pad : Pad)
    → ((bonded : List Pad) (steps : List (List Bool)) → bits_show parts (bits_of k) k.extras bonded (pad ∷ []) steps ≡ replicate (length steps) (Off ∷ []))
    → (bonded : List Pad) (steps : List (List Bool)) → closed_bits_show parts k bonded (pad ∷ []) steps ≡ replicate (length steps) (Off ∷ [])
