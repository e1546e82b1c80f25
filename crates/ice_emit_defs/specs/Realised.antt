-- What the bits of a placed and routed design mean.
use Rattle.std.specs.Prelude.{◌≡◌, ℕ, ◌==◌, ◌||◌, not, nat_lt, if◌then◌else◌, Bool, true, false, List, [], ◌∷◌, length, map, replicate}
use Rattle.ice_base_values.specs.Order.{At, Has}
use Rattle.ice_net.specs.declared.driver.Drive.{Drive}
use Rattle.ice_net.specs.declared.driver.Drive.TheVariants.{Off}
use Rattle.ice_chip.specs.Database.{Parts}
use Rattle.ice_chip.specs.Names.{input_enable_function}
use Rattle.ice_chip.specs.Indices.{enables_of}
use Rattle.ice_chip.specs.declared.rows.Pad.{Pad}
use Rattle.ice_bits.specs.Configuration.{Bits}
use Rattle.ice_bits.specs.Settings.{set_at}
use Rattle.ice_decode.specs.declared.driver.Switch.{Switch}
use Rattle.ice_decode.specs.Meaning.{bits_show}
use Rattle.ice_decode.specs.Pads.{pads, level_of}
use Rattle.ice_decode.specs.Refusals.{IsFaultless}
use Rattle.ice_ram.specs.Ram.{Kept}
use Rattle.ice_ram.specs.declared.setup.Setup.{Setup}
use Rattle.ice_cells.specs.declared.design.DesignPad.{DesignPad}
use Rattle.ice_cells.specs.Meaning as design
use Rattle.ice_emit_rows_laws.specs.Wanted.{IsWired}
use Rattle.ice_place_defs.specs.Plan.{Plan}
use Rattle.ice_emit_defs.specs.Rams.{AreRamsSet}

-- the levels of the ports' pads in a step, whose levels are those of the pads of the package in order
abbrev pub port_levels : List Pad → List Pad → List Bool → List Bool
port_levels bonded ports levels = map (level_of bonded levels) ports

-- ---- what is seen at ports' pads
-- Nothing is seen at a pin of a block RAM where the port is an input, which is of type 1: what its wire has there is what the RAM reads out.
abbrev pub seen_at : Pad → DesignPad → Drive → Drive
seen_at pad port drive = if nat_lt pad.pio 2 || not (port.pin_type == 1) then drive else Off

-- what is seen of the drives at these pads of these ports, one each
abbrev pub seen : List Pad → List DesignPad → List Drive → List Drive
seen (pad ∷ ports) (port ∷ pads) (drive ∷ drives) = seen_at pad port drive ∷ seen ports pads drives
seen ports pads drives = drives

-- The bits, with these extra bits, have no fault. Each wanted row drives its wire, and no other wire has a driver. For every list of levels of
-- pads, `bonded`, the ports' pads show step by step what the design shows, and every other pad is off. An input is disabled only where no
-- pad that it enables is read. The block RAMs of the netlist are in use, settled as it says, and no others.
pub record Realises (parts : Parts) (plan : Plan) (rams : List (Setup × Kept)) (wanted : List Switch) (bits : Bits) (extras : List (ℕ × ℕ × ℕ)) : Type 0 where
  pub faultless : IsFaultless parts bits extras
  pub wired : IsWired parts bits wanted
  pub shows : (bonded : List Pad) (steps : List (List Bool))
      → map (seen plan.ports plan.design.pads) (bits_show parts bits extras bonded plan.ports steps) ≡ design.shows plan.design (map (port_levels bonded plan.ports) steps)
  pub elsewhere : (bonded : List Pad) (steps : List (List Bool)) (pad : Pad) → Has (pads parts) pad → (Has plan.ports pad → ⊥)
      → bits_show parts bits extras bonded (pad ∷ []) steps ≡ replicate (length steps) (Off ∷ [])
  pub disabled : (row : Pad × Pad) → Has (enables_of parts) row → set_at parts bits row.1.tile (input_enable_function row.1.pio) 0 ≡ true
      → (k : ℕ) (port : DesignPad) → At plan.ports k row.0 → At plan.design.pads k port → port.reads ≡ false
  pub rams_set : AreRamsSet parts rams bits
