-- The circuit in the bits of a chip is the netlist.
use Rattle.std.specs.Prelude.{◌≡◌, ℕ, Bool, List, [], ◌∷◌, length, map, replicate}
use Rattle.ice_base_values.specs.Order.{Has}
use Rattle.ice_net.specs.NetlistData.{NetlistData}
use Rattle.ice_net.specs.Meaning as net
use Rattle.ice_net.specs.declared.driver.Drive.TheVariants.{Off}
use Rattle.ice_chip.specs.Database.{Parts}
use Rattle.ice_chip.specs.declared.rows.Pad.{Pad}
use Rattle.ice_bits.specs.Configuration.{Bits, Configuration, bits_of}
use Rattle.ice_bits.specs.Grids.{IsOf}
use Rattle.ice_decode.specs.Pads.{pads}
use Rattle.ice_decode.specs.Meaning.{bits_show}
use Rattle.ice_decode.specs.Memories.{IsPlain}
use Rattle.ice_emit_defs.specs.Realised.{port_levels}

-- For every list of levels of the pads of the package, `bonded`, the chip drives step by step at the ports' pads exactly what the
-- netlist drives at its ports, and no other pad. `ports` has each port's pad.
pub record ShowsSame (n : NetlistData) (ports : List Pad) (parts : Parts) (bits : Bits) (extras : List (ℕ × ℕ × ℕ)) (bonded : List Pad) : Type 0 where
  pub pad_each : length ports ≡ length n.ports
  pub at_ports : (steps : List (List Bool)) → bits_show parts bits extras bonded ports steps ≡ net.shows n (map (port_levels bonded ports) steps)
  pub elsewhere : (steps : List (List Bool)) (pad : Pad) → Has (pads parts) pad → (Has ports pad → ⊥)
      → bits_show parts bits extras bonded (pad ∷ []) steps ≡ replicate (length steps) (Off ∷ [])

-- The bits are a circuit of the chip without a fault, in which no row that is on reads an output of a memory, and which shows what the netlist shows, whichever pads the package has.
pub record RealisesNetlist (n : NetlistData) (ports : List Pad) (parts : Parts) (k : Configuration) : Type 0 where
  pub form : IsOf parts k
  pub plain : IsPlain parts (bits_of k) k.extras
  pub shows_same : (bonded : List Pad) → ShowsSame n ports parts (bits_of k) k.extras bonded
