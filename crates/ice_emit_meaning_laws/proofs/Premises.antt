-- What a law over the bits of a placed and routed design rests on, in one record.
use Rattle.std.specs.Prelude.{◌≡◌, ◌≤◌, ℕ, Bool, List, length}
use Rattle.ice_chip.specs.Database.{Parts, PackageRows}
use Rattle.ice_chip.specs.IsRead.{IsRead}
use Rattle.ice_chip_laws.specs.Laws.{IsLawful}
use Rattle.ice_bits.specs.Configuration.{Bits}
use Rattle.ice_decode.specs.declared.driver.Switch.{Switch}
use Rattle.ice_ram.specs.Ram.{Kept}
use Rattle.ice_ram.specs.declared.setup.Setup.{Setup}
use Rattle.ice_cluster.specs.Slots.{AreSlots, AreDriven}
use Rattle.ice_cluster.specs.Chunks.{AreChunks}
use Rattle.ice_emit_rows_laws.specs.Wanted.{IsWired}
use Rattle.ice_place_defs.specs.Plan.{Plan, listed}
use Rattle.ice_emit_defs.specs.Arrivals.{Held}
use Rattle.ice_emit_defs.specs.Led.{AreLed}
use Rattle.ice_emit_defs.specs.Routed.{IsPlaced}
use Rattle.ice_emit_defs.specs.Set.{AreSet}
use Rattle.ice_emit_defs.specs.Written.{plan_extras}

pub record Premises : Type 0 where
  pub parts : Parts
  pub bonded : PackageRows
  pub plan : Plan
  pub pullups : List Bool
  pub rams : List (Setup × Kept)
  pub wanted : List Switch
  pub held : Held
  pub bits : Bits
  pub extras : List (ℕ × ℕ × ℕ)
  -- the chip
  pub chip_read : IsRead parts
  pub lawful : IsLawful parts
  -- what is placed, led and set
  pub placed : IsPlaced parts bonded plan pullups
  pub enough : placed.rams ≤ length rams
  pub led : AreLed parts plan wanted held
  pub are_set : AreSet parts plan rams wanted held bits
  pub wired : IsWired parts bits wanted
  pub extras_are : extras ≡ plan_extras parts plan
  -- what stands in slots
  pub slots : AreSlots plan.design (listed plan)
  pub driven : AreDriven plan.design (listed plan)
  pub chunks : AreChunks plan.design plan.clusters
