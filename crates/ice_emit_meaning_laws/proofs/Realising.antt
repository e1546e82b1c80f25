-- The bits of a placed and routed design realise it.
use Rattle.std.proofs.Common.{◌≡◌, ◌≤◌, ℕ, Bool, List, length}
use Rattle.ice_chip.specs.Database.{Parts, PackageRows}
use Rattle.ice_chip.specs.IsRead.{IsRead}
use Rattle.ice_chip_laws.specs.Laws.{IsLawful}
use Rattle.ice_bits.specs.Configuration.{Bits}
use Rattle.ice_decode.specs.Faults.{HasNoLoop}
use Rattle.ice_decode.specs.declared.driver.Switch.{Switch}
use Rattle.ice_ram.specs.Ram.{Kept}
use Rattle.ice_ram.specs.declared.setup.Setup.{Setup}
use Rattle.ice_cluster.specs.Chunks.{RunsStandInChunks}
use Rattle.ice_cluster.specs.Slots.{CellsStandInOneSlot, FlopsAreDrivenAsTheirCluster}
use Rattle.ice_emit_rows_laws.specs.Wanted.{IsWired}
use Rattle.ice_place_defs.specs.Plan.{Plan, listed}
use Rattle.ice_emit_defs.specs.Arrivals.{Held}
use Rattle.ice_emit_defs.specs.Led.{AreLed}
use Rattle.ice_emit_defs.specs.Realised.{Realises}
use Rattle.ice_emit_defs.specs.Routed.{IsPlaced}
use Rattle.ice_emit_defs.specs.Set.{AreSet}
use Rattle.ice_emit_defs.specs.Written.{plan_extras}
use Rattle.ice_emit_meaning_laws.specs.Feeds.{FaultsAreRings, IsRingless}
use Rattle.ice_emit_meaning_laws.proofs.Premises.{Premises}
use Rattle.ice_emit_meaning_laws.proofs.Faultless.{faultless, faulty}
use Rattle.ice_emit_meaning_laws.proofs.Rings.{ringless_loopless}
use Rattle.ice_emit_meaning_laws.proofs.Steps.{shows_same, off_elsewhere}

realised : (g : Premises) → HasNoLoop g.parts g.bits g.extras → Realises g.parts g.plan g.rams g.wanted g.bits g.extras
realised g loopless = record {
  faultless = faultless g loopless;
  wired = g.wired;
  shows = λ bonded steps. shows_same g loopless bonded steps;
  elsewhere = λ bonded steps pad there none. off_elsewhere g loopless bonded steps pad there none;
  disabled = g.are_set.disabled;
  rams_set = g.are_set.rams_set;
}

module _ (parts : Parts) (read : IsRead parts) (lawful : IsLawful parts) (slots : CellsStandInOneSlot) (driven : FlopsAreDrivenAsTheirCluster) (chunks : RunsStandInChunks) (bonded : PackageRows) (plan : Plan) (pullups : List Bool)
    (rams : List (Setup × Kept)) (wanted : List Switch) (held : Held) (bits : Bits) (extras : List (ℕ × ℕ × ℕ)) (extras_are : extras ≡ plan_extras parts plan) where
  abbrev premises : (placed : IsPlaced parts bonded plan pullups) → placed.rams ≤ length rams → AreLed parts plan wanted held → AreSet parts plan rams wanted held bits → IsWired parts bits wanted → Premises
  premises placed enough led are_set wired =
      record {
        parts = parts;
        bonded = bonded;
        plan = plan;
        pullups = pullups;
        rams = rams;
        wanted = wanted;
        held = held;
        bits = bits;
        extras = extras;
        chip_read = read;
        lawful = lawful;
        placed = placed;
        enough = enough;
        led = led;
        are_set = are_set;
        wired = wired;
        extras_are = extras_are;
        slots = slots plan.design (listed plan) placed.formed placed.clusters;
        driven = driven plan.design (listed plan) placed.formed placed.clusters;
        chunks = chunks plan.design (listed plan) placed.formed placed.clusters;
      }

  pub realise : HasNoLoop parts bits extras → (placed : IsPlaced parts bonded plan pullups) → placed.rams ≤ length rams → AreLed parts plan wanted held → AreSet parts plan rams wanted held bits → IsWired parts bits wanted → Realises parts plan rams wanted bits extras
  realise loopless placed enough led are_set wired = realised (premises placed enough led are_set wired) loopless

  pub have_no_loop : IsRingless parts → (placed : IsPlaced parts bonded plan pullups) → placed.rams ≤ length rams → AreLed parts plan wanted held → AreSet parts plan rams wanted held bits → IsWired parts bits wanted → HasNoLoop parts bits extras
  have_no_loop ringless placed enough led are_set wired = ringless_loopless (premises placed enough led are_set wired) ringless

  pub have_ring : (placed : IsPlaced parts bonded plan pullups) → placed.rams ≤ length rams → AreLed parts plan wanted held → AreSet parts plan rams wanted held bits → IsWired parts bits wanted → FaultsAreRings parts bits extras
  have_ring placed enough led are_set wired = faulty (premises placed enough led are_set wired)
