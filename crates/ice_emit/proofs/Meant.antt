-- What the written bits mean, from the laws of which each says a part.
use Rattle.std.proofs.Common.{◌≡◌, ℕ, ◌≤◌, Bool, List, length, sym, subst}
use Rattle.std.proofs.Math.Path.{fun_ext}
use Rattle.ice_base.specs.declared.bit.BitAt.{BitAt}
use Rattle.ice_base.specs.declared.number.TileAt.{TileAt}
use Rattle.ice_chip.specs.Database.{Parts, PackageRows}
use Rattle.ice_bits.specs.Configuration.{Bits, Configuration, bits_of}
use Rattle.ice_decode.specs.Faults.{HasNoLoop}
use Rattle.ice_decode.specs.declared.driver.Switch.{Switch}
use Rattle.ice_graph.specs.Leading.{Route}
use Rattle.ice_ram.specs.Ram.{Kept}
use Rattle.ice_ram.specs.declared.setup.Setup.{Setup}
use Rattle.ice_place_defs.specs.Plan.{Plan}
use Rattle.ice_emit_meaning_laws.specs.Feeds.{FaultsAreRings, IsRingless}
use Rattle.ice_emit_set_laws.specs.SetLaws.{SetsDesigns, SetsNoGroups, design_bits}
use Rattle.ice_emit_rows_laws.specs.Wanted.{AreWanted, AreNoGroups, IsWired, set_bits}
use Rattle.ice_emit_defs.specs.Arrivals.{Held}
use Rattle.ice_emit_defs.specs.Led.{AreLed}
use Rattle.ice_emit_defs.specs.Rams.{AreFormed}
use Rattle.ice_emit_defs.specs.Realised.{Realises}
use Rattle.ice_emit_defs.specs.Routed.{AreTrees, IsPlaced}
use Rattle.ice_emit_defs.specs.Set.{AreSet}
use Rattle.ice_emit_defs.specs.Written.{held_by, wanted_rows, written_bits, plan_extras, IsWritten}

-- what each law says of the chip
abbrev pub Leads : Parts → Type 0
Leads parts =
    (rows : PackageRows) (plan : Plan) (pullups : List Bool) (routes : List Route) → IsPlaced parts rows plan pullups → AreTrees parts plan routes → AreLed parts plan (wanted_rows parts plan routes) (held_by parts plan routes)

abbrev pub Drives : Parts → Type 0
Drives parts = (wanted : List Switch) (more : Bits) → AreWanted parts wanted → AreNoGroups parts more → IsWired parts (set_bits parts wanted more) wanted

abbrev pub Means : Parts → Type 0
Means parts =
    (rows : PackageRows) (plan : Plan) (pullups : List Bool) (rams : List (Setup × Kept)) (wanted : List Switch) (held : Held) (bits : Bits) (extras : List (ℕ × ℕ × ℕ)) → extras ≡ plan_extras parts plan → HasNoLoop parts bits extras
    → (placed : IsPlaced parts rows plan pullups) → placed.rams ≤ length rams → AreLed parts plan wanted held → AreSet parts plan rams wanted held bits → IsWired parts bits wanted → Realises parts plan rams wanted bits extras

abbrev pub Unloops : Parts → Type 0
Unloops parts =
    (rows : PackageRows) (plan : Plan) (pullups : List Bool) (rams : List (Setup × Kept)) (wanted : List Switch) (held : Held) (bits : Bits) (extras : List (ℕ × ℕ × ℕ)) → extras ≡ plan_extras parts plan → IsRingless parts
    → (placed : IsPlaced parts rows plan pullups) → placed.rams ≤ length rams → AreLed parts plan wanted held → AreSet parts plan rams wanted held bits → IsWired parts bits wanted → HasNoLoop parts bits extras

abbrev pub Rings : Parts → Type 0
Rings parts =
    (rows : PackageRows) (plan : Plan) (pullups : List Bool) (rams : List (Setup × Kept)) (wanted : List Switch) (held : Held) (bits : Bits) (extras : List (ℕ × ℕ × ℕ)) → extras ≡ plan_extras parts plan
    → (placed : IsPlaced parts rows plan pullups) → placed.rams ≤ length rams → AreLed parts plan wanted held → AreSet parts plan rams wanted held bits → IsWired parts bits wanted → FaultsAreRings parts bits extras

module _ (parts : Parts) (rows : PackageRows) (plan : Plan) (pullups : List Bool) (rams : List (Setup × Kept)) (routes : List Route) (k : Configuration) (leads : Leads parts) (apart : SetsNoGroups parts) (sets : SetsDesigns parts) (drives : Drives parts)
    (formed : AreFormed rams) (placed : IsPlaced parts rows plan pullups) (few : placed.rams ≤ length rams) (trees : AreTrees parts plan routes) (written : IsWritten parts plan pullups rams routes k) where
  abbrev wanted : List Switch
  wanted = wanted_rows parts plan routes

  abbrev held : Held
  held = held_by parts plan routes

  abbrev own : Bits
  own = design_bits parts plan pullups rams held wanted

  led : AreLed parts plan wanted held
  led = leads rows plan pullups routes placed trees

  same : written_bits parts plan pullups rams routes ≡ bits_of k
  same = fun_ext (λ (t : TileAt). fun_ext (λ (b : BitAt). sym (written.bits t b)))

  set : AreSet parts plan rams wanted held (set_bits parts wanted own)
  set = sets rows plan pullups rams held wanted placed formed led.rows

  wired : IsWired parts (set_bits parts wanted own) wanted
  wired = drives wanted own led.rows (apart rows plan pullups rams held wanted placed)

  pub are_wired : IsWired parts (bits_of k) wanted
  are_wired = subst (λ (bits : Bits). IsWired parts bits wanted) same wired

  pub are_meant : Means parts → HasNoLoop parts (bits_of k) k.extras → Realises parts plan rams wanted (bits_of k) k.extras
  are_meant means loopless =
      subst (λ (bits : Bits). Realises parts plan rams wanted bits k.extras) same
      (means rows plan pullups rams wanted held (set_bits parts wanted own) k.extras written.extras (subst (λ (bits : Bits). HasNoLoop parts bits k.extras) (sym same) loopless) placed few led set wired)

  pub have_no_loop : Unloops parts → IsRingless parts → HasNoLoop parts (bits_of k) k.extras
  have_no_loop unloops ringless =
      subst (λ (bits : Bits). HasNoLoop parts bits k.extras) same (unloops rows plan pullups rams wanted held (set_bits parts wanted own) k.extras written.extras ringless placed few led set wired)

  pub have_ring : Rings parts → FaultsAreRings parts (bits_of k) k.extras
  have_ring rings =
      subst (λ (bits : Bits). FaultsAreRings parts bits k.extras) same (rings rows plan pullups rams wanted held (set_bits parts wanted own) k.extras written.extras placed few led set wired)
