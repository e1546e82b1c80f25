-- The origins of signals where carries are added: each old signal keeps its own.
use Rattle.std.proofs.Common.{◌≡◌, ℕ, ◌+◌, ◌<◌, false, Option, List, [], length, refl, ap, sym, ◌∙◌, arith, length-append}
use Rattle.std.specs.Prelude.{unwrap_or}
use Rattle.std.specs.Option.{option_map_or}
use Rattle.ice_base_values.specs.System.{filled_inputs, present}
use Rattle.ice_net.specs.declared.driver.SignalDriver.{SignalDriver}
use Rattle.ice_net.specs.declared.driver.SignalDriver.TheVariants.{Nothing, Pad, Output}
use Rattle.ice_net.specs.NetlistData.{NetlistData}
use Rattle.ice_net.specs.Formed.{IsFormed}
use Rattle.ice_net.specs.Drivers.{driver_of}
use Rattle.ice_cells.specs.declared.origin.Origin.{Origin}
use Rattle.ice_cells.specs.declared.origin.Origin.TheVariants.{Fixed}
use Rattle.ice_cells.specs.Origins.{cell_aliases, aliases, cell_origin, origin_made, origin_system, origin, origins}
use Rattle.ice_pack_laws.proofs.Settled.{origin_settled, settled_alike}
use Rattle.ice_carry_tails.proofs.Added.{Ins}
use Rattle.ice_check.proofs.OldSignals.{IsThere, driver_there}
use Rattle.ice_carry_tails.proofs.NewDrivers.{grown, driver_old, cell_kept}

module _ (n : NetlistData) (names : List (List ℕ)) (lists : List Ins) (formed : IsFormed n) where
  abbrev count : ℕ
  count = length n.names

  abbrev new : NetlistData
  new = grown n names lists

  same_aliases : (d : SignalDriver) → IsThere n d → aliases new d ≡ aliases n d
  same_aliases Nothing there = refl
  same_aliases (Pad k) there = refl
  same_aliases (Output i) (cell, at) =
      ap (λ o. option_map_or cell_aliases o []) (cell_kept n names lists i cell at) ∙ sym (ap (λ o. option_map_or cell_aliases o []) at)

  same_made : (d : SignalDriver) → IsThere n d → (found : List Origin) → origin_made new d found ≡ origin_made n d found
  same_made Nothing there found = refl
  same_made (Pad k) there found = refl
  same_made (Output i) (cell, at) found =
      ap (λ o. option_map_or (cell_origin i found) o (Fixed false)) (cell_kept n names lists i cell at) ∙ sym (ap (λ o. option_map_or (cell_origin i found) o (Fixed false)) at)

  same_depends : (s : ℕ) → s < count → (origin_system new).depends s ≡ (origin_system n).depends s
  same_depends s lt = ap (λ d. present (aliases new d)) (driver_old n names lists s lt) ∙ ap present (same_aliases (driver_of n s) (driver_there n s))

  same_local : (s : ℕ) (xs : List Origin) → s < count → (origin_system new).local s xs ≡ (origin_system n).local s xs
  same_local s xs lt =
      ap (λ d. origin_made new d (filled_inputs (Fixed false) (aliases new d) xs)) (driver_old n names lists s lt)
      ∙ ap (λ (rs : List (Option ℕ)). origin_made new (driver_of n s) (filled_inputs (Fixed false) rs xs)) (same_aliases (driver_of n s) (driver_there n s))
      ∙ same_made (driver_of n s) (driver_there n s) (filled_inputs (Fixed false) (aliases n (driver_of n s)) xs)

  -- an old signal keeps its origin
  pub origin_old : (s : ℕ) → s < count → origin new s ≡ origin n s
  origin_old s lt =
      let long = length-append n.names names in
      ap (λ o. unwrap_or o (Fixed false)) (settled_alike n new formed same_depends same_local (length new.names + 1) s lt ∙ origin_settled n formed (length new.names + 1) s (omega (arith, long)) lt)
