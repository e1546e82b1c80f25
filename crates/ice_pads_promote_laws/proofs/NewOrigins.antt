-- The origins of signals where clocks have buffers: each old signal keeps its own, and each new one has that of its buffer.
use Rattle.std.proofs.Common.{◌≡◌, ℕ, suc, ◌+◌, ◌<◌, false, cond, Option, Some, List, [], length, map, refl, ap, sym, ◌∙◌, arith}
use Rattle.std.specs.Prelude.{unwrap_or, option_map}
use Rattle.std.specs.Option.{option_map_or}
use Rattle.ice_base.specs.Lists.{all_known}
use Rattle.ice_base.specs.declared.number.SignalNo.{SignalNo}
use Rattle.ice_base_values.specs.Order.{At}
use Rattle.ice_base_values.specs.System.{value, filled_inputs, present}
use Rattle.ice_net.specs.declared.kind.CellKind.{CellKind}
use Rattle.ice_net.specs.declared.kind.CellKind.TheVariants.{Lut, Cover, Carry, Flop, PadCell, Global}
use Rattle.ice_net.specs.declared.driver.SignalDriver.{SignalDriver}
use Rattle.ice_net.specs.declared.driver.SignalDriver.TheVariants.{Nothing, Pad, Output}
use Rattle.ice_net.specs.NetlistData.{NetlistData}
use Rattle.ice_net.specs.Formed.{IsFormed}
use Rattle.ice_net.specs.Drivers.{numbers, driver_of}
use Rattle.ice_cells.specs.declared.origin.Origin.{Origin}
use Rattle.ice_cells.specs.declared.origin.Origin.TheVariants.{Fixed, Made}
use Rattle.ice_cells.specs.Origins.{is_alias, cell_aliases, aliases, cell_origin, origin_made, origin_system, origin, origins}
use Rattle.ice_check_promote.specs.Promoted.{buffered_ins, with_buffers}
use Rattle.ice_check.proofs.OldSignals.{IsThere, driver_there}
use Rattle.ice_check_promote.proofs.NewDrivers.{length_names, driver_old, driver_new, cell_kept, cell_added}
use Rattle.ice_pack_laws.proofs.Settled.{origin_settled, settled_alike}

module _ (n : NetlistData) (clocks : List ℕ) (formed : IsFormed n) where
  abbrev count : ℕ
  count = length n.names

  abbrev new : NetlistData
  new = with_buffers n clocks

  kept_aliases : (kind : CellKind) (ins : List (Option SignalNo)) → cond (is_alias kind) (numbers (buffered_ins count clocks kind ins)) [] ≡ cond (is_alias kind) (numbers ins) []
  kept_aliases (Lut t) ins = refl
  kept_aliases (Cover t width) ins = refl
  kept_aliases Carry ins = refl
  kept_aliases (Flop falling enable reset) ins = refl
  kept_aliases (PadCell pin_type pullup) ins = refl
  kept_aliases Global ins = refl

  same_aliases : (d : SignalDriver) → IsThere n d → aliases new d ≡ aliases n d
  same_aliases Nothing there = refl
  same_aliases (Pad k) there = refl
  same_aliases (Output i) (cell, at) =
      ap (λ o. option_map_or cell_aliases o []) (cell_kept n clocks i cell at) ∙ kept_aliases cell.kind cell.ins ∙ sym (ap (λ o. option_map_or cell_aliases o []) at)

  same_made : (d : SignalDriver) → IsThere n d → (found : List Origin) → origin_made new d found ≡ origin_made n d found
  same_made Nothing there found = refl
  same_made (Pad k) there found = refl
  same_made (Output i) (cell, at) found =
      ap (λ o. option_map_or (cell_origin i found) o (Fixed false)) (cell_kept n clocks i cell at) ∙ sym (ap (λ o. option_map_or (cell_origin i found) o (Fixed false)) at)

  same_depends : (s : ℕ) → s < count → (origin_system new).depends s ≡ (origin_system n).depends s
  same_depends s lt = ap (λ d. present (aliases new d)) (driver_old n clocks s lt) ∙ ap present (same_aliases (driver_of n s) (driver_there n s))

  same_local : (s : ℕ) (xs : List Origin) → s < count → (origin_system new).local s xs ≡ (origin_system n).local s xs
  same_local s xs lt =
      ap (λ d. origin_made new d (filled_inputs (Fixed false) (aliases new d) xs)) (driver_old n clocks s lt)
      ∙ ap (λ (rs : List (Option ℕ)). origin_made new (driver_of n s) (filled_inputs (Fixed false) rs xs)) (same_aliases (driver_of n s) (driver_there n s))
      ∙ same_made (driver_of n s) (driver_there n s) (filled_inputs (Fixed false) (aliases n (driver_of n s)) xs)

  -- an old signal keeps its origin
  pub origin_old : (s : ℕ) → s < count → origin new s ≡ origin n s
  origin_old s lt =
      let long = length_names n clocks in
      ap (λ o. unwrap_or o (Fixed false)) (settled_alike n new formed same_depends same_local (length new.names + 1) s lt ∙ origin_settled n formed (length new.names + 1) s (omega (arith, long)) lt)

  -- the signal behind a buffer is made by it
  one_more : (k : ℕ) → k + 1 ≡ suc k
  one_more k = omega arith

  buffer_depends : (j clock : ℕ) → At clocks j clock → (origin_system new).depends (count + j) ≡ []
  buffer_depends j clock at =
      ap (λ d. present (aliases new d)) (driver_new n clocks formed j clock at) ∙ ap (λ o. present (option_map_or cell_aliases o [])) (cell_added n clocks j clock at)

  buffer_local : (j clock : ℕ) (xs : List Origin) → At clocks j clock → (origin_system new).local (count + j) xs ≡ Made (length n.cells + j)
  buffer_local j clock xs at =
      ap (λ d. origin_made new d (filled_inputs (Fixed false) (aliases new d) xs)) (driver_new n clocks formed j clock at)
      ∙ ap (λ o. option_map_or (cell_origin (length n.cells + j) (filled_inputs (Fixed false) (aliases new (Output (length n.cells + j))) xs)) o (Fixed false)) (cell_added n clocks j clock at)

  pub origin_new : (j clock : ℕ) → At clocks j clock → origin new (count + j) ≡ Made (length n.cells + j)
  origin_new j clock at =
      ap (λ o. unwrap_or o (Fixed false))
      (ap (λ k. value (origin_system new) k (count + j)) (one_more (length new.names))
      ∙ ap (λ (qs : List ℕ). option_map ((origin_system new).local (count + j)) (all_known (map (value (origin_system new) (length new.names)) qs))) (buffer_depends j clock at)
      ∙ ap Some (buffer_local j clock [] at))
