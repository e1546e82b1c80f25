-- The values of signals where clocks have buffers: each old signal keeps its value, and each new one has that of its clock.
use Rattle.std.proofs.Common.{◌≡◌, ℕ, suc, ◌+◌, ◌<◌, ◌≤◌, Bool, false, Option, None, Some, List, [], ◌∷◌, length, map, refl, ap, sym, ◌∙◌, arith}
use Rattle.std.specs.Prelude.{option_map, slice_index_or, unwrap_or}
use Rattle.std.specs.Option.{option_map_or}
use Rattle.ice_base.specs.Lists.{all_known}
use Rattle.ice_base_values.specs.Order.{At}
use Rattle.ice_base_values.specs.System.{System, value}
use Rattle.ice_base_values.specs.Simulations.{try_reading}
use Rattle.ice_base_values.proofs.Gaps.{value_gapped}
use Rattle.ice_base_values.proofs.Members.{At_within}
use Rattle.ice_net.specs.declared.cell.Cell.{Cell}
use Rattle.ice_net.specs.NetlistData.{NetlistData}
use Rattle.ice_net.specs.Formed.{IsFormed}
use Rattle.ice_net.specs.Drivers.{pin_of, driver_of}
use Rattle.ice_net.specs.Meaning.{cell_reads, makes_by, pad_level, reads, makes, system_of, signal_value}
use Rattle.ice_net_additions.proofs.GrownValues.{AreKept, value_after, value_same}
use Rattle.ice_check_promote.specs.Promoted.{with_buffers}
use Rattle.ice_check_promote.proofs.Buffers.{growth}
use Rattle.ice_check_promote.proofs.NewDrivers.{length_names, driver_new, cell_added}

-- ---- values with buffers
-- what the new signals of a netlist have for values, where v has the values of the old ones
pub record Follows (n : NetlistData) (clocks : List ℕ) (v after : ℕ → Bool) : Type 0 where
  pub old : (s : ℕ) → s < length n.names → after s ≡ v s
  pub new : (j clock : ℕ) → At clocks j clock → after (length n.names + j) ≡ v clock

module _ (n : NetlistData) (clocks : List ℕ) (formed : IsFormed n) (below : (j clock : ℕ) → At clocks j clock → clock < length n.names)
    (levels kept after : List Bool) (same : AreKept (growth n clocks) kept after) where
  abbrev new : NetlistData
  new = with_buffers n clocks

  abbrev old_system : System ℕ Bool
  old_system = system_of n levels kept

  abbrev new_system : System ℕ Bool
  new_system = system_of new levels after

  more : (j clock : ℕ) → At clocks j clock → length n.names + 1 ≤ length new.names
  more j clock at = let long = length_names n clocks in let lt = At_within clocks j clock at in omega (arith, long, lt)

  through : (o : Option Bool) → option_map (λ xs. slice_index_or xs 0 false) (all_known (o ∷ [])) ≡ o
  through None = refl
  through (Some x) = refl

  new_value : (j clock : ℕ) → At clocks j clock → value new_system (suc (length new.names)) (length n.names + j) ≡ value old_system (length n.names + 1) clock
  new_value j clock at =
      value_gapped (λ s. reads new (driver_of new s)) false (λ s. makes new levels after (driver_of new s)) (length new.names) (length n.names + j)
      ∙ ap (λ d. option_map (makes new levels after d) (all_known (map (try_reading false (λ q. value new_system (length new.names) q)) (reads new d)))) (driver_new n clocks formed j clock at)
      ∙ ap (λ (o : Option Cell). option_map (λ xs. option_map_or (λ (cell : Cell). makes_by cell.kind (slice_index_or after (length n.cells + j) false) (pad_level n.ports levels (pin_of cell)) xs) o false)
      (all_known (map (try_reading false (λ q. value new_system (length new.names) q)) (option_map_or (λ (cell : Cell). cell_reads cell) o []))))
      (cell_added n clocks j clock at)
      ∙ through (value new_system (length new.names) clock)
      ∙ value_after (growth n clocks) formed levels kept after same (length new.names) clock (more j clock at) (below j clock at)

  one_more : (k : ℕ) → suc k ≡ k + 1
  one_more k = omega arith

  pub follows : Follows n clocks (signal_value n levels kept) (signal_value new levels after)
  follows = record {
    old = λ s lt. value_same (growth n clocks) formed levels kept after same s lt;
    new = λ j clock at. ap (λ (o : Option Bool). unwrap_or o false)
        (ap (λ k. value new_system k (length n.names + j)) (sym (one_more (length new.names))) ∙ new_value j clock at);
  }
