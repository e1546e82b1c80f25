-- Each signal of a netlist that grows keeps its value.
use Rattle.std.proofs.Common.{◌≡◌, ℕ, ◌+◌, ◌<◌, ◌≤◌, Bool, false, Option, List, length, ap, sym, ◌∙◌, arith}
use Rattle.std.specs.Prelude.{slice_index_or, unwrap_or}
use Rattle.std.proofs.lemmas.List.{map-id}
use Rattle.ice_base_values.specs.System.{filled_inputs, System, value}
use Rattle.ice_base_values.proofs.Values.{value_along}
use Rattle.ice_net.specs.NetlistData.{NetlistData}
use Rattle.ice_net.specs.Formed.{IsFormed}
use Rattle.ice_net.specs.Drivers.{driver_of}
use Rattle.ice_net.specs.Meaning.{reads, makes, depends_on, system_of, signal_value}
use Rattle.ice_check.proofs.OldSignals.{driver_there, depends_below}
use Rattle.ice_check.proofs.Settled.{value_settled}
use Rattle.ice_net_additions.proofs.Growths.{Growth, grown, length_names, driver_old, reads_same, makes_same, depends_old}

-- cells keep these at their old places
abbrev pub AreKept : Growth → List Bool → List Bool → Type 0
AreKept g kept after = (i : ℕ) → i < length g.before.cells → slice_index_or after i false ≡ slice_index_or kept i false

module _ (g : Growth) (formed : IsFormed g.before) (levels kept after : List Bool) (same : AreKept g kept after) where
  abbrev n : NetlistData
  n = g.before

  abbrev new : NetlistData
  new = grown g

  abbrev old_system : System ℕ Bool
  old_system = system_of g.before levels kept

  abbrev new_system : System ℕ Bool
  new_system = system_of (grown g) levels after

  -- what an old signal makes
  local_same : (s : ℕ) (xs : List Bool) → s < length n.names → new_system.local s xs ≡ old_system.local s xs
  local_same s xs lt =
      ap (λ d. makes new levels after d (filled_inputs false (reads new d) xs)) (driver_old g s lt)
      ∙ ap (λ (rs : List (Option ℕ)). makes new levels after (driver_of n s) (filled_inputs false rs xs)) (reads_same g (driver_of n s) (driver_there n s))
      ∙ makes_same g levels kept after same (driver_of n s) (driver_there n s) (filled_inputs false (reads n (driver_of n s)) xs)

  steps_same : (f s : ℕ) → s < length n.names → value new_system f s ≡ value old_system f s
  steps_same f s lt =
      value_along old_system new_system (λ s. s) (λ s. s < length n.names)
      (λ p c q has. depends_below n formed p q has)
      (λ p c. depends_old g p c ∙ sym (map-id (depends_on n p)))
      (λ p xs c. local_same p xs c)
      f s lt

  -- after enough steps it has its value
  pub value_after : (f s : ℕ) → length n.names + 1 ≤ f → s < length n.names → value new_system f s ≡ value old_system (length n.names + 1) s
  value_after f s enough lt = steps_same f s lt ∙ value_settled n formed levels kept f s enough lt

  pub value_same : (s : ℕ) → s < length n.names → signal_value new levels after s ≡ signal_value n levels kept s
  value_same s lt = ap (λ (o : Option Bool). unwrap_or o false) (value_after (length new.names + 1) s enough lt)
    where
      enough : length n.names + 1 ≤ length new.names + 1
      enough = let long = length_names g in omega (arith, long)
