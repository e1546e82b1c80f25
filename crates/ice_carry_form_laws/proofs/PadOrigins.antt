-- An origin that is a pad is that of a port of the netlist.
use Rattle.std.proofs.Common.{◌≡◌, ℕ, zero, suc, ◌+◌, ◌<◌, ◌≤◌, Bool, true, false, cond, Option, None, Some, List, [], ◌∷◌, length, map, option_map, refl, sym, ap, ◌∙◌, subst, arith, inl, inr}
use Rattle.std.specs.Prelude.{slice_get, slice_index_or, unwrap_or}
use Rattle.std.specs.Option.{option_map_or}
use Rattle.std.proofs.lemmas.Bool.{cases_lt}
use Rattle.std.proofs.lemmas.List.{get_or_past, length-map}
use Rattle.std.proofs.lemmas.Option.{same_Some}
use Rattle.ice_base.specs.Lists.{all_known}
use Rattle.ice_base.specs.declared.number.SignalNo.{SignalNo}
use Rattle.ice_base_values.specs.System.{value}
use Rattle.ice_base_values.specs.Simulations.{try_reading}
use Rattle.ice_base_values.proofs.Gaps.{value_gapped}
use Rattle.ice_net.specs.declared.cell.Cell.{Cell}
use Rattle.ice_net.specs.declared.driver.SignalDriver.{SignalDriver}
use Rattle.ice_net.specs.declared.driver.SignalDriver.TheVariants.{Nothing, Output}
use Rattle.ice_net.specs.declared.driver.SignalDriver.TheVariants as driver
use Rattle.ice_net.specs.NetlistData.{NetlistData}
use Rattle.ice_net.specs.Drivers.{place_of, pad_of, pad_signals, outputs, driver_from, driver_of}
use Rattle.ice_check.proofs.CellOrders.{place_within}
use Rattle.ice_cells.specs.declared.origin.Origin.{Origin}
use Rattle.ice_cells.specs.declared.origin.Origin.TheVariants.{Fixed, Pad, Made}
use Rattle.ice_cells.specs.Origins.{is_alias, constant_of, aliases, cell_origin, origin_made, origin_system, origin, origins, input_origin}
use Rattle.ice_cells.proofs.TableLaws.{length-table, get_or-table}

module _ (n : NetlistData) where
  -- where it is a pad, it is that of a port
  abbrev pub IsPortOf : Origin → Type 0
  IsPortOf o = (k : ℕ) → o ≡ Pad k → k < length n.ports

  fixed_is : (level : Bool) → IsPortOf (Fixed level)
  fixed_is level k e = cc e

  made_is : (j : ℕ) → IsPortOf (Made j)
  made_is j k e = cc e

  -- ---- drivers
  driver_pad : (o p : Option ℕ) (k : ℕ) → driver_from o p ≡ driver.Pad k → o ≡ Some k
  driver_pad None None k e = cc e
  driver_pad None (Some i) k e = cc e
  driver_pad (Some j) p k e = let same : j ≡ k = cc e in ap Some same

  driver_port : (s k : ℕ) → driver_of n s ≡ driver.Pad k → k < length n.ports
  driver_port s k e =
      let lt = place_within s (pad_signals n) k (driver_pad (place_of s (pad_signals n)) (place_of s (outputs n)) k e) in
      let long : length (pad_signals n) ≡ length n.ports = length-map n.ports (pad_of n.cells) in
      omega (arith, lt, long)

  -- ---- one step
  cell_step : (i : ℕ) (os : List Origin) → IsPortOf (slice_index_or os 0 (Fixed false)) → (alias : Bool) (constant : Option Bool)
      → IsPortOf (cond alias (slice_index_or os 0 (Fixed false)) (option_map_or (λ b. Fixed b) constant (Made i)))
  cell_step i os first true constant = first
  cell_step i os first false None = made_is i
  cell_step i os first false (Some level) = fixed_is level

  output_step : (i : ℕ) (os : List Origin) → IsPortOf (slice_index_or os 0 (Fixed false)) → (o : Option Cell) → IsPortOf (option_map_or (cell_origin i os) o (Fixed false))
  output_step i os first None = fixed_is false
  output_step i os first (Some cell) = cell_step i os first (is_alias cell.kind) (constant_of cell.kind)

  step : (d : SignalDriver) (os : List Origin) → ((k : ℕ) → d ≡ driver.Pad k → k < length n.ports) → IsPortOf (slice_index_or os 0 (Fixed false)) → IsPortOf (origin_made n d os)
  step Nothing os port first = fixed_is false
  step (driver.Pad j) os port first = λ k e. port k (let same : j ≡ k = cc e in ap driver.Pad same)
  step (Output i) os port first = output_step i os first (slice_get n.cells i)

  -- what the first input reads
  first_read : (w : ℕ → Option Origin) (x : Option ℕ) (y : Origin) → try_reading (Fixed false) w x ≡ Some y → ((q : ℕ) (o : Origin) → w q ≡ Some o → IsPortOf o) → IsPortOf y
  first_read w None y e lower = subst IsPortOf (same_Some (Fixed false) y e) (fixed_is false)
  first_read w (Some q) y e lower = lower q y e

  first_is : (w : ℕ → Option Origin) (inputs : List (Option ℕ)) (os : List Origin) → all_known (map (try_reading (Fixed false) w) inputs) ≡ Some os → ((q : ℕ) (o : Origin) → w q ≡ Some o → IsPortOf o)
      → IsPortOf (slice_index_or os 0 (Fixed false))
  first_is w [] os e lower = subst (λ (xs : List Origin). IsPortOf (slice_index_or xs 0 (Fixed false))) (let none : List Origin = [] in same_Some none os e) (fixed_is false)
  first_is w (x ∷ inputs) os e lower = by (try_reading (Fixed false) w x) refl (all_known (map (try_reading (Fixed false) w) inputs)) refl e
    where
      by : (o : Option Origin) → try_reading (Fixed false) w x ≡ o → (rest : Option (List Origin)) → all_known (map (try_reading (Fixed false) w) inputs) ≡ rest
          → all_known (o ∷ map (try_reading (Fixed false) w) inputs) ≡ Some os → IsPortOf (slice_index_or os 0 (Fixed false))
      by None is rest known g = cc g
      by (Some y) is None known g = let bad : None ≡ Some os = sym (ap (option_map (λ (xs : List Origin). y ∷ xs)) known) ∙ g in cc bad
      by (Some y) is (Some ys) known g =
          let all : y ∷ ys ≡ os = same_Some (y ∷ ys) os (sym (ap (option_map (λ (xs : List Origin). y ∷ xs)) known) ∙ g) in
          subst (λ (xs : List Origin). IsPortOf (slice_index_or xs 0 (Fixed false))) all (first_read w x y is lower)

  -- ---- origins
  value_is : (f s : ℕ) (o : Origin) → value (origin_system n) f s ≡ Some o → IsPortOf o
  value_is zero s o e = cc e
  value_is (suc f) s o e =
      by (all_known (map (try_reading (Fixed false) w) (aliases n (driver_of n s)))) refl
      (sym (value_gapped (λ t. aliases n (driver_of n t)) (Fixed false) (λ t. origin_made n (driver_of n t)) f s) ∙ e) (λ q x is. value_is f q x is)
    where
      w : ℕ → Option Origin
      w q = value (origin_system n) f q

      by : (all : Option (List Origin)) → all_known (map (try_reading (Fixed false) w) (aliases n (driver_of n s))) ≡ all → option_map (origin_made n (driver_of n s)) all ≡ Some o
          → ((q : ℕ) (x : Origin) → w q ≡ Some x → IsPortOf x) → IsPortOf o
      by None is g lower = cc g
      by (Some os) is g lower =
          subst IsPortOf (same_Some (origin_made n (driver_of n s) os) o g)
          (step (driver_of n s) os (λ k d. driver_port s k d) (first_is w (aliases n (driver_of n s)) os is lower))

  origin_is : (s : ℕ) → IsPortOf (origin n s)
  origin_is s = by (value (origin_system n) (length n.names + 1) s) refl
    where
      by : (o : Option Origin) → value (origin_system n) (length n.names + 1) s ≡ o → IsPortOf (unwrap_or o (Fixed false))
      by None e = fixed_is false
      by (Some o) e = value_is (length n.names + 1) s o e

  pub input_is : (input : Option SignalNo) → IsPortOf (input_origin (origins n) input)
  input_is None = fixed_is false
  input_is (Some signal) = elim (cases_lt signal.0 (length n.names)) [
    | inl lt ↦ subst IsPortOf (sym (get_or-table (origin n) (length n.names) signal.0 (Fixed false) lt)) (origin_is signal.0)
    | inr le ↦ (let past : length (origins n) ≤ signal.0 = (let l = length-table (origin n) (length n.names) in omega (arith, le, l)) in
        subst IsPortOf (sym (get_or_past (origins n) signal.0 (Fixed false) past)) (fixed_is false))
  ]
