-- The netlist of a circuit has no loop.
use Rattle.std.proofs.Common.{◌≡◌, ◌⊎◌, ℕ, suc, ◌+◌, ◌*◌, length, Bool, true, false, Option, None, Some, List, [], ◌∷◌, inl, inr, refl, sym, ap, ◌∙◌, subst, get_or, if◌then◌else◌}
use Rattle.std.specs.Prelude.{slice_index_or, option_map}
use Rattle.std.specs.Option.{option_map_or}
use Rattle.std.proofs.lemmas.Option.{same_Some, none-some, slice_get-get_or}
use Rattle.ice_base.specs.declared.number.SignalNo.{SignalNo}
use Rattle.ice_base_values.specs.System.{present}
use Rattle.ice_base_values.specs.Order.{At, Has, IsCycleBelow}
use Rattle.ice_base_values.proofs.Members.{Has_all}
use Rattle.ice_base_values.proofs.Cycles.{cycle_goes_on, value_no_cycle}
use Rattle.ice_chip.specs.Database.{Parts, PackageRows}
use Rattle.ice_chip.specs.IsRead.{IsRead}
use Rattle.ice_chip.specs.Within.{IsPackage}
use Rattle.ice_chip_laws.specs.Laws.{LookupsAreLawful}
use Rattle.ice_chip_laws.specs.Names.{HasNames}
use Rattle.ice_bits.specs.Configuration.{Bits}
use Rattle.ice_net.specs.declared.cell.Cell.{Cell}
use Rattle.ice_net.specs.declared.driver.SignalDriver as drivers
use Rattle.ice_net.specs.Drivers.{is_signal, place_of, pad_signals, output_of, outputs, driver_from, driver_of}
use Rattle.ice_net.specs.Meaning as net
use Rattle.ice_net.specs.NetlistData.{NetlistData}
use Rattle.ice_check.specs.Loops.{HasNoLoop}
use Rattle.ice_decode.specs.Cells.{logic_tiles, tile_place}
use Rattle.ice_decode.specs.Refusals.{IsFaultless}
use Rattle.ice_decode.specs.Pads.{register_place}
use Rattle.ice_decode.proofs.Members.{At_map_cases}
use Rattle.ice_back_laws.specs.Law.{AreQuiet, NetlistHasNoLoop}
use Rattle.ice_back_laws.specs.Numbers.{root_number, signal}
use Rattle.ice_back_laws.specs.Roots.{LevelRoot, Fixed, Input, Taken, Given, Kept, Level, Table, Register, Sum, pad_at}
use Rattle.ice_back_laws.proofs.Ranks.{IsThere}
use Rattle.ice_back_laws.proofs.Inputs.{IsNotTaken, good_some}
use Rattle.ice_back_laws.proofs.PinTypes.{pio_below}
use Rattle.ice_back_laws.proofs.Standing.{netlist, cell_of, cell_made, output_is, is_same, pad_stands}
use Rattle.ice_back_laws.proofs.Levels.{IsKeptRoot, chip_keeps, signal_arrives}

-- a signal that has a place in a list stands there
place_at : (s : ℕ) (xs : List (Option SignalNo)) (i : ℕ) → place_of s xs ≡ Some i → At xs i (Some (signal s))
place_at s [] i e = absurd (none-some i e)
place_at s (x ∷ xs) i e = by (is_signal s x) refl (place_of s xs) (λ k h. place_at s xs k h) e
  where
    by : (b : Bool) → is_signal s x ≡ b → (o : Option ℕ) → ((k : ℕ) → o ≡ Some k → At xs k (Some (signal s))) → (if b then Some 0 else option_map suc o) ≡ Some i → At (x ∷ xs) i (Some (signal s))
    by true is o rest f = subst (λ k. At (x ∷ xs) k (Some (signal s))) (same_Some 0 i f) (ap (λ (y : Option SignalNo). Some y) (is_same s x is))
    by false is None rest f = absurd (none-some i f)
    by false is (Some k) rest f = subst (λ m. At (x ∷ xs) m (Some (signal s))) (same_Some (suc k) i f) (rest k refl)

pub place_has : (s : ℕ) (xs : List (Option SignalNo)) (i : ℕ) → place_of s xs ≡ Some i → Has xs (Some (signal s))
place_has s xs i e = (i, place_at s xs i e)

-- nothing is kept in an empty list
none_at : (o : Option ℕ) (f : ℕ → ℕ) → false ≡ option_map_or (λ k. slice_index_or [] (f k) false) o false
none_at None f = refl
none_at (Some k) f = refl

module _ (parts : Parts) (bits : Bits) (extras : List (ℕ × ℕ × ℕ)) (read : IsRead parts) (names : HasNames parts) (faultless : IsFaultless parts bits extras) (package_rows : PackageRows)
    (has : Has parts.packages package_rows) where
  abbrev n : NetlistData
  n = netlist parts bits extras package_rows

  nothing_quiet : AreQuiet parts bits package_rows.pads []
  nothing_quiet = record {
    quiet = λ pad lt none. sym (none_at (register_place parts pad) (λ k. k + 0));
    pads = λ k lt.
        pio_below parts.width parts.height package_rows (Has_all (IsPackage parts.width parts.height) parts.packages package_rows read.package_forms has) (pad_at package_rows.pads k)
        (k, pad_stands package_rows.pads k lt);
  }

  nothing_kept : (r : LevelRoot) → IsKeptRoot parts bits extras read names faultless package_rows r → false ≡ chip_keeps parts bits extras read names faultless package_rows [] r
  nothing_kept (Fixed level) never = absurd never
  nothing_kept (Input k) never = absurd never
  nothing_kept (Taken k) kept = none_at (register_place parts (pad_at package_rows.pads k)) (λ m. m + 0)
  nothing_kept (Given k) never = absurd never
  nothing_kept (Kept k) kept = none_at (register_place parts (pad_at package_rows.pads k)) (λ m. m + 1)
  nothing_kept (Level k) never = absurd never
  nothing_kept (Table t i) never = absurd never
  nothing_kept (Register t i) kept = none_at (tile_place t (logic_tiles parts)) (λ k. 8 * k + i)
  nothing_kept (Sum t i) never = absurd never

  -- a signal is that of a root, or depends on nothing
  abbrev IsOfRoot : ℕ → Type 0
  IsOfRoot s = (r : LevelRoot) × IsNotTaken parts read bits names extras faultless package_rows.pads r × IsThere parts bits extras package_rows.pads r × (s ≡ root_number parts package_rows.pads r)

  by_root : (s i : ℕ) (r : LevelRoot) → IsThere parts bits extras package_rows.pads r → s ≡ root_number parts package_rows.pads r → driver_of n s ≡ drivers.TheVariants.Output i
      → At n.cells i (cell_of parts bits extras package_rows r) → IsOfRoot s ⊎ (net.depends_on n s ≡ [])
  by_root s i (Fixed level) there e drives at = inl (Fixed level, tt, there, e)
  by_root s i (Input k) there e drives at = inl (Input k, tt, there, e)
  by_root s i (Taken k) there e drives at = inr (ap (λ d. present (net.reads n d)) drives ∙ ap (λ (o : Option Cell). present (option_map_or (λ (c : Cell). net.cell_reads c) o [])) at)
  by_root s i (Given k) there e drives at = inl (Given k, tt, there, e)
  by_root s i (Kept k) there e drives at = inl (Kept k, tt, there, e)
  by_root s i (Level k) there e drives at = inl (Level k, tt, there, e)
  by_root s i (Table t c) there e drives at = inl (Table t c, tt, there, e)
  by_root s i (Register t c) there e drives at = inl (Register t c, tt, there, e)
  by_root s i (Sum t c) there e drives at = inl (Sum t c, tt, there, e)

  root_or_source : (s : ℕ) → IsOfRoot s ⊎ (net.depends_on n s ≡ [])
  root_or_source s = by (place_of s (outputs n)) refl (place_of s (pad_signals n)) refl
    where
      by : (o : Option ℕ) → place_of s (outputs n) ≡ o → (p : Option ℕ) → place_of s (pad_signals n) ≡ p → IsOfRoot s ⊎ (net.depends_on n s ≡ [])
      by None e None f = inr (λ j. present (net.reads n (driver_from (f j) (e j))))
      by o e (Some k) f = inr (ap (λ (p : Option ℕ). present (net.reads n (driver_from p (place_of s (outputs n))))) f)
      by (Some i) e None f =
          let has = place_at s (outputs n) i e in
          let found = At_map_cases output_of n.cells i (Some (signal s)) has in
          let made = cell_made parts bits extras package_rows found.0 (i, found.1) in
          let same : Some (signal s) ≡ Some (signal (root_number parts package_rows.pads made.0)) = sym found.2 ∙ ap output_of made.2 ∙ output_is parts bits extras package_rows made.0 in
          by_root s i made.0 made.1 (ap (λ (x : SignalNo). x.0) (same_Some (signal s) (signal (root_number parts package_rows.pads made.0)) same))
          (λ j. driver_from (f j) (e j)) (found.1 ∙ ap (λ (c : Cell). Some c) made.2)

  no_cycle : (cycle : List ℕ) → IsCycleBelow (length n.names) (net.depends_on n) cycle → ⊥
  no_cycle cycle c =
      let p : ℕ = get_or cycle 0 0 in
      let at : At cycle 0 (get_or cycle 0 0) = slice_get-get_or cycle 0 0 c.closes.some in
      let next = cycle_goes_on (net.depends_on n) cycle c.closes (get_or cycle 0 0) (0, at) in
      elim (root_or_source (get_or cycle 0 0)) [
        | inl is ↦ (let good = good_some parts read bits names extras faultless package_rows.pads is.0 is.1 is.2 in
            let arrives = signal_arrives parts bits extras read names faultless package_rows [] [] [] nothing_quiet (λ j r kept stands. nothing_kept r kept) good.0 is.0 good.1 in
            value_no_cycle (net.system_of n [] []) cycle c.closes (root_number parts package_rows.pads is.0) (0, subst (At cycle 0) is.3 at) (suc (suc good.0)) _ arrives)
        | inr none ↦ absurd (none-some next.0 (subst (λ (row : List ℕ). At row next.1.0 next.0) none next.1.1))
      ]

pub loopless : (parts : Parts) (bits : Bits) (extras : List (ℕ × ℕ × ℕ)) (package_rows : PackageRows) → IsRead parts → HasNames parts → IsFaultless parts bits extras → Has parts.packages package_rows
    → HasNoLoop (netlist parts bits extras package_rows)
loopless parts bits extras package_rows read names faultless has = record { none = no_cycle parts bits extras read names faultless package_rows has }

pub has_no_loop : LookupsAreLawful → NetlistHasNoLoop
has_no_loop lawful parts bits extras package_rows chip faultless has = loopless parts bits extras package_rows chip.read (lawful parts chip).names faultless has
