-- What a netlist has at its own signals and cells, wherever others are added behind them.
use Rattle.std.proofs.Common.{◌≡◌, ℕ, zero, suc, ◌+◌, ◌-◌, ◌<◌, Bool, Option, None, Some, List, [], ◌∷◌, length, refl, ap, sym, ◌∙◌, subst, arith, min}
use Rattle.std.specs.Prelude.{slice_get, slice_index_or}
use Rattle.std.specs.List.{zip}
use Rattle.std.proofs.lemmas.List.{length-map}
use Rattle.std.proofs.lemmas.Option.{none-some, slice_get_within, slice_get-get_or}
use Rattle.std.proofs.lemmas.Slice.Zip.{length-zip}
use Rattle.ice_base_values.specs.Order.{At, Has, IsCycleBelow}
use Rattle.ice_net.specs.declared.cell.Cell.{Cell}
use Rattle.ice_net.specs.declared.driver.SignalDriver.{SignalDriver}
use Rattle.ice_net.specs.declared.driver.SignalDriver.TheVariants.{Nothing, Pad, Output}
use Rattle.ice_net.specs.NetlistData.{NetlistData}
use Rattle.ice_net.specs.Formed.{IsFormed}
use Rattle.ice_net.specs.Drivers.{place_of, output_of, driver_from, pad_signals, outputs, driver_of}
use Rattle.ice_net.specs.Meaning.{State, kept_by, kept_after, depends_on}
use Rattle.ice_check.proofs.Graphs.{reads_below}
use Rattle.ice_check.proofs.Places.{place_within}

module _ (n : NetlistData) where
  -- ---- drivers
  -- a driver that is an output is one of a cell
  abbrev pub IsThere : SignalDriver → Type 0
  IsThere Nothing = Unit {0}
  IsThere (Pad k) = Unit {0}
  IsThere (Output i) = (cell : Cell) × At n.cells i cell

  from_place : (i : ℕ) → i < length n.cells → (o : Option Cell) → slice_get n.cells i ≡ o → (cell : Cell) × At n.cells i cell
  from_place i lt None e = absurd (none_within n.cells i lt e)
    where
      none_within : (cells : List Cell) (i : ℕ) → i < length cells → slice_get cells i ≡ None → ⊥
      none_within [] i lt e = absurd (omega (arith, lt))
      none_within (cell ∷ cells) zero lt e = none-some cell (sym e)
      none_within (cell ∷ cells) (suc i) lt e = none_within cells i (omega (arith, lt)) e
  from_place i lt (Some cell) e = (cell, e)

  pub at_place : (i : ℕ) → i < length n.cells → (cell : Cell) × At n.cells i cell
  at_place i lt = from_place i lt (slice_get n.cells i) refl

  pub driver_there : (s : ℕ) → IsThere (driver_of n s)
  driver_there s = by (place_of s (pad_signals n)) (place_of s (outputs n)) (place_within s (outputs n))
    where
      by : (o p : Option ℕ) → ((i : ℕ) → p ≡ Some i → i < length (outputs n)) → IsThere (driver_from o p)
      by (Some k) p within = tt
      by None None within = tt
      by None (Some i) within = at_place i (let lt = within i refl in let long = length-map n.cells output_of in omega (arith, lt, long))

  -- ---- what a signal depends on
  pub depends_below : IsFormed n → (s q : ℕ) → Has (depends_on n s) q → q < length n.names
  depends_below formed s q has = reads_below n formed (driver_of n s) has.0 q has.1

  -- ---- what a step keeps
  pub kept_long : (s : State) → length s.kept ≡ length n.cells → length s.clocks ≡ length n.cells → (v : ℕ → Bool) → length (kept_after v n.cells s) ≡ length n.cells
  kept_long s long clocks_long v =
      length-map (zip n.cells (zip s.kept s.clocks)) (λ (x : Cell × (Bool × Option Bool)). kept_by v x.0.kind x.0.ins x.1.0 x.1.1)
      ∙ length-zip n.cells (zip s.kept s.clocks)
      ∙ ap (min (length n.cells)) (length-zip s.kept s.clocks)
      ∙ (let e : min (length n.cells) (min (length s.kept) (length s.clocks)) ≡ length n.cells = omega (arith, long, clocks_long) in e)

-- ---- cycles
-- where all signals of a larger netlist depend on old ones alone, a cycle is among the old ones
module _ (count total : ℕ) (depends : ℕ → List ℕ) (old : (s q : ℕ) → s < total → Has (depends s) q → q < count) where
  pub cycle_old : (cycle : List ℕ) → IsCycleBelow total depends cycle → (i point : ℕ) → At cycle i point → point < count
  cycle_old cycle c zero point at =
      let last = length cycle - 1 in
      let some = c.closes.some in
      let end = slice_get-get_or cycle last 0 (omega (arith, some)) in
      old (slice_index_or cycle last 0) point (c.within last (slice_index_or cycle last 0) end) (c.closes.closed point (slice_index_or cycle last 0) at end)
  cycle_old cycle c (suc i) point at =
      let lt = slice_get_within cycle (suc i) point at in
      let before = slice_get-get_or cycle i 0 (omega (arith, lt)) in
      old (slice_index_or cycle i 0) point (c.within i (slice_index_or cycle i 0) before)
      (c.closes.next i (slice_index_or cycle i 0) point before (subst (λ k. At cycle k point) (one_more i) at))
    where
      one_more : (k : ℕ) → suc k ≡ k + 1
      one_more k = omega arith
