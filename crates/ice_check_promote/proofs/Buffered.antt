-- What is known of a netlist with buffers.
use Rattle.std.proofs.Common.{◌≡◌, ◌⊎◌, ℕ, zero, suc, ◌+◌, ◌-◌, ◌<◌, ◌≤◌, None, Some, List, [], ◌∷◌, length, map, All, inl, inr, refl, sym, ap, ◌∙◌, subst, arith}
use Rattle.std.proofs.lemmas.Bool.{cases_lt}
use Rattle.std.proofs.lemmas.List.{length-map}
use Rattle.std.proofs.lemmas.List.Elements.{All-nil, All-cons}
use Rattle.std.proofs.lemmas.Option.{none-some, same_Some}
use Rattle.ice_base_values.specs.Order.{At, Has}
use Rattle.ice_base_values.specs.System.{present}
use Rattle.ice_base_values.proofs.Members.{At_map}
use Rattle.ice_net.specs.declared.kind.CellKind.{CellKind}
use Rattle.ice_net.specs.declared.kind.CellKind.TheVariants.{Global}
use Rattle.ice_net.specs.declared.driver.SignalDriver.TheVariants.{Nothing}
use Rattle.ice_net.specs.NetlistData.{NetlistData}
use Rattle.ice_net.specs.Formed.{IsBelow, IsFormed}
use Rattle.ice_net.specs.Drivers.{numbers, place_of, output_of, driver_from, pad_signals, outputs, driver_of}
use Rattle.ice_net.specs.Meaning.{depends_on}
use Rattle.ice_check.proofs.ListsBelow.{pads_below, outputs_below}
use Rattle.ice_check.proofs.OldSignals.{depends_below}
use Rattle.ice_check.proofs.Places.{place_left, place_above}
use Rattle.ice_net_additions.specs.AddedCells.{added_cell, added_cells}
use Rattle.ice_net_additions.proofs.AddedCells.{Ins}
use Rattle.ice_net_additions.proofs.Growths as growths
use Rattle.ice_check_promote.specs.Promoted.{reads_clock, buffers, with_buffers}
use Rattle.ice_check_promote.proofs.Buffers.{growth}
use Rattle.ice_check_promote.proofs.Clocks.{there_at}
use Rattle.ice_check_promote.proofs.NewDrivers.{length_names, cell_added, driver_new}
use Rattle.ice_check_promote.proofs.Passing.{IsBuffered}

-- the signals that added cells drive are below the last of their numbers
outs_below : (kind : CellKind) (most next : ℕ) (lists : List Ins) → next + length lists ≤ most → All (IsBelow most) (map output_of (added_cells kind next lists))
outs_below kind most next [] room = All-nil (IsBelow most)
outs_below kind most next (ins ∷ lists) room =
    All-cons (IsBelow most) (Some (record { 0 = next })) (map output_of (added_cells kind (next + 1) lists)) (omega (arith, room)) (outs_below kind most (next + 1) lists (omega (arith, room)))

module _ (n : NetlistData) (clocks : List ℕ) (formed : IsFormed n) (below : (j clock : ℕ) → At clocks j clock → clock < length n.names) where
  abbrev count : ℕ
  count = length n.names

  abbrev new : NetlistData
  new = with_buffers n clocks

  one : (clock q : ℕ) → Has (present (numbers (reads_clock clock))) q → q ≡ clock
  one clock q has = by has.0 has.1
    where
      by : (i : ℕ) → At (clock ∷ []) i q → q ≡ clock
      by zero at = sym (same_Some clock q at)
      by (suc i) at = absurd (none-some q at)

  reads_low : (s q : ℕ) → s < length new.names → Has (depends_on new s) q → q < count
  reads_low s q lt has = by (cases_lt s count)
    where
      long : length new.names ≡ count + length clocks
      long = length_names n clocks

      added : (j clock : ℕ) → At clocks j clock → s ≡ count + j → q < count
      added j clock at e =
          let reads = growths.reads_new (growth n clocks) formed j (reads_clock clock) (At_map reads_clock clocks j clock at) in
          let same : q ≡ clock = one clock q (subst (λ (xs : List ℕ). Has xs q) (ap (depends_on new) e ∙ ap present reads) has) in
          subst (λ k. k < count) (sym same) (below j clock at)

      by : (s < count) ⊎ (count ≤ s) → q < count
      by (inl less) = depends_below n formed s q (subst (λ (xs : List ℕ). Has xs q) (growths.depends_old (growth n clocks) s less) has)
      by (inr le) =
          let found = there_at clocks (s - count) (omega (arith, le, lt, long)) in
          added (s - count) found.0 found.1 (let e : s ≡ count + (s - count) = omega (arith, le) in e)

  nothing_above : (s : ℕ) → length new.names ≤ s → driver_of new s ≡ Nothing
  nothing_above s le =
      let long = length_names n clocks in
      let above : count ≤ s = omega (arith, long, le) in
      let lists = length-map clocks reads_clock in
      ap (λ o. driver_from o (place_of s (outputs new))) (ap (place_of s) (growths.pads_same (growth n clocks)) ∙ place_above s count (pad_signals n) (pads_below n formed) above)
      ∙ ap (driver_from None) (ap (place_of s) (growths.outputs_are (growth n clocks))
      ∙ place_left s (outputs n) (map output_of (buffers count clocks))
      (place_above s (length new.names) (map output_of (buffers count clocks)) (outs_below Global (length new.names) count (map reads_clock clocks) (omega (arith, long, lists))) le)
      ∙ place_above s count (outputs n) (outputs_below n formed) above)

  pub buffered_facts : IsBuffered (length n.names) clocks (with_buffers n clocks)
  buffered_facts = record {
    many = length_names n clocks;
    driver = λ j clock at. (length n.cells + j, cell_added n clocks j clock at, driver_new n clocks formed j clock at);
    below = below;
    low = reads_low;
    silent = nothing_above;
  }
