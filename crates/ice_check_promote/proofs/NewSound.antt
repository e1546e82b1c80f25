-- A sound netlist stays sound where clocks have buffers.
use Rattle.std.proofs.Common.{◌≡◌, ℕ, zero, suc, ◌<◌, true, Some, List, [], length, map, All, ap, sym, ◌∙◌, subst}
use Rattle.std.specs.Prelude.{slice_index_or}
use Rattle.std.proofs.lemmas.List.{length-map}
use Rattle.std.proofs.lemmas.Option.{none-some, same_Some}
use Rattle.ice_base.specs.declared.number.SignalNo.{SignalNo}
use Rattle.ice_base_values.specs.Order.{At, Has}
use Rattle.ice_base_values.proofs.Members.{map_At}
use Rattle.ice_net.specs.NetlistData.{NetlistData}
use Rattle.ice_net.specs.Formed.{IsBelow, IsFormed}
use Rattle.ice_check.specs.Faults.{is_used}
use Rattle.ice_check.specs.Sound.{IsSound}
use Rattle.ice_check.proofs.Places.{wire}
use Rattle.ice_net_additions.proofs.AddedCells.{Ins}
use Rattle.ice_net_additions.proofs.AddedNames.{one_below}
use Rattle.ice_net_additions.proofs.GrownSound.{AreInUse, sound_after}
use Rattle.ice_check_promote.specs.Promoted.{buffered_name, reads_clock, with_buffers, promoted_clocks, promoted}
use Rattle.ice_check_promote.proofs.Buffers.{growth}
use Rattle.ice_check_promote.proofs.Buffered.{buffered_facts}
use Rattle.ice_check_promote.proofs.Clocks.{clock_below, clock_used}
use Rattle.ice_check_promote.proofs.PassingSound.{passing_sound}

the_clock : (clock s : ℕ) → Has (reads_clock clock) (wire s) → clock ≡ s
the_clock clock s (zero, at) =
    ap (λ (x : SignalNo). x.0) (same_Some (record { 0 = clock }) (record { 0 = s }) (same_Some (Some (record { 0 = clock })) (wire s) at))
the_clock clock s (suc i, at) = absurd (none-some (wire s) at)

in_use : (n : NetlistData) (clocks : List ℕ) → ((j clock : ℕ) → At clocks j clock → clock < length n.names) → ((j clock : ℕ) → At clocks j clock → is_used n clock ≡ true)
    → AreInUse n (map (λ clock. buffered_name (slice_index_or n.names clock [])) clocks) (map reads_clock clocks)
in_use n clocks below used = record {
  named = length-map clocks (λ clock. buffered_name (slice_index_or n.names clock [])) ∙ sym (length-map clocks reads_clock);
  below = λ j ins at. let found = map_At reads_clock clocks j ins at in
      subst (All (IsBelow (length n.names))) found.2 (one_below (length n.names) found.0 (below j found.0 found.1));
  used = λ j s ins at has. let found = map_At reads_clock clocks j ins at in
      let read = subst (λ (xs : Ins). Has xs (wire s)) (sym found.2) has in
      subst (λ c. is_used n c ≡ true) (the_clock found.0 s read) (used j found.0 found.1);
}

pub promoted_sound : (n : NetlistData) (outer : List SignalNo) (free : ℕ) → IsFormed n → IsSound n → IsSound (promoted n outer free)
promoted_sound n outer free formed sound =
    let clocks = promoted_clocks n free in
    passing_sound (length n.names) clocks outer (with_buffers n clocks) (buffered_facts n clocks formed (λ j clock at. clock_below n free j clock at))
    (sound_after (growth n clocks) formed (in_use n clocks (λ j clock at. clock_below n free j clock at) (λ j clock at. clock_used n free j clock at)) sound)
