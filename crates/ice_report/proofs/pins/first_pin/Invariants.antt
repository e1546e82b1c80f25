use Rattle.std.proofs.Common.{◌≡◌, ℕ, List}
use Rattle.std.specs.List.{find}
use Rattle.ice_chip.specs.Database.{same_pad}
use Rattle.ice_chip.specs.declared.rows.Pad.{Pad}
use Rattle.ice_report.proofs.pins.first_pin.Given as goal

abbrev pub invariant-loop-pin : goal.invariant-loop-pin
invariant-loop-pin l =
    (goal.iterator-loop-pin).can_next l.pin-iterator × (goal.iterator-loop-pin).is_finite l.pin-iterator
    × (find (λ (pin : List ℕ × Pad). same_pad l.pad pin.1) l.«package».pins.entries ≡ find (λ (pin : List ℕ × Pad). same_pad l.pad pin.1) l.pin-iterator)
