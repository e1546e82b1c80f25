-- The pin of a pad of a package.
use Rattle.std.proofs.Common.{◌≡◌, ℕ, Bool, true, false, ◌||◌, IsSome, Some, List, [], ◌∷◌, map, bytes_eq, if◌then◌else◌, refl, sym, subst, true≢false}
use Rattle.std.specs.List.{find, list_any}
use Rattle.ice_chip.specs.Database.{same_pad}
use Rattle.ice_chip.specs.declared.rows.Pad.{Pad}
use Rattle.ice_pads.proofs.AssignLaws.{found_package}
use Rattle.ice_pads.proofs.HavingPads.{seen_bonded}
use Rattle.ice_pads.proofs.PackageLaws.{came}
use Rattle.ice_report_laws.specs.Pins.{PinsAreFound}

found_pin : (pad : Pad) (pins : List (List ℕ × Pad)) → list_any (same_pad pad) (map (λ (pin : List ℕ × Pad). pin.1) pins) ≡ true
    → IsSome (find (λ (pin : List ℕ × Pad). same_pad pad pin.1) pins)
found_pin pad [] e = absurd (true≢false (sym e))
found_pin pad (x ∷ pins) e = by (same_pad pad x.1) (found_pin pad pins) e
  where
    by : (b : Bool) → (list_any (same_pad pad) (map (λ (pin : List ℕ × Pad). pin.1) pins) ≡ true → IsSome (find (λ (pin : List ℕ × Pad). same_pad pad pin.1) pins))
        → (b || list_any (same_pad pad) (map (λ (pin : List ℕ × Pad). pin.1) pins)) ≡ true
        → IsSome (if b then Some x else find (λ (pin : List ℕ × Pad). same_pad pad pin.1) pins)
    by true later e = refl
    by false later e = later e

pub pins_found : PinsAreFound
pins_found parts name constraints n closing d bonded pads chip found assigned k pad at =
    let form = found_package parts.width parts.height (λ p. bytes_eq p.name name) parts.packages bonded chip.read.package_forms found in
    let one = seen_bonded parts name bonded constraints n closing d pads chip found assigned k pad at in
    found_pin pad bonded.pins (came (same_pad pad) [] (map (λ (pin : List ℕ × Pad). pin.1) bonded.pins) (subst (λ (ks : List Pad). list_any (same_pad pad) ks ≡ true) form.pads one))
