-- A closed chip does not drive what the open one does not drive.
use Rattle.std.proofs.Common.{◌≡◌, Bool, List, [], ◌∷◌, length, map, replicate, take, refl, sym, ap, ◌∙◌}
use Rattle.ice_base_values.specs.System.{machine_shows}
use Rattle.ice_chip.specs.Database.{Parts}
use Rattle.ice_chip.specs.declared.rows.Pad.{Pad}
use Rattle.ice_bits.specs.Configuration.{Configuration, bits_of}
use Rattle.ice_net.specs.declared.driver.Drive.{Drive}
use Rattle.ice_net.specs.declared.driver.Drive.TheVariants.{Off}
use Rattle.ice_net.specs.Meaning.{State}
use Rattle.ice_decode.specs.Meaning.{chip_step, chip_start}
use Rattle.ice_decode.specs.Rams.{rams, pins_of}
use Rattle.ice_ram.specs.Closing.{closed}
use Rattle.ice_ram.specs.Ports.{joined_levels, after_all}
use Rattle.ice_ram.specs.Ram.{Kept}
use Rattle.ice_ram.specs.declared.setup.Setup.{Setup}
use Rattle.ice_ram.proofs.Closings.{closings_alike}
use Rattle.ice_sim_chip_rams.specs.ClosedChips.{all_pads, closed_step, rams_at}
use Rattle.ice_emit_closed_laws.specs.ClosedPlans.{ClosedChipIsOffElsewhere}

-- a machine that drives one pad, which is always off
abbrev still : Unit {0} → Unit {0} → Unit {0} × List Drive
still s level = (tt, Off ∷ [])

still_open : (steps : List (List Bool)) → machine_shows still tt (map (λ (levels : List Bool). tt) steps) ≡ replicate (length steps) (Off ∷ [])
still_open [] = refl
still_open (levels ∷ steps) = ap (λ os. (Off ∷ []) ∷ os) (still_open steps)

-- and is so where memories close it
still_closed : (steps : List (List Bool))
    → machine_shows (closed still (λ (level kept : Unit {0}). tt) (λ (kept : Unit {0}) (drives : List Drive). tt)) (tt, tt) (map (λ (levels : List Bool). tt) steps) ≡ replicate (length steps) (Off ∷ [])
still_closed [] = refl
still_closed (levels ∷ steps) = ap (λ os. (Off ∷ []) ∷ os) (still_closed steps)

-- the first of several pads shows what it shows alone
first_alone : (parts : Parts) (k : Configuration) (bonded others : List Pad) (pad : Pad) (s : State) (steps : List (List Bool))
    → map (take 1) (machine_shows (chip_step parts (bits_of k) k.extras bonded (pad ∷ others)) s steps) ≡ machine_shows (chip_step parts (bits_of k) k.extras bonded (pad ∷ [])) s steps
first_alone parts k bonded others pad s [] = refl
first_alone parts k bonded others pad s (levels ∷ steps) =
    ap (λ os. (chip_step parts (bits_of k) k.extras bonded (pad ∷ []) s levels).1 ∷ os) (first_alone parts k bonded others pad (chip_step parts (bits_of k) k.extras bonded (pad ∷ []) s levels).0 steps)

pub off_elsewhere : ClosedChipIsOffElsewhere
unfolding closed_step
off_elsewhere parts k pad off bonded steps =
    let sites = rams parts (bits_of k) in
    let pads = all_pads sites bonded in
    sym (closings_alike still (chip_step parts (bits_of k) k.extras pads (pad ∷ pins_of sites)) (λ (levels : List Bool). tt) (take 1)
    (λ (level kept : Unit {0}). tt) (joined_levels (length bonded)) (λ (kept : Unit {0}) (drives : List Drive). tt) (λ (held : List (Setup × Kept)) (drives : List Drive). after_all drives 1 held)
    (λ (levels : List Bool). tt) (λ (held : List (Setup × Kept)). tt) (λ levels held. refl) (λ held drives. refl) tt (chip_start parts)
    (λ open_steps. still_open open_steps ∙ sym (off pads open_steps) ∙ sym (first_alone parts k pads (pins_of sites) pad (chip_start parts) open_steps))
    (rams_at parts k sites) steps)
    ∙ still_closed steps
