-- The pads at which a chip that its block RAMs close is seen.
use Rattle.std.proofs.Common.{◌≡◌, ◌+◌, ◌*◌, List, [], ◌∷◌, length, refl, sym, ap, ◌∙◌, arith, length-append}
use Rattle.std.specs.List.{range_with_len}
use Rattle.std.proofs.lemmas.List.{length-map}
use Rattle.std.proofs.lemmas.List.FromFn.{length-range_with_len}
use Rattle.ice_chip.specs.Database.{Parts}
use Rattle.ice_chip.specs.declared.rows.Pad.{Pad}
use Rattle.ice_chip_rams.specs.Sites.{ram_pin, ram_pins}
use Rattle.ice_chip_rams.specs.declared.ram_site.RamSite.{RamSite}
use Rattle.ice_bits.specs.Configuration.{Configuration}
use Rattle.ice_decode.specs.Rams.{pins_of}
use Rattle.ice_ram.specs.declared.setup.Setup.{Setup}
use Rattle.ice_ram.specs.Ram.{Kept}
use Rattle.ice_sim_chip_rams.specs.ClosedChips.{ram_at, rams_at, all_pads}

-- each block RAM has 74 pins
own_long : (s : RamSite) → length (ram_pins s) ≡ 74
unfolding ram_pins
own_long s = length-map (range_with_len 0 74) (ram_pin s) ∙ length-range_with_len 0 74

pub pins_long : (sites : List RamSite) → length (pins_of sites) ≡ 74 * length sites
pins_long [] = refl
pins_long (s ∷ sites) =
    let own = own_long s in
    let both = length-append (ram_pins s) (pins_of sites) in
    let others = pins_long sites in
    omega (arith, own, both, others)

-- the pads are as many as those before the pins, and 74 for each block RAM
pads_long : (parts : Parts) (k : Configuration) (sites : List RamSite) (bonded : List Pad) → length (all_pads sites bonded) ≡ length bonded + 74 * length (rams_at parts k sites)
pads_long parts k sites bonded =
    let both = length-append bonded (pins_of sites) in
    let pins = pins_long sites in
    let rams = length-map sites (ram_at parts k) in
    omega (arith, both, pins, rams)

-- and so are those at hand
pub held_long : (parts : Parts) (k : Configuration) (sites : List RamSite) (bonded pads : List Pad) (held : List (Setup × Kept)) → pads ≡ all_pads sites bonded → held ≡ rams_at parts k sites
    → length pads ≡ length bonded + 74 * length held
held_long parts k sites bonded pads held pads_are held_are =
    ap length pads_are ∙ pads_long parts k sites bonded ∙ ap (λ (rams : List (Setup × Kept)). length bonded + 74 * length rams) (sym held_are)
