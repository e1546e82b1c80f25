-- The closed chip shows what the closed circuit shows.
use Rattle.std.proofs.Common.{◌≡◌, ℕ, ◌+◌, ◌-◌, ◌*◌, ◌<◌, ◌≤◌, Bool, List, [], ◌∷◌, ◌++◌, length, map, take, refl, sym, ap, ◌∙◌, subst, arith}
use Rattle.std.proofs.lemmas.List.{length-take-le}
use Rattle.ice_base_values.specs.Order.{At}
use Rattle.ice_base_values.specs.System.{machine_shows}
use Rattle.ice_chip.specs.Database.{Parts}
use Rattle.ice_chip.specs.IsRead.{IsRead}
use Rattle.ice_chip.specs.declared.rows.Pad.{Pad}
use Rattle.ice_chip_rams.specs.Sites.{sites}
use Rattle.ice_chip_rams.specs.declared.ram_site.RamSite.{RamSite}
use Rattle.ice_chip_sockets.specs.Pins.{first_pins}
use Rattle.ice_chip_sockets.proofs.SocketPins.{are_ram_pins, first_pins_once, pin_high}
use Rattle.ice_bits.specs.Configuration.{Configuration, bits_of}
use Rattle.ice_net.specs.declared.driver.Drive.{Drive}
use Rattle.ice_net.specs.Meaning.{State}
use Rattle.ice_decode.specs.Meaning.{chip_step, chip_start, bits_show}
use Rattle.ice_ram.specs.Closing.{closed}
use Rattle.ice_ram.specs.Ports.{joined_levels, after_all}
use Rattle.ice_ram.specs.Ram.{Kept}
use Rattle.ice_ram.specs.declared.setup.Setup.{Setup}
use Rattle.ice_ram.proofs.Closings.{closings_alike}
use Rattle.ice_sim_chip_rams.specs.ClosedChips.{closed_step, shown_from, shown_with, closed_bits_show}
use Rattle.ice_sim_chip_rams.proofs.Pins.{pins_long}
use Rattle.ice_cells.specs.declared.design.DesignPad.{DesignPad}
use Rattle.ice_place_defs.specs.Plan.{Plan}
use Rattle.ice_emit_defs.specs.Realised.{port_levels, seen}
use Rattle.ice_emit_closed_laws.specs.ClosedPlans.{IsClosedPlan, HoldsRams, ShowsAsOpen, ClosedChipShowsTheSame, closed_shows}
use Rattle.ice_emit_closed_laws.proofs.Levels.{AreLow, joins}
use Rattle.ice_emit_closed_laws.proofs.Taking.{seen_there, all_first, taken_same, as_many}
use Rattle.ice_emit_closed_laws.proofs.Holding.{first_on, all_held}

-- so many block RAMs
abbrev Held : ℕ → Type 0
Held n = (rams : List (Setup × Kept)) × (length rams ≡ n)

module _ (step : State → List Bool → State × List Drive) (first before n : ℕ) where
  -- they take from the ports behind so many, and stay so many
  abbrev takes : Held n → List Drive → Held n
  takes held drives = (after_all drives before held.0, as_many drives before held.0 ∙ held.1)

  -- that they stay so many changes nothing
  counted : (s : State) (held : Held n) (levels : List (List Bool))
      → machine_shows (closed step (λ l (h : Held n). joined_levels first l h.0) takes) (s, held) levels ≡ machine_shows (closed step (joined_levels first) (λ h drives. after_all drives before h)) (s, held.0) levels
  counted s held [] = refl
  counted s held (l ∷ levels) =
      let next = step s (joined_levels first l held.0) in
      ap (λ os. next.1 ∷ os) (counted next.0 (takes held next.1) levels)

module _ (parts : Parts) (read : IsRead parts) (plan : Plan) (shown bonded : List Pad) (rams : List (Setup × Kept)) (k : Configuration) (step : State → List Bool → State × List Drive) (begin : State)
    (plan_is : IsClosedPlan parts plan shown rams) (holds : HoldsRams parts rams k) (low : AreLow bonded) (alike : ShowsAsOpen parts plan (length rams) k bonded step begin) where
  abbrev n : ℕ
  n = length rams

  abbrev pins : List Pad
  pins = first_pins parts n

  abbrev first : ℕ
  first = length shown

  long : length pins ≡ 74 * n
  long = pins_long (take n (sites parts)) ∙ ap (λ m. 74 * m) (length-take-le n (sites parts) plan_is.enough)

  abbrev open_chip : State → List Bool → State × List Drive
  open_chip = chip_step parts (bits_of k) k.extras (bonded ++ pins) (shown ++ pins)

  abbrev see : List Drive → List Drive
  see drives = seen (shown ++ pins) plan.design.pads drives

  abbrev into : List Bool → List Bool
  into levels = port_levels (bonded ++ pins) (shown ++ pins) levels

  -- the circuit shows what is seen of the open chip
  alike_open : (steps : List (List Bool)) → machine_shows step begin (map into steps) ≡ map see (machine_shows open_chip (chip_start parts) steps)
  alike_open steps =
      sym (subst (λ (ports : List Pad). map (seen ports plan.design.pads) (bits_show parts (bits_of k) k.extras (bonded ++ pins) ports steps) ≡ machine_shows step begin (map (port_levels (bonded ++ pins) ports) steps))
      plan_is.ports (alike steps))

  joined_so : (levels : List Bool) (held : Held n) → into (joined_levels (length bonded) levels held.0) ≡ joined_levels first (port_levels bonded shown levels) held.0
  joined_so levels held =
      joins bonded shown pins low plan_is.outer (λ j pad at. pin_high parts n pad (are_ram_pins parts n pad (j, at))) (first_pins_once parts n read) held.0 (long ∙ ap (λ m. 74 * m) (sym held.1)) levels

  taken_so : (held : Held n) (drives : List Drive) → after_all drives first held.0 ≡ after_all (see drives) first held.0
  taken_so held drives =
      taken_same drives (see drives) first held.0
      (λ j below i le lt. sym (seen_there (shown ++ pins) plan.design.pads drives i (λ port at. of_port j i below le lt port at)))
    where
      of_port : (j i : ℕ) → j < length held.0 → first + 74 * j + 16 ≤ i → i < first + 74 * j + 16 + 58 → (port : DesignPad) → At plan.design.pads i port → port.pin_type ≡ 25
      of_port j i below le lt port at =
          let many = held.1 in
          let there : first + 74 * j + (i - (first + 74 * j)) ≡ i = omega (arith, le) in
          plan_is.outputs j (i - (first + 74 * j)) port (omega (arith, below, many)) (omega (arith, le)) (omega (arith, le, lt)) (subst (λ m. At plan.design.pads m port) (sym there) at)

  closed_alike : (steps : List (List Bool))
      → machine_shows (closed step (joined_levels first) (λ held drives. after_all drives first held)) (begin, rams) (map (port_levels bonded shown) steps)
      ≡ map see (machine_shows (closed open_chip (joined_levels (length bonded)) (λ held drives. after_all drives first held)) (chip_start parts, rams) steps)
  closed_alike steps =
      let held : Held n = (rams, refl) in
      closings_alike step open_chip into see (joined_levels first) (λ levels (h : Held n). joined_levels (length bonded) levels h.0) (λ held drives. after_all drives first held) (takes open_chip (length bonded) first n)
      (port_levels bonded shown) (λ (h : Held n). h.0) joined_so taken_so begin (chip_start parts) alike_open held steps
      ∙ ap (map see) (counted open_chip (length bonded) first n (chip_start parts) held steps)

  shown_alike : (steps : List (List Bool)) → shown_from parts k (bonded ++ pins) (length bonded) (shown ++ pins) first (chip_start parts, rams) steps ≡ closed_shows step first begin rams (map (port_levels bonded shown) steps)
  unfolding closed_step
  shown_alike steps =
      sym (ap (map (take first)) (closed_alike steps)
      ∙ all_first shown pins plan.design.pads (machine_shows (closed open_chip (joined_levels (length bonded)) (λ held drives. after_all drives first held)) (chip_start parts, rams) steps) plan_is.outer)

  whole : (steps : List (List Bool)) → closed_bits_show parts k bonded shown steps ≡ closed_shows step first begin rams (map (port_levels bonded shown) steps)
  whole steps =
      ap (λ (list : List RamSite). shown_with parts k list bonded shown steps) (first_on parts read rams k holds)
      ∙ ap (λ (held : List (Setup × Kept)). shown_from parts k (bonded ++ pins) (length bonded) (shown ++ pins) first (chip_start parts, held) steps) (all_held parts read rams k holds plan_is.enough plan_is.started)
      ∙ shown_alike steps

pub shows_the_same : (parts : Parts) → IsRead parts → ClosedChipShowsTheSame parts
shows_the_same parts read plan shown bonded rams k step begin plan_is holds low alike steps = whole parts read plan shown bonded rams k step begin plan_is holds low alike steps
