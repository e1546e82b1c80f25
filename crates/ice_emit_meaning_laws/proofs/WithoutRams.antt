-- Where no port stands at a pin of a block RAM, all is seen; and where no block RAM is in use, no row reads what a memory reads out.
use Rattle.std.proofs.Common.{◌≡◌, ℕ, suc, ◌<◌, true, false, cond, Option, None, Some, List, [], ◌∷◌, map, is_some, inl, inr, refl, sym, ap, ◌∙◌, lt-ltb, arith}
use Rattle.std.specs.Prelude.{◌||◌, ◌==◌, not, option_map}
use Rattle.std.specs.Option.{option_map_or, option_and_then}
use Rattle.std.proofs.lemmas.Bool.{and_from, and_right, false_from_ne_true}
use Rattle.std.proofs.lemmas.Option.{none-some}
use Rattle.ice_base.specs.declared.number.TileAt.{TileAt}
use Rattle.ice_base_values.specs.Order.{At, Has}
use Rattle.ice_base_values.proofs.Members.{Has_any, any_Has, Has_find}
use Rattle.ice_net.specs.declared.driver.Drive.{Drive}
use Rattle.ice_net.specs.declared.driver.Drive.TheVariants.{Off}
use Rattle.ice_chip.specs.Database.{Parts}
use Rattle.ice_chip.specs.IsRead.{IsRead}
use Rattle.ice_chip.specs.Lookups.{kind_at, names_of}
use Rattle.ice_chip.specs.RamNames.{ram_number}
use Rattle.ice_chip.specs.declared.rows.Pad.{Pad}
use Rattle.ice_chip.specs.declared.placed.PlacedName.{PlacedName}
use Rattle.ice_chip_laws.specs.Laws.{IsLawful}
use Rattle.ice_chip_rams.specs.Sites.{site_at, site_of_tile}
use Rattle.ice_chip_rams.specs.declared.ram_site.RamSite.{RamSite}
use Rattle.ice_chip_rams.proofs.SiteTiles.{site_known}
use Rattle.ice_bits.specs.Configuration.{Bits}
use Rattle.ice_decode.specs.declared.driver.Switch.{Switch}
use Rattle.ice_decode.specs.Drivers.{switches_on}
use Rattle.ice_decode.specs.Faults.{is_memory_output, is_memory_wire}
use Rattle.ice_decode.specs.ForeignSources.{is_foreign_name, is_foreign_wire}
use Rattle.ice_decode.specs.Meaning.{bits_show}
use Rattle.ice_decode.specs.Memories.{IsPlain}
use Rattle.ice_decode.specs.Rams.{is_given, is_in_use, is_on, leads_out, lower_tile}
use Rattle.ice_cells.specs.declared.design.DesignPad.{DesignPad}
use Rattle.ice_place_defs.specs.Plan.{Plan}
use Rattle.ice_emit_rows_laws.proofs.Mapped.{mapped_by_Has}
use Rattle.ice_emit_defs.specs.Realised.{Realises, seen}
use Rattle.ice_emit_meaning_laws.specs.WithoutRams.{ShowsWithoutRams}
use Rattle.ice_emit_meaning_laws.proofs.Faultless.{find_none}
use Rattle.ice_emit_meaning_laws.proofs.Read.{bonded_low}

-- ---- what is seen
abbrev AreLow : List Pad → Type 0
AreLow ports = (k : ℕ) (pad : Pad) → At ports k pad → pad.pio < 2

seen_low : (ports : List Pad) (pads : List DesignPad) (drives : List Drive) → AreLow ports → seen ports pads drives ≡ drives
seen_low [] pads drives low = refl
seen_low (pad ∷ ports) [] drives low = refl
seen_low (pad ∷ ports) (port ∷ pads) [] low = refl
seen_low (pad ∷ ports) (port ∷ pads) (drive ∷ drives) low =
    let one = ap (λ b. cond (b || not (port.pin_type == 1)) drive Off) (lt-ltb pad.pio 2 (low 0 pad refl)) in
    let rest = seen_low ports pads drives (λ k other at. low (suc k) other at) in
    λ i. one i ∷ rest i

all_low : (ports : List Pad) (pads : List DesignPad) (steps : List (List Drive)) → AreLow ports → map (seen ports pads) steps ≡ steps
all_low ports pads [] low = refl
all_low ports pads (drives ∷ steps) low =
    let one = seen_low ports pads drives low in
    let rest = all_low ports pads steps low in
    λ i. one i ∷ rest i

pub shows_all : (parts : Parts) → IsRead parts → ShowsWithoutRams parts
shows_all parts read rows plan pullups rams wanted bits extras placed none real bonded steps =
    sym (all_low plan.ports plan.design.pads (bits_show parts bits extras bonded plan.ports steps) low) ∙ real.shows bonded steps
  where
    low : AreLow plan.ports
    low k pad at = elim (placed.pads.bonded k pad at) [
      | inl is ↦ bonded_low parts rows pad read placed.«package» is
      | inr pin ↦ absurd (let first = pin.first in omega (arith, first, none))
    ]

-- ---- what is read of memories
module _ (parts : Parts) (lawful : IsLawful parts) (plan : Plan) (wanted : List Switch) (bits : Bits) (extras : List (ℕ × ℕ × ℕ)) (real : Realises parts plan [] wanted bits extras) where
  off : (t : TileAt) (s : RamSite) → site_at parts t ≡ Some s → is_on parts bits s ≡ false
  off t s at =
      let kind = site_known parts t (ap (λ (o : Option RamSite). is_some o) at) in
      let tile = lawful.tiles.listed t kind.0 kind.1 in
      let has = mapped_by_Has (site_of_tile parts) parts.tiles (t, tile.0) s tile.1 at in
      real.rams_set.off has.0 s has.1 (omega arith)

  unused : (t : TileAt) → is_in_use parts bits t ≡ false
  unused t = by (lower_tile t (kind_at parts t))
    where
      of : (u : TileAt) (o : Option RamSite) → site_at parts u ≡ o → option_map_or (is_on parts bits) o false ≡ false
      of u None e = refl
      of u (Some s) e = off u s e

      by : (o : Option TileAt) → option_map_or (is_on parts bits) (option_and_then (site_at parts) o) false ≡ false
      by None = refl
      by (Some u) = of u (site_at parts u) refl

  not_memory : (s : Switch) → Has (switches_on bits parts.groups) s → is_memory_wire parts s.source.0 ≡ false
  not_memory s on =
      false_from_ne_true (is_memory_wire parts s.source.0)
      (λ e. let found = any_Has (λ (n : PlacedName). is_memory_output n.name) (names_of parts s.source.0) e in
      let never : is_given parts bits found.0 ≡ false =
      and_right (option_map_or (leads_out (kind_at parts found.0.tile)) (ram_number found.0.name) false) (is_in_use parts bits found.0.tile) (unused found.0.tile) in
      let foreign : is_foreign_wire parts bits s.source.0 ≡ true =
      Has_any (is_foreign_name parts bits) (names_of parts s.source.0) found.0 found.1.0 found.1.1 (and_from (is_memory_output found.0.name) (not (is_given parts bits found.0)) found.2 (ap not never)) in
      let first = Has_find (λ (x : Switch). is_foreign_wire parts bits x.source.0) (switches_on bits parts.groups) s on foreign in
      none-some first.0.source.0 (sym real.faultless.of_chip.sources ∙ ap (option_map (λ (x : Switch). x.source.0)) first.1))

  pub plain : IsPlain parts bits extras
  plain = record {
    faultless = real.faultless;
    memories = ap (option_map (λ (s : Switch). s.source.0)) (find_none (λ (s : Switch). is_memory_wire parts s.source.0) (switches_on bits parts.groups) not_memory);
  }
