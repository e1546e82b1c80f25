-- The points by which a path gets into an end are points of the chip.
use Rattle.std.proofs.Common.{◌≡◌, ℕ, zero, suc, ◌<◌, Bool, true, false, cond, List, [], ◌∷◌, ◌++◌, Some, None, Option, inl, inr, refl, subst, map}
use Rattle.std.specs.Prelude.{option_map, ◌/◌, ◌==◌, ◌||◌}
use Rattle.std.specs.List.{flat_map, range_with_len}
use Rattle.std.proofs.lemmas.Option.{same_Some}
use Rattle.std.proofs.lemmas.List.Elements.{All-map, All-filter}
use Rattle.ice_base.specs.declared.number.TileAt.{TileAt}
use Rattle.ice_base.proofs.Entries.{lookup_all}
use Rattle.ice_base_values.specs.System.{present}
use Rattle.ice_base_values.specs.Order.{Has}
use Rattle.ice_base_values.proofs.Members.{Has_none, map_Has}
use Rattle.ice_chip.specs.Database.{Parts, WireName}
use Rattle.ice_chip.specs.IsRead.{IsRead}
use Rattle.ice_chip.specs.Lookups.{wire_named, placed_at, placed_wire, placed_names, is_placed}
use Rattle.ice_chip.specs.WholeFaults.{same_placed}
use Rattle.ice_chip.specs.Names.{input_name, pad_output_name, output_enable_name}
use Rattle.ice_chip.specs.RamNames.{ram_name, is_read_out}
use Rattle.ice_chip.specs.WireNames.{clock_enable_name, set_reset_name}
use Rattle.ice_chip.specs.declared.placed.PlacedName.{PlacedName}
use Rattle.ice_chip.specs.declared.rows.Pad.{Pad}
use Rattle.ice_chip_rams.specs.Sites.{ram_tile}
use Rattle.ice_chip_rams.specs.declared.ram_site.RamSite.{RamSite}
use Rattle.ice_bits.specs.Configuration.{Bits}
use Rattle.ice_decode.specs.declared.point.Point.{Point}
use Rattle.ice_decode.specs.Cells.{eight, logic_tiles, has_flop}
use Rattle.ice_decode.specs.Pads.{pads, pin_type}
use Rattle.ice_decode.specs.Rams.{rams}
use Rattle.ice_decode.specs.Reads.{wire_point, at_pin, cell_inputs}
use Rattle.ice_decode.specs.Points.{points}
use Rattle.ice_decode.proofs.Members.{Has_append_cases}
use Rattle.ice_decode.proofs.PointPlaces.{wire_at}
use Rattle.ice_timing.specs.declared.end.End.{End}
use Rattle.ice_timing.specs.declared.end.End.TheVariants.{Flop, Pad as PadEnd, Ram}
use Rattle.ice_timing.specs.declared.end.Door.{Door}
use Rattle.ice_timing.specs.declared.end.Door.TheVariants.{Table, Control, Port}
use Rattle.ice_timing.specs.declared.end.Entry.{Entry}
use Rattle.ice_timing.specs.Entries.{entry, entries_by, controls, flop_entries, tile_entries, pad_door, pad_lasts, pad_entries, is_ram_clock, ram_last, ram_lasts, ram_entries, entries}

module _ (parts : Parts) (read : IsRead parts) where
  -- ---- points that may be missing
  abbrev Exists : Option Point → Type 0
  Exists None = Unit {0}
  Exists (Some p) = Has (points parts) p

  abbrev AllExist : List (Option Point) → Type 0
  AllExist [] = Unit {0}
  AllExist (o ∷ os) = Exists o × AllExist os

  present_exists : (os : List (Option Point)) → AllExist os → (p : Point) → Has (present os) p → Has (points parts) p
  present_exists [] all p has = absurd (Has_none p has)
  present_exists (None ∷ os) all p has = present_exists os all.1 p has
  present_exists (Some q ∷ os) all p (zero, at) = subst (Has (points parts)) (same_Some q p at) all.0
  present_exists (Some q ∷ os) all p (suc i, at) = present_exists os all.1 p (i, at)

  -- the wire of a name is one of the chip
  named_below : (t : TileAt) (name : List ℕ) (w : ℕ) → wire_named parts t name ≡ Some w → w < parts.wires
  named_below t name w e =
      lookup_all (λ (k : ℕ). k < parts.wires) (same_placed (placed_at t name)) (map placed_wire (placed_names parts))
      (All-map (λ (n : PlacedName × ℕ). n.1 < parts.wires) placed_wire (placed_names parts) (All-filter (is_placed parts.tiles) (λ (n : WireName). n.wire < parts.wires) parts.names read.named_wires)) w e

  pin_exists : (t : TileAt) (name : List ℕ) → Exists (at_pin parts t name)
  pin_exists t name = by (wire_named parts t name) refl
    where
      by : (o : Option ℕ) → wire_named parts t name ≡ o → Exists (option_map wire_point o)
      by None e = tt
      by (Some w) e = (w, wire_at parts.wires (logic_tiles parts) w (named_below t name w e))

  -- ---- entries
  abbrev Leads : List Entry → Type 0
  Leads es = (e : Entry) → Has es e → Has (points parts) e.last

  none_leads : Leads []
  none_leads e has = absurd (Has_none e has)

  by_leads : (end : End) (door : Door) (os : List (Option Point)) → AllExist os → Leads (entries_by end door os)
  by_leads end door os all e has =
      let found = map_Has (entry end door) (present os) e has in
      subst (λ (x : Entry). Has (points parts) x.last) found.2 (present_exists os all found.0 found.1)

  both_lead : (xs ys : List Entry) → Leads xs → Leads ys → Leads (xs ++ ys)
  both_lead xs ys first second e has = elim (Has_append_cases xs ys e has) [ inl here ↦ first e here | inr there ↦ second e there ]

  if_leads : (b : Bool) (xs ys : List Entry) → Leads xs → Leads ys → Leads (cond b xs ys)
  if_leads true xs ys first second = first
  if_leads false xs ys first second = second

  all_lead : {X : Type 0} (f : X → List Entry) → ((x : X) → Leads (f x)) → (xs : List X) → Leads (flat_map f xs)
  all_lead f each [] = none_leads
  all_lead f each (x ∷ xs) = both_lead (f x) (flat_map f xs) (each x) (all_lead f each xs)

  flop_leads : (bits : Bits) (t : TileAt) (i : ℕ) → Leads (flop_entries parts bits t i)
  flop_leads bits t i =
      if_leads (has_flop parts bits t i) _ []
      (both_lead (entries_by (Flop t i) Table (cell_inputs parts t i)) (entries_by (Flop t i) Control (controls parts t))
      (by_leads (Flop t i) Table (cell_inputs parts t i) (pin_exists t (input_name i 0), (pin_exists t (input_name i 1), (pin_exists t (input_name i 2), (pin_exists t (input_name i 3), tt)))))
      (by_leads (Flop t i) Control (controls parts t) (pin_exists t clock_enable_name, (pin_exists t set_reset_name, tt))))
      none_leads

  lasts_exist : (pad : Pad) (part : ℕ) → AllExist (pad_lasts parts pad part)
  lasts_exist pad part = first (part == 5) _ (first (part == 6) _ (second (part == 10)))
    where
      first : (b : Bool) (others : List (Option Point)) → AllExist others → AllExist (cond b (at_pin parts pad.tile (pad_output_name pad.pio) ∷ []) others)
      first true others rest = (pin_exists pad.tile (pad_output_name pad.pio), tt)
      first false others rest = rest

      second : (b : Bool) → AllExist (cond b (at_pin parts pad.tile (pad_output_name pad.pio) ∷ at_pin parts pad.tile (output_enable_name pad.pio) ∷ []) [])
      second true = (pin_exists pad.tile (pad_output_name pad.pio), (pin_exists pad.tile (output_enable_name pad.pio), tt))
      second false = tt

  ram_last_exists : (s : RamSite) (n : ℕ) → Exists (ram_last parts s n)
  ram_last_exists s n = by (is_read_out n || is_ram_clock n)
    where
      by : (b : Bool) → Exists (cond b None (at_pin parts (ram_tile s n) (ram_name n)))
      by true = tt
      by false = pin_exists (ram_tile s n) (ram_name n)

  each_exists : (f : ℕ → Option Point) → ((n : ℕ) → Exists (f n)) → (ns : List ℕ) → AllExist (map f ns)
  each_exists f exists [] = tt
  each_exists f exists (n ∷ ns) = (exists n, each_exists f exists ns)

  ram_lasts_exist : (s : RamSite) → AllExist (ram_lasts parts s)
  unfolding ram_lasts
  ram_lasts_exist s = each_exists (ram_last parts s) (ram_last_exists s) (range_with_len 0 76)

  pub entries_lead : (bits : Bits) (e : Entry) → Has (entries parts bits) e → Has (points parts) e.last
  entries_lead bits =
      both_lead (flat_map (tile_entries parts bits) (logic_tiles parts) ++ flat_map (pad_entries parts bits) (pads parts)) (flat_map (ram_entries parts) (rams parts bits))
      (both_lead (flat_map (tile_entries parts bits) (logic_tiles parts)) (flat_map (pad_entries parts bits) (pads parts))
      (all_lead (tile_entries parts bits) (λ t. all_lead (flop_entries parts bits t) (flop_leads bits t) eight) (logic_tiles parts))
      (all_lead (pad_entries parts bits) (λ pad. by_leads (PadEnd pad) (pad_door (pin_type parts bits pad / 4)) (pad_lasts parts pad (pin_type parts bits pad / 4)) (lasts_exist pad (pin_type parts bits pad / 4))) (pads parts)))
      (all_lead (ram_entries parts) (λ s. by_leads (Ram s.lower) Port (ram_lasts parts s) (ram_lasts_exist s)) (rams parts bits))
