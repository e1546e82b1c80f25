-- The bits of functions that are set, and no others.
use Rattle.std.proofs.Common.{◌≡◌, ℕ, true, false, Option, None, Some, List, refl, sym, ap, ◌∙◌, subst}
use Rattle.std.specs.Prelude.{slice_get}
use Rattle.std.specs.Option.{option_map_or, option_and_then}
use Rattle.std.proofs.lemmas.Bool.{and_parts}
use Rattle.ice_base.specs.declared.number.TileAt.{TileAt}
use Rattle.ice_base.specs.declared.bit.BitAt.{BitAt}
use Rattle.ice_base_values.specs.Order.{Has}
use Rattle.ice_chip.specs.Database.{Parts, same_tile}
use Rattle.ice_chip.specs.Functions.{is_read}
use Rattle.ice_chip.specs.Lookups.{kind_at, function_of}
use Rattle.ice_chip.specs.declared.rows.TileKind.{TileKind}
use Rattle.ice_chip_laws.specs.Bits.{function_place, HasOwnBits}
use Rattle.ice_bits.specs.Configuration.{same_place}
use Rattle.ice_bits.specs.Settings.{function_bit}
use Rattle.ice_emit_rows_laws.specs.Wanted.{AreNoGroups}
use Rattle.ice_emit_rows_laws.specs.Settings.{Setting, sets_one, function_bits, AreRead}
use Rattle.ice_base_values.proofs.Members.{Has_any, any_none}
use Rattle.ice_base.proofs.Keys.{tile_same, tile_self, place_same, place_self}

module _ (parts : Parts) (own : HasOwnBits parts) where
  -- where a bit of a function stands
  placed_bit : (t : TileAt) (name : List ℕ) (k : ℕ) (b : BitAt) → function_bit parts t name k ≡ Some b → (kind : TileKind) × (kind_at parts t ≡ Some kind) × (function_place parts kind name k ≡ Some b)
  placed_bit t name k b e = by (kind_at parts t) refl e
    where
      by : (o : Option TileKind) → kind_at parts t ≡ o → option_and_then (λ kind. option_and_then (λ f. slice_get f.bits k) (function_of parts kind name)) o ≡ Some b
          → (kind : TileKind) × (kind_at parts t ≡ Some kind) × (function_place parts kind name k ≡ Some b)
      by None is f = cc f
      by (Some kind) is f = (kind, is, f)

  -- what a setting sets stands at the place of its function
  one_sets : (t : TileAt) (b : BitAt) (x : Setting) → sets_one parts t b x ≡ true → (x.tile ≡ t) × (function_bit parts t x.name x.number ≡ Some b)
  one_sets t b x e =
      let two = and_parts (same_tile x.tile t) (option_map_or (same_place b) (function_bit parts t x.name x.number) false) e in
      (tile_same x.tile t two.0, by (function_bit parts t x.name x.number) refl two.1)
    where
      by : (o : Option BitAt) → function_bit parts t x.name x.number ≡ o → option_map_or (same_place b) o false ≡ true → function_bit parts t x.name x.number ≡ Some b
      by None is f = cc f
      by (Some c) is f = is ∙ ap Some (sym (place_same b c f))

  module _ (settings : List Setting) (read : AreRead parts settings) where
    -- no bit of a group is among them
    pub no_groups : AreNoGroups parts (function_bits parts settings)
    no_groups = record {
      each = λ g b hg hb. any_none (sets_one parts g.tile b) settings (λ x has set.
          let one = one_sets g.tile b x set in
          let at = placed_bit g.tile x.name x.number b one.1 in
          let known : kind_at parts x.tile ≡ Some at.0 = ap (kind_at parts) one.0 ∙ at.1 in
          own.not_grouped at.0 x.name x.number b g (read.each x at.0 has known, at.2) hg at.1 hb);
    }

    -- a bit of a function that is read is set exactly where its setting is among them
    pub bit_set : (t : TileAt) (name : List ℕ) (k : ℕ) (b : BitAt) (kind : TileKind) → kind_at parts t ≡ Some kind → is_read kind name ≡ true → function_bit parts t name k ≡ Some b
        → (Has settings (record { tile = t; name = name; number = k }) → function_bits parts settings t b ≡ true)
        × ((Has settings (record { tile = t; name = name; number = k }) → ⊥) → function_bits parts settings t b ≡ false)
    bit_set t name k b kind known is place = (
      λ has. Has_any (sets_one parts t b) settings (record { tile = t; name = name; number = k }) has.0 has.1 (rw (tile_self t, place, place_self b) refl),
      λ never. any_none (sets_one parts t b) settings (λ x has set.
          let one = one_sets t b x set in
          let at = placed_bit t x.name x.number b one.1 in
          let mine = placed_bit t name k b place in
          let ka : at.0 ≡ kind = cc (at.1, known) in
          let km : mine.0 ≡ kind = cc (mine.1, known) in
          let rx : is_read kind x.name ≡ true = subst (λ (z : TileKind). is_read z x.name ≡ true) ka (read.each x at.0 has (ap (kind_at parts) one.0 ∙ at.1)) in
          let px : function_place parts kind x.name x.number ≡ Some b = subst (λ (z : TileKind). function_place parts z x.name x.number ≡ Some b) ka at.2 in
          let pm : function_place parts kind name k ≡ Some b = subst (λ (z : TileKind). function_place parts z name k ≡ Some b) km mine.2 in
          let same = own.one_use kind x.name name x.number k b (rx, px) (is, pm) in
          let e : x ≡ record { tile = t; name = name; number = k } = λ i. record { tile = one.0 i; name = same.0 i; number = same.1 i } in
          never (subst (λ (z : Setting). Has settings z) e has)),
    )
