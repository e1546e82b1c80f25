-- The types of the pads of a package: the output part of each is one of the four.
use Rattle.std.proofs.Common.{◌≡◌, ◌⊎◌, ℕ, suc, ◌+◌, ◌*◌, ◌/◌, ◌<◌, ◌==◌, Bool, true, false, cond, Option, None, Some, List, [], ◌∷◌, ◌++◌, map, inl, inr, refl, sym, ap, ◌∙◌, subst, eqb-true}
use Rattle.std.specs.Prelude.{◌||◌, not}
use Rattle.std.specs.List.{list_any}
use Rattle.std.specs.Option.{option_map}
use Rattle.std.proofs.lemmas.Bool.{or_cases, or_parts, false_from_ne_true, not-false}
use Rattle.std.proofs.lemmas.Option.{none-some, same_Some}
use Rattle.indexmap.specs.IndexSet.{insert_key, insert_all}
use Rattle.ice_base.specs.declared.number.TileAt.{TileAt}
use Rattle.ice_base.proofs.Keys.{tile_same}
use Rattle.ice_base_values.specs.Order.{Has}
use Rattle.ice_base_values.proofs.Members.{Has_all, Has_cases, Has_filter, Has_find, lookup_Has, map_Has}
use Rattle.ice_chip.specs.Database.{Parts, PackageRows, same_tile, same_pad, tile_known}
use Rattle.ice_chip.specs.IsRead.{IsRead}
use Rattle.ice_chip.specs.Lookups.{kind_at, is_io_kind}
use Rattle.ice_chip.specs.Within.{IsPad, IsPackage}
use Rattle.ice_chip.specs.declared.rows.TileLine.{TileLine}
use Rattle.ice_chip.specs.declared.rows.Pad.{Pad}
use Rattle.ice_chip.specs.declared.rows.TileKind.{TileKind}
use Rattle.ice_chip.specs.declared.rows.TileKind.TheVariants.{Io, Logic, RamBottom, RamTop}
use Rattle.ice_bits.specs.Configuration.{Bits}
use Rattle.ice_net.specs.Uses.{is_type}
use Rattle.ice_decode.specs.Faults.{is_output_part, has_wrong_type}
use Rattle.ice_decode.specs.Cells.{tile_place}
use Rattle.ice_decode.specs.Pads.{pads_in, is_io_tile, io_tiles, pads, pin_type, has_output_register}
use Rattle.ice_decode.specs.Refusals.{IsFaultless}
use Rattle.ice_decode.proofs.Members.{Has_append_cases}
use Rattle.ice_decode.proofs.OtherTypes.{each_two, other_untyped}
use Rattle.ice_back_laws.specs.Back.{buffer_part, buffer_type}
use Rattle.ice_back_laws.proofs.Ranks.{io_placed}
use Rattle.ice_back_laws.proofs.Standing.{flat_on}

-- ---- the pads of a package
-- what is kept of pads is one of them
pub kept_pad : (ks xs : List Pad) (p : Pad) → Has (insert_all same_pad ks xs) p → Has ks p ⊎ Has xs p
kept_pad ks [] p has = inl has
kept_pad ks (x ∷ xs) p has = by (kept_pad (insert_key same_pad ks x) xs p has)
  where
    one : (b : Bool) → Has (cond b ks (ks ++ x ∷ [])) p → Has ks p ⊎ Has (x ∷ xs) p
    one true there = inl there
    one false there = elim (Has_append_cases ks (x ∷ []) p there) [
      | inl before ↦ inl before
      | inr last ↦ elim (Has_cases x p [] last) [ inl e ↦ inr (0, ap (λ (y : Pad). Some y) e) | inr never ↦ absurd (none-some p never.1) ]
    ]

    by : Has (insert_key same_pad ks x) p ⊎ Has xs p → Has ks p ⊎ Has (x ∷ xs) p
    by (inl first) = one (list_any (same_pad x) ks) first
    by (inr later) = inr (suc later.0, later.1)

-- a pad of the package is one of its pins'
pub pinned : (width height : ℕ) (rows : PackageRows) → IsPackage width height rows → (pad : Pad) → Has rows.pads pad → (pin : List ℕ × Pad) × Has rows.pins pin × (pin.1 ≡ pad)
pinned width height rows form pad has =
    elim (kept_pad [] (map (λ (pin : List ℕ × Pad). pin.1) rows.pins) pad (subst (λ (ps : List Pad). Has ps pad) form.pads has)) [
      | inl none ↦ absurd (none-some pad none.1)
      | inr there ↦ map_Has (λ (pin : List ℕ × Pad). pin.1) rows.pins pad there
    ]

pub pio_below : (width height : ℕ) (rows : PackageRows) → IsPackage width height rows → (pad : Pad) → Has rows.pads pad → pad.pio < 2
pio_below width height rows form pad has =
    let pin = pinned width height rows form pad has in
    let is : IsPad width height pin.0.1 = Has_all (λ (p : List ℕ × Pad). IsPad width height p.1) rows.pins pin.0 form.pins pin.1 in
    subst (λ (p : Pad). p.pio < 2) pin.2 is.pio

-- ---- the four output parts
part_cases : (part : ℕ) → is_output_part part ≡ true → (part ≡ 0) ⊎ ((part ≡ 5) ⊎ ((part ≡ 6) ⊎ (part ≡ 10)))
part_cases part e = elim (or_cases (part == 0) ((part == 5) || ((part == 6) || (part == 10))) e) [
  | inl zero_is ↦ inl (eqb-true part 0 zero_is)
  | inr other ↦ elim (or_cases (part == 5) ((part == 6) || (part == 10)) other) [
    | inl five ↦ inr (inl (eqb-true part 5 five))
    | inr more ↦ elim (or_cases (part == 6) (part == 10) more) [ inl six ↦ inr (inr (inl (eqb-true part 6 six))) | inr ten ↦ inr (inr (inr (eqb-true part 10 ten))) ]
  ]
]

part_typed : (part : ℕ) → is_output_part part ≡ true → is_type (4 * buffer_part part + 1) ≡ true
part_typed part e = by (part_cases part e)
  where
    by : (part ≡ 0) ⊎ ((part ≡ 5) ⊎ ((part ≡ 6) ⊎ (part ≡ 10))) → is_type (4 * buffer_part part + 1) ≡ true
    by (inl f) = ap (λ m. is_type (4 * buffer_part m + 1)) f
    by (inr (inl f)) = ap (λ m. is_type (4 * buffer_part m + 1)) f
    by (inr (inr (inl f))) = ap (λ m. is_type (4 * buffer_part m + 1)) f
    by (inr (inr (inr f))) = ap (λ m. is_type (4 * buffer_part m + 1)) f

module _ (parts : Parts) (bits : Bits) (read : IsRead parts) where
  -- a pad that is driven with what a register keeps is of an IO tile
  pub output_placed : (pad : Pad) → pad.pio < 2 → has_output_register parts bits pad ≡ true → (k : ℕ) × (tile_place pad.tile (io_tiles parts) ≡ Some k)
  output_placed pad lt has = by (kind_at parts pad.tile) refl
    where
      other : pin_type parts bits pad ≡ 0 → (k : ℕ) × (tile_place pad.tile (io_tiles parts) ≡ Some k)
      other e = let never : (0 / 4 == 5) ≡ true = sym (ap (λ m. m / 4 == 5) e) ∙ has in cc never

      by : (o : Option TileKind) → kind_at parts pad.tile ≡ o → (k : ℕ) × (tile_place pad.tile (io_tiles parts) ≡ Some k)
      by None e = other (other_untyped parts bits read pad (λ f. none-some Io (sym e ∙ f)) lt)
      by (Some Io) e = io_placed parts pad.tile e
      by (Some Logic) e = other (other_untyped parts bits read pad (λ f. (let g : Some Logic ≡ Some Io = sym e ∙ f in cc g)) lt)
      by (Some RamBottom) e = other (other_untyped parts bits read pad (λ f. (let g : Some RamBottom ≡ Some Io = sym e ∙ f in cc g)) lt)
      by (Some RamTop) e = other (other_untyped parts bits read pad (λ f. (let g : Some RamTop ≡ Some Io = sym e ∙ f in cc g)) lt)

  io_there : (pad : Pad) → kind_at parts pad.tile ≡ Some Io → pad.pio < 2 → Has (pads parts) pad
  io_there pad io lt = by (tile_known parts.tiles pad.tile) refl io
    where
      by : (o : Option TileLine) → tile_known parts.tiles pad.tile ≡ o → option_map (λ (known : TileLine). known.kind) o ≡ Some Io → Has (pads parts) pad
      by None e f = absurd (none-some Io f)
      by (Some known) e f =
          let found = lookup_Has (same_tile pad.tile) parts.tiles known e in
          let same : found.0 ≡ pad.tile = sym (tile_same pad.tile found.0 found.2) in
          let row : TileAt × TileLine = (found.0, known) in
          let kept = Has_filter is_io_tile parts.tiles (found.0, known) found.1 (ap is_io_kind (same_Some known.kind Io f)) in
          flat_on (λ (x : TileAt × TileLine). pads_in x.0) _ kept.0 (found.0, known) pad kept.1
          (subst (λ (t : TileAt). Has (pads_in t) pad) (sym same) (each_two (λ pio. Has (pads_in pad.tile) (record { tile = pad.tile; pio = pio })) (0, refl) (1, refl) pad.pio lt))

  module _ (extras : List (ℕ × ℕ × ℕ)) (faultless : IsFaultless parts bits extras) where
    io_typed : (pad : Pad) → Has (pads parts) pad → is_output_part (pin_type parts bits pad / 4) ≡ true
    io_typed pad has =
        let right : has_wrong_type parts bits pad ≡ false = false_from_ne_true (has_wrong_type parts bits pad)
        (λ e. let found = Has_find (has_wrong_type parts bits) (pads parts) pad has e in none-some found.0 (sym faultless.types ∙ found.1)) in
        not-false (is_output_part (pin_type parts bits pad / 4)) (or_parts (not (is_output_part (pin_type parts bits pad / 4))) _ right).0

    -- the SB_IO of a pad of the package has a type that is known
    pub buffer_typed : (pad : Pad) → pad.pio < 2 → is_type (buffer_type parts bits pad) ≡ true
    buffer_typed pad lt = part_typed (pin_type parts bits pad / 4) (by (kind_at parts pad.tile) refl)
      where
        other : (pin_type parts bits pad ≡ 0) → is_output_part (pin_type parts bits pad / 4) ≡ true
        other e = ap (λ m. is_output_part (m / 4)) e

        by : (o : Option TileKind) → kind_at parts pad.tile ≡ o → is_output_part (pin_type parts bits pad / 4) ≡ true
        by None e = other (other_untyped parts bits read pad (λ f. none-some Io (sym e ∙ f)) lt)
        by (Some Io) e = io_typed pad (io_there pad e lt)
        by (Some Logic) e = other (other_untyped parts bits read pad (λ f. (let g : Some Logic ≡ Some Io = sym e ∙ f in cc g)) lt)
        by (Some RamBottom) e = other (other_untyped parts bits read pad (λ f. (let g : Some RamBottom ≡ Some Io = sym e ∙ f in cc g)) lt)
        by (Some RamTop) e = other (other_untyped parts bits read pad (λ f. (let g : Some RamTop ≡ Some Io = sym e ∙ f in cc g)) lt)
