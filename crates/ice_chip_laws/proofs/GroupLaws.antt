-- Groups stand in tiles that have their bits.
use Rattle.std.proofs.Common.{◌≡◌, ℕ, ◌<◌, Bool, true, false, Option, None, Some, List, [], ◌∷◌, length, inl, inr, refl, sym, ap, subst, ◌∙◌, true≢false}
use Rattle.std.specs.Prelude.{◌⊎◌, nat_lt, if◌then◌else◌}
use Rattle.std.proofs.lemmas.Option.{none-some}
use Rattle.std.proofs.lemmas.Bool.{ltb-true}
use Rattle.ice_base.specs.declared.number.TileAt.{TileAt}
use Rattle.ice_base.specs.declared.bit.BitAt.{BitAt}
use Rattle.ice_chip.specs.Database.{Parts, SwitchGroup, SwitchRow, columns, tile_known}
use Rattle.ice_chip.specs.IsRead.{IsChip, HasWiresBelow}
use Rattle.ice_chip.specs.Lookups.{kind_at}
use Rattle.ice_chip.specs.Within.{IsBit, IsGroup}
use Rattle.ice_chip.specs.WholeFaults.{lacks_tile, group_without_tile, has_bit_beyond, exceeds, group_beyond_tile}
use Rattle.ice_chip.specs.declared.rows.TileLine.{TileLine}
use Rattle.ice_chip.specs.declared.rows.TileKind.{TileKind}
use Rattle.ice_base_values.specs.Order.{Has}
use Rattle.ice_chip_laws.specs.Groups.{HasGroups}
use Rattle.ice_chip_laws.proofs.FaultFree.{no_fault}
use Rattle.ice_chip_laws.proofs.KnownTiles.{known_kind, kind_known}
use Rattle.ice_base_values.proofs.Members.{Has_cases, Has_none, Has_all}

-- no group is at fault
no_group : (tiles : List (TileAt × TileLine)) (gs : List SwitchGroup) (g : SwitchGroup) → group_without_tile tiles gs ≡ None → Has gs g → lacks_tile (tile_known tiles g.tile) ≡ false
no_group tiles [] g e has = absurd (Has_none g has)
no_group tiles (h ∷ gs) g e has = by (lacks_tile (tile_known tiles h.tile)) refl e (Has_cases h g gs has) (no_group tiles gs g)
  where
    by : (b : Bool) → lacks_tile (tile_known tiles h.tile) ≡ b → (if b then Some h.line else group_without_tile tiles gs) ≡ None → (h ≡ g) ⊎ Has gs g
        → (group_without_tile tiles gs ≡ None → Has gs g → lacks_tile (tile_known tiles g.tile) ≡ false) → lacks_tile (tile_known tiles g.tile) ≡ false
    by true lacks e either more = absurd (none-some h.line (sym e))
    by false stands e (inl here) more = ap (λ (x : SwitchGroup). lacks_tile (tile_known tiles x.tile)) (sym here) ∙ stands
    by false stands e (inr there) more = more e there

no_bits : (tiles : List (TileAt × TileLine)) (gs : List SwitchGroup) (g : SwitchGroup) → group_beyond_tile tiles gs ≡ None → Has gs g → exceeds (tile_known tiles g.tile) g.bits ≡ false
no_bits tiles [] g e has = absurd (Has_none g has)
no_bits tiles (h ∷ gs) g e has = by (exceeds (tile_known tiles h.tile) h.bits) refl e (Has_cases h g gs has) (no_bits tiles gs g)
  where
    by : (b : Bool) → exceeds (tile_known tiles h.tile) h.bits ≡ b → (if b then Some h.line else group_beyond_tile tiles gs) ≡ None → (h ≡ g) ⊎ Has gs g
        → (group_beyond_tile tiles gs ≡ None → Has gs g → exceeds (tile_known tiles g.tile) g.bits ≡ false) → exceeds (tile_known tiles g.tile) g.bits ≡ false
    by true lacks e either more = absurd (none-some h.line (sym e))
    by false within e (inl here) more = ap (λ (x : SwitchGroup). exceeds (tile_known tiles x.tile) x.bits) (sym here) ∙ within
    by false within e (inr there) more = more e there

-- no bit of these is beyond the limit
bit_within : (limit : ℕ) (bits : List BitAt) (b : BitAt) → has_bit_beyond limit bits ≡ false → Has bits b → b.col < limit
bit_within limit [] b e has = absurd (Has_none b has)
bit_within limit (a ∷ bits) b e has = by (nat_lt a.col limit) refl e (Has_cases a b bits has) (bit_within limit bits b)
  where
    by : (test : Bool) → nat_lt a.col limit ≡ test → (if test then has_bit_beyond limit bits else true) ≡ false → (a ≡ b) ⊎ Has bits b
        → (has_bit_beyond limit bits ≡ false → Has bits b → b.col < limit) → b.col < limit
    by true is e (inl here) more = subst (λ (x : BitAt). x.col < limit) here (ltb-true a.col limit is)
    by true is e (inr there) more = more e there
    by false is e either more = absurd (true≢false e)

tile_stands : (o : Option TileLine) → lacks_tile o ≡ false → (known : TileLine) × (o ≡ Some known)
tile_stands None e = absurd (true≢false e)
tile_stands (Some known) e = (known, refl)

group_placed : (parts : Parts) → IsChip parts → (g : SwitchGroup) → Has parts.groups g → (kind : TileKind) × (kind_at parts g.tile ≡ Some kind)
group_placed parts chip g has =
    let tile = tile_stands (tile_known parts.tiles g.tile) (no_group parts.tiles parts.groups g (no_fault parts chip).tiles has) in
    (tile.0.kind, kind_known parts g.tile tile.0 tile.1)

group_within : (parts : Parts) → IsChip parts → (g : SwitchGroup) (kind : TileKind) (b : BitAt) → Has parts.groups g → kind_at parts g.tile ≡ Some kind → Has g.bits b → b.col < columns kind
group_within parts chip g kind b has at of =
    let tile = known_kind parts g.tile kind at in
    let fits : exceeds (Some tile.0) g.bits ≡ false = ap (λ o. exceeds o g.bits) (sym tile.1) ∙ no_bits parts.tiles parts.groups g (no_fault parts chip).columns has in
    subst (λ (k : TileKind). b.col < columns k) tile.2 (bit_within (columns tile.0.kind) g.bits b fits of)

wires_below : (parts : Parts) → IsChip parts → (g : SwitchGroup) → Has parts.groups g → HasWiresBelow parts.wires g
wires_below parts chip g has = Has_all (HasWiresBelow parts.wires) parts.groups g chip.read.group_wires has

form_of : (parts : Parts) → IsChip parts → (g : SwitchGroup) → Has parts.groups g → IsGroup parts.width parts.height g
form_of parts chip g has = Has_all (IsGroup parts.width parts.height) parts.groups g chip.read.group_forms has

pub groups_are : (parts : Parts) → IsChip parts → HasGroups parts
groups_are parts chip = record {
  placed = group_placed parts chip;
  within = group_within parts chip;
  rows_of_bits = λ g b has of. (Has_all (IsBit 54) g.bits b (form_of parts chip g has).bits of).row;
  some = λ g has. (form_of parts chip g has).some;
  values = λ g r has of. Has_all (λ (x : SwitchRow). length x.values ≡ length g.bits) g.rows r (form_of parts chip g has).values of;
  target = λ g has. (wires_below parts chip g has).target;
  source = λ g r has of. Has_all (λ (x : SwitchRow). x.source < parts.wires) g.rows r (wires_below parts chip g has).sources of;
}
