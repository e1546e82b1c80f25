-- What a design reads is of the design, and a pad that it reads has a wire to read it by.
use Rattle.std.proofs.Common.{◌≡◌, ◌⊎◌, ℕ, zero, suc, ◌<◌, Bool, true, false, cond, Option, Some, List, [], ◌∷◌, ◌++◌, length, map, flat_map, inl, inr, refl, sym, ap, ◌∙◌, subst, eq-eqb, arith}
use Rattle.std.specs.List.{list_any}
use Rattle.std.proofs.lemmas.Bool.{true≢false}
use Rattle.std.proofs.lemmas.Option.{same_Some, none-some, slice_get_within}
use Rattle.indexmap.specs.IndexSet.{insert_key, insert_all}
use Rattle.ice_base_values.specs.Order.{At, Has}
use Rattle.ice_base_values.proofs.Members.{Has_any, any_Has, Has_all, map_Has}
use Rattle.ice_chip.specs.Database.{Parts, PackageRows, same_pad}
use Rattle.ice_chip.specs.IsRead.{IsRead}
use Rattle.ice_chip.specs.Lookups.{kind_at}
use Rattle.ice_chip.specs.Within.{IsPad, IsPackage}
use Rattle.ice_chip.specs.RamNames.{has_ram_wire}
use Rattle.ice_chip.proofs.Keys.{pad_same}
use Rattle.ice_chip.specs.declared.rows.Pad.{Pad}
use Rattle.ice_chip.specs.declared.rows.TileKind.{TileKind}
use Rattle.ice_chip.specs.declared.rows.TileKind.TheVariants.{Io}
use Rattle.ice_decode.proofs.Members.{Has_left, Has_right}
use Rattle.ice_cells.specs.declared.cell.LogicCell.{LogicCell}
use Rattle.ice_cells.specs.declared.design.Design.{Design}
use Rattle.ice_cells.specs.declared.design.DesignPad.{DesignPad}
use Rattle.ice_cells.specs.declared.root.Root.{Root}
use Rattle.ice_cells.specs.declared.root.Root.TheVariants.{PadIn, CellOut, GlobalOut, CarryOut}
use Rattle.ice_cells.specs.Readings.{carry_root, cell_roots, pad_roots, roots_read, is_read}
use Rattle.ice_cells.specs.Same.{same_root, same_source}
use Rattle.ice_chip_rams.specs.Sites.{ram_tile}
use Rattle.ice_chip_sockets.specs.Pins.{IsRamPin}
use Rattle.ice_chip_sockets.proofs.SiteFacts.{site_facts, pin_tile}
use Rattle.ice_emit_meaning_laws.proofs.Premises.{Premises}

-- ---- items of lists
pub item_there : {X : Type 0} (xs : List X) (i : ℕ) → i < length xs → (x : X) × At xs i x
item_there [] i lt = absurd (omega arith)
item_there (x ∷ xs) zero lt = (x, refl)
item_there (x ∷ xs) (suc i) lt = item_there xs i (omega arith)

-- a list of the same length has an item at the same place
pub item_beside : {X Y : Type 0} (xs : List X) (ys : List Y) (i : ℕ) (x : X) → length xs ≡ length ys → At xs i x → (y : Y) × At ys i y
item_beside xs ys i x long at = let lt = slice_get_within xs i x at in item_there ys i (omega (arith, long, lt))

pub has_flat : {X Y : Type 0} (f : X → List Y) (xs : List X) (i : ℕ) (x : X) (y : Y) → At xs i x → Has (f x) y → Has (flat_map f xs) y
has_flat f [] i x y at has = absurd (none-some x at)
has_flat {X} f (z ∷ xs) zero x y at has = Has_left (f z) (flat_map f xs) y (subst (λ (w : X). Has (f w) y) (sym (same_Some z x at)) has)
has_flat f (z ∷ xs) (suc i) x y at has = Has_right (f z) (flat_map f xs) y (has_flat f xs i x y at has)

-- ---- roots that are read
root_self : (r : Root) → same_root r r ≡ true
root_self (PadIn k) = eq-eqb k k refl
root_self (CellOut c) = eq-eqb c c refl
root_self (GlobalOut b) = eq-eqb b b refl
root_self (CarryOut c) = eq-eqb c c refl

module _ (d : Design) where
  abbrev from_carries : List (Option Root)
  from_carries = map carry_root d.carries

  abbrev from_cells : List (Option Root)
  from_cells = flat_map cell_roots d.cells

  abbrev from_pads : List (Option Root)
  from_pads = flat_map pad_roots d.pads

  abbrev pub IsReadable : Root → Type 0
  IsReadable r = is_read d r ≡ true

  readable : (r : Root) → Has (roots_read d) (Some r) → IsReadable r
  readable r has = Has_any (same_source (Some r)) (roots_read d) (Some r) has.0 has.1 (root_self r)

  pub cell_reads : (c : ℕ) (cell : LogicCell) (j : ℕ) (o : Option Root) → At d.cells c cell → At (cell_roots cell) j o → (r : Root) → o ≡ Some r → IsReadable r
  cell_reads c cell j o at there r e =
      readable r
      (Has_left (from_carries ++ from_cells ++ from_pads) d.globals (Some r) (Has_left (from_carries ++ from_cells) from_pads (Some r)
      (Has_right from_carries from_cells (Some r) (has_flat cell_roots d.cells c cell (Some r) at (j, there ∙ ap (λ (x : Option Root). Some x) e)))))

  pub pad_reads : (k : ℕ) (pad : DesignPad) (j : ℕ) (o : Option Root) → At d.pads k pad → At (pad_roots pad) j o → (r : Root) → o ≡ Some r → IsReadable r
  pad_reads k pad j o at there r e =
      readable r
      (Has_left (from_carries ++ from_cells ++ from_pads) d.globals (Some r)
      (Has_right (from_carries ++ from_cells) from_pads (Some r) (has_flat pad_roots d.pads k pad (Some r) at (j, there ∙ ap (λ (x : Option Root). Some x) e))))

  pub feed_reads : (b : ℕ) (o : Option Root) → At d.globals b o → (r : Root) → o ≡ Some r → IsReadable r
  feed_reads b o at r e = readable r (Has_right (from_carries ++ from_cells ++ from_pads) d.globals (Some r) (b, at ∙ ap (λ (x : Option Root). Some x) e))

-- ---- pads of a package
one_more : (ks : List Pad) (k p : Pad) (b : Bool) → Has (cond b ks (ks ++ k ∷ [])) p → Has ks p ⊎ (k ≡ p)
one_more ks k p true has = inl has
one_more ks k p false has = last (ks) has
  where
    last : (ks : List Pad) → Has (ks ++ k ∷ []) p → Has ks p ⊎ (k ≡ p)
    last [] (zero, at) = inr (same_Some k p at)
    last [] (suc i, at) = absurd (none-some p at)
    last (q ∷ ks) (zero, at) = inl (0, at)
    last (q ∷ ks) (suc i, at) = further (last ks (i, at))
      where
        further : Has ks p ⊎ (k ≡ p) → Has (q ∷ ks) p ⊎ (k ≡ p)
        further (inl h) = inl (suc h.0, h.1)
        further (inr e) = inr e

inserted : (ks xs : List Pad) (p : Pad) → Has (insert_all same_pad ks xs) p → Has ks p ⊎ Has xs p
inserted ks [] p has = inl has
inserted ks (x ∷ xs) p has = by (inserted (insert_key same_pad ks x) xs p has)
  where
    old : Has ks p ⊎ (x ≡ p) → Has ks p ⊎ Has (x ∷ xs) p
    old (inl h) = inl h
    old (inr e) = inr (0, ap (λ (y : Pad). Some y) e)

    by : Has (insert_key same_pad ks x) p ⊎ Has xs p → Has ks p ⊎ Has (x ∷ xs) p
    by (inl h) = old (one_more ks x p (list_any (same_pad x) ks) h)
    by (inr h) = inr (suc h.0, h.1)

-- a pad of a package is pad 0 or pad 1 of its tile
pub bonded_low : (parts : Parts) (rows : PackageRows) (pad : Pad) → IsRead parts → Has parts.packages rows → list_any (same_pad pad) rows.pads ≡ true → pad.pio < 2
bonded_low parts rows pad read stands is =
    let found = any_Has (same_pad pad) rows.pads is in
    let form : IsPackage parts.width parts.height rows = Has_all (IsPackage parts.width parts.height) parts.packages rows read.package_forms stands in
    let there : Has (insert_all same_pad [] (map (λ (pin : List ℕ × Pad). pin.1) rows.pins)) pad =
    subst (λ (pads : List Pad). Has pads pad) form.pads (subst (λ (p : Pad). Has rows.pads p) (sym (pad_same pad found.0 found.2)) found.1) in
    by form (inserted [] (map (λ (pin : List ℕ × Pad). pin.1) rows.pins) pad there)
  where
    by : IsPackage parts.width parts.height rows → Has [] pad ⊎ Has (map (λ (pin : List ℕ × Pad). pin.1) rows.pins) pad → pad.pio < 2
    by form (inl h) = absurd (none-some pad h.1)
    by form (inr h) =
        let pin = map_Has (λ (pin : List ℕ × Pad). pin.1) rows.pins pad h in
        let is : IsPad parts.width parts.height pin.0.1 = Has_all (λ (p : List ℕ × Pad). IsPad parts.width parts.height p.1) rows.pins pin.0 form.pins pin.1 in
        subst (λ (p : Pad). p.pio < 2) pin.2 is.pio

-- the tile of a pin of a block RAM is none of pads
pub pin_other : (parts : Parts) (rams : ℕ) (pad : Pad) → IsRamPin parts rams pad → kind_at parts pad.tile ≡ Some Io → ⊥
pin_other parts rams pad pin io =
    let there = pin_tile parts pin.site pin.number (site_facts parts pin.place pin.site pin.there) in
    let tile : pad.tile ≡ ram_tile pin.site pin.number = ap (λ (p : Pad). p.tile) pin.is_pin in
    let same : Io ≡ there.kind = same_Some Io there.kind (sym io ∙ ap (kind_at parts) tile ∙ there.kind_is) in
    true≢false (sym there.stands ∙ ap (λ (k : TileKind). has_ram_wire k pin.number) (sym same))

-- a port's pad is pad 0 or pad 1 of its tile, or a pin of a block RAM
pub low_or_pin : (g : Premises) (k : ℕ) (pad : Pad) → At g.plan.ports k pad → (pad.pio < 2) ⊎ IsRamPin g.parts g.placed.rams pad
low_or_pin g k pad at = elim (g.placed.pads.bonded k pad at) [
  | inl is ↦ inl (bonded_low g.parts g.bonded pad g.chip_read g.placed.«package» is)
  | inr pin ↦ inr pin
]
