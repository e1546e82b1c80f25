-- Where the cells of a placed design stand.
use Rattle.std.proofs.Common.{◌≡◌, ◌⊎◌, ℕ, zero, suc, ◌<◌, Bool, true, false, Option, None, Some, List, [], ◌∷◌, length, get_or, inl, inr, refl, sym, ap, ◌∙◌, subst, arith}
use Rattle.std.specs.Prelude.{◌&&◌, slice_get, option_map}
use Rattle.std.proofs.lemmas.Bool.{and_parts, true≢false, eqb-true}
use Rattle.std.proofs.lemmas.List.Quantifiers.{position-Some}
use Rattle.std.proofs.lemmas.Option.{same_Some, none-some, get_or_from_slice_get, slice_get-get_or}
use Rattle.ice_base.specs.declared.number.TileAt.{TileAt}
use Rattle.ice_base.proofs.Keys.{tile_same, tile_self}
use Rattle.ice_base_values.specs.Order.{At}
use Rattle.ice_base_values.proofs.Members.{At_within}
use Rattle.ice_base_values.proofs.Places.{At_same}
use Rattle.ice_chip.specs.Database.{Parts, same_tile}
use Rattle.ice_chip.specs.Lookups.{kind_at, wire_named}
use Rattle.ice_chip.specs.Names.{input_name}
use Rattle.ice_chip.specs.WireNames.{first_carry_name}
use Rattle.ice_chip.specs.declared.rows.TileKind.{TileKind}
use Rattle.ice_chip.specs.declared.rows.TileKind.TheVariants.{Io, Logic, RamBottom, RamTop}
use Rattle.ice_cells.specs.declared.cell.LogicCell.{LogicCell}
use Rattle.ice_cells.specs.declared.cluster.Cluster.{Cluster}
use Rattle.ice_cells.specs.Tables.{is_place}
use Rattle.ice_cluster.specs.Slots.{StandsInSlot}
use Rattle.ice_sites.specs.Site.{leads, has_cell, has_controls, has_entry, has_chain, is_logic, all_below, is_site}
use Rattle.ice_place_defs.specs.Plan.{Slot, slot_in, in_tile, first_slot, slot_among, slot_of, listed}
use Rattle.ice_emit_defs.specs.Slots.{IsOn, StandsIn}
use Rattle.ice_emit_meaning_laws.proofs.Premises.{Premises}
use Rattle.ice_emit_meaning_laws.proofs.Read.{item_there}

-- ---- places that are found
placed_one : (c : ℕ) (o : Option ℕ) → is_place c o ≡ true → o ≡ Some c
placed_one c None e = absurd (true≢false (sym e))
placed_one c (Some k) e = ap Some (eqb-true k c e)

in_cluster : (cluster : Cluster) (c i : ℕ) → slot_in cluster c ≡ Some i → At cluster.cells i (Some c)
in_cluster cluster c i e =
    let got = position-Some (is_place c) cluster.cells i None e in
    slice_get-get_or cluster.cells i None got.0 ∙ ap (λ (o : Option ℕ). Some o) (placed_one c (get_or cluster.cells i None) got.1)

-- the cluster, of those that stand side by side with tiles, in which a cell stands
record IsFound (clusters : List Cluster) (at : List TileAt) (c : ℕ) (slot : Slot) : Type 0 where
  pub number : ℕ
  pub cluster : Cluster
  pub cluster_is : At clusters number cluster
  pub tile_is : At at number slot.0
  pub slot_is : At cluster.cells slot.1 (Some c)

among : (clusters : List Cluster) (at : List TileAt) (c : ℕ) (slot : Slot) → slot_among clusters at c ≡ Some slot → IsFound clusters at c slot
among [] at c slot e = absurd (none-some slot e)
among (cluster ∷ clusters) [] c slot e = absurd (none-some slot e)
among (cluster ∷ clusters) (t ∷ at) c slot e = by (slot_in cluster c) refl e (λ f. among clusters at c slot f)
  where
    later : IsFound clusters at c slot → IsFound (cluster ∷ clusters) (t ∷ at) c slot
    later f = record { number = suc f.number; cluster = f.cluster; cluster_is = f.cluster_is; tile_is = f.tile_is; slot_is = f.slot_is }

    by : (o : Option ℕ) → slot_in cluster c ≡ o → first_slot (option_map (in_tile t) o) (slot_among clusters at c) ≡ Some slot → (slot_among clusters at c ≡ Some slot → IsFound clusters at c slot)
        → IsFound (cluster ∷ clusters) (t ∷ at) c slot
    by None is f rest = later (rest f)
    by (Some i) is f rest =
        let same : in_tile t i ≡ slot = same_Some (in_tile t i) slot f in
        subst (IsFound (cluster ∷ clusters) (t ∷ at) c) same (record { number = 0; cluster = cluster; cluster_is = refl; tile_is = refl; slot_is = in_cluster cluster c i is })

-- some cluster on the tile has a cell in the slot, or none has
record HoldsOne (clusters : List Cluster) (at : List TileAt) (t : TileAt) (i : ℕ) : Type 0 where
  pub number : ℕ
  pub cell : ℕ
  pub cluster : Cluster
  pub cluster_is : At clusters number cluster
  pub tile_is : At at number t
  pub slot_is : At cluster.cells i (Some cell)

abbrev HoldsNone : List Cluster → List TileAt → TileAt → ℕ → Type 0
HoldsNone clusters at t i = (n c : ℕ) (cluster : Cluster) → At clusters n cluster → At at n t → At cluster.cells i (Some c) → ⊥

held_or_none : (clusters : List Cluster) (at : List TileAt) (t : TileAt) (i : ℕ) → HoldsOne clusters at t i ⊎ HoldsNone clusters at t i
held_or_none [] at t i = inr (λ n c cluster here there slot. none-some cluster here)
held_or_none (x ∷ clusters) [] t i = inr (λ n c cluster here there slot. none-some t there)
held_or_none (x ∷ clusters) (u ∷ at) t i = by (same_tile u t) (slot_at i) refl (held_or_none clusters at t i)
  where
    slot_at : ℕ → Option (Option ℕ)
    slot_at k = slice_get x.cells k

    later : HoldsOne clusters at t i → HoldsOne (x ∷ clusters) (u ∷ at) t i
    later h = record { number = suc h.number; cell = h.cell; cluster = h.cluster; cluster_is = h.cluster_is; tile_is = h.tile_is; slot_is = h.slot_is }

    -- not here, and not later
    neither : ((c : ℕ) → u ≡ t → slot_at i ≡ Some (Some c) → ⊥) → HoldsNone clusters at t i → HoldsNone (x ∷ clusters) (u ∷ at) t i
    neither here rest zero c cluster one two slot =
        here c (same_Some u t two) (subst (λ (y : Cluster). slice_get y.cells i ≡ Some (Some c)) (sym (same_Some x cluster one)) slot)
    neither here rest (suc n) c cluster one two slot = rest n c cluster one two slot

    on : ((c : ℕ) → u ≡ t → slot_at i ≡ Some (Some c) → ⊥) → HoldsOne clusters at t i ⊎ HoldsNone clusters at t i → HoldsOne (x ∷ clusters) (u ∷ at) t i ⊎ HoldsNone (x ∷ clusters) (u ∷ at) t i
    on here (inl h) = inl (later h)
    on here (inr h) = inr (neither here h)

    by : (same : Bool) (o : Option (Option ℕ)) → same_tile u t ≡ same → HoldsOne clusters at t i ⊎ HoldsNone clusters at t i → HoldsOne (x ∷ clusters) (u ∷ at) t i ⊎ HoldsNone (x ∷ clusters) (u ∷ at) t i
    by false o is rest = on (λ c e f. true≢false (sym (tile_self t) ∙ ap (λ v. same_tile v t) (sym e) ∙ is)) rest
    by true o is rest = at_slot (slot_at i) refl
      where
        at_slot : (s : Option (Option ℕ)) → slot_at i ≡ s → HoldsOne (x ∷ clusters) (u ∷ at) t i ⊎ HoldsNone (x ∷ clusters) (u ∷ at) t i
        at_slot None f = on (λ c e h. none-some (Some c) (sym f ∙ h)) rest
        at_slot (Some None) f = on (λ c e h. none-some c (same_Some None (Some c) (sym f ∙ h))) rest
        at_slot (Some (Some c)) f = inl (record { number = 0; cell = c; cluster = x; cluster_is = refl; tile_is = ap Some (tile_same u t is); slot_is = f })

logic_kind : (o : Option TileKind) → is_logic o ≡ true → o ≡ Some Logic
logic_kind None e = absurd (true≢false (sym e))
logic_kind (Some Io) e = absurd (true≢false (sym e))
logic_kind (Some Logic) e = refl
logic_kind (Some RamBottom) e = absurd (true≢false (sym e))
logic_kind (Some RamTop) e = absurd (true≢false (sym e))

led_from : (parts : Parts) (source target : Option ℕ) → leads parts source target ≡ true → (w : ℕ) × (source ≡ Some w)
led_from parts None target e = absurd (true≢false (sym e))
led_from parts (Some w) target e = (w, refl)

module _ (g : Premises) where
  -- ---- tiles of clusters
  site : (t : TileAt) (cluster : Cluster) → IsOn g.plan t cluster → is_site g.parts t ≡ true
  site t cluster on =
      ap (is_site g.parts) (sym (get_or_from_slice_get g.plan.at on.number t (record { x = 0; y = 0 }) on.tile_is))
      ∙ g.placed.legal.sites on.number (At_within g.plan.at on.number t on.tile_is)

  site_parts : (t : TileAt) → is_site g.parts t ≡ true → (is_logic (kind_at g.parts t) ≡ true) × (has_entry g.parts t ≡ true)
  site_parts t e =
      let logic = is_logic (kind_at g.parts t) in
      let cells = all_below (has_cell g.parts t) 8 in
      let controls = has_controls g.parts t in
      let entry = has_entry g.parts t in
      let one = and_parts (logic && cells && controls && entry) (all_below (has_chain g.parts t) 7) e in
      let two = and_parts (logic && cells && controls) entry one.0 in
      let three = and_parts (logic && cells) controls two.0 in
      let four = and_parts logic cells three.0 in
      (four.0, two.1)

  pub logic_on : (t : TileAt) (cluster : Cluster) → IsOn g.plan t cluster → kind_at g.parts t ≡ Some Logic
  logic_on t cluster on = logic_kind (kind_at g.parts t) (site_parts t (site t cluster on)).0

  pub first_there : (t : TileAt) (cluster : Cluster) → IsOn g.plan t cluster → (w : ℕ) × (wire_named g.parts t first_carry_name ≡ Some w)
  first_there t cluster on = led_from g.parts (wire_named g.parts t first_carry_name) (wire_named g.parts t (input_name 0 3)) (site_parts t (site t cluster on)).1

  -- ---- slots
  pub slot_below : (t : TileAt) (cluster : Cluster) → IsOn g.plan t cluster → (i : ℕ) (o : Option ℕ) → At cluster.cells i o → i < 8
  slot_below t cluster on i o at =
      let lt : i < length cluster.cells = At_within cluster.cells i o at in
      let long : length cluster.cells ≡ 8 = g.slots.eight on.number cluster on.cluster_is in
      omega (arith, lt, long)

  pub below : (t : TileAt) (i c : ℕ) (cell : LogicCell) → StandsIn g.plan t i c cell → i < 8
  below t i c cell s = slot_below t s.cluster s.on i (Some c) s.slot

  pub logic_there : (t : TileAt) (i c : ℕ) (cell : LogicCell) → StandsIn g.plan t i c cell → kind_at g.parts t ≡ Some Logic
  logic_there t i c cell s = logic_on t s.cluster s.on

  stands : (n i c : ℕ) (cluster : Cluster) → At g.plan.clusters n cluster → At cluster.cells i (Some c) → StandsInSlot (listed g.plan) n i c
  stands n i c cluster at slot = record { cluster = cluster; at = at; slot = slot }

  cell_there : (c : ℕ) → c < length g.plan.design.cells → (cell : LogicCell) × At g.plan.design.cells c cell
  cell_there c lt = item_there g.plan.design.cells c lt

  -- a cell of a cluster on a tile stands there
  pub stands_on : (t : TileAt) (cluster : Cluster) (on : IsOn g.plan t cluster) (i c : ℕ) → At cluster.cells i (Some c) → (cell : LogicCell) × StandsIn g.plan t i c cell
  stands_on t cluster on i c slot =
      let cell = cell_there c (g.slots.within on.number i c (stands on.number i c cluster on.cluster_is slot)) in
      (cell.0, record { cluster = cluster; on = on; slot = slot; cell_is = cell.1 })

  -- a cell stands in one slot of one tile, and of one cluster
  pub record IsThere (t u : TileAt) (i j : ℕ) (a b : Cluster) : Type 0 where
    pub tile : t ≡ u
    pub slot : i ≡ j
    pub cluster : a ≡ b

  pub one_place : (t u : TileAt) (a b : Cluster) (one : IsOn g.plan t a) (two : IsOn g.plan u b) (i j c : ℕ) → At a.cells i (Some c) → At b.cells j (Some c) → IsThere t u i j a b
  one_place t u a b one two i j c here there =
      let same = g.slots.once c one.number i two.number j (stands one.number i c a one.cluster_is here) (stands two.number j c b two.cluster_is there) in
      record {
        tile = At_same g.plan.at two.number t u (subst (λ n. At g.plan.at n t) same.0 one.tile_is) two.tile_is;
        slot = same.1;
        cluster = At_same g.plan.clusters two.number a b (subst (λ n. At g.plan.clusters n a) same.0 one.cluster_is) two.cluster_is;
      }

  -- the slot that is found of a cell is where it stands
  pub slot_stands : (c : ℕ) (slot : Slot) → slot_of g.plan c ≡ Some slot → (cell : LogicCell) × StandsIn g.plan slot.0 slot.1 c cell
  slot_stands c slot e =
      let f = among g.plan.clusters g.plan.at c slot e in
      stands_on slot.0 f.cluster (record { number = f.number; cluster_is = f.cluster_is; tile_is = f.tile_is }) slot.1 c f.slot_is

  -- a cell stands in a slot, or none does
  pub stands_or_none : (t : TileAt) (i : ℕ) → ((c : ℕ) × (cell : LogicCell) × StandsIn g.plan t i c cell) ⊎ ((c : ℕ) (cell : LogicCell) → StandsIn g.plan t i c cell → ⊥)
  stands_or_none t i = by (held_or_none g.plan.clusters g.plan.at t i)
    where
      by : HoldsOne g.plan.clusters g.plan.at t i ⊎ HoldsNone g.plan.clusters g.plan.at t i
          → ((c : ℕ) × (cell : LogicCell) × StandsIn g.plan t i c cell) ⊎ ((c : ℕ) (cell : LogicCell) → StandsIn g.plan t i c cell → ⊥)
      by (inl h) =
          let one = stands_on t h.cluster (record { number = h.number; cluster_is = h.cluster_is; tile_is = h.tile_is }) i h.cell h.slot_is in
          inl (h.cell, one.0, one.1)
      by (inr h) = inr (λ c cell s. h s.on.number c s.cluster s.on.cluster_is s.on.tile_is s.slot)
