-- A number that no cell has stands in no slot.
use Rattle.std.proofs.Common.{◌≡◌, ℕ, ◌≤◌, ◌<◌, true, Option, None, Some, List, [], ◌∷◌, length, get_or, suc, refl, ap, ◌∙◌, arith}
use Rattle.std.specs.Prelude.{option_map}
use Rattle.std.proofs.lemmas.Bool.{eqb-true}
use Rattle.std.proofs.lemmas.List.Quantifiers.{position-Some}
use Rattle.std.proofs.lemmas.Option.{slice_get-get_or}
use Rattle.ice_base.specs.declared.number.TileAt.{TileAt}
use Rattle.ice_base_values.specs.Order.{At}
use Rattle.ice_cells.specs.declared.cluster.Cluster.{Cluster}
use Rattle.ice_cells.specs.declared.cluster.Clusters.{Clusters}
use Rattle.ice_cells.specs.declared.design.Design.{Design}
use Rattle.ice_cells.specs.Tables.{is_place}
use Rattle.ice_cluster.specs.Slots.{AreSlots}
use Rattle.ice_place_defs.specs.Plan.{slot_in, slot_among, in_tile, first_slot}

placed : (c : ℕ) (x : Option ℕ) → is_place c x ≡ true → x ≡ Some c
placed c None e = absurd (cc)
placed c (Some k) e = ap (λ (n : ℕ). Some n) (eqb-true k c e)

slot_at : (cluster : Cluster) (c i : ℕ) → slot_in cluster c ≡ Some i → At cluster.cells i (Some c)
slot_at cluster c i e =
    let found = position-Some (is_place c) cluster.cells i None e in
    slice_get-get_or cluster.cells i None found.0 ∙ ap (λ (x : Option ℕ). Some x) (placed c (get_or cluster.cells i None) found.1)

no_slot_in : (clusters : List Cluster) (at : List TileAt) (c : ℕ) → ((k i : ℕ) (cluster : Cluster) → At clusters k cluster → At cluster.cells i (Some c) → ⊥) → slot_among clusters at c ≡ None
no_slot_in [] at c never = refl
no_slot_in (cluster ∷ clusters) [] c never = refl
no_slot_in (cluster ∷ clusters) (t ∷ at) c never = by (slot_in cluster c) refl (no_slot_in clusters at c (λ k i x here slot. never (suc k) i x here slot))
  where
    by : (o : Option ℕ) → slot_in cluster c ≡ o → slot_among clusters at c ≡ None → first_slot (option_map (in_tile t) o) (slot_among clusters at c) ≡ None
    by None e rest = rest
    by (Some i) e rest = absurd (never 0 i cluster refl (slot_at cluster c i e))

pub no_slot : (d : Design) (clusters : Clusters) (at : List TileAt) → AreSlots d clusters → (c : ℕ) → length d.cells ≤ c → slot_among clusters.list at c ≡ None
no_slot d clusters at slots c le =
    no_slot_in clusters.list at c (λ k i cluster here slot. let below : c < length d.cells = slots.within k i c (record { cluster = cluster; at = here; slot = slot }) in omega arith)
