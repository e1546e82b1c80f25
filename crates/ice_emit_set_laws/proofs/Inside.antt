-- Which cluster, slot or port a setting comes from.
use Rattle.std.proofs.Common.{◌≡◌, ◌⊎◌, ℕ, zero, suc, ◌+◌, Bool, Option, None, Some, List, [], ◌∷◌, inl, inr, refl, ap, sym, subst, arith}
use Rattle.std.specs.Prelude.{slice_get}
use Rattle.std.specs.Option.{option_map_or}
use Rattle.std.proofs.lemmas.Option.{same_Some, none-some}
use Rattle.ice_base.specs.declared.number.TileAt.{TileAt}
use Rattle.ice_base_values.specs.Order.{At, Has}
use Rattle.ice_base_values.proofs.Members.{Has_none}
use Rattle.ice_chip.specs.Database.{Parts}
use Rattle.ice_chip.specs.declared.rows.Pad.{Pad}
use Rattle.ice_cells.specs.declared.cell.LogicCell.{LogicCell}
use Rattle.ice_cells.specs.declared.cluster.Cluster.{Cluster}
use Rattle.ice_cells.specs.declared.design.Design.{Design}
use Rattle.ice_cells.specs.declared.design.DesignPad.{DesignPad}
use Rattle.ice_place_defs.specs.Loads.{slot_gives, slots_give}
use Rattle.ice_emit_rows_laws.specs.Settings.{Setting}
use Rattle.ice_emit_defs.specs.Arrivals.{Held}
use Rattle.ice_emit_defs.specs.Functions.{cluster_settings, clusters_settings, port_settings, ports_settings}
use Rattle.ice_decode.proofs.Members.{Has_left, Has_right, Has_append_cases}

-- ---- slots
pub record InSlot (of_cell : TileAt → ℕ → LogicCell → List Setting) (cells : List LogicCell) (t : TileAt) (i : ℕ) (slots : List (Option ℕ)) (x : Setting) : Type 0 where
  pub place : ℕ
  pub number : ℕ
  pub cell : LogicCell
  pub slot : At slots place (Some number)
  pub cell_is : At cells number cell
  pub inside : Has (of_cell t (i + place) cell) x

module _ (of_cell : TileAt → ℕ → LogicCell → List Setting) (cells : List LogicCell) (t : TileAt) where
  pub slots_back : (i : ℕ) (slots : List (Option ℕ)) (x : Setting) → Has (slots_give of_cell cells t i slots) x → InSlot of_cell cells t i slots x
  slots_back i [] x has = absurd (Has_none x has)
  slots_back i (slot ∷ slots) x has = by (Has_append_cases (slot_gives of_cell cells t i slot) (slots_give of_cell cells t (i + 1) slots) x has) (slots_back (i + 1) slots x)
    where
      here : (o : Option ℕ) → slot ≡ o → Has (slot_gives of_cell cells t i o) x → InSlot of_cell cells t i (slot ∷ slots) x
      here None is inside = absurd (Has_none x inside)
      here (Some c) is inside = of (slice_get cells c) refl inside
        where
          of : (o : Option LogicCell) → slice_get cells c ≡ o → Has (option_map_or (of_cell t i) o []) x → InSlot of_cell cells t i (slot ∷ slots) x
          of None at held = absurd (Has_none x held)
          of (Some cell) at held = record {
            place = 0;
            number = c;
            cell = cell;
            slot = ap (λ s. Some s) is;
            cell_is = at;
            inside = subst (λ n. Has (of_cell t n cell) x) (let e : i ≡ i + 0 = omega arith in e) held;
          }

      by : Has (slot_gives of_cell cells t i slot) x ⊎ Has (slots_give of_cell cells t (i + 1) slots) x → (Has (slots_give of_cell cells t (i + 1) slots) x → InSlot of_cell cells t (i + 1) slots x)
          → InSlot of_cell cells t i (slot ∷ slots) x
      by (inl first) rest = here slot refl first
      by (inr there) rest =
          let old = rest there in
          record {
            place = suc old.place;
            number = old.number;
            cell = old.cell;
            slot = old.slot;
            cell_is = old.cell_is;
            inside = subst (λ n. Has (of_cell t n old.cell) x) (let e : i + 1 + old.place ≡ i + suc old.place = omega arith in e) old.inside;
          }

  pub slots_on : (i : ℕ) (slots : List (Option ℕ)) (place c : ℕ) (cell : LogicCell) (x : Setting) → At slots place (Some c) → At cells c cell → Has (of_cell t (i + place) cell) x
      → Has (slots_give of_cell cells t i slots) x
  slots_on i [] place c cell x slot at inside = absurd (none-some (Some c) slot)
  slots_on i (s ∷ slots) zero c cell x slot at inside =
      Has_left (slot_gives of_cell cells t i s) (slots_give of_cell cells t (i + 1) slots) x
      (subst (λ o. Has (slot_gives of_cell cells t i o) x) (sym (same_Some s (Some c) slot))
      (subst (λ o. Has (option_map_or (of_cell t i) o []) x) (sym at) (subst (λ n. Has (of_cell t n cell) x) (let e : i + 0 ≡ i = omega arith in e) inside)))
  slots_on i (s ∷ slots) (suc place) c cell x slot at inside =
      Has_right (slot_gives of_cell cells t i s) (slots_give of_cell cells t (i + 1) slots) x
      (slots_on (i + 1) slots place c cell x slot at (subst (λ n. Has (of_cell t n cell) x) (let e : i + suc place ≡ i + 1 + place = omega arith in e) inside))

-- ---- clusters
pub record InCluster (parts : Parts) (held : Held) (d : Design) (at : List TileAt) (clusters : List Cluster) (x : Setting) : Type 0 where
  pub number : ℕ
  pub tile : TileAt
  pub cluster : Cluster
  pub tile_is : At at number tile
  pub cluster_is : At clusters number cluster
  pub inside : Has (cluster_settings parts held d tile cluster) x

module _ (parts : Parts) (held : Held) (d : Design) where
  pub clusters_back : (at : List TileAt) (clusters : List Cluster) (x : Setting) → Has (clusters_settings parts held d at clusters) x → InCluster parts held d at clusters x
  clusters_back [] clusters x has = absurd (Has_none x has)
  clusters_back (t ∷ at) [] x has = absurd (Has_none x has)
  clusters_back (t ∷ at) (c ∷ clusters) x has = by (Has_append_cases (cluster_settings parts held d t c) (clusters_settings parts held d at clusters) x has) (clusters_back at clusters x)
    where
      by : Has (cluster_settings parts held d t c) x ⊎ Has (clusters_settings parts held d at clusters) x → (Has (clusters_settings parts held d at clusters) x → InCluster parts held d at clusters x)
          → InCluster parts held d (t ∷ at) (c ∷ clusters) x
      by (inl here) rest = record { number = 0; tile = t; cluster = c; tile_is = refl; cluster_is = refl; inside = here }
      by (inr there) rest =
          let old = rest there in
          record { number = suc old.number; tile = old.tile; cluster = old.cluster; tile_is = old.tile_is; cluster_is = old.cluster_is; inside = old.inside }

  pub clusters_on : (at : List TileAt) (clusters : List Cluster) (n : ℕ) (t : TileAt) (c : Cluster) (x : Setting) → At at n t → At clusters n c → Has (cluster_settings parts held d t c) x
      → Has (clusters_settings parts held d at clusters) x
  clusters_on [] clusters n t c x tile_is cluster_is has = absurd (none-some t tile_is)
  clusters_on (u ∷ at) [] n t c x tile_is cluster_is has = absurd (none-some c cluster_is)
  clusters_on (u ∷ at) (e ∷ clusters) zero t c x tile_is cluster_is has =
      Has_left (cluster_settings parts held d u e) (clusters_settings parts held d at clusters) x
      (subst (λ (v : TileAt). Has (cluster_settings parts held d v e) x) (sym (same_Some u t tile_is))
      (subst (λ (v : Cluster). Has (cluster_settings parts held d t v) x) (sym (same_Some e c cluster_is)) has))
  clusters_on (u ∷ at) (e ∷ clusters) (suc n) t c x tile_is cluster_is has =
      Has_right (cluster_settings parts held d u e) (clusters_settings parts held d at clusters) x (clusters_on at clusters n t c x tile_is cluster_is has)

-- ---- ports
pub record InPort (parts : Parts) (ports : List Pad) (pullups : List Bool) (pads : List DesignPad) (x : Setting) : Type 0 where
  pub number : ℕ
  pub pad : Pad
  pub pullup : Bool
  pub port : DesignPad
  pub pad_is : At ports number pad
  pub port_is : At pads number port
  pub inside : Has (port_settings parts pad pullup port) x

module _ (parts : Parts) where
  pub ports_back : (ports : List Pad) (pullups : List Bool) (pads : List DesignPad) (x : Setting) → Has (ports_settings parts ports pullups pads) x → InPort parts ports pullups pads x
  ports_back [] pullups pads x has = absurd (Has_none x has)
  ports_back (p ∷ ports) [] pads x has = absurd (Has_none x has)
  ports_back (p ∷ ports) (u ∷ pullups) [] x has = absurd (Has_none x has)
  ports_back (p ∷ ports) (u ∷ pullups) (w ∷ pads) x has = by (Has_append_cases (port_settings parts p u w) (ports_settings parts ports pullups pads) x has) (ports_back ports pullups pads x)
    where
      by : Has (port_settings parts p u w) x ⊎ Has (ports_settings parts ports pullups pads) x → (Has (ports_settings parts ports pullups pads) x → InPort parts ports pullups pads x)
          → InPort parts (p ∷ ports) (u ∷ pullups) (w ∷ pads) x
      by (inl here) rest = record { number = 0; pad = p; pullup = u; port = w; pad_is = refl; port_is = refl; inside = here }
      by (inr there) rest =
          let old = rest there in
          record { number = suc old.number; pad = old.pad; pullup = old.pullup; port = old.port; pad_is = old.pad_is; port_is = old.port_is; inside = old.inside }

  pub ports_on : (ports : List Pad) (pullups : List Bool) (pads : List DesignPad) (n : ℕ) (pad : Pad) (pullup : Bool) (port : DesignPad) (x : Setting) → At ports n pad → At pullups n pullup
      → At pads n port → Has (port_settings parts pad pullup port) x → Has (ports_settings parts ports pullups pads) x
  ports_on [] pullups pads n pad pullup port x pad_is up_is port_is has = absurd (none-some pad pad_is)
  ports_on (p ∷ ports) [] pads n pad pullup port x pad_is up_is port_is has = absurd (none-some pullup up_is)
  ports_on (p ∷ ports) (u ∷ pullups) [] n pad pullup port x pad_is up_is port_is has = absurd (none-some port port_is)
  ports_on (p ∷ ports) (u ∷ pullups) (w ∷ pads) zero pad pullup port x pad_is up_is port_is has =
      Has_left (port_settings parts p u w) (ports_settings parts ports pullups pads) x
      (subst (λ (v : Pad). Has (port_settings parts v u w) x) (sym (same_Some p pad pad_is))
      (subst (λ v. Has (port_settings parts pad v w) x) (sym (same_Some u pullup up_is)) (subst (λ (v : DesignPad). Has (port_settings parts pad pullup v) x) (sym (same_Some w port port_is)) has)))
  ports_on (p ∷ ports) (u ∷ pullups) (w ∷ pads) (suc n) pad pullup port x pad_is up_is port_is has =
      Has_right (port_settings parts p u w) (ports_settings parts ports pullups pads) x (ports_on ports pullups pads n pad pullup port x pad_is up_is port_is has)
