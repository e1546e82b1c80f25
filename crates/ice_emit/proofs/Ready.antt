-- What is looked up in a placed and routed design, and the bits of lists of rows and settings.
use Rattle.std.proofs.Common.{◌≡◌, ℕ, zero, suc, Bool, true, false, cond, Option, None, Some, List, [], ◌∷◌, ◌++◌, map, get_or, replicate, refl, sym, ap, ◌∙◌, subst}
use Rattle.std.specs.Prelude.{◌||◌, slice_get, option_map}
use Rattle.std.specs.List.{list_any, cons_option}
use Rattle.std.specs.Map.{lookup}
use Rattle.ice_base.specs.declared.bit.BitAt.{BitAt}
use Rattle.ice_base.specs.declared.number.RowNo.{RowNo}
use Rattle.ice_base.specs.declared.number.TileAt.{TileAt}
use Rattle.ice_chip.specs.Database.{Parts, SwitchGroup, SwitchRow, same_tile, columns}
use Rattle.ice_chip.specs.IsRead.{IsChip}
use Rattle.ice_chip.specs.Listings.{rows_of}
use Rattle.ice_chip.specs.declared.rows.TileLine.{TileLine}
use Rattle.ice_chip_rams.specs.Sites.{sites}
use Rattle.ice_ram.specs.Ram.{Kept}
use Rattle.ice_ram.specs.declared.setup.Setup.{Setup}
use Rattle.ice_bits.specs.Configuration.{Configuration, bits_of, bit_at}
use Rattle.ice_bits.specs.Grids.{AreContents, IsOf, blank, blank_rows, blank_tile}
use Rattle.ice_cells.specs.Tables.{table}
use Rattle.ice_cluster.specs.Slots.{CellsStandInOneSlot}
use Rattle.ice_graph.specs.Leading.{route_of}
use Rattle.ice_emit_nets.specs.Rooted.{wires_in, root_wires}
use Rattle.ice_place_defs.specs.Plan.{Plan, listed, plan_in}
use Rattle.ice_emit_rows_laws.specs.Settings.{function_bits}
use Rattle.ice_emit_rows_laws.specs.Wanted.{sets_of, sets_switch}
use Rattle.ice_emit_bits.specs.Adds.{Adds}
use Rattle.ice_emit_bits.specs.Lists.{setting_view, all_rows}
use Rattle.ice_emit_bits.specs.declared.settings.Setting.{Setting}
use Rattle.ice_emit_defs.specs.Functions.{settings}
use Rattle.ice_emit_defs.specs.Links.{switch_of_row}
use Rattle.ice_emit_defs.specs.Rams.{AreFormed, site_contents}
use Rattle.ice_emit_defs.specs.Routed.{AreTrees}
use Rattle.ice_emit_defs.specs.Written.{held_by, wanted_rows, plan_extras, IsWritten}
use Rattle.ice_emit.specs.Placed.{IsPlacedOn}
use Rattle.ice_emit.specs.Routed.{IsRouted, owner_from, routes_in}
use Rattle.ice_emit.specs.Views.{AreBitsWith, with_extras, with_contents}
use Rattle.ice_emit_settings.specs.Views.{views, switches}
use Rattle.ice_emit.specs.declared.routed.Routed.{Routed}
use Rattle.ice_graph.specs.declared.tree.Tree.{Tree}
use Rattle.ice_emit.proofs.RamContents.{are_contents}
use Rattle.ice_emit.proofs.Slotless.{no_slot}

pub are_routed : (routed : Routed) (pullups : List Bool) (rams : ℕ) → CellsStandInOneSlot → IsPlacedOn routed.placed.chip.now (plan_in routed.placed) pullups rams
    → AreTrees routed.placed.chip.now (plan_in routed.placed) (routes_in routed) → wires_in routed.wires.now ≡ root_wires routed.placed.chip.now (plan_in routed.placed)
    → routed.owners.now ≡ table (owner_from 0 (routes_in routed)) routed.placed.chip.now.wires → IsRouted routed
are_routed routed pullups rams stand on trees wires owners = record {
  wires = wires;
  owners = owners;
  cells = λ c le.
      let plan = plan_in routed.placed in
      no_slot plan.design (listed plan) plan.at (stand plan.design (listed plan) on.1.formed on.1.clusters) c le;
  apart = trees.apart;
  within = trees.within;
}

-- ---- the bits of all rows and settings
-- blank bits are 0
zero_in : (w col : ℕ) → get_or (replicate w false) col false ≡ false
zero_in zero col = refl
zero_in (suc w) zero = refl
zero_in (suc w) (suc col) = zero_in w col

zero_row : (n w row col : ℕ) → get_or (get_or (replicate n (replicate w false)) row []) col false ≡ false
zero_row zero w row col = refl
zero_row (suc n) w zero col = zero_in w col
zero_row (suc n) w (suc row) col = zero_row n w row col

zero_tile : (tiles : List (TileAt × TileLine)) (t : TileAt) (b : BitAt) → bit_at (lookup (same_tile t) (map blank_tile tiles)) b ≡ false
zero_tile [] t b = refl
zero_tile (tile ∷ tiles) t b = by (same_tile t tile.0) (zero_tile tiles t b)
  where
    by : (x : Bool) → bit_at (lookup (same_tile t) (map blank_tile tiles)) b ≡ false → bit_at (cond x (Some (blank_rows (columns tile.1.kind))) (lookup (same_tile t) (map blank_tile tiles))) b ≡ false
    by true rest = zero_row 16 (columns tile.1.kind) b.row b.col
    by false rest = rest

no_bit : (parts : Parts) (t : TileAt) (b : BitAt) → bits_of (blank parts) t b ≡ false
no_bit parts t b = zero_tile parts.tiles t b

false_or : (x y : Bool) → x ≡ false → (x || y) ≡ y
false_or true y e = absurd (cc)
false_or false y e = refl

pub all_set : (parts : Parts) (rows : List RowNo) (made : List Setting) (extras : List (ℕ × ℕ × ℕ)) (rams : List (Setup × Kept)) (empty some all extended whole : Configuration) → IsChip parts → AreFormed rams → empty ≡ blank parts
    → Adds parts empty some (all_rows parts rows) → Adds parts some all (function_bits parts (map setting_view made)) → extended ≡ with_extras extras all → whole ≡ with_contents (site_contents (sites parts) rams) extended
    → AreBitsWith parts rows made extras rams whole
all_set parts rows made extras rams empty some all extended whole chip formed is one other more filled = record {
  form = subst (IsOf parts) (sym made_of) (record {
    grids = other.form.grids;
    kinds = other.form.kinds;
    contents = subst (λ (before : List (TileAt × List (List Bool))). AreContents parts (before ++ words)) (sym none) (are_contents parts chip rams formed);
  });
  extras_are = ap (λ (k : Configuration). k.extras) made_of ∙ ap (λ (before : List (ℕ × ℕ × ℕ)). before ++ extras) (other.extras ∙ one.extras ∙ ap (λ (k : Configuration). k.extras) is);
  contents_are = ap (λ (k : Configuration). k.contents) made_of ∙ ap (λ (before : List (TileAt × List (List Bool))). before ++ words) none;
  bits = λ t b.
      ap (λ k. bits_of k t b) made_of ∙ other.bits t b
      ∙ ap (λ x. x || function_bits parts (views made) t b) (one.bits t b ∙ false_or (bits_of empty t b) (all_rows parts rows t b) (ap (λ k. bits_of k t b) is ∙ no_bit parts t b));
}
  where
    words : List (TileAt × List (List Bool))
    words = site_contents (sites parts) rams

    made_of : whole ≡ with_contents words (with_extras extras all)
    made_of = filled ∙ ap (with_contents words) more

    none : all.contents ≡ []
    none = other.contents ∙ one.contents ∙ ap (λ (k : Configuration). k.contents) is

-- the bits of rows are those of their switches
rows_are : (parts : Parts) (t : TileAt) (b : BitAt) (rows : List RowNo) → all_rows parts rows t b ≡ list_any (λ s. sets_switch parts s t b) (switches parts rows)
rows_are parts t b [] = refl
rows_are parts t b (row ∷ rows) = by (slice_get (rows_of parts.groups) row.0) refl (rows_are parts t b rows)
  where
    by : (o : Option (SwitchGroup × SwitchRow)) → slice_get (rows_of parts.groups) row.0 ≡ o → all_rows parts rows t b ≡ list_any (λ s. sets_switch parts s t b) (switches parts rows)
        → (sets_of o t b || all_rows parts rows t b) ≡ list_any (λ s. sets_switch parts s t b) (cons_option (option_map (switch_of_row row.0) o) (switches parts rows))
    by None e rest = rest
    by (Some x) e rest = ap (λ y. sets_of (Some x) t b || y) rest ∙ ap (λ o. sets_of o t b || list_any (λ s. sets_switch parts s t b) (switches parts rows)) (sym e)

pub are_written : (parts : Parts) (plan : Plan) (pullups : List Bool) (rams : List (Setup × Kept)) (trees : List Tree) (rows : List RowNo) (made : List Setting) (k : Configuration) → switches parts rows ≡ wanted_rows parts plan (map route_of trees)
    → views made ≡ settings parts plan pullups rams (held_by parts plan (map route_of trees)) (switches parts rows) → AreBitsWith parts rows made (plan_extras parts plan) rams k → IsWritten parts plan pullups rams (map route_of trees) k
are_written parts plan pullups rams trees rows made k wanted all are = record {
  form = are.form;
  extras = are.extras_are;
  contents = are.contents_are;
  bits = λ t b.
      are.bits t b ∙ ap (λ x. x || function_bits parts (views made) t b) (rows_are parts t b rows)
      ∙ ap (λ xs. list_any (λ s. sets_switch parts s t b) (switches parts rows) || function_bits parts xs t b) all
      ∙ ap (λ ws. list_any (λ s. sets_switch parts s t b) ws || function_bits parts (settings parts plan pullups rams (held_by parts plan (map route_of trees)) ws) t b) wanted;
}

-- the same, where chip, plan, pull-ups and lists come under other names
pub written_for : (parts q : Parts) (plan p : Plan) (pullups u : List Bool) (rams : List (Setup × Kept)) (trees : List Tree) (rows r s : List RowNo) (made m : List Setting) (k : Configuration)
    → q ≡ parts → p ≡ plan → u ≡ pullups → r ≡ rows → s ≡ rows → m ≡ made → switches parts rows ≡ wanted_rows parts p (map route_of trees)
    → views made ≡ settings q p u rams (held_by q p (map route_of trees)) (switches q r) → AreBitsWith parts s m (plan_extras parts plan) rams k → IsWritten parts plan pullups rams (map route_of trees) k
written_for parts q plan p pullups u rams trees rows r s made m k eq ep eu er es em wanted all are =
    are_written parts plan pullups rams trees rows made k
    (subst (λ y. switches parts rows ≡ wanted_rows parts y (map route_of trees)) ep wanted)
    (subst (λ x. views made ≡ settings x plan pullups rams (held_by x plan (map route_of trees)) (switches x rows)) eq
    (subst (λ y. views made ≡ settings q y pullups rams (held_by q y (map route_of trees)) (switches q rows)) ep
    (subst (λ z. views made ≡ settings q p z rams (held_by q p (map route_of trees)) (switches q rows)) eu
    (subst (λ (x : List RowNo). views made ≡ settings q p u rams (held_by q p (map route_of trees)) (switches q x)) er all))))
    (subst (λ (x : List RowNo). AreBitsWith parts x made (plan_extras parts plan) rams k) es (subst (λ (y : List Setting). AreBitsWith parts s y (plan_extras parts plan) rams k) em are))
