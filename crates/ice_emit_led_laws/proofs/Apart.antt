-- No two sinks of a placed design that are of one root share a target.
use Rattle.std.proofs.Common.{◌≡◌, ℕ, Bool, false, None, Some, List, ◌++◌, map, refl, sym, ap, ◌∙◌, true≢false}
use Rattle.std.proofs.lemmas.Option.{none-some, get_or_from_slice_get}
use Rattle.ice_base.specs.declared.number.TileAt.{TileAt}
use Rattle.ice_base_values.specs.Order.{At}
use Rattle.ice_base_values.proofs.Members.{At_within}
use Rattle.ice_chip.specs.Database.{Parts, PackageRows}
use Rattle.ice_chip.specs.declared.rows.TileKind.TheVariants.{Logic}
use Rattle.ice_chip_names.specs.declared.wire_names.TileWire.{TileWire}
use Rattle.ice_sites.specs.Legal.{tile_at}
use Rattle.ice_place_defs.specs.Plan.{Plan}
use Rattle.ice_place_defs.proofs.Feeding.{fed_back}
use Rattle.ice_place_defs.specs.Loads.{Clock, Enable, SetReset, Feed, Drive, DriveEnable, pads_loads, fed_roots, globals_loads, clusters_give}
use Rattle.ice_emit_nets.specs.Ends.{End, load_end, cell_ends, control_ends, ends}
use Rattle.ice_emit_led_laws.specs.Pins.{IsInput}
use Rattle.ice_emit_led_laws.specs.Reads.{AtDrive, AtDriveEnable, AtFeed, AtClock, AtEnable, AtReset, AreApart}
use Rattle.ice_emit_led_laws.specs.Trees.{IsOnChip}
use Rattle.ice_emit_led_laws.proofs.Pins.{inputs_same}
use Rattle.ice_emit_led_laws.proofs.Places.{logic_tile, slot_below}
use Rattle.ice_emit_led_laws.proofs.Reading.{reads_input}
use Rattle.ice_emit_led_laws.proofs.Sinks.{Apart, Place, AtPads, AtFeeds, AtTiles, pio_of, is_feed, joined, pads_apart, feeds_apart, clusters_apart}

module _ (parts : Parts) (rows : PackageRows) (plan : Plan) (pullups : List Bool) (on : IsOnChip parts rows plan pullups) where
  abbrev same : (t u : TileAt) (a b : TileWire) (w : ℕ) → IsInput parts t a w → IsInput parts u b w → (a ≡ b) × (t ≡ u)
  same t u a b w x y = inputs_same parts on.lawful on.names t u a b w x y

  -- no two clusters stand on one tile
  tiles_once : (j k : ℕ) (t : TileAt) → At plan.at j t → At plan.at k t → j ≡ k
  tiles_once j k t a b = on.placed.legal.apart j k (At_within plan.at j t a) (At_within plan.at k t b) (is j a ∙ sym (is k b))
    where
      is : (n : ℕ) → At plan.at n t → tile_at plan.at n ≡ t
      is n at = get_or_from_slice_get plan.at n t (record { x = 0; y = 0 }) at

  abbrev pads : List End
  pads = map (load_end parts) (pads_loads plan.ports plan.design.pads)

  abbrev feeds : List End
  feeds = map (load_end parts) (globals_loads parts plan.globals (fed_roots plan.direct plan.design.globals))

  abbrev tiles : List End
  tiles = clusters_give (cell_ends parts) (control_ends parts) plan.design.cells plan.at plan.clusters

  abbrev Outer : Place
  Outer t wire = (pio_of wire ≡ None) × (is_feed wire ≡ false) → ⊥

  abbrev Any : Place
  Any t wire = Unit {0}

  ends_are : Apart parts Any (ends parts plan)
  ends_are =
      joined parts plan same Outer (AtTiles parts plan same plan.at) Any (pads ++ feeds) tiles
      (joined parts plan same (AtPads parts plan same plan.ports) (AtFeeds parts plan same plan.globals (fed_roots plan.direct plan.design.globals)) Outer pads feeds
      (pads_apart parts plan same plan.ports plan.design.pads (λ k pad port a b. record {
        drive = λ root w e named. reads_input parts rows plan pullups on pad.tile (Drive pad.pio) root w (AtDrive k pad port root a b e) named;
        enable = λ root w e named. reads_input parts rows plan pullups on pad.tile (DriveEnable pad.pio) root w (AtDriveEnable k pad port root a b e) named;
      }) on.placed.pads.apart)
      (feeds_apart parts plan same plan.globals (fed_roots plan.direct plan.design.globals) (λ g n o a b t root w feeds e named.
      let back = fed_back plan.direct plan.design.globals g root (b ∙ ap Some e) in
      reads_input parts rows plan pullups on t Feed root w (AtFeed g n t root a back.1 back.0 feeds) named)
      (λ j k n m r s t a b c d. on.placed.pads.others j k n m t a b (fed_back plan.direct plan.design.globals j r c).0 (fed_back plan.direct plan.design.globals k s d).0))
      (λ t wire p q. none-some p.0.pio (sym (ap pio_of q.0) ∙ p.2.1)) (λ t wire p r. none-some p.0.pio (sym r.0 ∙ p.2.1)) (λ t wire q r. true≢false (sym (ap is_feed q.0) ∙ r.1)))
      (clusters_apart parts plan same plan.design.cells plan.at plan.clusters (λ n t cluster a b. record {
        inputs = λ i c cell at known k w lt named. record {
          kind = Logic;
          kind_is = logic_tile parts rows plan pullups on t cluster (record { number = n; cluster_is = a; tile_is = b });
          within = (slot_below parts rows plan pullups on t i c cell (record { cluster = cluster; on = record { number = n; cluster_is = a; tile_is = b }; slot = at; cell_is = known }), lt);
          found = named;
          reads = refl;
        };
        controls = λ control is. record {
          clock = λ root w e named. reads_input parts rows plan pullups on t Clock root w (AtClock t cluster control root (record { number = n; cluster_is = a; tile_is = b }) is e) named;
          enable = λ root w e named. reads_input parts rows plan pullups on t Enable root w (AtEnable t cluster control root (record { number = n; cluster_is = a; tile_is = b }) is e) named;
          reset = λ root w e named. reads_input parts rows plan pullups on t SetReset root w (AtReset t cluster control root (record { number = n; cluster_is = a; tile_is = b }) is e) named;
        };
      }) tiles_once)
      (λ t wire p q. p (q.1, q.2)) (λ t wire p. tt) (λ t wire q. tt)

  pub ends_apart : AreApart (ends parts plan)
  ends_apart = ends_are.apart
