use Rattle.std.proofs.Common.{◌≡◌, refl, ap, ◌∙◌, sym, drop, get_or, length, ◌+◌, ◌<◌, arith}
use Rattle.std.proofs.lemmas.List.{get_or_default}
use Rattle.ice_base.specs.declared.number.TileAt.{TileAt}
use Rattle.ice_cells.specs.declared.cluster.Cluster.{Cluster}
use Rattle.ice_place_defs.specs.Loads.{slots_give, cell_loads, control_loads, clusters_give}
use Rattle.ice_place_length.specs.Grown.{box_in, grown}
use Rattle.ice_place_length.proofs.Growing.{then_grown, cluster_loads, clusters_more, clusters_end, step_grown, end_grown}
use Rattle.ice_place_length.proofs.loads.with_clusters.Goals as goal

pub loop-k-preserved : goal.loop-k-preserved
loop-k-preserved c =
    let cells = c.args.cells.now in
    let at = c.args.tiles.now in
    let clusters = c.args.clusters.now in
    let k = c.loop-k.k in
    let d : TileAt = record { x = 0; y = 0 } in
    let x : Cluster = c.index-clusters-k.result in
    let t : TileAt = get_or at k d in
    let z : Cluster = c.index-clusters-k-in-loop-k.result in
    let same : get_or clusters k z ≡ get_or clusters k x = get_or_default clusters k z x (omega arith) in
    step_grown c.args.root (box_in c.args.span) (box_in c.loop-k.wide) (box_in c.with_control-wide.result) (cluster_loads cells t (get_or clusters k x)) (clusters_give cell_loads control_loads cells (drop (k + 1) at) (drop (k + 1) clusters))
    (clusters_give cell_loads control_loads cells (drop k at) (drop k clusters)) (clusters_give cell_loads control_loads cells at clusters) (clusters_more cells at clusters k t d (get_or clusters k x) x (omega arith) (omega arith) refl refl)
    (then_grown c.args.root (box_in c.loop-k.wide) (box_in c.with_slots-inner.result) (box_in c.with_control-wide.result) (slots_give cell_loads cells t 0 (get_or clusters k x).cells) (control_loads t (get_or clusters k x).control)
    (c.with_slots-inner.ensures ∙ ap (λ slots. grown c.args.root (box_in c.loop-k.wide) (slots_give cell_loads cells t 0 slots)) c.as_slice.ensures)
    (c.with_control-wide.ensures ∙ ap (λ (y : Cluster). grown c.args.root (box_in c.with_slots-inner.result) (control_loads t y.control)) same))
    c.loop-k.invariant

pub returns : goal.returns
returns c =
    let cells = c.args.cells.now in
    let at = c.args.tiles.now in
    let clusters = c.args.clusters.now in
    let k = c.loop-k.k in
    end_grown c.args.root (box_in c.args.span) (box_in c.loop-k.wide) (clusters_give cell_loads control_loads cells (drop k at) (drop k clusters)) (clusters_give cell_loads control_loads cells at clusters)
    (clusters_end cells at clusters k (omega arith)) c.loop-k.invariant
