use Rattle.std.proofs.Common.{◌∙◌, ap, arith, ℕ, map}
use Rattle.std.specs.List.{range_with_len}
use Rattle.ice_cells.specs.Clusters.{ends, run_piece}
use Rattle.ice_cells.specs.Pieces.{pieces_count}
use Rattle.ice_cluster.proofs.Opening.{runs_more}
use Rattle.ice_cluster.proofs.filling.open_runs.Goals as goal

pub loop-r-preserved : goal.loop-r-preserved
loop-r-preserved c =
    runs_more c.args.cells.now c.args.runs.now c.loop-r.r c.index-runs-r.result c.as_slice.result.now c.loop-r.rest.now c.in_ok-rest.rest.now c.loop-r.groups.items c.open_run.new.groups.items (omega arith)
    c.index-runs-r.is c.as_slice.ensures (c.in_ok-rest.ensures
    ∙ ap (λ (m : ℕ). ends (map (run_piece c.args.cells.now m c.as_slice.result.now) (range_with_len 0 (pieces_count c.as_slice.result.now))) c.loop-r.rest.now c.loop-r.groups.items) c.in_ok-to_u32.ensures)
    ∙ c.loop-r.invariant
