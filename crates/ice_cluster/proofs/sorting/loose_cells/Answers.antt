use Rattle.std.proofs.Common.{length, ap, ◌∙◌}
use Rattle.ice_cells.specs.Clusters.{is_held, flops_by, plains_by}
use Rattle.ice_cells.proofs.TableLaws.{length-table}
use Rattle.ice_cluster.proofs.sorting.loose_cells.Goals as goal

pub sort_cells-requires : goal.sort_cells-requires
sort_cells-requires c = ap length (c.as_slice.ensures.value ∙ c.in_ok-held.ensures) ∙ length-table (is_held c.args.runs.now) (length c.args.cells.now)
