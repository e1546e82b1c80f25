use Rattle.std.proofs.Common.{◌≡◌, ◌+◌, ◌*◌, ◌++◌, map}
use Rattle.std.specs.List.{range_with_len}
use Rattle.ice_sample.proofs.sources.add_outputs_of_cells.Given as goal

abbrev pub invariant-loop-cell : goal.invariant-loop-cell
invariant-loop-cell l = l.sources.items ≡ l.fn.sources.items ++ map (λ i. l.first + 6 * i + 4) (range_with_len 0 l.cell)
