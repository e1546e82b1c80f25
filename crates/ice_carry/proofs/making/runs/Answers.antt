use Rattle.std.proofs.Common.{◌≡◌, ◌∙◌, length}
use Rattle.ice_cells.specs.Chains.{numbers_by}
use Rattle.ice_cells.specs.Moves.{moves}
use Rattle.ice_cells.specs.Runs.{numbered, runs_made, cells_fed, movers, moved_numbers}
use Rattle.ice_carry.specs.WithRuns.{with_runs}
use Rattle.ice_carry.proofs.making.runs.Goals as goal

pub returns : goal.returns
returns c =
    let cells : c.as_slice.result.now ≡ cells_fed c.args.design = c.as_slice.ensures.value ∙ c.in_ok-made.ensures.cells in
    let runs : c.as_slice-2.result.now ≡ runs_made c.args.design = c.as_slice-2.ensures.value ∙ c.in_ok-made.ensures.runs in
    let left : c.in_ok-moved.moved.movers.items ≡ movers c.args.design = c.in_ok-moved.ensures.movers ∙ (λ i. moves (cells i) (runs i)) in
    let numbers : c.in_ok-moved.moved.numbers.items ≡ moved_numbers c.args.design =
    c.in_ok-moved.ensures.numbers ∙ (λ i. numbers_by (numbered (length (cells i)) (moves (cells i) (runs i))) (length (cells i))) in
    c.in_ok-after.ensures ∙ (λ i. with_runs c.args.design (c.in_ok-made.ensures.runs i) (c.in_ok-made.ensures.cells i) (c.in_ok-made.ensures.fed i) (left i) (numbers i))
