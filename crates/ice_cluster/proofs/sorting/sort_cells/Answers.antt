use Rattle.std.proofs.Common.{◌≡◌, false, length, get_or, ap, sym, ◌∙◌, rules}
use Rattle.std.specs.List.{filter_map, range_with_len}
use Rattle.ice_cells.specs.Clusters.{flop_at, plain_at, flop_if, plain_if}
use Rattle.ice_cells.specs.Pieces.{control_at}
use Rattle.ice_cluster.proofs.Opening.{filter_more}
use Rattle.ice_cluster.proofs.sorting.sort_cells.Goals as goal

pub loop-c-preserved : goal.loop-c-preserved
loop-c-preserved c = (
  filter_more (flop_at c.args.held.now c.args.cells.now) c.loop-c.c _ c.loop-c.flops.items _
      (sym (ap (λ n. flop_if (get_or c.args.held.now c.loop-c.c false) n (control_at c.args.cells.now n)) c.in_ok-number.ensures)
      ∙ ap (flop_if (get_or c.args.held.now c.loop-c.c false) c.in_ok-number.number) (sym c.control_at.ensures))
      c.loop-c.invariant.0 c.in_ok-sort_cell.ensures.flops,
  filter_more (plain_at c.args.held.now c.args.cells.now) c.loop-c.c _ c.loop-c.plains.items _
      (sym (ap (λ n. plain_if (get_or c.args.held.now c.loop-c.c false) n (control_at c.args.cells.now n)) c.in_ok-number.ensures)
      ∙ ap (plain_if (get_or c.args.held.now c.loop-c.c false) c.in_ok-number.number) (sym c.control_at.ensures))
      c.loop-c.invariant.1 c.in_ok-sort_cell.ensures.plains,
)

pub returns-clause-flops : goal.returns-clause-flops
returns-clause-flops c =
    let all : c.loop-c.c ≡ length c.args.cells.now = search rules in
    c.loop-c.invariant.0 ∙ ap (λ n. filter_map (flop_at c.args.held.now c.args.cells.now) (range_with_len 0 n)) all

pub returns-clause-plains : goal.returns-clause-plains
returns-clause-plains c =
    let all : c.loop-c.c ≡ length c.args.cells.now = search rules in
    c.loop-c.invariant.1 ∙ ap (λ n. filter_map (plain_at c.args.held.now c.args.cells.now) (range_with_len 0 n)) all
