use Rattle.std.proofs.Common.{◌≡◌, List, ℕ, length, map, subst, sym, ap, ◌∙◌, arith, rules}
use Rattle.std.proofs.lemmas.List.{take_all}
use Rattle.ice_check.specs.Loops.{IsGraphOf, cells_before}
use Rattle.ice_check.proofs.CellOrders.{row_of, cells_graph}
use Rattle.ice_base.proofs.Pushed.{mapped_push}
use Rattle.ice_check.proofs.order.graph_of_cells.Goals as goal

pub loop-cell-preserved : goal.loop-cell-preserved
loop-cell-preserved c =
    let row : c.deref-in-loop-cell.result.now ≡ row_of c.args.drivers.now c.cell-item.result = search rules in
    mapped_push (row_of c.args.drivers.now) c.cells-cells.result.now c.loop-cell.cell-index _ _ _ _ (omega arith) c.loop-cell.invariant c.in_ok-push.ensures.ok (row ∙ ap (row_of c.args.drivers.now) c.cell-item.is)

pub returns-clause-graph : goal.returns-clause-graph
returns-clause-graph c =
    let n = c.args.netlist.now in
    let all : c.loop-cell.graph ≡ map (row_of c.args.drivers.now) n.cells
    = c.loop-cell.invariant ∙ ap (map (row_of c.args.drivers.now)) (take_all c.loop-cell.cell-index c.cells-cells.result.now (omega arith) ∙ c.cells-cells.ensures.cells) in
    subst (λ (rows : List (List ℕ)). IsGraphOf (length n.cells) (cells_before n) rows) (sym all) (cells_graph n c.cells-cells.ensures.formed c.args.drivers.now c.requires)
