use Rattle.std.proofs.Common.{◌≡◌, ◌-◌, ◌∙◌, ℕ, List, Option, Some, slice_get, sym, ap, subst, arith}
use Rattle.ice_core.specs.Congestion.{price}
use Rattle.ice_graph.specs.declared.edge.Edge.{Edge}
use Rattle.ice_graph.specs.Rows.{rows_into}
use Rattle.ice_path.specs.Search.{AreExactBehind, IsFirstFrom}
use Rattle.ice_path.specs.Walks.{IsLabel}
use Rattle.ice_path.proofs.Settling.{price_positive}
use Rattle.ice_path.proofs.Stepping.{rows_of, price_within, row_there, source_is, exact_behind, first_is_step}
use Rattle.ice_path.proofs.back.step_back.Goals as goal

pub overflow_sub-before : goal.overflow_sub-before
overflow_sub-before c =
    let le = price_within c.args.graph.now.edges (price c.args.prices.now) c.args.tree.now (price_positive c.args.prices.now) c.args.wire c.args.cost c.requires.positive c.requires.label in
    omega (arith, c.of.ensures.price)

pub first_from-requires : goal.first_from-requires
first_from-requires c = record {
  within = λ k e at.
      let here : slice_get (rows_into c.args.graph.now.edges c.args.wire) k ≡ Some e = ap (λ (xs : List Edge). slice_get xs k) (sym c.rows_into.ensures) ∙ at in
      let lt = rows_of c.args.graph.now.edges c.args.graph.now.wires c.args.wire k e c.edges-edges.ensures.between here in
      omega (arith, lt, c.requires.lengths.1);
}

-- the first of the rows, by the price
first_of_rows : (labels : List (Option ℕ)) (cost paid price : ℕ) (rows into : List Edge) (found : Option Edge) → paid ≡ price → rows ≡ into → IsFirstFrom labels (cost - paid) rows found → IsFirstFrom labels (cost - price) into found
first_of_rows labels cost paid price rows into found same is h = subst (λ xs. IsFirstFrom labels (cost - price) xs found) is (subst (λ x. IsFirstFrom labels (cost - x) rows found) same h)

pub unreachable-requires : goal.unreachable-requires
unreachable-requires c =
    row_there c.args.graph.now.edges (price c.args.prices.now) c.args.tree.now (price_positive c.args.prices.now) c.args.wire c.args.cost c.requires.positive c.requires.label c.args.labels.now c.requires.exact
    (subst (λ o. IsFirstFrom c.args.labels.now (c.args.cost - price c.args.prices.now c.args.wire) (rows_into c.args.graph.now.edges c.args.wire) o) c.in_default.is
    (first_of_rows c.args.labels.now c.args.cost c.of.result (price c.args.prices.now c.args.wire) c.rows_into.result.now (rows_into c.args.graph.now.edges c.args.wire) c.first_from.result c.of.ensures.price c.rows_into.ensures c.first_from.ensures))

pub returns-clause-step : goal.returns-clause-step
returns-clause-step c =
    first_is_step c.args.graph.now.edges (price c.args.prices.now) c.args.tree.now (price_positive c.args.prices.now) c.args.wire c.args.cost c.requires.positive c.requires.label c.args.labels.now c.requires.exact c.in-Some.row
    (first_of_rows c.args.labels.now c.args.cost c.of.result (price c.args.prices.now c.args.wire) c.rows_into.result.now (rows_into c.args.graph.now.edges c.args.wire) (Some c.in-Some.row) c.of.ensures.price c.rows_into.ensures c.in-Some.ensures)

pub returns-clause-source : goal.returns-clause-source
returns-clause-source c =
    subst (λ x. IsLabel c.args.graph.now.edges (price c.args.prices.now) c.args.tree.now c.in-Some.row.from.0 (c.args.cost - x)) (sym c.of.ensures.price)
    (source_is c.args.graph.now.edges (price c.args.prices.now) c.args.tree.now (price_positive c.args.prices.now) c.args.wire c.args.cost c.requires.positive c.requires.label c.args.labels.now c.requires.exact c.in-Some.row
    (first_of_rows c.args.labels.now c.args.cost c.of.result (price c.args.prices.now c.args.wire) c.rows_into.result.now (rows_into c.args.graph.now.edges c.args.wire) (Some c.in-Some.row) c.of.ensures.price c.rows_into.ensures c.in-Some.ensures))

pub returns-clause-exact : goal.returns-clause-exact
returns-clause-exact c =
    subst (λ x. AreExactBehind c.args.graph.now.edges (price c.args.prices.now) c.args.tree.now c.args.labels.now c.in-Some.row.from.0 (c.args.cost - x)) (sym c.of.ensures.price)
    (exact_behind c.args.graph.now.edges (price c.args.prices.now) c.args.tree.now (price_positive c.args.prices.now) c.args.wire c.args.cost c.requires.positive c.requires.label c.args.labels.now c.requires.exact c.in-Some.row
    (first_of_rows c.args.labels.now c.args.cost c.of.result (price c.args.prices.now c.args.wire) c.rows_into.result.now (rows_into c.args.graph.now.edges c.args.wire) (Some c.in-Some.row) c.of.ensures.price c.rows_into.ensures c.in-Some.ensures))
