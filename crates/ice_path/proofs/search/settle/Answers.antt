use Rattle.std.proofs.Common.{◌≡◌, ◌∙◌, List, Some, length, slice_get, slice_set, true, sym, subst, ap, arith}
use Rattle.ice_core.specs.Congestion.{price}
use Rattle.ice_path.specs.Aims.{bound_in, leads}
use Rattle.ice_graph.specs.Rows.{rows_from}
use Rattle.ice_graph.specs.declared.edge.Edge.{Edge}
use Rattle.ice_path.specs.Search.{Relaxes}
use Rattle.ice_path.proofs.Settling.{rows_to, settles, price_small}
use Rattle.ice_path.proofs.search.settle.Goals as goal

pub relax-requires-clause-rows : goal.relax-requires-clause-rows
relax-requires-clause-rows c = λ k e at.
    let here : slice_get (rows_from c.args.graph.now.edges c.args.wire) k ≡ Some e = ap (λ (xs : List Edge). slice_get xs k) (sym c.rows_from.ensures) ∙ at in
    let lt = rows_to c.args.graph.now.edges c.args.graph.now.wires c.args.wire k e c.requires.between here in
    omega (arith, lt, c.requires.lengths.1)

pub returns-clause-searches : goal.returns-clause-searches
returns-clause-searches c = λ tree count h.
    settles c.args.graph.now.edges (price c.args.prices.now) tree (bound_in c.args.graph.now c.args.aim.now) (leads c.args.aim.now) c.requires.aim.falls 17046213234436 count c.args.labels.now c.args.settled.now h c.args.wire c.args.cost c.relax.new.labels
    (omega (arith, c.requires.wire, c.requires.lengths.2)) (price_small c.args.prices.now c.requires.prices) c.requires.next
    (subst (λ (xs : List Edge). Relaxes xs (price c.args.prices.now) (leads c.args.aim.now) (slice_set c.args.settled.now c.args.wire true) c.args.cost (length xs) c.args.labels.now c.relax.new.labels) c.rows_from.ensures c.relax.ensures.relaxes)
