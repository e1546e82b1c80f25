use Rattle.std.proofs.Common.{◌≡◌, ℕ, List, [], length, subst, arith}
use Rattle.std.specs.Option.{IfNone}
use Rattle.std.proofs.lemmas.Option.{slice_get_within}
use Rattle.ice_base_values.specs.Graph.{depends_of}
use Rattle.ice_base_values.specs.Search.{IsSearch}
use Rattle.ice_base_values.specs.SearchState.{IsSearching, NewOnly}
use Rattle.ice_base_values.specs.declared.search.Mark.TheVariants.{New}
use Rattle.ice_base_values.proofs.SearchSteps.{search_finish}
use Rattle.ice_base_values.proofs.search.order.Goals as goal

pub returns : goal.returns
returns c =
    let s = c.loop-root.search in
    search_finish (length c.args.graph.now) (depends_of c.args.graph.now) s.marks.items s.next.items s.order.items
    (subst (λ (path : List ℕ). IsSearch (length c.args.graph.now) (depends_of c.args.graph.now) s.marks.items s.next.items path s.order.items) c.loop-root.invariant.path c.loop-root.invariant.search)
    (λ q at. let lt = slice_get_within s.marks.items q New at in let e = c.loop-root.invariant.search.marks_length in c.loop-root.invariant.entered q (omega arith) at)

pub loop-root-preserved : goal.loop-root-preserved
loop-root-preserved c =
    let now = c.visit.new.self in
    let none = c.in_default.is in
    record {
      search = subst (λ start. IfNone start (IsSearching c.args.graph.now now)) none c.in_ok-start.ensures.search;
      path = subst (λ start. IfNone start (now.path.items ≡ [])) none c.in_ok-start.ensures.path;
      entered = λ q lt at.
          let here = subst (λ start. IfNone start (NewOnly c.loop-root.search now c.loop-root.root)) none c.in_ok-start.ensures.entered q at in
          let apart = here.1 in
          c.loop-root.invariant.entered q (omega arith) here.0;
    }
