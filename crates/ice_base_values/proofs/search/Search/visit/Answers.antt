use Rattle.std.proofs.Common.{◌<◌, length, refl, subst, arith, rules}
use Rattle.std.specs.Option.{IfNone}
use Rattle.std.proofs.lemmas.Option.{slice_get_read}
use Rattle.ice_base_values.specs.Graph.{depends_of}
use Rattle.ice_base_values.specs.Order.{At}
use Rattle.ice_base_values.specs.SearchState.{GoesOn}
use Rattle.ice_base_values.proofs.SearchSteps.{root_enters}
use Rattle.ice_base_values.proofs.search.Search.visit.Goals as goal

pub loop-point-init : goal.loop-point-init
loop-point-init c =
    let begun = root_enters (length c.args.graph.now) (depends_of c.args.graph.now) c.args.self.now.marks.items c.args.self.now.next.items c.args.self.now.path.items c.push.new.self.items c.args.self.now.order.items
    c.args.root c.requires.search c.requires.path
    (let inside : c.args.root < length c.args.self.now.marks.items = (let e = c.requires.search.marks_length in omega arith) in
    subst (λ m. At c.args.self.now.marks.items c.args.root m) c.in-New.is (slice_get_read c.args.self.now.marks.items (length c.args.self.now.marks.items) c.args.root c.index.result.now refl inside c.index.ensures))
    (search rules) in
    record { search = begun.0; entered = begun.1 }

pub loop-point-smaller : goal.loop-point-smaller
loop-point-smaller c =
    let more = subst (λ start. IfNone start (GoesOn c.args.graph.now c.loop-point.self c.step.new.self)) c.in_default-2.is c.in_ok-start.ensures.goes_on in
    more.less

pub loop-point-preserved : goal.loop-point-preserved
loop-point-preserved c =
    let more = subst (λ start. IfNone start (GoesOn c.args.graph.now c.loop-point.self c.step.new.self)) c.in_default-2.is c.in_ok-start.ensures.goes_on in
    record { search = more.search; entered = λ p at. c.loop-point.invariant.entered p (more.entered p at) }
