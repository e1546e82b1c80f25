use Rattle.std.proofs.Common.{◌≡◌, ◌∙◌, ◌≤◌, ◌^◌, Some, length, get_or, ap, sym, subst, arith}
use Rattle.std.proofs.lemmas.Option.{slice_get-get_or, get_or_from_slice_get}
use Rattle.ice_base_values.specs.Order.{At, Has}
use Rattle.ice_base_values.proofs.Members.{At_within}
use Rattle.ice_timing.specs.Arriving.{ArrivalsData, Arrives}
use Rattle.ice_timing.proofs.arrivals.Arrivals.of.Goals as goal

pub number-number-requires : goal.number-number-requires
number-number-requires c = subst (λ (a : ArrivalsData). Has a.points c.args.point) (sym c.self.view_is) c.requires

pub index-requires : goal.index-requires
index-requires c =
    let lt = At_within c.self.inside.numbering c.number-number.result c.args.point c.number-number.ensures in
    let long = c.self.invariant.long in
    omega (arith, lt, long)

pub returns-clause-arrives : goal.returns-clause-arrives
returns-clause-arrives c =
    let lt = At_within c.self.inside.numbering c.number-number.result c.args.point c.number-number.ensures in
    let long = c.self.invariant.long in
    let at : At c.self.inside.at.items c.number-number.result c.index.result.now
    = slice_get-get_or c.self.inside.at.items c.number-number.result c.index.result.now (omega (arith, lt, long)) ∙ ap Some (sym c.index.ensures) in
    subst (λ (a : ArrivalsData). Arrives a c.args.point c.index.result.now) c.self.view_is (c.number-number.result, c.number-number.ensures, at)

pub returns-clause-right : goal.returns-clause-right
returns-clause-right c = λ parts bits extras d are.
    (let lt = At_within c.self.inside.numbering c.number-number.result c.args.point c.number-number.ensures in
    let long = c.self.invariant.long in
    let at : At c.self.inside.at.items c.number-number.result c.index.result.now
    = slice_get-get_or c.self.inside.at.items c.number-number.result c.index.result.now (omega (arith, lt, long)) ∙ ap Some (sym c.index.ensures) in
    are.right c.args.point c.index.result.now
    (subst (λ (a : ArrivalsData). Arrives a c.args.point c.index.result.now) c.self.view_is (c.number-number.result, c.number-number.ensures, at)))

pub returns-clause-within : goal.returns-clause-within
returns-clause-within c =
    let lt = At_within c.self.inside.numbering c.number-number.result c.args.point c.number-number.ensures in
    let long = c.self.invariant.long in
    let at : At c.self.inside.at.items c.number-number.result c.index.result.now
    = slice_get-get_or c.self.inside.at.items c.number-number.result c.index.result.now (omega (arith, lt, long)) ∙ ap Some (sym c.index.ensures) in
    subst (λ m. m ≤ 2 ^ 63) (get_or_from_slice_get c.self.inside.at.items c.number-number.result c.index.result.now 0 at) (c.self.invariant.within c.number-number.result)
