use Rattle.std.proofs.Common.{◌∙◌, ◌*◌, sym, arith}
use Rattle.ice_path.proofs.Aiming.{beyond_small, bound_near, bound_far, leads_rest}
use Rattle.ice_path.proofs.aim.Aim.bound.Goals as goal

pub returns-in-Some-clause-bound : goal.returns-in-Some-clause-bound
returns-in-Some-clause-bound c =
    let on = leads_rest c.args.graph.now c.args.self.now c.args.wire.0 c.requires.leads in
    sym (bound_near c.args.graph.now c.args.self.now c.args.wire.0 c.in-Some.cost on.0 (sym c.label_at.ensures ∙ c.in-Some.is) on.1)

pub unreachable-requires : goal.unreachable-requires
unreachable-requires c =
    let on = leads_rest c.args.graph.now c.args.self.now c.args.wire.0 c.requires.leads in
    c.in_default-rest.not-Some on.0 (c.rest.ensures.rest ∙ on.1)

pub returns-clause-bound : goal.returns-clause-bound
returns-clause-bound c =
    c.cost_of.ensures.value ∙ sym (bound_far c.args.graph.now c.args.self.now c.args.wire.0 c.in-Some-rest.rows (sym c.label_at.ensures ∙ c.in_default.is) (sym c.rest.ensures.rest ∙ c.in-Some-rest.is))

pub returns-clause-small : goal.returns-clause-small
returns-clause-small c =
    let low = beyond_small c.args.self.now.beyond.now c.in-Some-rest.rows (1024 * 17046213234436) c.requires.fits.beyond (let le = c.in-Some-rest.ensures.small in omega (arith, le)) in
    let e = c.cost_of.ensures.value in
    omega (arith, low, e)
