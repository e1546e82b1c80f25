use Rattle.std.proofs.Common.{◌+◌, subst}
use Rattle.ice_core.specs.Congestion.{price}
use Rattle.ice_path.specs.Aims.{leads}
use Rattle.ice_path.specs.Search.{Lowers}
use Rattle.ice_path.proofs.Relaxing.{relax_step}
use Rattle.ice_path.proofs.search.relax_one.Goals as goal

pub returns-clause-relaxes : goal.returns-clause-relaxes
returns-clause-relaxes c = λ rows k first at so_far.
    relax_step rows (price c.args.prices.now) (leads c.args.aim.now) c.args.settled.now c.args.cost first k c.args.row c.args.labels.now c.lower.new.labels at c.if-settled-row.false c.requires.row
    (subst (λ x. Lowers c.args.labels.now c.lower.new.labels c.args.row.to.0 (c.args.cost + x)) c.of.ensures.price c.lower.ensures.lowers) so_far
