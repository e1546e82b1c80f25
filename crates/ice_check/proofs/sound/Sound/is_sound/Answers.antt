use Rattle.std.proofs.Common.{length, subst}
use Rattle.ice_base_values.specs.Order.{IsOrder}
use Rattle.ice_net.specs.NetlistData.{NetlistData}
use Rattle.ice_net.specs.Meaning.{depends_on}
use Rattle.ice_check.proofs.sound.Sound.is_sound.Goals as goal

pub returns-clause-ordered : goal.returns-clause-ordered
returns-clause-ordered c =
    let order = c.self.inside.orders.signals.items in
    (order, subst (λ (n : NetlistData). IsOrder (length n.names) (depends_on n) order) c.self.view_is c.self.invariant.signals)
