use Rattle.ice_cells.specs.contracts.share.PairPartialEq.TheImpl as pairs
use Rattle.ice_cells.proofs.SamePairs.{pairs_equal}
use Rattle.ice_pack_share.proofs.Counting.{counted}
use Rattle.ice_pack_share.proofs.pairing.add_one.Goals as goal

pub returns-clause-after : goal.returns-clause-after
returns-clause-after c = counted (pairs.eq-value).it pairs_equal _ _ _ c.count_of-count.result c.in_ok-insert.ensures.updates.0 c.count_of-count.ensures
