use Rattle.ice_pack_share.proofs.UseLaws.{taken_once}
use Rattle.ice_pack_share.proofs.HomeLaws.{taker_use, taker_reads}
use Rattle.ice_pack_share.proofs.laws.takers_read_their_tables_alone.Goals as goal

pub returns : goal.returns
returns c0 = λ os cells bare k f e.
    let has = taker_reads os cells bare k f e in
    (has.0, has.1, λ j reader at. taken_once k f _ (taker_use os cells bare k f e) j has.0 reader _ at has.1)
