use Rattle.ice_ram_read.proofs.Unclosed.{alone_exactly}
use Rattle.ice_ram_read.proofs.laws.closed_netlists_without_rams.Goals as goal

pub returns : goal.returns
returns c = alone_exactly c.args.text.now
