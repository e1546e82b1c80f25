use Rattle.ice_cells.specs.Packed.{packed}
use Rattle.ice_pack_laws.proofs.Found.{p}
use Rattle.ice_pack_laws.proofs.Ready.{ready_is}
use Rattle.ice_pack_laws.proofs.Steps.{shows_same}
use Rattle.ice_pack_laws.proofs.laws.packed_netlists_show_the_same.Goals as goal

pub returns : goal.returns
returns c0 = λ n order is levels. shows_same n (packed n) (p n) order (ready_is n order is) levels
