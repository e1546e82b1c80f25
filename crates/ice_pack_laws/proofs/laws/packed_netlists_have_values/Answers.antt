use Rattle.ice_cells.specs.Packed.{packed}
use Rattle.ice_pack_laws.proofs.AllValues.{have_values}
use Rattle.ice_pack_laws.proofs.Found.{p}
use Rattle.ice_pack_laws.proofs.Ready.{ready_is}
use Rattle.ice_pack_laws.proofs.laws.packed_netlists_have_values.Goals as goal

pub returns : goal.returns
returns c0 = λ n order is. have_values n (packed n) (p n) order (ready_is n order is)
