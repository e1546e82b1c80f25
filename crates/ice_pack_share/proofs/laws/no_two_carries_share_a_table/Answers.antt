use Rattle.std.proofs.Common.{[]}
use Rattle.ice_cells.specs.Pairs.{roles_of}
use Rattle.ice_pack_share.proofs.LutLaws.{one_carry}
use Rattle.ice_pack_share.proofs.HomeLaws.{lut_taken}
use Rattle.ice_pack_share.proofs.laws.no_two_carries_share_a_table.Goals as goal

pub returns : goal.returns
returns c0 = λ os cells c d a e f. one_carry (roles_of os cells) c d a (lut_taken os cells [] c a e) (lut_taken os cells [] d a f)
