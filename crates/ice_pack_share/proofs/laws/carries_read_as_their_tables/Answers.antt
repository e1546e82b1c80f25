use Rattle.std.proofs.Common.{[]}
use Rattle.ice_cells.specs.Pairs.{roles_of}
use Rattle.ice_pack_share.proofs.LutLaws.{taking}
use Rattle.ice_pack_share.proofs.HomeLaws.{lut_taken}
use Rattle.ice_pack_share.proofs.laws.carries_read_as_their_tables.Goals as goal

pub returns : goal.returns
returns c0 = λ os cells c a e. let t = taking (roles_of os cells) c a (lut_taken os cells [] c a e) in (t.pair, t.carry, t.lut)
