use Rattle.std.proofs.Common.{arith}
use Rattle.ice_flow_prepare.proofs.Names.{promotable_names}
use Rattle.ice_flow_prepare.proofs.preparing.can_be_promoted.Goals as goal

pub returns : goal.returns
returns c =
    let n = c.args.sound.now in
    let room = c.requires.room in
    c.netlists_with_such_names_can_be_promoted.ensures n (promotable_names n c.requires) (omega (arith, room))
