use Rattle.std.proofs.Common.{refl, arith}
use Rattle.ice_ram_read.specs.ClosedNetlists.{without_rams}
use Rattle.ice_ram_read.proofs.Unclosed.{alone}
use Rattle.ice_flow_frame.specs.Texts.{text_at}
use Rattle.ice_flow_build_cmd.proofs.ReadNames.{can_be_prepared}
use Rattle.ice_flow_build_cmd.proofs.building.can_be_prepared.Goals as goal

pub returns-clause-preparable : goal.returns-clause-preparable
returns-clause-preparable c =
    let text = text_at c.args.texts.now 2 in
    let n = c.args.sound.now in
    let few = c.requires.limits.cells in
    can_be_prepared n (c.read_names_are_known.ensures text n (alone text (without_rams n) c.requires.circuit refl).0) (omega (arith, few))
