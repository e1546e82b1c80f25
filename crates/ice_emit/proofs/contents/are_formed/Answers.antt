use Rattle.std.proofs.Common.{List, subst}
use Rattle.std.specs.Prelude.{All}
use Rattle.std.proofs.lemmas.List.{take_all}
use Rattle.std.proofs.lemmas.List.Elements.{All-more}
use Rattle.ice_ram.specs.Ram.{Kept}
use Rattle.ice_ram.specs.declared.setup.Setup.{Setup}
use Rattle.ice_emit_defs.specs.Rams.{IsFormedRam}
use Rattle.ice_emit.proofs.contents.are_formed.Goals as goal

pub loop-ram-preserved : goal.loop-ram-preserved
loop-ram-preserved c =
    All-more IsFormedRam c.args.rams.now c.loop-ram.ram-index c.ram-item.result c.loop-ram-test.true c.loop-ram.invariant (subst IsFormedRam c.ram-item.is c.is_formed.ensures)

pub returns : goal.returns
returns c = subst (λ (rams : List (Setup × Kept)). All IsFormedRam rams) (take_all c.loop-ram.ram-index c.args.rams.now c.loop-ram-test.false) c.loop-ram.invariant
