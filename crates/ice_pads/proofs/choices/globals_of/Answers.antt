use Rattle.std.proofs.Common.{length, ap, arith}
use Rattle.ice_pads.specs.Globals.{globals}
use Rattle.ice_pads.proofs.GlobalLaws.{few_globals}
use Rattle.ice_pads.proofs.DirectLaws.{left_few}
use Rattle.ice_pads.proofs.choices.globals_of.Goals as goal

pub taken_with-requires : goal.taken_with-requires
taken_with-requires c =
    let few = few_globals c.args.index.now.chip.now in
    let fewer = left_few c.deref-2.result.now (globals c.args.index.now.chip.now) in
    let long = ap length c.in_ok-free.ensures in
    omega (arith, few, fewer, long)
