use Rattle.std.proofs.Common.{◌∙◌, ◌<◌, length, arith}
use Rattle.ice_flow_globals.specs.Clocks.{free_globals, promoted_on}
use Rattle.ice_flow_prepare.proofs.laws.prepared_show_the_same.Goals as goal

pub returns : goal.returns
returns c parts n outer formed room levels =
    let free = free_globals parts n in
    let few : length n.cells < 1073000000 = omega (arith, room) in
    c.tailed_show_the_same.ensures (promoted_on parts n outer) (c.promoted_are_formed.ensures n outer free formed few) levels ∙ c.promoted_show_the_same.ensures n outer free formed levels
