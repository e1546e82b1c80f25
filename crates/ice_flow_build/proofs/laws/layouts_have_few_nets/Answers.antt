use Rattle.ice_flow_build.proofs.Counting.{layout_few}
use Rattle.ice_flow_build.proofs.laws.layouts_have_few_nets.Goals as goal

pub returns : goal.returns
returns c = λ name constraints layout laid.
    layout_few c.args.chip.now c.args.sound.now c.is_sound.ensures.ordered.0 c.is_chip.ensures (record { formed = c.is_sound.ensures.formed; sound = c.is_sound.ensures.sound; sorted = c.is_sound.ensures.ordered.1 })
    c.designs_read_few.ensures c.placed_nets_are_few.ensures name constraints layout laid (c.layouts_stand_on_their_chip.ensures name constraints layout laid)
