use Rattle.ice_flow_build.proofs.Showing.{shows}
use Rattle.ice_flow_build.proofs.laws.realised_layouts_show_their_netlist.Goals as goal

pub returns : goal.returns
returns c =
    shows c.args.chip.now c.args.sound.now c.is_sound.ensures.ordered.0 (record { formed = c.is_sound.ensures.formed; sound = c.is_sound.ensures.sound; sorted = c.is_sound.ensures.ordered.1 })
    c.designs_show_the_same.ensures c.bits_without_rams.ensures.shows c.bits_without_rams.ensures.plain
