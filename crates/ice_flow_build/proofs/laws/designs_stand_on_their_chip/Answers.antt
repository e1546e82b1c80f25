use Rattle.ice_flow_build.proofs.Standing.{stands}
use Rattle.ice_flow_build.proofs.laws.designs_stand_on_their_chip.Goals as goal

pub returns : goal.returns
returns c =
    stands c.args.chip.now c.args.sound.now c.is_sound.ensures.ordered.0 c.is_chip.ensures (record { formed = c.is_sound.ensures.formed; sound = c.is_sound.ensures.sound; sorted = c.is_sound.ensures.ordered.1 })
    c.designs_are_formed.ensures c.designs_have_values.ensures c.ranks_give_clusterings.ensures c.assigned_pads_fit.ensures c.clusters_stand_on_sites.ensures
