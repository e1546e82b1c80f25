use Rattle.ice_emit_meaning_laws.proofs.Realising.{have_no_loop}
use Rattle.ice_emit_meaning_laws.proofs.laws.bits_have_no_loop.Goals as goal

pub returns : goal.returns
returns c =
    have_no_loop c.args.chip.now c.is_chip.ensures.read c.chip_is_lawful.ensures c.cells_stand_in_one_slot.ensures c.flops_are_driven_as_their_cluster.ensures c.runs_stand_in_chunks.ensures
