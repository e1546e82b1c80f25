use Rattle.ice_emit_meaning_laws.proofs.Realising.{have_ring}
use Rattle.ice_emit_meaning_laws.proofs.laws.faulty_bits_have_a_ring.Goals as goal

pub returns : goal.returns
returns c =
    have_ring c.args.chip.now c.is_chip.ensures.read c.chip_is_lawful.ensures c.cells_stand_in_one_slot.ensures c.flops_are_driven_as_their_cluster.ensures c.runs_stand_in_chunks.ensures
