use Rattle.std.proofs.Common.{arith}
use Rattle.ice_chip.specs.Database.{same_pad}
use Rattle.ice_sim.proofs.Turns.{places_more}
use Rattle.ice_sim.proofs.configured.pad_places.Goals as goal

pub loop-k-preserved : goal.loop-k-preserved
loop-k-preserved c =
    places_more same_pad _ _ c.loop-k.places.entries c.note_pad.new.places.entries c.args.pads.now c.loop-k.k c.in_ok-small.field-0 (omega arith) c.loop-k.invariant c.in_ok-note_pad.ensures
    c.in_ok-small.ensures
