use Rattle.std.proofs.lemmas.List.Sorted.{IsPermutation-trans}
use Rattle.ice_anneal.proofs.seating.seated.Goals as goal

pub loop-c-preserved : goal.loop-c-preserved
loop-c-preserved c = IsPermutation-trans c.args.place.now c.loop-c.at.items c.take.new.place.items c.loop-c.invariant c.take.ensures
