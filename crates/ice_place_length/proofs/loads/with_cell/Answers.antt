use Rattle.ice_place_defs.specs.Loads.{Input}
use Rattle.ice_place_length.specs.Grown.{box_in}
use Rattle.ice_place_length.proofs.Growing.{cell_grown}
use Rattle.ice_place_length.proofs.loads.with_cell.Goals as goal

pub returns : goal.returns
returns c =
    λ i. cell_grown c.args.root (box_in c.args.span) (box_in c.grown_at-span.result) (box_in c.grown_at-span-2.result) (box_in c.grown_at-span-3.result) (box_in c.grown_at.result) c.args.tile i c.args.cell.now
    (c.grown_at-span.ensures (Input i 0)) (c.grown_at-span-2.ensures (Input i 1)) (c.grown_at-span-3.ensures (Input i 2)) (c.grown_at.ensures (Input i 3))
