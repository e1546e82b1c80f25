use Rattle.std.proofs.Common.{refl, length}
use Rattle.std.proofs.lemmas.Option.{slice_get_past, slice_get_read}
use Rattle.ice_place_length.specs.Grown.{box_in}
use Rattle.ice_place_length.proofs.Growing.{numbered_none, numbered_some}
use Rattle.ice_place_length.proofs.loads.with_numbered.Goals as goal

pub returns-in-None : goal.returns-in-None
returns-in-None c = λ i. numbered_none c.args.root (box_in c.args.span) c.args.tile c.args.cells.now i c.args.c (slice_get_past c.args.cells.now c.args.c c.in-None.ensures.lookup.3)

pub returns-in-Some : goal.returns-in-Some
returns-in-Some c =
    λ i. numbered_some c.args.root (box_in c.args.span) (box_in c.with_cell.result) c.args.tile c.args.cells.now i c.args.c c.in-Some.cell.now
    (slice_get_read c.args.cells.now (length c.args.cells.now) c.args.c c.in-Some.cell.now refl c.in-Some.ensures.lookup.3.0 c.in-Some.ensures.lookup.1) (c.with_cell.ensures i)
