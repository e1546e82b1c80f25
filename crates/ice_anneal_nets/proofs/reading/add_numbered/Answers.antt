use Rattle.std.proofs.Common.{refl, length}
use Rattle.std.proofs.lemmas.Option.{slice_get_past, slice_get_read}
use Rattle.ice_anneal_nets.proofs.Joining.{numbered_none, numbered_some}
use Rattle.ice_anneal_nets.proofs.reading.add_numbered.Goals as goal

pub returns-in-None : goal.returns-in-None
returns-in-None c = numbered_none c.args.cells.now c.args.node c.args.c c.args.reads.now.items (slice_get_past c.args.cells.now c.args.c c.in-None.ensures.lookup.3)

pub returns-in_ok-add_cell-in-Some : goal.returns-in_ok-add_cell-in-Some
returns-in_ok-add_cell-in-Some c =
    numbered_some c.args.cells.now c.args.node c.args.c c.in-Some.cell.now c.args.reads.now.items c.add_cell.new.reads.items
    (slice_get_read c.args.cells.now (length c.args.cells.now) c.args.c c.in-Some.cell.now refl c.in-Some.ensures.lookup.3.0 c.in-Some.ensures.lookup.1) c.in_ok-add_cell-in-Some.ensures
