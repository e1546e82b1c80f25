use Rattle.ice_anneal_board.proofs.Notes.{noted_or_not}
use Rattle.ice_anneal_board.proofs.wiring.note.Goals as goal

pub returns : goal.returns
returns c =
    noted_or_not c.add.result c.args.touching.now.items c.args.net c.args.c (record { nets = c.add.new.list }) c.index_mut.result.now c.requires c.index_mut.ensures.value c.add.ensures.noted c.add.ensures.kept c.add.ensures.within
