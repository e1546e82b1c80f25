use Rattle.std.proofs.Common.{◌-◌, List, Bool, length, take, sym, subst, arith}
use Rattle.ice_base.specs.declared.number.TileAt.{TileAt}
use Rattle.ice_anneal_board.specs.Board.{Keeps}
use Rattle.ice_sites.specs.Legal.{IsLegal}
use Rattle.ice_anneal.proofs.Finish.{legal_kept, free_places}
use Rattle.ice_anneal.proofs.improving.descended.Goals as goal

pub lowered-requires-clause-free : goal.lowered-requires-clause-free
lowered-requires-clause-free c = free_places c.args.chunks.now c.args.free.now (length c.args.place.now) c.requires.count c.requires.free

pub lowered-requires-clause-count : goal.lowered-requires-clause-count
lowered-requires-clause-count c = let n = free_places c.args.chunks.now c.args.free.now (length c.args.place.now) c.requires.count c.requires.free in let k = c.requires.count in omega arith

pub returns-clause-legal : goal.returns-clause-legal
returns-clause-legal c stretches full legal =
    let chunks = c.args.chunks.now in
    let place = c.args.place.now in
    let plain = c.in_ok-plain.plain.place.items in
    subst (λ (l : List TileAt). IsLegal stretches chunks (take (length chunks) l)) (sym c.tiles_of.ensures)
    (legal_kept stretches chunks (length place - length chunks) place plain (let k = c.requires.count in omega arith)
    (subst (λ (f : List Bool). Keeps f place plain) c.requires.free c.in_ok-plain.ensures.keeps) full legal)
