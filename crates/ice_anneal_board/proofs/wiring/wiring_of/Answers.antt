use Rattle.std.proofs.Common.{length, subst}
use Rattle.ice_anneal_board.specs.Noting.{Wired}
use Rattle.ice_anneal_board.proofs.Notes.{none_wired, whole_wiring}
use Rattle.ice_anneal_board.proofs.wiring.wiring_of.Goals as goal

pub returns-clause-wiring : goal.returns-clause-wiring
returns-clause-wiring c =
    let nets = c.args.nets.items in
    let all = c.in_ok-note_nets.ensures c.args.count (none_wired c.args.count c.as_slice.result.now c.in_ok-touching.touching.items c.in_ok-touching.ensures.counts c.in_ok-touching.ensures.none) in
    whole_wiring c.args.count (record { nets = c.args.nets; touching = c.note_nets.new.touching }) c.requires.nets c.requires.few
    (subst (λ l. Wired c.args.count l (length l) c.note_nets.new.touching.items) c.as_slice.ensures.value all)
