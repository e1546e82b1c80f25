use Rattle.ice_claim_opening.proofs.Opened.{fits_by, lists_ready, notes_ready, opened_by}
use Rattle.ice_claim_opening.proofs.whole_nets.opening.Goals as goal

pub notes_by-requires-clause-lists : goal.notes_by-requires-clause-lists
notes_by-requires-clause-lists g c κs within =
    lists_ready c.in_ok-kept.kept.items c.deref.result.now c.in_ok-lists.lists.items c.deref-2.result.now c.args.graph.now c.args.nets.now c.wires.result c.wires.ensures c.requires.few
    c.in_ok-kept.ensures c.deref.ensures.value c.in_ok-lists.ensures c.deref-2.ensures.value

pub mark-requires : goal.mark-requires
mark-requires g c =
    notes_ready c.in_ok-kept.kept.items c.deref.result.now c.in_ok-lists.lists.items c.deref-2.result.now c.args.workers c.in_ok-notes.notes.items c.deref-3.result.now
    c.deref.ensures.value c.in_ok-lists.ensures c.deref-2.ensures.value c.in_ok-notes.ensures c.deref-3.ensures.value

pub returns-clause-opened : goal.returns-clause-opened
returns-clause-opened g c =
    opened_by c.in_ok-kept.kept.items c.deref.result.now c.in_ok-lists.lists.items c.deref-2.result.now c.args.graph.now c.args.nets.now c.args.workers c.in_ok-notes.notes.items c.deref-3.result.now c.mark.new.kept.items
    c.in_ok-kept.ensures c.deref.ensures.value c.in_ok-lists.ensures c.deref-2.ensures.value c.in_ok-notes.ensures c.deref-3.ensures.value c.mark.ensures

pub returns-clause-fits : goal.returns-clause-fits
returns-clause-fits g c =
    fits_by c.in_ok-kept.kept.items c.deref.result.now c.in_ok-lists.lists.items c.deref-2.result.now c.args.graph.now c.args.nets.now c.args.workers c.in_ok-notes.notes.items c.deref-3.result.now c.mark.new.kept.items
    c.in_ok-kept.ensures c.deref.ensures.value c.in_ok-lists.ensures c.deref-2.ensures.value c.in_ok-notes.ensures c.deref-3.ensures.value c.mark.ensures
