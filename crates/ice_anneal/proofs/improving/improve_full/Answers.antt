use Rattle.std.proofs.Common.{◌-◌, List, Bool, length, take, sym, subst, ap, ◌∙◌, arith}
use Rattle.std.proofs.lemmas.List.{get_or-take}
use Rattle.std.proofs.lemmas.List.Sorted.{length_permutation}
use Rattle.ice_base.specs.declared.number.TileAt.{TileAt}
use Rattle.ice_anneal_board.specs.Length.{wire_length, origin}
use Rattle.ice_anneal_board.specs.Board.{IsLeast}
use Rattle.ice_sites.specs.Legal.{IsLegal}
use Rattle.ice_anneal.specs.Least.{IsSwapLeast}
use Rattle.ice_anneal.proofs.Finish.{agree, full_kept, swap_least, length_free}
use Rattle.ice_anneal.proofs.improving.improve_full.Goals as goal

pub returns-clause-legal : goal.returns-clause-legal
returns-clause-legal c stretches order full legal = subst (λ (l : List TileAt). IsLegal stretches c.args.chunks.now l) (sym c.truncate.ensures.items) (c.in_ok-found.ensures.legal stretches order full legal)

pub returns-clause-falls : goal.returns-clause-falls
returns-clause-falls c =
    let nets = c.args.wiring.now.nets.items in
    let k = length c.args.chunks.now in
    let a = agree k (take k c.in_ok-found.found.items) c.in_ok-found.found.items (λ e lt. get_or-take k c.in_ok-found.found.items e origin lt) nets c.requires.nets in
    let b = agree k (take k c.args.place.now) c.args.place.now (λ e lt. get_or-take k c.args.place.now e origin lt) nets c.requires.nets in
    let e = ap (wire_length nets) c.truncate.ensures.items in
    let le = c.in_ok-found.ensures.falls in
    omega arith

pub returns-clause-least : goal.returns-clause-least
returns-clause-least c stretches full =
    let extra = length c.args.place.now - length c.args.chunks.now in
    let moved = c.in_ok-found.ensures.moved in
    let m = length_permutation c.args.place.now c.in_ok-found.found.items moved in
    let n = length_free c.args.chunks.now extra in
    subst (λ (l : List TileAt). IsSwapLeast (wire_length c.args.wiring.now.nets.items) c.args.chunks.now stretches l) (sym c.truncate.ensures.items)
    (swap_least c.args.wiring.now.nets.items stretches c.args.chunks.now extra c.in_ok-found.found.items (omega arith) (omega arith) c.requires.nets
    (full_kept stretches c.args.place.now c.in_ok-found.found.items moved full)
    (subst (λ (f : List Bool). IsLeast c.args.wiring.now.nets.items f c.in_ok-found.found.items (length c.args.chunks.now)) (c.deref.ensures.value ∙ c.in_ok-free.ensures) c.in_ok-found.ensures.least))
