use Rattle.std.proofs.Common.{◌≡◌, List, length, take, sym, ap, ◌∙◌, subst, arith}
use Rattle.std.specs.List.{All}
use Rattle.ice_base.specs.declared.number.TileAt.{TileAt}
use Rattle.ice_sites.specs.Legal.{IsLegal}
use Rattle.ice_anneal_board.specs.declared.net.NetNodes.{NetNodes}
use Rattle.ice_anneal_board.specs.Length.{wire_length, IsNet}
use Rattle.ice_anneal.specs.Full.{full_of}
use Rattle.ice_anneal.specs.Least.{IsFull, IsSwapLeast}
use Rattle.ice_anneal.specs.Order.{IsOrder}
use Rattle.ice_anneal.proofs.Fullness.{full, full_first, full_count}
use Rattle.ice_anneal.proofs.improving.improve_some.Goals as goal

pub improve_full-requires-clause-nets : goal.improve_full-requires-clause-nets
improve_full-requires-clause-nets c = subst (λ (l : List NetNodes). All (IsNet (length c.args.chunks.now)) l) (sym c.in_ok-wiring.ensures.nets) c.requires.nets

pub improve_full-requires-clause-count : goal.improve_full-requires-clause-count
improve_full-requires-clause-count c =
    let sites = c.args.sites.now in
    let at = c.args.at.now in
    let e = ap length (c.as_slice.ensures.value ∙ c.in_ok-place.ensures ∙ ap (λ (s : List (List TileAt)). full_of s at) c.stretches-stretches.ensures) in
    let f = full_count sites at in
    let n = c.requires.legal.counts in
    omega arith

pub returns-clause-falls : goal.returns-clause-falls
returns-clause-falls c =
    let sites = c.args.sites.now in
    let chunks = c.args.chunks.now in
    let at = c.args.at.now in
    let p : c.as_slice.result.now ≡ full_of sites at = c.as_slice.ensures.value ∙ c.in_ok-place.ensures ∙ ap (λ (s : List (List TileAt)). full_of s at) c.stretches-stretches.ensures in
    let nets = c.in_ok-wiring.ensures.nets in
    let found = ap (λ (l : List NetNodes). wire_length l c.in_ok-found.found.items) nets in
    let start = ap (λ (l : List NetNodes). wire_length l (take (length chunks) c.as_slice.result.now)) nets in
    let first = ap (wire_length c.args.nets.items) (ap (take (length chunks)) p ∙ full_first sites (length chunks) at c.requires.legal.counts) in
    let le = c.in_ok-found.ensures.falls in
    omega arith

pub returns-clause-legal : goal.returns-clause-legal
returns-clause-legal c =
    let sites = c.args.sites.now in
    let chunks = c.args.chunks.now in
    let at = c.args.at.now in
    let p : c.as_slice.result.now ≡ full_of sites at = c.as_slice.ensures.value ∙ c.in_ok-place.ensures ∙ ap (λ (s : List (List TileAt)). full_of s at) c.stretches-stretches.ensures in
    c.in_ok-found.ensures.legal sites (subst (λ (s : List (List TileAt)). IsOrder s c.in_ok-order.order) c.stretches-stretches.ensures c.in_ok-order.ensures) (subst (λ (l : List TileAt). IsFull sites l) (sym p) (full sites chunks at c.requires.sites c.requires.legal))
    (subst (λ (l : List TileAt). IsLegal sites chunks l) (sym (ap (take (length chunks)) p ∙ full_first sites (length chunks) at c.requires.legal.counts)) c.requires.legal)

pub returns-clause-least : goal.returns-clause-least
returns-clause-least c =
    let sites = c.args.sites.now in
    let chunks = c.args.chunks.now in
    let at = c.args.at.now in
    let p : c.as_slice.result.now ≡ full_of sites at = c.as_slice.ensures.value ∙ c.in_ok-place.ensures ∙ ap (λ (s : List (List TileAt)). full_of s at) c.stretches-stretches.ensures in
    subst (λ (l : List NetNodes). IsSwapLeast (wire_length l) chunks sites c.in_ok-found.found.items) c.in_ok-wiring.ensures.nets
    (c.in_ok-found.ensures.least sites (subst (λ (l : List TileAt). IsFull sites l) (sym p) (full sites chunks at c.requires.sites c.requires.legal)))
