use Rattle.std.proofs.Common.{◌≡◌, ℕ, List, Option, length, sym, refl, subst, ap, ◌∙◌, arith}
use Rattle.std.specs.List.{All}
use Rattle.ice_base.specs.declared.number.TileAt.{TileAt}
use Rattle.ice_place.specs.Place.{chunks_of}
use Rattle.ice_anneal_board.specs.declared.net.NetNodes.{NetNodes}
use Rattle.ice_anneal_board.specs.Length.{wire_length, IsNet}
use Rattle.ice_anneal.specs.Least.{IsSwapLeast}
use Rattle.ice_anneal.proofs.Measured.{measured}
use Rattle.ice_anneal.proofs.improving.improve_nets.Goals as goal
use Rattle.ice_anneal.proofs.improving.improve_nets.Goals.{After-as_slice-2}

same_chunks : (c : After-as_slice-2) → c.as_slice-2.result.now ≡ chunks_of c.args.clusters.now.list
same_chunks c = c.as_slice-2.ensures.value ∙ (c.in_ok-chunks.ensures ∙ ap chunks_of c.list.ensures)

same_lengths : (c : After-as_slice-2) (at : List TileAt) → wire_length c.in_ok-once.once.items at ≡ wire_length c.args.nets.items at
same_lengths c at = c.in_ok-once.ensures.lengths at ∙ ap (λ (nets : List NetNodes). wire_length nets at) c.as_slice.ensures.value

pub improve_some-requires-clause-nets : goal.improve_some-requires-clause-nets
improve_some-requires-clause-nets c =
    let count = length c.as_slice-2.result.now in
    let e = same_chunks (goal.at.improve_some-requires-clause-nets c).After-as_slice-2 in
    c.in_ok-once.ensures.nets count (subst (λ (nets : List NetNodes). All (IsNet count) nets) (sym c.as_slice.ensures.value)
    (subst (λ (n : ℕ). All (IsNet n) c.args.nets.items) (sym (ap length e)) c.requires.nets))

pub returns-clause-falls : goal.returns-clause-falls
returns-clause-falls c =
    let once = c.in_ok-once.once.items in
    let at = (goal.at.returns-clause-falls c).After-as_slice-2 in
    let found = same_lengths at c.from_vec.result in
    let given = same_lengths at c.args.placement.now in
    let made = ap (wire_length once) c.from_vec.ensures in
    let start = ap (wire_length once) c.tiles-tiles.ensures in
    let le = c.in_ok-found.ensures.falls in
    omega arith

pub returns-clause-least : goal.returns-clause-least
returns-clause-least c =
    let nets = c.args.nets.items in
    let found = c.in_ok-found.found.items in
    let at = (goal.at.returns-clause-least c).After-as_slice-2 in
    subst (λ (p : List TileAt). IsSwapLeast (wire_length nets) (chunks_of c.args.clusters.now.list) c.args.sites.now p) (sym c.from_vec.ensures)
    (subst (λ (chunks : List (Option (ℕ × ℕ))). IsSwapLeast (wire_length nets) chunks c.args.sites.now found) (same_chunks at)
    (measured (wire_length c.in_ok-once.once.items) (wire_length nets) (length found) c.as_slice-2.result.now c.args.sites.now found (λ p e. same_lengths at p) refl c.in_ok-found.ensures.least))
