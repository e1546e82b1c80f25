use Rattle.std.proofs.Common.{◌≡◌, ◌-◌, ℕ, List, length, take, sym, subst, ap, ◌∙◌, arith}
use Rattle.std.specs.List.Sorted.{IsPermutation}
use Rattle.std.proofs.lemmas.List.Sorted.{IsPermutation-trans, length_permutation}
use Rattle.ice_base.specs.declared.number.TileAt.{TileAt}
use Rattle.ice_anneal_board.specs.Length.{wire_length}
use Rattle.ice_anneal_board.specs.Wiring.{IsWiring}
use Rattle.ice_anneal_board.proofs.Boards.{total_is}
use Rattle.ice_sites.specs.Legal.{IsLegal}
use Rattle.ice_anneal.specs.Order.{IsLinked}
use Rattle.ice_anneal.proofs.Finish.{legal_linked, free_places}
use Rattle.ice_anneal.proofs.improving.best.Goals as goal
use Rattle.ice_anneal.proofs.improving.best.Goals.{After-as_slice, In_ok-made}

as_many : (c : After-as_slice) → length c.as_slice.result.now ≡ length c.args.place.now
as_many c = ap length c.as_slice.ensures.value ∙ length_permutation c.args.place.now c.in_ok-at.at.items c.in_ok-at.ensures

moved : (c : In_ok-made) → IsPermutation c.args.place.now c.in_ok-made.made.place.items
moved c =
    let place = c.args.place.now in
    IsPermutation-trans place c.in_ok-at.at.items c.in_ok-made.made.place.items c.in_ok-at.ensures
    (subst (λ (l : List TileAt). IsPermutation l c.in_ok-made.made.place.items) c.as_slice.ensures.value c.in_ok-made.ensures.keeps.moved)

pub lowered-requires-clause-wiring : goal.lowered-requires-clause-wiring
lowered-requires-clause-wiring c = subst (λ (n : ℕ). IsWiring n c.args.wiring.now) (sym (as_many (goal.at.lowered-requires-clause-wiring c).After-as_slice)) c.requires.wiring

pub lowered-requires-clause-free : goal.lowered-requires-clause-free
lowered-requires-clause-free c =
    let n = free_places c.args.chunks.now c.args.free.now (length c.args.place.now) c.requires.count c.requires.free in
    n ∙ sym (as_many (goal.at.lowered-requires-clause-free c).After-as_slice)

pub lowered-requires-clause-count : goal.lowered-requires-clause-count
lowered-requires-clause-count c = let n = free_places c.args.chunks.now c.args.free.now (length c.args.place.now) c.requires.count c.requires.free in let k = c.requires.count in omega arith

pub are_linked-requires : goal.are_linked-requires
are_linked-requires c =
    let n = length_permutation c.args.place.now c.in_ok-made.made.place.items (moved (goal.at.are_linked-requires c).In_ok-made) in
    let e = ap length c.deref.ensures.value in
    let k = c.requires.count in
    omega arith

pub returns-then-are_linked-clause-moved : goal.returns-then-are_linked-clause-moved
returns-then-are_linked-clause-moved c =
    subst (λ (l : List TileAt). IsPermutation c.args.place.now l) (sym c.tiles_of.ensures) (moved (goal.at.returns-then-are_linked-clause-moved c).In_ok-made)

pub returns-then-are_linked-clause-legal : goal.returns-then-are_linked-clause-legal
returns-then-are_linked-clause-legal c stretches order full legal =
    let chunks = c.args.chunks.now in
    let made = c.in_ok-made.made.place.items in
    subst (λ (l : List TileAt). IsLegal stretches chunks (take (length chunks) l)) (sym c.tiles_of.ensures)
    (legal_linked stretches chunks c.args.place.now made c.requires.count (moved (goal.at.returns-then-are_linked-clause-legal c).In_ok-made) full
    (subst (λ (l : List TileAt). IsLinked stretches chunks l) c.deref.ensures.value (c.are_linked.ensures c.if-are_linked.true stretches order)))

pub returns-then-are_linked-clause-falls : goal.returns-then-are_linked-clause-falls
returns-then-are_linked-clause-falls c =
    let t = total_is c.args.wiring.now c.in_ok-made.made c.in_ok-made.ensures.board in
    let l = c.in_ok-limit.ensures in
    let e = ap (wire_length c.args.wiring.now.nets.items) c.tiles_of.ensures in
    let le = c.if-made-limit.true in
    omega arith
