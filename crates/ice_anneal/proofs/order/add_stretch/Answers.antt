use Rattle.std.proofs.Common.{◌+◌, ◌++◌, ◌∷◌, [], ℕ, List, take, drop, get_or, sym, ap, ◌∙◌, append_assoc}
use Rattle.std.proofs.lemmas.List.{take_more}
use Rattle.ice_base.specs.declared.number.TileAt.{TileAt}
use Rattle.ice_anneal_board.specs.Length.{origin}
use Rattle.ice_anneal.specs.Order.{rooms}
use Rattle.ice_anneal.proofs.Orders.{rooms_drop}
use Rattle.ice_anneal.proofs.order.add_stretch.Goals as goal

pub loop-k-preserved : goal.loop-k-preserved
loop-k-preserved c =
    let sites = c.args.sites.now in
    let old = c.args.order.now.tiles.items in
    let room = c.loop-k.order.room.items in
    let k = c.loop-k.k in
    let lt = c.loop-k-test.true in
    let t : TileAt = get_or sites k origin in
    record {
      tiles = c.in_ok-push.ensures.items ∙ (ap (λ (l : List TileAt). l ++ t ∷ []) c.loop-k.invariant.tiles ∙ (append_assoc old (take k sites) (t ∷ []) ∙ ap (λ (l : List TileAt). old ++ l) (sym (take_more sites k origin lt))));
      room = ap (λ (l : List ℕ). l ++ rooms (drop (k + 1) sites)) c.in_ok-push-2.ensures.items
          ∙ (append_assoc room (_ ∷ []) (rooms (drop (k + 1) sites)) ∙ (ap (λ (l : List ℕ). room ++ l) (sym (rooms_drop sites k lt)) ∙ c.loop-k.invariant.room));
    }
