use Rattle.std.proofs.Common.{◌++◌, List, ap, ◌∙◌}
use Rattle.ice_base.specs.declared.number.TileAt.{TileAt}
use Rattle.ice_anneal.specs.Order.{rooms}
use Rattle.ice_anneal.proofs.Orders.{listed_more}
use Rattle.ice_anneal.proofs.order.order_of.Goals as goal

pub loop-stretch-preserved : goal.loop-stretch-preserved
loop-stretch-preserved c =
    let s = c.args.stretches.now in
    let i = c.loop-stretch.stretch-index in
    let x = c.stretch-item.result in
    let order = c.loop-stretch.order in
    let new = c.add_stretch.new.order in
    let lt = c.loop-stretch-test.true in
    record {
      tiles = listed_more (λ (sites : List TileAt). sites) s i x order.tiles.items new.tiles.items lt c.stretch-item.is c.loop-stretch.invariant.tiles
          (c.in_ok-add_stretch.ensures.tiles ∙ ap (λ (l : List TileAt). order.tiles.items ++ l) c.tiles.ensures);
      room = listed_more rooms s i x order.room.items new.room.items lt c.stretch-item.is c.loop-stretch.invariant.room
          (c.in_ok-add_stretch.ensures.room ∙ ap (λ (l : List TileAt). order.room.items ++ rooms l) c.tiles.ensures);
    }
