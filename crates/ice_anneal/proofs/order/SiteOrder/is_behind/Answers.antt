use Rattle.std.proofs.Common.{◌+◌, List, sym, ap, ◌∙◌, arith}
use Rattle.ice_base.specs.declared.number.TileAt.{TileAt}
use Rattle.ice_sites.specs.Legal.{tile_at}
use Rattle.ice_anneal.proofs.Orders.{follows}
use Rattle.ice_anneal.proofs.order.SiteOrder.is_behind.Goals as goal

pub returns : goal.returns
returns c there stretches is =
    let s = c.number_of-site.result in
    let r = c.room_from.ensures in
    let two = c.if-room_from-lt2.false in
    follows stretches c.args.self.now s c.args.low c.args.high is (omega arith)
    (ap (λ (l : List TileAt). tile_at l s) (sym c.deref.ensures.value) ∙ c.is_at.ensures c.if-not-is_at.false)
    (ap (λ (l : List TileAt). tile_at l (s + 1)) (sym c.deref-2.ensures.value) ∙ c.is_at-2.ensures there)
