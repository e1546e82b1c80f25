use Rattle.std.proofs.Common.{◌≡◌, refl, sym, subst, arith, false}
use Rattle.atomic_table.specs.Table.{keeps}
use Rattle.ice_words.specs.Views.{own}
use Rattle.ice_words.specs.Rule.{IsNewestReleased}
use Rattle.ice_words.specs.Grips.{Grip, Board, IsHandOf, grip_of, board_of, olds_of}
use Rattle.ice_words.proofs.Steps.{claim_keeps}
use Rattle.ice_words.proofs.table.Words.claim.Goals as goal

pub fetch_add-n-requires : goal.fetch_add-n-requires
fetch_add-n-requires c =
    let grip = sym c.hand.view_is in
    let key = c.self.inside.table.shared.key in
    let of : IsHandOf (board_of c.self.inside.table.shared.table_id (olds_of key) key.counts.items) (grip_of c.hand.inside.seat.table_id c.hand.inside.seat.me.0) = subst (λ (g : Grip). IsHandOf (board_of c.self.inside.table.shared.table_id (olds_of key) key.counts.items) g) grip (subst (λ (b : Board). IsHandOf b c.args.hand.now) (sym c.self.view_is) c.requires.of) in
    let going = subst (λ (g : Grip). (own g.view).ended ≡ false) grip c.requires.going in
    let whole : IsNewestReleased (olds_of key) (own c.hand.inside.seat.me.0).claims = subst (λ olds. IsNewestReleased olds (own c.hand.inside.seat.me.0).claims) of.olds (subst (λ (g : Grip). IsNewestReleased g.view.olds (own g.view).claims) grip c.requires.whole) in (
      of.table,
      omega (arith, c.self.invariant.0),
      λ s h homes at lt. (let t = claim_keeps (olds_of key) key.counts.items s c.hand.inside.seat.id c.hand.inside.seat.me.0 h at c.hand.invariant.1 of.olds going whole in (t.0, keeps, tt, t.1, (t.2, refl))),
    )
