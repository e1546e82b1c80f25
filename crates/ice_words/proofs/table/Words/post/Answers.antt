use Rattle.std.proofs.Common.{◌+◌, ◌≤◌, ◌%◌, ◌^◌, length, slice_index, refl, sym, ap, subst, arith, ◌∙◌}
use Rattle.atomic_table.specs.Table.{keeps}
use Rattle.ice_words.specs.Views.{posted_up, posted_down}
use Rattle.ice_words.specs.Rule.{Holds}
use Rattle.ice_words.specs.Grips.{Grip, Board, IsHandOf, grip_of, board_of, olds_of}
use Rattle.ice_words.proofs.Steps.{stepped_to, post_up_keeps, post_down_keeps}
use Rattle.ice_words.proofs.table.Words.post.Goals as goal

pub fetch_add-requires : goal.fetch_add-requires
fetch_add-requires c =
    let grip = sym c.hand.view_is in
    let key = c.self.inside.table.shared.key in
    let view = c.hand.inside.seat.me.0 in
    let board = board_of c.self.inside.table.shared.table_id (olds_of key) key.counts.items in
    let of : IsHandOf board (grip_of c.hand.inside.seat.table_id view) = subst (λ (g : Grip). IsHandOf board g) grip (subst (λ (b : Board). IsHandOf b c.args.hand.now) (sym c.self.view_is) c.requires.of) in (
      of.table,
      omega (arith, c.self.invariant.0),
      λ s h homes at lt. (
        posted_up view,
        keeps,
        tt,
        subst (λ k. Holds (olds_of key) key.counts.items (stepped_to s 1 ((slice_index s.words 1 + k) % 2 ^ 64) c.hand.inside.seat.id (posted_up view))) (sym c.hand.invariant.5) (post_up_keeps (olds_of key) key.counts.items s c.hand.inside.seat.id view h at c.hand.invariant.1),
        (refl, refl),
      ),
    )

pub fetch_add-requires-2 : goal.fetch_add-requires-2
fetch_add-requires-2 c =
    let key = c.self.inside.table.shared.key in
    let old = c.hand.inside.seat.me.0 in
    let seat = c.fetch_add.new.seat in
    let now = c.fetch_add.ensures.2.0 in
    let down = c.hand.invariant.6 ∙ ap (λ v. v.down) (sym now) in
    let some_part = subst (λ v. 1 ≤ length v.parts) (sym now) c.hand.invariant.1 in
    let board = board_of c.self.inside.table.shared.table_id (olds_of key) key.counts.items in
    let of : IsHandOf board (grip_of c.hand.inside.seat.table_id old) = subst (λ (g : Grip). IsHandOf board g) (sym c.hand.view_is) (subst (λ (b : Board). IsHandOf b c.args.hand.now) (sym c.self.view_is) c.requires.of) in (
      c.fetch_add.ensures.0 ∙ of.table,
      omega (arith, c.self.invariant.0),
      λ s h homes at lt. (
        posted_down seat.me.0,
        keeps,
        tt,
        subst (λ k. Holds (olds_of key) key.counts.items (stepped_to s 2 ((slice_index s.words 2 + k) % 2 ^ 64) seat.id (posted_down seat.me.0))) (sym down) (post_down_keeps (olds_of key) key.counts.items s seat.id seat.me.0 h at some_part),
        (refl, refl),
      ),
    )
