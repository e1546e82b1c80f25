use Rattle.std.proofs.Common.{◌≡◌, refl, sym, subst, arith, ◌∙◌}
use Rattle.atomic_table.specs.Table.{keeps}
use Rattle.ice_words.specs.Grips.{Grip, Board, IsHandOf, grip_of, board_of, olds_of}
use Rattle.ice_words.proofs.Steps.{join_keeps, load_keeps, few_numbers}
use Rattle.ice_words.proofs.table.Words.join.Goals as goal

pub join_seat-requires : goal.join_seat-requires
join_seat-requires c =
    let grip = sym c.hand.view_is in
    let key = c.self.inside.table.shared.key in
    let board = board_of c.self.inside.table.shared.table_id (olds_of key) key.counts.items in
    let of : IsHandOf board (grip_of c.hand.inside.seat.table_id c.hand.inside.seat.me.0) = subst (λ (g : Grip). IsHandOf board g) grip (subst (λ (b : Board). IsHandOf b c.args.hand.now) (sym c.self.view_is) c.requires.of.0) in
    let other : IsHandOf board (grip_of c.other.inside.seat.table_id c.other.inside.seat.me.0) = subst (λ (g : Grip). IsHandOf board g) (sym c.other.view_is) (subst (λ (b : Board). IsHandOf b c.args.other) (sym c.self.view_is) c.requires.of.1) in
    let main = subst (λ (g : Grip). g.view.main ≡ 1) grip c.requires.main in
    let worker = subst (λ (g : Grip). g.view.worker ≡ 1) (sym c.other.view_is) c.requires.worker in
    let none = subst (λ (g : Grip). (g.view.up ≡ 0) × (g.view.down ≡ 0)) (sym c.other.view_is) c.requires.posted in (
      of.table,
      other.table,
      c.other.invariant.0,
      omega (arith, c.self.invariant.0),
      λ s h at apart there. join_keeps (olds_of key) key.counts.items s c.hand.inside.seat.id c.other.inside.seat.id c.hand.inside.seat.me.0 c.other.inside.seat.me.0 h at apart there main worker none.0 none.1,
    )

pub load-requires : goal.load-requires
load-requires c =
    let key = c.self.inside.table.shared.key in
    let board = board_of c.self.inside.table.shared.table_id (olds_of key) key.counts.items in
    let of : IsHandOf board (grip_of c.hand.inside.seat.table_id c.hand.inside.seat.me.0) = subst (λ (g : Grip). IsHandOf board g) (sym c.hand.view_is) (subst (λ (b : Board). IsHandOf b c.args.hand.now) (sym c.self.view_is) c.requires.of.0) in
    let view = c.join_seat.new.seat.me.0 in (
      c.join_seat.ensures.0 ∙ of.table,
      omega (arith, c.self.invariant.0),
      λ s h homes at lt. (view, keeps, tt, load_keeps (olds_of key) key.counts.items s c.join_seat.new.seat.id 0 view h at, (few_numbers (olds_of key) key.counts.items s c.join_seat.new.seat.id view h at, refl)),
    )
