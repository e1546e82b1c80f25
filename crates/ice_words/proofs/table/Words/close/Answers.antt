use Rattle.std.proofs.Common.{◌≡◌, ℕ, List, drop, length, slice_index, sym, ap, subst, arith}
use Rattle.ice_words.specs.Grips.{Grip, Board, IsHandOf, grip_of, board_of, olds_of}
use Rattle.ice_core.specs.Routes.{overuse}
use Rattle.std.specs.Mem.Slots.{slots_items}
use Rattle.ice_words.specs.Rule.{IsClosing, IsPosted}
use Rattle.ice_core.proofs.Sums.{read_at}
use Rattle.ice_words.proofs.Steps.{closed_view}
use Rattle.ice_words.proofs.table.Words.close.Goals as goal

pub counts_in-closed-requires-clause-low : goal.counts_in-closed-requires-clause-low
counts_in-closed-requires-clause-low c =
    let key = c.self.inside.table.shared.key in
    let main = subst (λ (g : Grip). g.view.main ≡ 1) (sym c.hand.view_is) c.requires.main in
    let none = subst (λ (g : Grip). g.view.out ≡ 0) (sym c.hand.view_is) c.requires.joined in
    let zero = subst (λ (g : Grip). (g.view.up ≡ 0) × (g.view.down ≡ 0)) (sym c.hand.view_is) c.requires.posted in
    let f = c.close_with-shut.ensures.values.2 in
    let t = closed_view (olds_of key) key.counts.items c.hand.inside.seat.id c.hand.inside.seat.me.0 (slots_items c.close_with-shut.result.words) (f.0, f.1, f.2) main none zero.0 zero.1 in
    let same = c.self.invariant.3 in
    λ w lt. t.2 w (omega (arith, lt, c.len.ensures, c.self.inside.opened.ok, ap length same))

pub invariant_of-result : goal.invariant_of-result
invariant_of-result c =
    let key = c.self.inside.table.shared.key in
    let main = subst (λ (g : Grip). g.view.main ≡ 1) (sym c.hand.view_is) c.requires.main in
    let none = subst (λ (g : Grip). g.view.out ≡ 0) (sym c.hand.view_is) c.requires.joined in
    let zero = subst (λ (g : Grip). (g.view.up ≡ 0) × (g.view.down ≡ 0)) (sym c.hand.view_is) c.requires.posted in
    let f = c.close_with-shut.ensures.values.2 in
    let words = slots_items c.close_with-shut.result.words in
    let t = closed_view (olds_of key) key.counts.items c.hand.inside.seat.id c.hand.inside.seat.me.0 words (f.0, f.1, f.2) main none zero.0 zero.1 in
    let same = c.self.invariant.3 in
    let up : c.word-up.result ≡ slice_index words 1 = read_at words 1 c.word-up.result c.word-up.ensures in
    let down : c.word-down.result ≡ slice_index words 2 = read_at words 2 c.word-down.result c.word-down.ensures in
    let closed = c.counts_in-closed.ensures in
    let board = board_of c.self.inside.table.shared.table_id (olds_of key) key.counts.items in
    let of : IsHandOf board (grip_of c.hand.inside.seat.table_id c.hand.inside.seat.me.0) = subst (λ (g : Grip). IsHandOf board g) (sym c.hand.view_is) (subst (λ (b : Board). IsHandOf b c.args.hand) (sym c.self.view_is) c.requires.of) in (
      omega (arith, ap length closed, t.0.long, ap length of.counts, ap length same),
      c.self.invariant.5,
      omega (arith, up, t.3.ups, t.1.holds),
      omega (arith, up, down, ap overuse closed, t.3.change, c.self.invariant.4, ap overuse same, ap overuse of.counts),
    )

pub returns-clause-closing : goal.returns-clause-closing
returns-clause-closing c =
    let key = c.self.inside.table.shared.key in
    let main = subst (λ (g : Grip). g.view.main ≡ 1) (sym c.hand.view_is) c.requires.main in
    let none = subst (λ (g : Grip). g.view.out ≡ 0) (sym c.hand.view_is) c.requires.joined in
    let zero = subst (λ (g : Grip). (g.view.up ≡ 0) × (g.view.down ≡ 0)) (sym c.hand.view_is) c.requires.posted in
    let f = c.close_with-shut.ensures.values.2 in
    let t = closed_view (olds_of key) key.counts.items c.hand.inside.seat.id c.hand.inside.seat.me.0 (slots_items c.close_with-shut.result.words) (f.0, f.1, f.2) main none zero.0 zero.1 in
    subst (λ (closed : List ℕ). IsClosing c.args.hand.view closed) (sym c.counts_in-closed.ensures) (subst (λ (g : Grip). IsClosing g.view (drop 3 (slots_items c.close_with-shut.result.words))) c.hand.view_is t.0)

pub returns-clause-posted : goal.returns-clause-posted
returns-clause-posted c =
    let key = c.self.inside.table.shared.key in
    let main = subst (λ (g : Grip). g.view.main ≡ 1) (sym c.hand.view_is) c.requires.main in
    let none = subst (λ (g : Grip). g.view.out ≡ 0) (sym c.hand.view_is) c.requires.joined in
    let zero = subst (λ (g : Grip). (g.view.up ≡ 0) × (g.view.down ≡ 0)) (sym c.hand.view_is) c.requires.posted in
    let f = c.close_with-shut.ensures.values.2 in
    let words = slots_items c.close_with-shut.result.words in
    let t = closed_view (olds_of key) key.counts.items c.hand.inside.seat.id c.hand.inside.seat.me.0 words (f.0, f.1, f.2) main none zero.0 zero.1 in
    let up : c.word-up.result ≡ slice_index words 1 = read_at words 1 c.word-up.result c.word-up.ensures in
    let down : c.word-down.result ≡ slice_index words 2 = read_at words 2 c.word-down.result c.word-down.ensures in
    subst (λ (closed : List ℕ). IsPosted c.args.hand.view closed c.word-up.result c.word-down.result) (sym c.counts_in-closed.ensures)
    (subst (λ n. IsPosted c.args.hand.view (drop 3 words) c.word-up.result n) (sym down)
    (subst (λ n. IsPosted c.args.hand.view (drop 3 words) n (slice_index words 2)) (sym up) (subst (λ (g : Grip). IsPosted g.view (drop 3 words) (slice_index words 1) (slice_index words 2)) c.hand.view_is t.3)))
