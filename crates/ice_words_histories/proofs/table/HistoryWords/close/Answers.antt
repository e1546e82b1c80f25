use Rattle.std.proofs.Common.{◌≡◌, drop, sym, subst}
use Rattle.ice_words_histories.specs.Grips.{Grip}
use Rattle.std.specs.Mem.Slots.{slots_items}
use Rattle.ice_words_histories.specs.Rule.{IsClosing}
use Rattle.ice_words_histories.proofs.Steps.{closed_view}
use Rattle.ice_words_histories.proofs.table.HistoryWords.close.Goals as goal

pub returns : goal.returns
returns c =
    let old = c.self.inside.table.shared.key.of_wires.items in
    let main = subst (λ (g : Grip). g.view.main ≡ 1) (sym c.hand.view_is) c.requires.main in
    let none = subst (λ (g : Grip). g.view.out ≡ 0) (sym c.hand.view_is) c.requires.joined in
    let f = c.close_with.ensures.values.2 in
    record { closing = subst (λ (g : Grip). IsClosing g.view (drop 1 (slots_items c.close_with.result.words))) c.hand.view_is (closed_view old c.hand.inside.seat.id c.hand.inside.seat.me.0 (slots_items c.close_with.result.words) (f.0, f.1, f.2) main none) }
