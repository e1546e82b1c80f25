use Rattle.std.proofs.Common.{◌≡◌, drop, sym, subst}
use Rattle.ice_claim.specs.Grips.{Grip, Board, nets_of}
use Rattle.std.specs.Mem.Slots.{slots_items}
use Rattle.ice_claim.specs.Rule.{IsClosing}
use Rattle.ice_claim.proofs.Joining.{closed_view}
use Rattle.ice_claim.proofs.table.ClaimTable.close.Goals as goal

pub returns : goal.returns
returns c =
    let key = c.self.inside.table.shared.key in
    let words = slots_items c.close_with.result.words in
    let main = subst (λ (g : Grip). g.view.main ≡ 1) (sym c.pass.view_is) c.requires.main in
    let none = subst (λ (g : Grip). g.view.out ≡ 0) (sym c.pass.view_is) c.requires.joined in
    let f = c.close_with.ensures.values.2 in
    let closing = closed_view key.wires (nets_of key) c.pass.inside.seat.id c.pass.inside.seat.me.0 words (f.0, f.1, f.2) (record { main = main; out = none }) in
    record { closing = subst (λ (b : Board). IsClosing b.wires c.args.pass.view (drop 1 words)) c.self.view_is (subst (λ (g : Grip). IsClosing key.wires g.view (drop 1 words)) c.pass.view_is closing) }
