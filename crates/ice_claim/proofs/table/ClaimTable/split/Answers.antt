use Rattle.std.proofs.Common.{◌≡◌, ℕ, ◌+◌, ◌<◌, ◌≤◌, List, length, sym, ap, subst, ◌∙◌, arith}
use Rattle.ice_claim.specs.Grips.{Grip, Board, IsPassOf, grip_of, board_of, nets_of}
use Rattle.ice_claim.proofs.Joining.{split_keeps}
use Rattle.atomic_table.specs.Seated.{TableId}
use Rattle.atomic_table.specs.Table.{Me}
use Rattle.ice_claim.specs.declared.view.ClaimView.{ClaimView}
use Rattle.ice_words_hands.specs.Parts.{own_of}
use Rattle.ice_claim.specs.declared.view.ClaimPart.{ClaimPart}
use Rattle.ice_claim.specs.Claims.{takes_pair, no_part}
use Rattle.ice_claim.specs.Rule.{AreAmong}
use Rattle.ice_claim.proofs.table.ClaimTable.split.Goals as goal

pub split_seat-requires : goal.split_seat-requires
split_seat-requires c =
    let grip = sym c.pass.view_is in
    let key = c.self.inside.table.shared.key in
    let view = c.pass.inside.seat.me.0 in
    let board = board_of c.self.inside.table.shared.table_id key.wires (nets_of key) in
    let of : IsPassOf board (grip_of c.pass.inside.seat.table_id view) = subst (λ (g : Grip). IsPassOf board g) grip (subst (λ (b : Board). IsPassOf b c.args.pass.now) (sym c.self.view_is) c.requires.of) in
    let main = subst (λ (g : Grip). g.view.main ≡ 1) grip c.requires.main in
    let few = subst (λ (g : Grip). g.view.splits < 65535) grip c.requires.few in
    (of.table, omega (arith, c.self.invariant.0), λ s h at. split_keeps key.wires (nets_of key) s c.pass.inside.seat.id view h at main few)

pub invariant_of-pass : goal.invariant_of-pass
invariant_of-pass c =
    let same = c.split_seat.ensures.2 in
    let after = c.split_seat.new.seat.me.0 in
    let parts = ap (λ (m : Me ℕ ClaimView). m.0.parts) same in
    let among = subst (λ (ps : List ClaimPart). (n w : ℕ) → 1 ≤ takes_pair n w (own_of no_part ps) → w + 1 < c.pass.inside.seat.table_id.words) (sym parts) c.pass.invariant.2 in
    (ap (λ (m : Me ℕ ClaimView). m.1) same ∙ c.pass.invariant.0, subst (λ (ps : List ClaimPart). 1 ≤ length ps) (sym parts) c.pass.invariant.1, subst (λ (z : TableId). AreAmong z.words after) (sym c.split_seat.ensures.0) among)
