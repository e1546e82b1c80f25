use Rattle.std.proofs.Common.{◌≡◌, ℕ, sym, ap, subst, ◌∙◌, arith}
use Rattle.ice_claim.specs.Grips.{Grip, Board, IsPassOf, grip_of, board_of, nets_of}
use Rattle.ice_claim.proofs.Joining.{join_keeps}
use Rattle.atomic_table.specs.Seated.{TableId}
use Rattle.atomic_table.specs.Table.{Me}
use Rattle.ice_claim.specs.declared.view.ClaimView.{ClaimView}
use Rattle.ice_claim.specs.Rule.{AreAmong}
use Rattle.ice_claim.proofs.Passes.{joined_pass}
use Rattle.ice_claim.proofs.table.ClaimTable.join.Goals as goal

pub join_seat-requires : goal.join_seat-requires
join_seat-requires c =
    let grip = sym c.pass.view_is in
    let key = c.self.inside.table.shared.key in
    let view = c.pass.inside.seat.me.0 in
    let others = c.other.inside.seat.me.0 in
    let board = board_of c.self.inside.table.shared.table_id key.wires (nets_of key) in
    let of : IsPassOf board (grip_of c.pass.inside.seat.table_id view) = subst (λ (g : Grip). IsPassOf board g) grip (subst (λ (b : Board). IsPassOf b c.args.pass.now) (sym c.self.view_is) c.requires.of.0) in
    let other : IsPassOf board (grip_of c.other.inside.seat.table_id others) = subst (λ (g : Grip). IsPassOf board g) (sym c.other.view_is) (subst (λ (b : Board). IsPassOf b c.args.other) (sym c.self.view_is) c.requires.of.1) in
    let main = subst (λ (g : Grip). g.view.main ≡ 1) grip c.requires.main in
    let worker = subst (λ (g : Grip). g.view.worker ≡ 1) (sym c.other.view_is) c.requires.worker in
    (of.table, other.table, c.other.invariant.0, omega (arith, c.self.invariant.0), λ s h at apart there. join_keeps key.wires (nets_of key) s c.pass.inside.seat.id c.other.inside.seat.id view others h at apart there main worker)

pub invariant_of-pass : goal.invariant_of-pass
invariant_of-pass c =
    let words = c.pass.inside.seat.table_id.words in
    let view = c.pass.inside.seat.me.0 in
    let after = c.join_seat.new.seat.me.0 in
    let sound = joined_pass words view c.other.inside.seat.me.0 after c.pass.invariant.1 c.pass.invariant.2 (ap (λ (m : Me ℕ ClaimView). m.0) c.join_seat.ensures.2) in
    (ap (λ (m : Me ℕ ClaimView). m.1) c.join_seat.ensures.2 ∙ c.pass.invariant.0, sound.some_part, subst (λ (z : TableId). AreAmong z.words after) (sym c.join_seat.ensures.0) sound.among)
