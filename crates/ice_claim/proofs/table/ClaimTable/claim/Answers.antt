use Rattle.std.proofs.Common.{◌≡◌, refl, sym, subst, arith, false, ◌∙◌}
use Rattle.atomic_table.specs.Table.{keeps}
use Rattle.ice_claim.specs.Claims.{own}
use Rattle.ice_claim.specs.Grips.{Grip, Board, IsPassOf, grip_of, board_of, nets_of}
use Rattle.ice_claim.proofs.Steps.{claim_keeps}
use Rattle.atomic_table.specs.Seated.{TableId}
use Rattle.ice_claim.specs.Rule.{AreAmong}
use Rattle.ice_claim.proofs.Passes.{drawn_pass}
use Rattle.ice_claim.proofs.table.ClaimTable.claim.Goals as goal

pub fetch_add-n-requires : goal.fetch_add-n-requires
fetch_add-n-requires c =
    let grip = sym c.pass.view_is in
    let key = c.self.inside.table.shared.key in
    let view = c.pass.inside.seat.me.0 in
    let board = board_of c.self.inside.table.shared.table_id key.wires (nets_of key) in
    let of : IsPassOf board (grip_of c.pass.inside.seat.table_id view) = subst (λ (g : Grip). IsPassOf board g) grip (subst (λ (b : Board). IsPassOf b c.args.pass.now) (sym c.self.view_is) c.requires.of) in
    let going = subst (λ (g : Grip). (own g.view).ended ≡ false) grip c.requires.going in
    (of.table, omega (arith, c.self.invariant.0), λ s h homes at lt. (let t = claim_keeps key.wires (nets_of key) s c.pass.inside.seat.id view h at c.pass.invariant.1 of.lists going in (t.0, keeps, tt, t.1, (t.2, refl))))

pub invariant_of-pass : goal.invariant_of-pass
invariant_of-pass c =
    let words = c.pass.inside.seat.table_id.words in
    let view = c.pass.inside.seat.me.0 in
    let after = c.fetch_add-n.new.seat.me.0 in
    let sound = drawn_pass words c.fetch_add-n.result view after c.pass.invariant.1 c.pass.invariant.2 c.fetch_add-n.ensures.2.0 in
    (c.fetch_add-n.ensures.2.1 ∙ c.pass.invariant.0, sound.some_part, subst (λ (z : TableId). AreAmong z.words after) (sym c.fetch_add-n.ensures.0) sound.among)

pub invariant_of-pass-2 : goal.invariant_of-pass-2
invariant_of-pass-2 c =
    let words = c.pass.inside.seat.table_id.words in
    let view = c.pass.inside.seat.me.0 in
    let after = c.fetch_add-n.new.seat.me.0 in
    let sound = drawn_pass words c.fetch_add-n.result view after c.pass.invariant.1 c.pass.invariant.2 c.fetch_add-n.ensures.2.0 in
    (c.fetch_add-n.ensures.2.1 ∙ c.pass.invariant.0, sound.some_part, subst (λ (z : TableId). AreAmong z.words after) (sym c.fetch_add-n.ensures.0) sound.among)
