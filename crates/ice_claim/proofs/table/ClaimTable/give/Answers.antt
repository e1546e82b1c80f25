use Rattle.std.proofs.Common.{◌≡◌, ◌+◌, ◌-◌, ◌≤◌, ◌<◌, refl, sym, ap, subst, arith, ◌∙◌}
use Rattle.atomic_table.specs.Seated.{TableId}
use Rattle.atomic_table.specs.Table.{keeps}
use Rattle.ice_claim.specs.Claims.{takes_pair, giving, own, with_own}
use Rattle.ice_claim.specs.Rule.{AreAmong}
use Rattle.ice_claim.specs.Grips.{Grip, Board, IsPassOf, grip_of, board_of, nets_of}
use Rattle.ice_claim.proofs.Passes.{given_pass}
use Rattle.ice_claim.proofs.Steps.{give_keeps}
use Rattle.ice_claim.proofs.table.ClaimTable.give.Goals as goal

pub compare_exchange_with-requires : goal.compare_exchange_with-requires
compare_exchange_with-requires c =
    let grip = sym c.pass.view_is in
    let key = c.self.inside.table.shared.key in
    let view = c.pass.inside.seat.me.0 in
    let net = c.args.net in
    let w = c.args.wire.0 in
    let board = board_of c.self.inside.table.shared.table_id key.wires (nets_of key) in
    let of : IsPassOf board (grip_of c.pass.inside.seat.table_id view) = subst (λ (g : Grip). IsPassOf board g) grip (subst (λ (b : Board). IsPassOf b c.args.pass.now) (sym c.self.view_is) c.requires.of) in
    let held = subst (λ (g : Grip). 1 ≤ takes_pair net w (own g.view)) grip c.requires.held in
    let below = subst (λ (z : TableId). w + 1 < z.words) of.table (c.pass.invariant.2 net w held) in
    let same : w + 1 - 1 ≡ w = omega arith in
    let told = c.from-told.ensures in (
      of.table,
      below,
      λ s h homes at lt. (
        with_own (giving net w) view,
        keeps,
        tt,
        give_keeps key.wires (nets_of key) s c.pass.inside.seat.id net w view h at c.pass.invariant.1 (omega (arith, c.self.invariant.0, below)) held,
        (ap (λ k. with_own (giving k w) view) (sym told) ∙ ap (λ k. with_own (giving c.from-told.result k) view) (sym same), refl),
      ),
    )

pub invariant_of-pass : goal.invariant_of-pass
invariant_of-pass c =
    let words = c.pass.inside.seat.table_id.words in
    let view = c.pass.inside.seat.me.0 in
    let after = c.compare_exchange_with.new.seat.me.0 in
    let held = subst (λ (g : Grip). 1 ≤ takes_pair c.args.net c.args.wire.0 (own g.view)) (sym c.pass.view_is) c.requires.held in
    let same : c.args.wire.0 + 1 - 1 ≡ c.args.wire.0 = omega arith in
    let is = ap (λ k. with_own (giving k (c.args.wire.0 + 1 - 1)) view) c.from-told.ensures ∙ ap (λ k. with_own (giving c.args.net k) view) same in
    let sound = given_pass words c.args.net c.args.wire.0 view after c.pass.invariant.1 c.pass.invariant.2 held (c.compare_exchange_with.ensures.2.0 ∙ is) in
    (c.compare_exchange_with.ensures.2.1 ∙ c.pass.invariant.0, sound.some_part, subst (λ (z : TableId). AreAmong z.words after) (sym c.compare_exchange_with.ensures.0) sound.among)
