use Rattle.std.proofs.Common.{◌≡◌, ◌+◌, ◌-◌, ◌≤◌, ◌<◌, slice_index, true≢false, refl, sym, ap, subst, ◌∙◌, arith}
use Rattle.std.proofs.lemmas.Bool.{eq-eqb}
use Rattle.atomic_table.specs.Table.{keeps}
use Rattle.ice_core.specs.Routes.{times, wires_of}
use Rattle.ice_claim.specs.Claims.{total, claims_on, takes_pair, losing, with_own}
use Rattle.ice_claim.specs.Rule.{AreAmong, IsShared, Tries}
use Rattle.ice_claim.specs.Grips.{Grip, Board, IsPassOf, grip_of, board_of, nets_of}
use Rattle.ice_claim.proofs.Steps.{listed_below, take_keeps}
use Rattle.atomic_table.specs.Seated.{TableId}
use Rattle.ice_claim.proofs.Passes.{tried_pass}
use Rattle.ice_claim.proofs.table.ClaimTable.take.Goals as goal

pub compare_exchange_with-found-requires : goal.compare_exchange_with-found-requires
compare_exchange_with-found-requires c =
    let grip = sym c.pass.view_is in
    let key = c.self.inside.table.shared.key in
    let view = c.pass.inside.seat.me.0 in
    let net = c.args.net in
    let w = c.args.wire.0 in
    let board = board_of c.self.inside.table.shared.table_id key.wires (nets_of key) in
    let of : IsPassOf board (grip_of c.pass.inside.seat.table_id view) = subst (λ (g : Grip). IsPassOf board g) grip (subst (λ (b : Board). IsPassOf b c.args.pass.now) (sym c.self.view_is) c.requires.of) in
    let claimed = subst (λ (g : Grip). 1 ≤ total (claims_on net) g.view) grip c.requires.claimed in
    let new = subst (λ (g : Grip). total (takes_pair net w) g.view ≡ 0) grip c.requires.new in
    let listed = subst (λ (b : Board). 1 ≤ times w (wires_of b.lists net)) (sym c.self.view_is) c.requires.listed in
    let wire = listed_below key.wires (nets_of key) net w c.self.invariant.3 listed in
    let same : w + 1 - 1 ≡ w = omega arith in
    let told = c.from-told.ensures in (
      of.table,
      omega (arith, c.self.invariant.0, wire),
      λ s h homes at lt. (
          let t = take_keeps key.wires (nets_of key) s c.pass.inside.seat.id net w view h at c.pass.invariant.1 of.lists claimed listed new in
          let n = slice_index s.words (w + 1) in
          (t.0, keeps, tt, t.1, (subst (λ k. Tries view k (w + 1 - 1) n t.0) (sym told) (subst (λ k. Tries view net k n t.0) (sym same) t.2), refl))
          ),
    )

pub invariant_of-pass : goal.invariant_of-pass
invariant_of-pass c =
    let words = c.pass.inside.seat.table_id.words in
    let view = c.pass.inside.seat.me.0 in
    let after = c.compare_exchange_with-found.new.seat.me.0 in
    let net = c.args.net in
    let w = c.args.wire.0 in
    let key = c.self.inside.table.shared.key in
    let listed = subst (λ (b : Board). 1 ≤ times w (wires_of b.lists net)) (sym c.self.view_is) c.requires.listed in
    let below = listed_below key.wires (nets_of key) net w c.self.invariant.3 listed in
    let wide : w + 1 < c.self.inside.table.shared.table_id.words = omega (arith, c.self.invariant.0, below) in
    let table : c.pass.inside.seat.table_id ≡ c.self.inside.table.shared.table_id = ap (λ (g : Grip). g.table) c.pass.view_is ∙ (c.requires.of.table ∙ sym (ap (λ (b : Board). b.table) c.self.view_is)) in
    let wire = subst (λ (z : TableId). w + 1 < z.words) (sym table) wide in
    let same : w + 1 - 1 ≡ w = omega arith in
    let tries = subst (λ k. Tries view net k c.compare_exchange_with-found.result after) same (subst (λ k. Tries view k (w + 1 - 1) c.compare_exchange_with-found.result after) c.from-told.ensures c.compare_exchange_with-found.ensures.2.0) in
    let sound = tried_pass words c.args.net c.args.wire.0 c.compare_exchange_with-found.result view after c.pass.invariant.1 c.pass.invariant.2 wire tries in
    (c.compare_exchange_with-found.ensures.2.1 ∙ c.pass.invariant.0, sound.some_part, subst (λ (z : TableId). AreAmong z.words after) (sym c.compare_exchange_with-found.ensures.0) sound.among)

pub returns-clause-lost : goal.returns-clause-lost
returns-clause-lost c = λ refused.
    let view = c.pass.inside.seat.me.0 in
    let after = c.compare_exchange_with-found.new.seat.me.0 in
    let net = c.args.net in
    let w = c.args.wire.0 in
    let same : w + 1 - 1 ≡ w = omega arith in
    let tries = subst (λ k. Tries view net k c.compare_exchange_with-found.result after) same (subst (λ k. Tries view k (w + 1 - 1) c.compare_exchange_with-found.result after) c.from-told.ensures c.compare_exchange_with-found.ensures.2.0) in
    let found = c.compare_exchange_with-found.result in
    let lost = tries.lost (λ none. true≢false (sym (eq-eqb found 0 none) ∙ refused)) in
    let is = ap (λ (g : Grip). with_own (losing net w) g.view) c.pass.view_is in
    let lists : view.lists ≡ c.args.self.now.lists = ap (λ (g : Grip). g.view.lists) c.pass.view_is ∙ c.requires.of.lists in
    (lost.0 ∙ is, subst (λ ls. IsShared ls net w) lists lost.1)
