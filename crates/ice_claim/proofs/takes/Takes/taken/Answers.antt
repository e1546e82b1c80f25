use Rattle.std.proofs.Common.{◌≡◌, ◌+◌, List, ℕ, slice_index, sym, ap, subst, arith, ◌∙◌}
use Rattle.std.proofs.lemmas.Bool.{eqb-true, eq-eqb}
use Rattle.std.proofs.lemmas.List.{get_or-drop}
use Rattle.std.specs.Mem.Slots.{slots_items}
use Rattle.ice_core.proofs.Sums.{read_at}
use Rattle.ice_claim.proofs.takes.Takes.taken.Goals as goal

pub returns : goal.returns
returns c =
    let words = slots_items c.self.inside.closed.words in
    let e = read_at words (c.args.wire.0 + 1) c.word.result c.word.ensures in
    let same : 1 + c.args.wire.0 ≡ c.args.wire.0 + 1 = omega arith in
    let read : c.word.result ≡ slice_index c.args.self.now c.args.wire.0 = subst (λ (t : List ℕ). c.word.result ≡ slice_index t c.args.wire.0) c.self.view_is (e ∙ sym (get_or-drop 1 words c.args.wire.0 0 ∙ ap (λ k. slice_index words k) same)) in
    (λ one. sym read ∙ eqb-true c.word.result 1 one, λ one. eq-eqb c.word.result 1 (read ∙ one))
