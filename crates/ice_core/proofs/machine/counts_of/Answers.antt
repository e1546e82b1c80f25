use Rattle.std.proofs.Common.{◌++◌, ◌∙◌, ℕ, List, [], ◌∷◌, take, sym, ap}
use Rattle.std.proofs.lemmas.List.{take_more}
use Rattle.ice_core.proofs.machine.counts_of.Goals as goal

pub loop-count-preserved : goal.loop-count-preserved
loop-count-preserved c =
    let counts = c.args.counts.now in
    let i = c.loop-count.count-index in
    c.in_ok-push.ensures.items
    ∙ (ap (λ (ns : List ℕ). ns ++ c.from.result ∷ []) c.loop-count.invariant ∙ (ap (λ n. take i counts ++ n ∷ []) c.from.ensures ∙ sym (take_more counts i 0 c.loop-count-test.true)))
