use Rattle.std.proofs.Common.{[], ◌∷◌, ◌++◌, sym, ap, ◌∙◌, arith}
use Rattle.std.proofs.lemmas.List.FromFn.{map-range_with_len_more}
use Rattle.ice_pads.specs.Assign.{chosen_pads}
use Rattle.ice_pads.specs.Wants.{buffer_of}
use Rattle.ice_pads.proofs.needs.buffers.Goals as goal

pub loop-number-preserved : goal.loop-number-preserved
loop-number-preserved c =
    let made = buffer_of c.args.design.now (chosen_pads c.args.ports.now) in
    c.in_ok-push.ensures.items
    ∙ ap (λ b. c.loop-number.found.items ++ b ∷ []) c.buffer_of.ensures
    ∙ ap (λ bs. bs ++ made c.loop-number.number ∷ []) c.loop-number.invariant
    ∙ sym (map-range_with_len_more made 0 c.loop-number.number c.loop-number.number (omega arith))
