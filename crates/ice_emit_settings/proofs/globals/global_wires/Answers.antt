use Rattle.std.proofs.Common.{[], ◌∷◌, ◌++◌, map, ap, sym, ◌∙◌, arith}
use Rattle.std.specs.List.{range_with_len}
use Rattle.std.proofs.lemmas.List.FromFn.{map-range_with_len_more}
use Rattle.ice_emit_settings.specs.Buffers.{has_global_name}
use Rattle.ice_emit_settings.proofs.globals.global_wires.Goals as goal

pub loop-wire-preserved : goal.loop-wire-preserved
loop-wire-preserved c =
    c.in_ok-push.ensures.items
    ∙ ap (λ xs. xs ++ c.has_global_name.result ∷ []) c.loop-wire.invariant
    ∙ ap (λ x. map (has_global_name c.args.chip.now) (range_with_len 0 c.loop-wire.wire) ++ x ∷ []) c.has_global_name.ensures
    ∙ sym (map-range_with_len_more (has_global_name c.args.chip.now) 0 c.loop-wire.wire c.loop-wire.wire (omega arith))
