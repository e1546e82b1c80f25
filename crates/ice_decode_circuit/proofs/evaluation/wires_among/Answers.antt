use Rattle.std.proofs.Common.{◌++◌, map, sym, ap, ◌∙◌}
use Rattle.std.proofs.lemmas.List.{append-nil, at_drop_all}
use Rattle.ice_base.specs.declared.number.WireNo.{WireNo}
use Rattle.ice_decode.specs.Loops.{wires_among}
use Rattle.ice_decode_circuit.proofs.evaluation.wires_among.Goals as goal

pub returns : goal.returns
returns c =
    c.from_vec.ensures
    ∙ sym (append-nil (map (λ (w : WireNo). w.0) c.loop-point.wires.items))
    ∙ ap (λ ws. map (λ (w : WireNo). w.0) c.loop-point.wires.items ++ ws) (sym (at_drop_all wires_among c.args.points.now c.loop-point.point-index c.loop-point-test.false))
    ∙ sym c.loop-point.invariant
