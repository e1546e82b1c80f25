use Rattle.std.proofs.Common.{◌≡◌, [], ◌∷◌, ◌++◌, map, ap, sym, ◌∙◌, arith}
use Rattle.std.specs.List.{range_with_len}
use Rattle.std.proofs.lemmas.List.FromFn.{map-range_with_len_more}
use Rattle.ice_bits.specs.Configuration.{bits_of}
use Rattle.ice_decode.specs.ForeignSources.{is_foreign_wire}
use Rattle.ice_decode_circuit.proofs.foreign.foreign_wires.Goals as goal

pub loop-wire-preserved : goal.loop-wire-preserved
loop-wire-preserved c =
    c.in_ok-push.ensures.items
    ∙ ap (λ xs. xs ++ c.is_foreign_wire.result ∷ []) c.loop-wire.invariant
    ∙ ap (λ x. map (is_foreign_wire c.args.chip.now (bits_of c.args.bits.now)) (range_with_len 0 c.loop-wire.wire) ++ x ∷ []) c.is_foreign_wire.ensures
    ∙ sym (map-range_with_len_more (is_foreign_wire c.args.chip.now (bits_of c.args.bits.now)) 0 c.loop-wire.wire c.loop-wire.wire (omega arith))

pub returns : goal.returns
returns c =
    let all : c.loop-wire.wire ≡ c.args.chip.now.wires = omega (arith, c.loop-wire-test.false, c.loop-wire.auto.wire-end, c.wires-wire-end.ensures.wires) in
    c.loop-wire.invariant ∙ ap (λ n. map (is_foreign_wire c.args.chip.now (bits_of c.args.bits.now)) (range_with_len 0 n)) all
