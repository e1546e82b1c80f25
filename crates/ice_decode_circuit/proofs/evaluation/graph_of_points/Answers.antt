use Rattle.std.proofs.Common.{◌<◌, [], ◌∷◌, ◌++◌, List, length, map, get_or, Some, ap, ◌∙◌, subst, rules}
use Rattle.std.specs.Prelude.{slice_get}
use Rattle.std.proofs.lemmas.List.{take_all}
use Rattle.std.proofs.lemmas.List.Elements.{All-same}
use Rattle.ice_base_values.specs.System.{present}
use Rattle.ice_bits.specs.Configuration.{bits_of}
use Rattle.ice_decode.specs.declared.point.Point.{Point}
use Rattle.ice_decode.specs.declared.point.Point.TheVariants.{Wire}
use Rattle.ice_decode.specs.Points.{IsNumbered}
use Rattle.ice_decode.specs.Reads.{reads_at, depends_on}
use Rattle.ice_decode_circuit.proofs.Graphs.{graph_from, graph_more}
use Rattle.ice_decode.proofs.Numbered.{has_wire, reads_numbered}
use Rattle.ice_decode_circuit.proofs.evaluation.graph_of_points.Goals as goal

pub add_reads-requires-clause-point : goal.add_reads-requires-clause-point
add_reads-requires-clause-point c =
    has_wire c.args.chip.now c.args.numbering.now c.points-point-items.result.now c.requires.points c.points-point-items.ensures c.loop-point.point-index (Wire (record { 0 = 0 })) c.loop-point-test.true

pub number_all-requires : goal.number_all-requires
number_all-requires c =
    let point : Point = get_or c.points-point-items.result.now c.loop-point.point-index (Wire (record { 0 = 0 })) in
    All-same (IsNumbered c.args.numbering.now) c.deref.result.now (reads_at c.args.chip.now (bits_of c.args.bits.now) c.args.bits.now.extras point)
    (c.deref.ensures.value ∙ c.in_ok-add_reads.ensures ∙ ap (λ inputs. inputs ++ reads_at c.args.chip.now (bits_of c.args.bits.now) c.args.bits.now.extras point) c.clear.ensures.items)
    (reads_numbered c.args.chip.now (bits_of c.args.bits.now) c.args.bits.now.extras c.is_chip.ensures.read c.args.numbering.now c.points-point-items.result.now c.requires.points c.points-point-items.ensures
    c.loop-point.point-index (Wire (record { 0 = 0 })) c.loop-point-test.true)

pub loop-point-preserved : goal.loop-point-preserved
loop-point-preserved c =
    let none : Point = Wire (record { 0 = 0 }) in
    let point : Point = get_or c.points-point-items.result.now c.loop-point.point-index none in
    let lt : c.loop-point.point-index < length c.args.numbering.now = subst (λ (points : List Point). c.loop-point.point-index < length points) c.points-point-items.ensures c.loop-point-test.true in
    ap (map (λ row. map (slice_get c.args.numbering.now) row)) (c.in_ok-push.ensures.ok ∙ ap (λ row. c.loop-point.graph ++ row ∷ []) c.deref-in-loop-point.ensures.value)
    ∙ graph_more c.args.numbering.now (depends_on c.args.chip.now (bits_of c.args.bits.now) c.args.bits.now.extras) c.loop-point.graph c.number_all.new.row.items c.loop-point.point-index none c.loop-point.invariant lt
    (c.in_ok-number_all.ensures
    ∙ ap (λ inputs. map (λ (q : Point). Some q) (present inputs))
    (c.deref.ensures.value ∙ c.in_ok-add_reads.ensures ∙ ap (λ inputs. inputs ++ reads_at c.args.chip.now (bits_of c.args.bits.now) c.args.bits.now.extras point) c.clear.ensures.items)
    ∙ ap (λ (points : List Point). map (λ (q : Point). Some q) (depends_on c.args.chip.now (bits_of c.args.bits.now) c.args.bits.now.extras (get_or points c.loop-point.point-index none))) c.points-point-items.ensures)

pub returns : goal.returns
returns c =
    graph_from c.args.numbering.now (depends_on c.args.chip.now (bits_of c.args.bits.now) c.args.bits.now.extras) c.loop-point.graph
    (c.loop-point.invariant ∙ ap (map (λ (p : Point). map (λ q. Some q) (depends_on c.args.chip.now (bits_of c.args.bits.now) c.args.bits.now.extras p))) (take_all c.loop-point.point-index c.args.numbering.now (search rules)))
