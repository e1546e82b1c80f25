use Rattle.std.proofs.Common.{◌≡◌, ◌∙◌, map, Some, ap, sym, subst, rules}
use Rattle.std.proofs.lemmas.List.Elements.{All-same}
use Rattle.ice_base_values.specs.System.{present}
use Rattle.ice_bits.specs.Configuration.{Configuration, bits_of}
use Rattle.ice_decode.specs.declared.point.Point.{Point}
use Rattle.ice_decode.specs.Tables.{AreDirect}
use Rattle.ice_decode.specs.Points.{IsNumbered}
use Rattle.ice_decode.specs.Reads.{reads_at}
use Rattle.ice_timing.proofs.Numbers.{reads_there, wire_there}
use Rattle.ice_timing.proofs.latest.numbers_read.Goals as goal

pub add_reads-requires-clause-point : goal.add_reads-requires-clause-point
add_reads-requires-clause-point c = wire_there c.args.chip.now c.args.numbering.now c.requires.points c.args.point c.requires.point

pub add_reads-requires-clause-direct : goal.add_reads-requires-clause-direct
add_reads-requires-clause-direct c =
    subst (λ (k : Configuration). AreDirect c.args.chip.now k.extras c.direct.result.now) (sym c.bits.ensures)
    (subst (AreDirect c.args.chip.now c.args.circuit.now.configuration.extras) (sym c.direct.ensures) c.requires.circuit.fed_by_pads)

pub number_all-requires : goal.number_all-requires
number_all-requires c =
    let said : c.deref.result.now ≡ reads_at c.args.chip.now (bits_of c.args.circuit.now.configuration) c.args.circuit.now.configuration.extras c.args.point = search rules in
    All-same (IsNumbered c.args.numbering.now) c.deref.result.now (reads_at c.args.chip.now (bits_of c.args.circuit.now.configuration) c.args.circuit.now.configuration.extras c.args.point) said
    (reads_there c.args.chip.now (bits_of c.args.circuit.now.configuration) c.args.circuit.now.configuration.extras c.is_chip.ensures.read c.args.numbering.now c.requires.points c.args.point c.requires.point)

pub returns : goal.returns
returns c =
    let said : c.deref.result.now ≡ reads_at c.args.chip.now (bits_of c.args.circuit.now.configuration) c.args.circuit.now.configuration.extras c.args.point = search rules in
    c.in_ok-number_all.ensures ∙ ap (λ inputs. map (λ (p : Point). Some p) (present inputs)) said
