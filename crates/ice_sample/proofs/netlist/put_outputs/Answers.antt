use Rattle.std.proofs.Common.{◌≡◌, ◌++◌, subst, arith}
use Rattle.std.specs.List.{flat_map, range_with_len}
use Rattle.ice_base.specs.Lines.{text_of_lines}
use Rattle.ice_sample.specs.Netlist.{names, output_lines, all_output_lines}
use Rattle.ice_base.proofs.Pieces.{further}
use Rattle.ice_sample.proofs.Numbering.{numbers_more, nothing_more}
use Rattle.ice_sample.proofs.netlist.put_outputs.Goals as goal

pub loop-output-init : goal.loop-output-init
loop-output-init c = nothing_more c.args.text.now.items

pub loop-output-preserved : goal.loop-output-preserved
loop-output-preserved c =
    further _ _ _ _ _ _ c.loop-output.invariant c.in_ok-put_output.ensures (numbers_more (output_lines (names c.args.cells)) c.loop-output.output)

pub returns : goal.returns
unfolding all_output_lines
returns c =
    let all : c.loop-output.output ≡ 8 = omega arith in
    subst (λ n. c.loop-output.text.items ≡ c.args.text.now.items ++ text_of_lines (flat_map (output_lines (names c.args.cells)) (range_with_len 0 n))) all c.loop-output.invariant
