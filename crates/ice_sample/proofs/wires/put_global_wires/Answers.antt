use Rattle.std.proofs.Common.{◌≡◌, ◌++◌, subst, arith}
use Rattle.std.specs.List.{flat_map, range_with_len}
use Rattle.ice_base.specs.Lines.{text_of_lines}
use Rattle.ice_sample.specs.Wires.{global_wire_lines, all_global_lines}
use Rattle.ice_base.proofs.Pieces.{further}
use Rattle.ice_sample.proofs.Numbering.{numbers_more, nothing_more}
use Rattle.ice_sample.proofs.wires.put_global_wires.Goals as goal

pub loop-global-init : goal.loop-global-init
loop-global-init c = nothing_more c.args.text.now.items

pub loop-global-preserved : goal.loop-global-preserved
loop-global-preserved c =
    further _ _ _ _ _ _ c.loop-global.invariant c.in_ok-put_global_wire.ensures
    (numbers_more (global_wire_lines c.args.tiles.now) c.loop-global.global)

pub returns : goal.returns
unfolding all_global_lines
returns c =
    let all : c.loop-global.global ≡ 8 = omega arith in
    subst (λ n. c.loop-global.text.items ≡ c.args.text.now.items ++ text_of_lines (flat_map (global_wire_lines c.args.tiles.now) (range_with_len 0 n))) all c.loop-global.invariant
