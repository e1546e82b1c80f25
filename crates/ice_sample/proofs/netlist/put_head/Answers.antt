use Rattle.std.proofs.Common.{[], ◌∷◌, codes}
use Rattle.ice_sample.specs.Netlist.{head_lines}
use Rattle.ice_base.proofs.Pieces.{text_join}
use Rattle.ice_sample.proofs.Picking.{lines_third}
use Rattle.ice_sample.proofs.Numbering.{further_on_ok}
use Rattle.ice_sample.proofs.netlist.put_head.Goals as goal

pub returns : goal.returns
unfolding head_lines
returns c =
    let model = codes ".model sample" in
    let inputs = codes ".inputs clk i0 i1 i2 i3 i4 i5 i6 i7" in
    let outputs = codes ".outputs o0 o1 o2 o3 o4 o5 o6 o7" in
    let buffer = codes ".gate SB_GB USER_SIGNAL_TO_GLOBAL_BUFFER=clk GLOBAL_BUFFER_OUTPUT=clk_g" in
    further_on_ok c.put_line-4.result _ _ c.put_line-4.new.text.items _ _ _
    (lines_third _ _ _ _ (model ∷ []) (inputs ∷ []) (outputs ∷ []) c.in_ok-put_line.ensures c.in_ok-put_line-2.ensures c.in_ok-put_line-3.ensures)
    c.put_line-4.ensures (text_join (model ∷ inputs ∷ outputs ∷ []) (buffer ∷ []))
