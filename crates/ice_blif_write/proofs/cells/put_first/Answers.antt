use Rattle.std.proofs.Common.{◌∷◌, [], ◌++◌, ap, ◌∙◌}
use Rattle.ice_blif_write.specs.Text.{gate_line}
use Rattle.ice_blif_write.proofs.Joining.{text_of, gate_is_first}
use Rattle.ice_blif_write.proofs.cells.put_first.Goals as goal

pub returns : goal.returns
returns c =
    c.in_ok-put_gate.ensures ∙ ap (λ ins. c.args.out.now.items ++ text_of (gate_line c.args.netlist.now.names c.args.cell.now.kind ins c.as_slice-outs.result.now ∷ [])) c.as_slice-ins.ensures
    ∙ ap (λ outs. c.args.out.now.items ++ text_of (gate_line c.args.netlist.now.names c.args.cell.now.kind c.args.cell.now.ins outs ∷ [])) c.as_slice-outs.ensures
    ∙ ap (λ ws. c.args.out.now.items ++ text_of (ws ∷ [])) (gate_is_first c.args.netlist.now.names c.args.cell.now.kind c.args.cell.now.ins c.args.cell.now.outs c.in_default.not-Cover)
