use Rattle.std.proofs.Common.{[], ◌∷◌, ◌++◌, ap, ◌∙◌}
use Rattle.ice_base.specs.Lines.{text_of_lines}
use Rattle.ice_sample.specs.Netlist.{drawn, drawn_inputs, gate_line, table_line, flip_flop_lines, cell_lines, word}
use Rattle.ice_sample.proofs.Picking.{lines_third}
use Rattle.ice_sample.proofs.netlist.put_cell.Goals as goal

pub returns-clause-written : goal.returns-clause-written
unfolding cell_lines
returns-clause-written c =
    let fifth = ap (λ p. p.0) c.draw.ensures ∙ ap (λ g. (drawn g).0) c.in_ok-put_gate.ensures.drawn in
    lines_third _ _ _ _ (gate_line c.args.cell (drawn_inputs c.args.cell c.args.rng.now) ∷ []) (table_line (word 4 c.args.rng.now) ∷ []) (flip_flop_lines c.args.cell)
    c.in_ok-put_gate.ensures.written
    (c.in_ok-put_table.ensures ∙ ap (λ w. c.put_gate.new.text.items ++ text_of_lines (table_line w ∷ [])) fifth)
    c.in_ok-put_flip_flop_of.ensures
