use Rattle.std.proofs.Common.{◌≡◌, ◌+◌, ◌++◌, subst}
use Rattle.ice_base.specs.Lines.{text_of_lines}
use Rattle.ice_sample.specs.Kinds.{kind_at}
use Rattle.ice_sample.specs.Wires.{named_wires, cell_names, control_names, track_names, carry_in_line, above}
use Rattle.ice_base.proofs.Pieces.{further, text_join}
use Rattle.ice_sample.proofs.Numbering.{further_on_ok}
use Rattle.ice_sample.proofs.wires.put_logic_wires.Goals as goal

pub returns : goal.returns
unfolding control_names
returns c =
    let g = c.args.grid.now in
    let t = c.args.at in
    let cells = named_wires t c.args.first cell_names in
    let carry = carry_in_line (kind_at g.width g.height (above t)) (above t) in
    let controls = named_wires t (c.args.first + 48) control_names in
    let put_carry = subst (λ kind. c.put_carry_in.new.text.items ≡ c.put_all_cell_wires.new.text.items ++ text_of_lines (carry_in_line kind (above t))) c.kind_at.ensures.kind c.in_ok-put_carry_in.ensures in
    let first = further _ _ _ _ _ _ c.in_ok-put_all_cell_wires.ensures put_carry (text_join cells carry) in
    let second = further _ _ _ _ _ _ first c.in_ok-put_named_wires.ensures (text_join (cells ++ carry) controls) in
    further_on_ok c.put_track_wires.result _ _ c.put_track_wires.new.text.items _ _ _ second c.put_track_wires.ensures (text_join (cells ++ carry ++ controls) (named_wires t (c.args.first + 52) track_names))
