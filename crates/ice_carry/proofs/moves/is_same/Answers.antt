use Rattle.std.proofs.Common.{◌≡◌, ap, ◌∙◌, rules}
use Rattle.ice_cells.specs.contracts.cell.ControlPartialEq.TheImpl as controls
use Rattle.ice_cells.proofs.SameControls.{controls_equal}
use Rattle.ice_carry.proofs.moves.is_same.Goals as goal

pub returns : goal.returns
returns c =
    let e : c.eq.result ≡ (controls.eq-value).it c.args.a c.args.b = search rules in
    e ∙ ap (λ equal. equal c.args.a c.args.b) controls_equal
