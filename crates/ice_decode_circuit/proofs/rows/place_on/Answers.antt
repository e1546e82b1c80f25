use Rattle.std.proofs.Common.{◌≡◌, ◌+◌, None, ap, sym, ◌∙◌}
use Rattle.std.specs.Prelude.{option_map}
use Rattle.ice_chip.specs.Views.{group_view}
use Rattle.ice_bits.specs.Configuration.{rows_at}
use Rattle.ice_decode_circuit.proofs.RowsOn.{off_there}
use Rattle.ice_decode_circuit.proofs.rows.place_on.Goals as goal

pub returns-in_err-tile-clause-number : goal.returns-in_err-tile-clause-number
returns-in_err-tile-clause-number c =
    let none : rows_at c.args.bits.now c.args.group.now.tile ≡ None = sym c.in_err-tile.ensures in
    ap (option_map (λ place. c.args.group.now.first.0 + place)) c.from_residual.ensures ∙ sym (off_there c.args.bits.now (group_view c.args.group.now) none)
