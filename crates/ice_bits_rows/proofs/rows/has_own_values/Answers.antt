use Rattle.std.proofs.Common.{rules, tests}
use Rattle.ice_chip.specs.Views.{row_view, group_view}
use Rattle.ice_bits_rows.proofs.Own.{own_values, rises_once}
use Rattle.ice_bits_rows.proofs.rows.has_own_values.Goals as goal

pub returns : goal.returns
returns c = λ d. own_values (group_view c.args.group.now) (row_view c.args.row.now) (group_view c.args.other.now) (search (rules, tests)) (search (rules, tests)) (search (rules, tests)) (rises_once 0 c.args.group.now.bits.items (search (rules, tests)))
