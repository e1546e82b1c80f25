use Rattle.std.proofs.Common.{◌≡◌, length, rules}
use Rattle.ice_carry_tails.proofs.Ended.{tailed_none}
use Rattle.ice_carry_tails.proofs.tailing.grown_or_same.Goals as goal

pub returns-then-is_empty : goal.returns-then-is_empty
returns-then-is_empty c =
    let zero : length c.in_ok-tables.tables.items ≡ 0 = search rules in
    tailed_none c.args.sound c.in_ok-tables.tables.items c.in_ok-tables.ensures zero
