use Rattle.std.proofs.Common.{◌≡◌, ◌++◌, map, take}
use Rattle.ice_pack_share.specs.Behind.{role_at}
use Rattle.ice_pack_share.proofs.pairing.push_roles.Given as goal

abbrev pub invariant-loop-table : goal.invariant-loop-table
invariant-loop-table l = l.roles.items ≡ l.fn.roles.items ++ map (role_at l.origins l.cells) (take l.table-index l.tables)
