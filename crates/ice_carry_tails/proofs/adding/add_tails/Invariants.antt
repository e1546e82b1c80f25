use Rattle.std.proofs.Common.{◌≡◌, map, take}
use Rattle.ice_net_additions.specs.Adding.{with_cells}
use Rattle.ice_carry_tails.specs.Tails.{read_behind, tails}
use Rattle.ice_carry_tails.proofs.adding.add_tails.Given as goal

abbrev pub invariant-loop-place : goal.invariant-loop-place
invariant-loop-place l = l.netlist ≡ with_cells l.fn.netlist (take l.place (tails l.first (map (read_behind l.fn.netlist.cells) l.tables)))
