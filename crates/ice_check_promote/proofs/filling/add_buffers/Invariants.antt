use Rattle.std.proofs.Common.{◌≡◌, take}
use Rattle.ice_check_promote.specs.Promoted.{buffers}
use Rattle.ice_net_additions.specs.Adding.{with_cells}
use Rattle.ice_check_promote.proofs.filling.add_buffers.Given as goal

abbrev pub invariant-loop-place : goal.invariant-loop-place
invariant-loop-place l = l.made ≡ with_cells l.fn.made (take l.place (buffers l.count l.clocks))
