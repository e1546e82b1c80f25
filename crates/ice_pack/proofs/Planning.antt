-- The plan of a netlist, by what is known of it.
use Rattle.std.proofs.Common.{◌≡◌, List, ap, ◌∙◌}
use Rattle.ice_net.specs.declared.cell.Cell.{Cell}
use Rattle.ice_net.specs.declared.port.Port.{Port}
use Rattle.ice_net.specs.NetlistData.{NetlistData}
use Rattle.ice_cells.specs.declared.origin.Origin.{Origin}
use Rattle.ice_cells.specs.Homes.{Facts, facts_of}
use Rattle.ice_cells.specs.Origins.{origins}
use Rattle.ice_cells.specs.Uses.{bare_outputs}
use Rattle.ice_cells.specs.Packed.{plan_by, plan_of}

-- it is the plan where what is known is true of the netlist
pub plan_known : (n : NetlistData) (os : List Origin) (cells : List Cell) (bare : List Port) (f : Facts) → os ≡ origins n → cells ≡ n.cells → bare ≡ bare_outputs n → f ≡ facts_of os cells bare
    → plan_by n.cells os f ≡ plan_of n
plan_known n os cells bare f is_os is_cells is_bare is_facts =
    ap (plan_by n.cells os) (is_facts ∙ ap (λ b. facts_of os cells b) is_bare ∙ ap (λ cs. facts_of os cs (bare_outputs n)) is_cells) ∙ ap (λ xs. plan_by n.cells xs (facts_of xs n.cells (bare_outputs n))) is_os
