-- The constraints give the ports of a netlist in which the ends of carry chains stand in their runs the pads that they give by the design of the netlist itself.
use Rattle.std.proofs.Common.{◌≡◌, Ok, List, ap₂, sym, ◌∙◌, ℕ}
use Rattle.ice_net.specs.Formed.{IsFormed}
use Rattle.ice_net.specs.NetlistData.{NetlistData}
use Rattle.ice_chip.specs.Database.{Parts}
use Rattle.ice_chip.specs.Lookups.{package_of}
use Rattle.ice_pcf.specs.declared.constraint.Constraint.{Constraint}
use Rattle.ice_cells.specs.Runs.{design_of}
use Rattle.ice_pads.specs.Assign.{IsGivenAlike, PadsData, assigned, assign_of}
use Rattle.ice_pads.specs.declared.closing.Closing.{Closing}
use Rattle.ice_carry_tails.specs.Ends.{tailed}
use Rattle.ice_pads_tails_laws.proofs.SameBuffers.{buffers_same}
use Rattle.ice_pads_tails_laws.proofs.Wanted.{wants_same}

pub given_same : (n : NetlistData) (parts : Parts) (name : List ℕ) (constraints : List Constraint) (closing : Closing) (pads : PadsData) → IsFormed n → IsFormed (tailed n)
    → assign_of parts name constraints n closing (design_of (tailed n)) ≡ Ok pads → IsGivenAlike parts name constraints n closing pads
given_same n parts name constraints closing pads formed after e = (
  record { numbers = pads.globals; direct = pads.direct },
  ap₂ (λ ws bs. assigned parts constraints n closing ws bs (package_of parts name)) (sym (wants_same n formed after)) (sym (buffers_same n formed after)) ∙ e,
)
