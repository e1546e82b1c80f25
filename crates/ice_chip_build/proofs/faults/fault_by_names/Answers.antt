use Rattle.std.proofs.Common.{◌≡◌, [], None, IfOk, sym, subst}
use Rattle.ice_chip.specs.Database.{Parts}
use Rattle.ice_chip.specs.Whole.{whole_fault}
use Rattle.ice_chip.specs.WholeFaults.{name_of_two_wires}
use Rattle.ice_chip_build.proofs.faults.fault_by_names.Goals as goal

pub first_fault-requires : goal.first_fault-requires
first_fault-requires c = λ e.
    subst (λ (p : Parts). name_of_two_wires p.tiles [] p.names ≡ None) (sym c.parts.ensures) (c.are_different-different.ensures e)

pub returns : goal.returns
returns c = subst (λ (p : Parts). IfOk c.first_fault.result (λ fault. fault ≡ whole_fault p)) c.parts.ensures c.first_fault.ensures
