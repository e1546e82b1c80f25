-- A chip has none of the faults of a database as a whole.
use Rattle.std.proofs.Common.{◌≡◌, ℕ, Option, None, Some, [], refl, sym}
use Rattle.std.proofs.lemmas.Option.{none-some}
use Rattle.ice_chip.specs.Database.{Parts}
use Rattle.ice_chip.specs.IsRead.{IsChip}
use Rattle.ice_chip.specs.LacksFunction.{lacks_function}
use Rattle.ice_chip.specs.SharedFunction.{shared_function}
use Rattle.ice_chip.specs.SharedPins.{shared_pin}
use Rattle.ice_chip.specs.Whole.{at_line, of_lines}
use Rattle.ice_chip.specs.WholeFaults.{group_without_tile, name_of_two_wires, group_beyond_tile}
use Rattle.ice_chip.specs.declared.fault.ChipFault.{ChipFault}
use Rattle.ice_chip.specs.declared.fault.ChipFault.TheVariants.{OutOfRange, Twice, BadBit, SharedFunction, LacksFunction, SharedPin}

no_line : (fault : ℕ → ChipFault) (o : Option ℕ) (other : Option ChipFault) → at_line fault o other ≡ None → (o ≡ None) × (other ≡ None)
no_line fault None other e = (refl, e)
no_line fault (Some line) other e = absurd (none-some (fault line) (sym e))

no_lines : (fault : ℕ → ℕ → ChipFault) (o : Option (ℕ × ℕ)) (other : Option ChipFault) → of_lines fault o other ≡ None → (o ≡ None) × (other ≡ None)
no_lines fault None other e = (refl, e)
no_lines fault (Some lines) other e = absurd (none-some (fault lines.0 lines.1) (sym e))

-- none of the six
pub record HasNoFault (parts : Parts) : Type 0 where
  pub tiles : group_without_tile parts.tiles parts.groups ≡ None
  pub names : name_of_two_wires parts.tiles [] parts.names ≡ None
  pub columns : group_beyond_tile parts.tiles parts.groups ≡ None
  pub bits : shared_function parts ≡ None
  pub functions : lacks_function parts ≡ None
  pub pins : shared_pin parts ≡ None

pub no_fault : (parts : Parts) → IsChip parts → HasNoFault parts
no_fault parts chip =
    let pins : Option ChipFault = of_lines SharedPin (shared_pin parts) None in
    let functions : Option ChipFault = at_line LacksFunction (lacks_function parts) pins in
    let bits : Option ChipFault = of_lines SharedFunction (shared_function parts) functions in
    let columns : Option ChipFault = at_line BadBit (group_beyond_tile parts.tiles parts.groups) bits in
    let names : Option ChipFault = of_lines Twice (name_of_two_wires parts.tiles [] parts.names) columns in
    let one = no_line OutOfRange (group_without_tile parts.tiles parts.groups) names chip.faultless in
    let two = no_lines Twice (name_of_two_wires parts.tiles [] parts.names) columns one.1 in
    let three = no_line BadBit (group_beyond_tile parts.tiles parts.groups) bits two.1 in
    let four = no_lines SharedFunction (shared_function parts) functions three.1 in
    let five = no_line LacksFunction (lacks_function parts) pins four.1 in
    let six = no_lines SharedPin (shared_pin parts) None five.1 in
    record { tiles = one.0; names = two.0; columns = three.0; bits = four.0; functions = five.0; pins = six.0 }
