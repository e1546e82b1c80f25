use Rattle.std.proofs.Common.{◌≡◌, ℕ, ◌<◌, Option, None, Some, List, sym, IfSome}
use Rattle.ice_chip_names.specs.RamNames.{ram_names, ram_number}
use Rattle.ice_chip_names.proofs.RamNamesRead.{ram_number_told}
use Rattle.ice_chip_names.proofs.ram_names.ram_number.Goals as goal

few_of : (o : Option ℕ) (name : List ℕ) → o ≡ ram_number name → IfSome o (λ n. n < 76)
few_of None name e = tt
few_of (Some n) name e = (ram_number_told name n (sym e)).0

pub returns-clause-number : goal.returns-clause-number
unfolding ram_names
returns-clause-number c = c.place_among.ensures

pub returns-clause-few : goal.returns-clause-few
unfolding ram_names
returns-clause-few c = few_of c.place_among.result c.args.name.now c.place_among.ensures
