use Rattle.std.proofs.Common.{◌≡◌, true}
use Rattle.ice_base_values.proofs.Machines.{shows_alike}
use Rattle.ice_base_values.proofs.laws.simulations_show_the_same.Goals as goal

pub returns : goal.returns
returns g c first second tied allowed = shows_alike first second (λ s t. tied s t ≡ true) (λ l. allowed l ≡ true)
