use Rattle.ice_timing.proofs.Greatest.{certificates_bound}
use Rattle.ice_timing.proofs.laws.certificates_bound_paths.Goals as goal

pub returns : goal.returns
returns c = certificates_bound
