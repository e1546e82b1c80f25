use Rattle.std.proofs.Common.{subst, sym}
use Rattle.ice_bits.specs.Configuration.{bits_of}
use Rattle.ice_timing.specs.Timed.{IsTimedTo}
use Rattle.ice_timing.proofs.longest_path.path_to.Goals as goal

pub returns : goal.returns
returns c = subst (IsTimedTo c.args.chip.now (bits_of c.args.circuit.now.configuration) c.args.circuit.now.configuration.extras c.args.delays.now c.args.last) (sym c.reverse.ensures.items) c.in_ok-points.ensures
