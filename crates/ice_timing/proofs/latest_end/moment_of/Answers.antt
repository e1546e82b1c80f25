use Rattle.std.proofs.Common.{◌+◌, ap}
use Rattle.ice_timing.proofs.latest_end.moment_of.Goals as goal

pub returns-clause-moment : goal.returns-clause-moment
returns-clause-moment c = λ parts bits extras are. record {
  arrival = c.of.result;
  right = c.of.ensures.right parts bits extras c.args.delays.now are;
  is = ap (λ n. c.of.result + n) c.door_delay.ensures.value;
}
