use Rattle.std.proofs.Common.{length, arith}
use Rattle.ice_blif.proofs.directive.param_directive.Goals as goal

pub returns-clause-ready : goal.returns-clause-ready
returns-clause-ready c = record {
  few = omega (arith, c.requires.few);
  formed = c.in_ok-param.ensures.formed (length c.args.reader.now.netlist.names) c.requires.formed;
}
