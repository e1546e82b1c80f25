use Rattle.std.proofs.Common.{length}
use Rattle.ice_blif.specs.Views.{last_view}
use Rattle.ice_blif.proofs.Wirings.{last_formed_more}
use Rattle.ice_blif.proofs.gate.ram.Goals as goal

pub join-requires-clause-formed : goal.join-requires-clause-formed
join-requires-clause-formed c =
    last_formed_more (length c.args.reader.now.netlist.names) (length c.connections.new.netlist.names) (last_view c.args.reader.now.last) c.in_ok-connections.ensures.kept c.requires.formed
