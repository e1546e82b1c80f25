use Rattle.std.proofs.Common.{◌++◌, codes, decimal}
use Rattle.ice_sample.specs.Netlist.{drawn_inputs}
use Rattle.ice_sample.proofs.Picking.{ended_third}
use Rattle.ice_sample.proofs.netlist.put_gate.Goals as goal

pub returns-clause-written : goal.returns-clause-written
returns-clause-written c =
    ended_third _ _ _ _ _ (codes ".gate SB_LUT4") (drawn_inputs c.args.cell c.args.rng.now) (codes " O=n" ++ decimal c.args.cell)
    c.in_ok-extend_from_slice.ensures.items c.in_ok-put_inputs.ensures.written c.in_ok-put_lettered.ensures c.in_ok-push.ensures.items
