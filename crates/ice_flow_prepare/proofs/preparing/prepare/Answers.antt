use Rattle.std.proofs.Common.{◌∙◌, ap}
use Rattle.ice_flow_globals.specs.Clocks.{free_globals}
use Rattle.ice_carry_tails.specs.Ends.{tailed}
use Rattle.ice_flow_prepare.proofs.Names.{has_room_at}
use Rattle.ice_flow_prepare.proofs.preparing.prepare.Goals as goal

pub add_tails-requires : goal.add_tails-requires
add_tails-requires c = has_room_at c.args.sound c.in_ok-promoted.promoted c.args.outer.now (free_globals c.args.chip.now c.args.sound) c.requires c.in_ok-promoted.ensures.netlist

pub returns-clause-netlist : goal.returns-clause-netlist
returns-clause-netlist c = c.in_ok-made.ensures.netlist ∙ ap tailed c.in_ok-promoted.ensures.netlist

pub returns-clause-shows : goal.returns-clause-shows
returns-clause-shows c = λ levels. c.in_ok-made.ensures.shows levels ∙ c.in_ok-promoted.ensures.shows levels
