use Rattle.std.proofs.Common.{length, refl}
use Rattle.ice_carry_tails.specs.Tails.{tail_names}
use Rattle.ice_carry_tails.proofs.Grown.{room_for_names, room_for_cells, tables_below}
use Rattle.ice_carry_tails.proofs.adding.with_tails.Goals as goal

pub add_names-requires-clause-room : goal.add_names-requires-clause-room
add_names-requires-clause-room c = room_for_names c.args.netlist c.args.tables.now (length c.args.tables.now) c.requires.formed c.requires.single c.requires.can c.requires.room refl

pub add_tails-requires-clause-below : goal.add_tails-requires-clause-below
add_tails-requires-clause-below c =
    tables_below c.args.netlist c.add_names.new.netlist c.args.tables.now (tail_names c.args.netlist.names (length c.args.tables.now)) c.requires.can c.in_ok-add_names.ensures

pub add_tails-requires-clause-room : goal.add_tails-requires-clause-room
add_tails-requires-clause-room c =
    room_for_cells c.args.netlist c.add_names.new.netlist c.args.tables.now c.signals-count.result c.requires.formed c.requires.can c.requires.room c.signals-count.ensures.count c.in_ok-add_names.ensures
