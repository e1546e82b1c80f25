use Rattle.ice_chip_sockets.proofs.RamWireNames.{no_name}
use Rattle.ice_chip_sockets.proofs.sockets.name_of_ram_wire.Goals as goal

pub returns-else-wire-lt-RAM_WIRES : goal.returns-else-wire-lt-RAM_WIRES
returns-else-wire-lt-RAM_WIRES c = no_name c.args.wire c.if-wire-lt-RAM_WIRES.false
