use Rattle.std.proofs.Common.{◌≡◌, take}
use Rattle.std.specs.List.{filter}
use Rattle.ice_cells.specs.Uses.{is_bare_output}
use Rattle.ice_pack_share.proofs.ports.bare_outputs.Given as goal

abbrev pub invariant-loop-port : goal.invariant-loop-port
invariant-loop-port l = l.bare.items ≡ filter (is_bare_output l.sound.cells) (take l.port-index l.ports)
