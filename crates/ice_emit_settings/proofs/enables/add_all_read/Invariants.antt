use Rattle.std.proofs.Common.{◌≡◌, drop}
use Rattle.indexmap.specs.IndexSet.{insert_all}
use Rattle.ice_chip.specs.Database.{same_pad}
use Rattle.ice_emit_nets.specs.Sides.{sides}
use Rattle.ice_emit_settings.specs.Enables.{read_pads_at}
use Rattle.ice_emit_settings.proofs.enables.add_all_read.Given as goal

abbrev pub invariant-loop-k : goal.invariant-loop-k
invariant-loop-k l = insert_all same_pad l.found.keys (sides read_pads_at l.pads l.k (drop l.k l.ports)) ≡ insert_all same_pad l.initial.found.keys (sides read_pads_at l.pads 0 l.ports)
