use Rattle.std.proofs.Common.{◌≡◌}
use Rattle.indexmap.specs.IndexSet.{insert_all}
use Rattle.ice_chip.specs.Database.{same_pad}
use Rattle.ice_emit_settings.specs.Enables.{needed_places}
use Rattle.ice_emit_settings.proofs.enables.add_all_needed.Given as goal

abbrev pub invariant-loop-pad : goal.invariant-loop-pad
invariant-loop-pad l = insert_all same_pad l.found.keys (needed_places l.fn.read.keys l.pad-iterator) ≡ insert_all same_pad l.fn.found.keys (needed_places l.fn.read.keys l.fn.enables.entries)
