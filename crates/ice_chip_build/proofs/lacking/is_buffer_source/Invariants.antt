use Rattle.std.proofs.Common.{◌≡◌, drop}
use Rattle.ice_chip.specs.LacksFunction.{is_buffer_source}
use Rattle.ice_chip.specs.Views.{parts_view}
use Rattle.ice_chip_build.proofs.lacking.is_buffer_source.Given as goal

abbrev pub invariant-loop-source : goal.invariant-loop-source
invariant-loop-source l = is_buffer_source l.kind (parts_view l.parts).tiles (parts_view l.parts).colbuf ≡ is_buffer_source l.kind (parts_view l.parts).tiles (drop l.source-index l.parts.colbuf.items)
