use Rattle.std.proofs.Common.{◌≡◌, drop}
use Rattle.ice_cells.specs.Uses.{reads_from, marked}
use Rattle.ice_pack_share.proofs.marking.mark_ins.Given as goal

abbrev pub invariant-loop-place : goal.invariant-loop-place
invariant-loop-place l = marked l.uses.items (reads_from l.origins l.j l.kind l.place (drop l.place l.ins)) ≡ marked l.initial.uses.items (reads_from l.origins l.j l.kind 0 l.ins)
