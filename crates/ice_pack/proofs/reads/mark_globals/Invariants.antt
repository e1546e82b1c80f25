use Rattle.std.proofs.Common.{◌≡◌, drop}
use Rattle.ice_pack.specs.Marks.{marked}
use Rattle.ice_pack.proofs.reads.mark_globals.Given as goal

abbrev pub invariant-loop-root : goal.invariant-loop-root
invariant-loop-root l = marked l.marks.items (drop l.root-index l.globals) ≡ marked l.initial.marks.items l.globals
