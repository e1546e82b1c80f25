use Rattle.std.proofs.Common.{◌≡◌, drop}
use Rattle.std.specs.List.{enumerate_from}
use Rattle.ice_cells.specs.Homes.{all_shared}
use Rattle.ice_pack_share.proofs.placing.note_carriers.Given as goal

abbrev pub invariant-loop-c : goal.invariant-loop-c
invariant-loop-c l = all_shared l.carriers.items (enumerate_from l.c (drop l.c l.luts)) ≡ all_shared l.initial.carriers.items (enumerate_from 0 l.luts)
