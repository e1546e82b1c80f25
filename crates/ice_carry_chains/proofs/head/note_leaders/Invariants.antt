use Rattle.std.proofs.Common.{◌≡◌, drop}
use Rattle.ice_cells.specs.Chains.{all_led}
use Rattle.ice_carry_chains.proofs.head.note_leaders.Given as goal

abbrev pub invariant-loop-c : goal.invariant-loop-c
invariant-loop-c l = all_led l.marks l.leaders.items (drop l.c-index l.carries) ≡ all_led l.marks l.initial.leaders.items l.carries
