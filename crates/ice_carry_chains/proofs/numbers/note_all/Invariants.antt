use Rattle.std.proofs.Common.{◌≡◌, drop}
use Rattle.ice_cells.specs.Chains.{all_noted}
use Rattle.ice_carry_chains.proofs.numbers.note_all.Given as goal

abbrev pub invariant-loop-c : goal.invariant-loop-c
invariant-loop-c l = all_noted l.numbers.items (drop l.c-index l.pairs) ≡ all_noted l.initial.numbers.items l.pairs
