use Rattle.std.proofs.Common.{◌≡◌, ◌≤◌, ◌++◌, drop}
use Rattle.ice_cells.specs.Packed.{roots_from}
use Rattle.ice_pack_sinks.proofs.rooting.roots_from.Given as goal

abbrev pub invariant-loop-j : goal.invariant-loop-j
invariant-loop-j l = record { few : l.globals ≤ l.j; all : l.roots.items ++ roots_from l.origins l.homes l.j l.globals (drop l.j l.cells) ≡ roots_from l.origins l.homes 0 0 l.cells }
