use Rattle.std.proofs.Common.{◌≡◌, ◌++◌, drop, length}
use Rattle.std.specs.Vec.Iter.{into_iter_items, into_iter_len}
use Rattle.ice_emit_nets.specs.Collected.{kind_nets, bare_nets, AreNumbered}
use Rattle.ice_emit_nets.proofs.collecting.push_nets.Given as goal

abbrev pub invariant-loop-wire : goal.invariant-loop-wire
invariant-loop-wire l = record {
  nets : bare_nets l.nets.items ++ kind_nets (drop l.wire-index l.wires) (into_iter_items l.rest) ≡ bare_nets l.initial.nets.items ++ kind_nets l.wires l.fn.lists.items;
  numbers : AreNumbered l.nets.items;
  long : into_iter_len l.rest ≡ length (into_iter_items l.rest);
}
