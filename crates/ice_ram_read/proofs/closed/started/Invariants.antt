use Rattle.std.proofs.Common.{◌≡◌, ◌++◌, map, length}
use Rattle.std.specs.Vec.Iter.{into_iter_items, into_iter_len}
use Rattle.ice_ram_read.specs.ClosedNetlists.{ram_of}
use Rattle.ice_ram_read.proofs.closed.started.Given as goal

abbrev pub invariant-loop-text : goal.invariant-loop-text
invariant-loop-text l = record {
  said : map ram_of l.fn.texts.items ≡ l.rams.items ++ map ram_of (into_iter_items l.text-iterator);
  long : into_iter_len l.text-iterator ≡ length (into_iter_items l.text-iterator);
}
