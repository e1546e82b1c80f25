use Rattle.std.proofs.Common.{◌≡◌, drop}
use Rattle.ice_emit_defs.specs.Rams.{site_contents}
use Rattle.ice_emit.specs.Views.{with_contents}
use Rattle.ice_emit.proofs.contents.add_all_words.Given as goal

abbrev pub invariant-loop-k : goal.invariant-loop-k
invariant-loop-k l = with_contents (site_contents (drop l.k l.sites) (drop l.k l.rams)) l.bits ≡ with_contents (site_contents l.sites l.rams) l.initial.bits
