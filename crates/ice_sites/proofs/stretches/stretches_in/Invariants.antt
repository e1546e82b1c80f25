use Rattle.std.proofs.Common.{◌≡◌, ◌++◌, [], drop}
use Rattle.ice_sites.specs.Site.{is_link}
use Rattle.ice_sites.specs.Stretches.{cut}
use Rattle.ice_sites.proofs.stretches.stretches_in.Given as goal

abbrev pub invariant-loop-k : goal.invariant-loop-k
invariant-loop-k l = l.stretches.items ++ cut (is_link l.fn.index.chip.now) l.open.items (drop l.k l.sites) ≡ cut (is_link l.fn.index.chip.now) [] l.sites
