use Rattle.std.proofs.Common.{◌≡◌, ◌++◌, drop}
use Rattle.ice_emit_defs.specs.Rams.{site_settings}
use Rattle.ice_emit_settings.specs.Views.{views}
use Rattle.ice_emit_settings.proofs.rams.push_sites.Given as goal

abbrev pub invariant-loop-k : goal.invariant-loop-k
invariant-loop-k l = views l.made.items ++ site_settings (drop l.k l.sites) (drop l.k l.rams) ≡ views l.initial.made.items ++ site_settings l.sites l.rams
