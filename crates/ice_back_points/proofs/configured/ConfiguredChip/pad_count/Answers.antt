use Rattle.std.proofs.Common.{◌≤◌, sym, subst}
use Rattle.ice_back_points.specs.ConfiguredChips.{configured_view}
use Rattle.ice_back_points.proofs.ConfiguredFacts.{pads_few}
use Rattle.ice_back_points.proofs.configured.ConfiguredChip.pad_count.Goals as goal

pub returns-clause-few : goal.returns-clause-few
returns-clause-few c = subst (λ n. n ≤ 131072) (sym c.len.ensures.len) (pads_few (configured_view c.self.inside) c.self.invariant.configured)
