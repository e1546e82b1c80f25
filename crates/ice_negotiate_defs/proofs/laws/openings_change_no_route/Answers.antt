use Rattle.ice_negotiate_defs.proofs.Unchanged.{unchanged, verdict_unchanged}
use Rattle.ice_negotiate_defs.proofs.laws.openings_change_no_route.Goals as goal

pub returns-clause-routes : goal.returns-clause-routes
returns-clause-routes c = unchanged

pub returns-clause-verdict : goal.returns-clause-verdict
returns-clause-verdict c = verdict_unchanged
