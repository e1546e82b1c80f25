use Rattle.ice_negotiate_round_laws.proofs.Events.{claims_are_claims, holds_are_holds, releases_are_releases}
use Rattle.ice_negotiate_round_laws.proofs.laws.steps_are_events.Goals as goal

pub returns-clause-claims : goal.returns-clause-claims
returns-clause-claims c = claims_are_claims

pub returns-clause-releases : goal.returns-clause-releases
returns-clause-releases c = releases_are_releases

pub returns-clause-holds : goal.returns-clause-holds
returns-clause-holds c = holds_are_holds
