use Rattle.ice_negotiate_round_laws.proofs.Rounds.{events_make_rounds}
use Rattle.ice_negotiate_round_laws.proofs.laws.the_core_plays_rounds.Goals as goal

pub returns : goal.returns
returns c = events_make_rounds
