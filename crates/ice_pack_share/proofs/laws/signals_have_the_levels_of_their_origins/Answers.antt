use Rattle.ice_pack_share.proofs.LevelLaws.{level_of_origin}
use Rattle.ice_pack_share.proofs.laws.signals_have_the_levels_of_their_origins.Goals as goal

pub returns : goal.returns
returns c0 = λ n formed order sorted levels kept s lt. level_of_origin n order sorted levels kept formed s lt
