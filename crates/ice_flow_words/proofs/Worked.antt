-- The worked examples, computed.
use Rattle.std.proofs.Common.{refl}
use Rattle.clap.proofs.OnLiterals.{clap_on_literals}
use Rattle.ice_flow_words.specs.Examples.{HasWorkedExamples}

pub worked : HasWorkedExamples
unfolding clap_on_literals
worked = record {
  plain = refl;
  seed = refl;
  most_seed = refl;
  too_great = refl;
  plus = refl;
  behind = refl;
  opening = refl;
  no_opening = refl;
  two_openings = refl;
  files = refl;
  hyphen = refl;
  play_net = refl;
  play_bits = refl;
  time = refl;
  back = refl;
  sample = refl;
  many_rounds = refl;
  no_rounds = refl;
  twice = refl;
  more = refl;
  fewer = refl;
  help = refl;
  help_flag = refl;
  help_of_one = refl;
  nothing = refl;
}
