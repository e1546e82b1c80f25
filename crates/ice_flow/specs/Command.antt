-- The commands that words ask for.
use Rattle.ice_flow_build_cmd.specs.Command.{build_files}
use Rattle.ice_flow_back_cmd.specs.Command.{back_files}
use Rattle.ice_flow_play_net_cmd.specs.Played.{play_net}
use Rattle.ice_flow_play_bits_cmd.specs.Played.{play_bits}
use Rattle.ice_flow_time_cmd.specs.Timings.{time}
use Rattle.ice_flow_sample_cmd.specs.Command.{sample}
use Rattle.ice_flow_frame.specs.Commands.{Command}
use Rattle.ice_flow_words.specs.Requests.{Asked, ForBuild, ForBack, ForPlayNet, ForPlayBits, ForTime, ForSample}

abbrev pub asked_for : Asked → Command
asked_for (ForBuild w) = build_files w
asked_for (ForBack w) = back_files w
asked_for (ForPlayNet w) = play_net w
asked_for (ForPlayBits w) = play_bits w
asked_for (ForTime w) = time w
asked_for (ForSample w) = sample w
