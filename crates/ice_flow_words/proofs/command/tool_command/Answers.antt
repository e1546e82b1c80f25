use Rattle.clap.specs.Words.{App, with_subcommand}
use Rattle.ice_flow_words.specs.Command.{alone, bare_command, build_command, back_command, play_net_command, play_bits_command, time_command, sample_command}
use Rattle.ice_flow_words.proofs.command.tool_command.Goals as goal

pub returns : goal.returns
returns c =
    let with_build : App = with_subcommand (alone bare_command) build_command in
    let with_back : App = with_subcommand with_build back_command in
    let with_net : App = with_subcommand with_back play_net_command in
    let with_bits : App = with_subcommand with_net play_bits_command in
    let with_time : App = with_subcommand with_bits time_command in
    c.with_subcommand-6.ensures with_time sample_command
    (c.in_ok-command-5.ensures with_bits time_command
    (c.in_ok-command-4.ensures with_net play_bits_command
    (c.in_ok-command-3.ensures with_back play_net_command
    (c.in_ok-command-2.ensures with_build back_command
    (c.in_ok-command.ensures (alone bare_command) build_command c.bare_command-command.ensures c.build_command.ensures.app)
    c.back_command.ensures.app)
    c.play_net_command.ensures.app)
    c.play_bits_command.ensures.app)
    c.time_command.ensures.app)
    c.sample_command.ensures.app
