use Rattle.std.proofs.Common.{map, string_bytes}
use Rattle.clap.specs.Words.{app_of}
use Rattle.ice_flow_words.proofs.Taking.{found_as, refused_as}
use Rattle.ice_flow_words.proofs.matching.matches_in.Goals as goal

pub returns-clause-ok : goal.returns-clause-ok
returns-clause-ok c =
    let parse = c.try_get_matches_from in
    found_as (app_of c.in_ok-command.command) (map string_bytes c.args.words.now) parse.result c.in_ok-command.ensures parse.ensures.kinds parse.ensures.matches

pub returns-clause-refused : goal.returns-clause-refused
returns-clause-refused c =
    let parse = c.try_get_matches_from in
    refused_as (app_of c.in_ok-command.command) (map string_bytes c.args.words.now) parse.result c.in_ok-command.ensures parse.ensures.kinds parse.ensures.passes
