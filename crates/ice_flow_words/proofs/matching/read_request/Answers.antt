use Rattle.std.proofs.Common.{map, string_bytes}
use Rattle.clap.specs.Words.{subcommand_rows_of}
use Rattle.ice_flow_words.proofs.Provided.{none_lost}
use Rattle.ice_flow_words.proofs.matching.read_request.Goals as goal

pub returns-clause-usage : goal.returns-clause-usage
returns-clause-usage c = λ _. absurd (none_lost (map string_bytes c.args.words.now) (subcommand_rows_of c.in_ok-found.found) c.in_ok-found.ensures.ok c.in-None.ensures.value)
