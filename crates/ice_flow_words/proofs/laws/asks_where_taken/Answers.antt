use Rattle.std.proofs.Common.{map, string_bytes}
use Rattle.ice_flow_words.proofs.Provided.{asked_if_taken}
use Rattle.ice_flow_words.proofs.laws.asks_where_taken.Goals as goal

pub returns : goal.returns
returns c = asked_if_taken (map string_bytes c.args.words.now)
