use Rattle.std.proofs.Common.{◌∙◌}
use Rattle.ice_anneal.proofs.free.is_there.Goals as goal

pub returns : goal.returns
returns c chunks knows = c.contains_key.ensures ∙ knows c.args.chunk
