use Rattle.std.proofs.Common.{◌∙◌}
use Rattle.ice_decode.proofs.direct.takes_pad.Goals as goal

pub returns : goal.returns
returns c = c.direct_at.ensures ∙ c.requires c.args.global
