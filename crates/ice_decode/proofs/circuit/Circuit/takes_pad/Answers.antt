use Rattle.std.proofs.Common.{Bool, false, List, ap, ◌∙◌, get_or}
use Rattle.ice_decode.proofs.circuit.Circuit.takes_pad.Goals as goal

pub returns-clause-told : goal.returns-clause-told
returns-clause-told c parts is = c.direct_at.ensures ∙ ap (λ (direct : List Bool). get_or direct c.args.global false) c.direct.ensures ∙ is.fed_by_pads c.args.global
