use Rattle.std.proofs.Common.{◌∙◌, ◌++◌, ◌∷◌, [], List, ap}
use Rattle.ice_core.specs.declared.log.RoundLog.{RoundLog}
use Rattle.ice_negotiate.proofs.rounds.first_logs.Goals as goal

pub returns : goal.returns
returns c = (c.in_ok-log.log, c.in_ok-log.ensures, c.in_ok-push.ensures.items ∙ ap (λ (logs : List RoundLog). logs ++ c.in_ok-log.log ∷ []) c.new-logs.ensures.items)
