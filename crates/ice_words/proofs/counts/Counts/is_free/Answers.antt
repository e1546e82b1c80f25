use Rattle.ice_words.proofs.Verdict.{overused}
use Rattle.ice_words.proofs.counts.Counts.is_free.Goals as goal

pub returns-clause-overused : goal.returns-clause-overused
returns-clause-overused c = overused _ c.over.result c.over.ensures
