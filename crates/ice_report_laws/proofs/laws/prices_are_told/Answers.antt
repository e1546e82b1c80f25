use Rattle.ice_report_laws.proofs.Telling.{prices_told}
use Rattle.ice_report_laws.proofs.laws.prices_are_told.Goals as goal

pub returns : goal.returns
returns c = prices_told
