use Rattle.ice_report_laws.proofs.Finding.{pins_found}
use Rattle.ice_report_laws.proofs.laws.pins_are_found.Goals as goal

pub returns : goal.returns
returns c = pins_found
