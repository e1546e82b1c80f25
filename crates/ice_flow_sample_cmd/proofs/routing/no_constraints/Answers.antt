use Rattle.std.proofs.Common.{[], refl}
use Rattle.ice_base.specs.Text.{lines}
use Rattle.ice_pcf.specs.Grammar.{pin_text_says}
use Rattle.ice_flow_frame.proofs.Standings.{one_value}
use Rattle.ice_flow_sample_cmd.proofs.routing.no_constraints.Goals as goal

-- an empty text says no constraints
pub returns-in-Ok : goal.returns-in-Ok
unfolding lines
returns-in-Ok c = one_value (pin_text_says []) c.in-Ok.pcf [] c.in-Ok.ensures refl
