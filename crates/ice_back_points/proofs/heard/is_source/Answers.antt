use Rattle.std.proofs.Common.{List, ap, ◌∙◌}
use Rattle.std.specs.List.{list_any}
use Rattle.ice_decode.specs.declared.driver.Driver.{Driver}
use Rattle.ice_back_laws.specs.Roots.{leads_from}
use Rattle.ice_back_points.proofs.heard.is_source.Goals as goal

pub returns : goal.returns
returns c = c.some_leads_from.ensures ∙ ap (λ (drivers : List Driver). list_any (leads_from c.args.wire.0) drivers) (c.drivers.ensures ∙ c.requires)
