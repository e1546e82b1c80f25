use Rattle.std.proofs.Common.{ap, ◌∙◌}
use Rattle.ice_chip.specs.Lookups.{ieren_of}
use Rattle.ice_chip.specs.Views.{parts_view}
use Rattle.ice_chip.proofs.Readers.{enable_found}
use Rattle.ice_chip.proofs.chip.Chip.enables.Goals as goal

pub returns-clause-found : goal.returns-clause-found
returns-clause-found c =
    λ pad.
    enable_found (parts_view c.self.inside.parts) c.self.inside.servers.enables.entries pad c.self.invariant.servers.enables
    ∙ ap (λ parts. ieren_of parts pad) c.self.view_is
