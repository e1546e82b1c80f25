use Rattle.std.proofs.Common.{ap, ◌∙◌}
use Rattle.ice_chip.specs.Lookups.{padin_of}
use Rattle.ice_chip.specs.Views.{parts_view}
use Rattle.ice_chip.proofs.Readers.{extra_found}
use Rattle.ice_chip.proofs.chip.Chip.padin_of.Goals as goal

pub returns : goal.returns
returns c =
    c.copied.ensures
    ∙ c.get.ensures.value
    ∙ extra_found (parts_view c.self.inside.parts) c.self.inside.servers.globals.extras.entries c.args.n c.self.invariant.servers.globals.extras
    ∙ ap (λ parts. padin_of parts c.args.n) c.self.view_is
