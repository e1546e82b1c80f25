use Rattle.std.proofs.Common.{rules, ◌≡◌, ap, ◌∙◌}
use Rattle.std.specs.Map.{lookup}
use Rattle.ice_chip.specs.Database.{same_pad}
use Rattle.ice_chip.specs.Lookups.{ieren_of}
use Rattle.ice_chip.specs.Views.{parts_view}
use Rattle.ice_chip.proofs.Readers.{enable_found}
use Rattle.ice_chip.proofs.chip.Chip.ieren_of.Goals as goal

pub returns : goal.returns
returns c =
    let found : c.copied.result ≡ lookup (same_pad c.args.pad) c.self.inside.servers.enables.entries = search rules in
    found ∙ enable_found (parts_view c.self.inside.parts) c.self.inside.servers.enables.entries c.args.pad c.self.invariant.servers.enables
    ∙ ap (λ parts. ieren_of parts c.args.pad) c.self.view_is
