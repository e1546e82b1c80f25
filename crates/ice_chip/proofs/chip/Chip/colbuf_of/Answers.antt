use Rattle.std.proofs.Common.{rules, ◌≡◌, ap, ◌∙◌}
use Rattle.std.specs.Map.{lookup}
use Rattle.ice_chip.specs.Database.{same_tile}
use Rattle.ice_chip.specs.Lookups.{colbuf_of}
use Rattle.ice_chip.specs.Views.{parts_view}
use Rattle.ice_chip.proofs.Readers.{buffer_found}
use Rattle.ice_chip.proofs.chip.Chip.colbuf_of.Goals as goal

pub returns : goal.returns
returns c =
    let found : c.copied.result ≡ lookup (same_tile c.args.tile) c.self.inside.servers.buffers.entries = search rules in
    found ∙ buffer_found (parts_view c.self.inside.parts) c.self.inside.servers.buffers.entries c.args.tile c.self.invariant.servers.buffers
    ∙ ap (λ parts. colbuf_of parts c.args.tile) c.self.view_is
