use Rattle.std.proofs.Common.{ap, ◌∙◌}
use Rattle.ice_bits_rows.specs.Owners.{is_other}
use Rattle.ice_bits_rows.proofs.bundle.is_of_other.Goals as goal

pub returns : goal.returns
returns c = c.is_other.ensures ∙ ap (is_other c.args.wire.0) c.owner_in.ensures ∙ c.requires c.args.bit c.args.wire.0
