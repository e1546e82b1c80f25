use Rattle.std.proofs.Common.{sym, ◌∙◌}
use Rattle.ice_chip_names.proofs.FirstBytes.{not_begun}
use Rattle.ice_chip_names.proofs.wire_names.tile_wire.Goals as goal

pub returns-then-not-may_be_wire : goal.returns-then-not-may_be_wire
returns-then-not-may_be_wire c = sym (not_begun c.args.name.now (sym c.may_be_wire.ensures ∙ c.if-not-may_be_wire.true))
