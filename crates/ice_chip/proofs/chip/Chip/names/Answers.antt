use Rattle.std.proofs.Common.{◌<◌, sym, subst, ap, ◌∙◌, arith, length}
use Rattle.ice_chip.specs.Lookups.{names_of}
use Rattle.ice_chip.specs.Views.{parts_view}
use Rattle.ice_chip.proofs.Readers.{list_within, names_found}
use Rattle.ice_chip.proofs.chip.Chip.names.Goals as goal

pub index-requires : goal.index-requires
index-requires c =
    let lt : c.args.wire.0 < c.self.inside.parts.wires = subst (λ parts. c.args.wire.0 < parts.wires) (sym c.self.view_is) c.requires in
    let within : c.args.wire.0 < length c.self.inside.wires.lists.items = list_within (parts_view c.self.inside.parts) c.self.inside.wires.lists.items c.args.wire.0 c.self.invariant.wires.lists lt in
    omega (arith, c.self.inside.wires.lists.ok)

pub returns : goal.returns
returns c =
    let lt : c.args.wire.0 < c.self.inside.parts.wires = subst (λ parts. c.args.wire.0 < parts.wires) (sym c.self.view_is) c.requires in
    c.deref.ensures.value
    ∙ ap (λ list. list.items) c.index.ensures
    ∙ names_found (parts_view c.self.inside.parts) c.self.inside.wires.lists.items c.args.wire.0 c.index.result.now c.self.invariant.wires.lists lt
    ∙ ap (λ parts. names_of parts c.args.wire.0) c.self.view_is
