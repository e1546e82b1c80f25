use Rattle.std.proofs.Common.{List, map, sym, ◌∙◌}
use Rattle.std.proofs.lemmas.List.{at_drop_all}
use Rattle.ice_chip.specs.Views.{group_view}
use Rattle.ice_chip.specs.declared.sections.Group.{Group}
use Rattle.ice_bits_rows.specs.Lists.{lists_of, listed}
use Rattle.ice_bits_rows.proofs.lists.groups_by_wire.Goals as goal

pub returns : goal.returns
returns c =
    sym (c.loop-group.invariant.groups
    ∙ at_drop_all (λ (gs : List Group). listed (lists_of c.loop-group.lists.items) (map group_view gs)) c.args.groups.now c.loop-group.group-index c.loop-group-test.false)
