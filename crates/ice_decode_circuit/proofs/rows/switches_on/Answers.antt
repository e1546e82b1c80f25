use Rattle.std.proofs.Common.{◌++◌, List, map, sym, ap, ◌∙◌}
use Rattle.std.proofs.lemmas.List.{append-nil, at_drop_all}
use Rattle.ice_chip.specs.Views.{group_view}
use Rattle.ice_chip.specs.declared.sections.Group.{Group}
use Rattle.ice_bits.specs.Configuration.{bits_of}
use Rattle.ice_decode.specs.Drivers.{switches_on}
use Rattle.ice_decode_circuit.proofs.rows.switches_on.Goals as goal

pub returns : goal.returns
returns c =
    sym (append-nil c.loop-group.switches.items)
    ∙ ap (λ found. c.loop-group.switches.items ++ found)
    (sym (at_drop_all (λ (gs : List Group). switches_on (bits_of c.args.bits.now) (map group_view gs)) c.groups-group-items.result.now c.loop-group.group-index c.loop-group-test.false))
    ∙ sym c.loop-group.invariant
    ∙ ap (switches_on (bits_of c.args.bits.now)) c.groups-group-items.ensures
