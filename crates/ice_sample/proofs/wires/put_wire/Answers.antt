use Rattle.std.proofs.Common.{[], ◌∷◌}
use Rattle.ice_sample.specs.Wires.{wire_heading, name_line}
use Rattle.ice_sample.proofs.Numbering.{further_on_ok, head_join}
use Rattle.ice_sample.proofs.wires.put_wire.Goals as goal

pub returns : goal.returns
returns c =
    further_on_ok c.put_name.result _ _ c.put_name.new.text.items _ _ _ c.in_ok-put_wire_heading.ensures c.put_name.ensures
    (head_join (wire_heading c.args.wire) (name_line c.args.at c.args.name.now ∷ []))
