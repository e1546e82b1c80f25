use Rattle.std.proofs.Common.{◌+◌}
use Rattle.ice_sample.specs.Wires.{named_wires, io_names, track_names}
use Rattle.ice_base.proofs.Pieces.{text_join}
use Rattle.ice_sample.proofs.Numbering.{further_on_ok}
use Rattle.ice_sample.proofs.wires.put_io_wires.Goals as goal

pub returns : goal.returns
unfolding io_names
returns c =
    further_on_ok c.put_track_wires.result _ _ c.put_track_wires.new.text.items _ _ _ c.in_ok-put_named_wires.ensures c.put_track_wires.ensures
    (text_join (named_wires c.args.at c.args.first io_names) (named_wires c.args.at (c.args.first + 7) track_names))
