use Rattle.std.proofs.Common.{[], slice_index_or}
use Rattle.ice_chip.specs.Views.{package_view}
use Rattle.ice_report.specs.PinReport.{way_word, pad_words}
use Rattle.ice_report.proofs.Writing.{port_joined}
use Rattle.ice_report.proofs.pins.put_port.Goals as goal

pub returns : goal.returns
returns c =
    port_joined c.port_name.result.now (slice_index_or c.args.netlist.now.names c.args.port.signal.0 []) c.way_word.result.now (way_word c.args.port.way) (pad_words (package_view c.args.«package».now) c.args.pad)
    c.args.text.now.items c.extend_from_slice.new.self.items c.put_pad.new.text.items c.put_word.new.text.items c.push.new.self.items c.port_name.ensures c.way_word.ensures c.in_ok-extend_from_slice.ensures.items
    c.in_ok-put_pad.ensures c.in_ok-put_word.ensures c.in_ok-push.ensures.items
