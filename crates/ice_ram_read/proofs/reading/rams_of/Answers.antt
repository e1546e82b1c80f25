use Rattle.std.proofs.Common.{◌++◌, ap}
use Rattle.ice_blif.specs.JoinedLines.{filled}
use Rattle.ice_blif.specs.Views.{lines_left}
use Rattle.ice_ram_read.specs.RamTexts.{listed}
use Rattle.ice_ram_read.proofs.Firsts.{first_of}
use Rattle.ice_ram_read.proofs.reading.rams_of.Goals as goal

pub returns : goal.returns
returns c =
    first_of c.args.netlist.now c.args.text.now c.new-rams.result.items (c.lines.new.rams.items ++ listed c.lines.new.last) c.close.new.rams.items (filled (lines_left c.new-words.result)) c.new-rams.ensures.items
    (ap filled c.new-words.ensures) c.in_ok-close.ensures.rams c.in_ok-lines.ensures
