use Rattle.std.proofs.lemmas.Result.{on_ok_weaker}
use Rattle.ice_chip.specs.Indices.{enables_of}
use Rattle.ice_emit_defs.specs.Functions.{read_pads}
use Rattle.ice_emit_settings.specs.Views.{views}
use Rattle.ice_emit_settings.proofs.Enabling.{enables_are}
use Rattle.ice_emit_settings.proofs.enables.push_enables.Goals as goal

pub returns : goal.returns
returns c =
    on_ok_weaker c.push_each-done.result
    (enables_are (read_pads c.args.pads.now c.args.ports.now) c.in_ok-read.read.keys c.in_ok-needed.needed.keys (enables_of c.args.chip.now) c.enables-enables.result.now.entries (views c.args.made.now.items) (views c.push_each-done.new.made.items)
    c.enables-enables.ensures.enables c.in_ok-read.ensures c.in_ok-needed.ensures)
    c.push_each-done.ensures
