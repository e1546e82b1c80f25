use Rattle.std.proofs.Common.{◌<◌, ◌≤◌, length, arith, rules}
use Rattle.ice_check_promote.specs.Promoted.{buffers}
use Rattle.ice_check_promote.proofs.Buffers.{length_buffers}
use Rattle.ice_net_additions.proofs.Added.{cells_all, cells_more, cells_room, cells_formed}
use Rattle.ice_check_promote.proofs.Filled.{buffer_made, buffers_long}
use Rattle.ice_check_promote.proofs.filling.add_buffers.Goals as goal

pub cell-requires-clause-room : goal.cell-requires-clause-room
cell-requires-clause-room c =
    let lt : c.loop-place.place < length c.args.clocks.now = search rules in
    cells_room c.args.made.now c.loop-place.made (buffers c.args.count c.args.clocks.now) c.loop-place.place c.requires.room (buffers_long c.args.count c.args.clocks.now c.loop-place.place lt) c.loop-place.invariant

pub cell-requires-clause-formed : goal.cell-requires-clause-formed
cell-requires-clause-formed c =
    let lt : c.loop-place.place < length c.args.clocks.now = search rules in
    let cell = c.in_ok-buffer.field-0 in
    cells_formed c.args.made.now c.loop-place.made (buffers c.args.count c.args.clocks.now) c.loop-place.place cell c.requires.room (buffers_long c.args.count c.args.clocks.now c.loop-place.place lt)
    (buffer_made c.args.count c.args.clocks.now c.loop-place.place _ cell lt c.in_ok-buffer.ensures) c.loop-place.invariant

pub loop-place-preserved : goal.loop-place-preserved
loop-place-preserved c =
    let lt : c.loop-place.place < length c.args.clocks.now = search rules in
    let cell = c.in_ok-buffer.field-0 in
    cells_more c.args.made.now c.loop-place.made c.cell.new.self (buffers c.args.count c.args.clocks.now) c.loop-place.place cell (buffers_long c.args.count c.args.clocks.now c.loop-place.place lt)
    (buffer_made c.args.count c.args.clocks.now c.loop-place.place _ cell lt c.in_ok-buffer.ensures) c.loop-place.invariant c.in_ok-cell.ensures.added

pub returns : goal.returns
returns c =
    let le : length c.args.clocks.now ≤ c.loop-place.place = search rules in
    let long = length_buffers c.args.count c.args.clocks.now in
    cells_all c.args.made.now c.loop-place.made (buffers c.args.count c.args.clocks.now) c.loop-place.place (omega (arith, long, le)) c.loop-place.invariant
