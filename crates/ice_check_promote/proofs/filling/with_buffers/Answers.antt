use Rattle.std.proofs.Common.{◌≡◌, ◌∙◌, [], ℕ, length, ap}
use Rattle.std.specs.Global.{Vec}
use Rattle.ice_check_promote.specs.Promoted.{with_buffers}
use Rattle.ice_check_promote.proofs.Filled.{old_cells_room, buffers_room, with_old_cells, with_all_cells}
use Rattle.ice_check_promote.proofs.filling.with_buffers.Goals as goal

pub add_cells-requires-clause-room : goal.add_cells-requires-clause-room
add_cells-requires-clause-room c =
    let n = c.args.netlist.now in
    let t = c.in_ok-targets.targets in
    let took : t.clocks.items ≡ c.args.clocks.items = ap (λ (v : Vec ℕ). v.items) c.in_ok-targets.ensures.clocks in
    let start : c.in_ok-made.made ≡ record (with_buffers n c.args.clocks.items) { cells = [] }
    = c.in_ok-made.ensures ∙ ap (λ clocks. record (with_buffers n clocks) { cells = [] }) c.deref.ensures.value in
    old_cells_room n c.in_ok-made.made c.args.outer.now c.args.clocks.items t.clocks.items c.cells.result.now t.count c.requires.made start (c.in_ok-targets.ensures.count ∙ c.signals.ensures.count) took c.cells.ensures.cells

pub add_buffers-requires-clause-room : goal.add_buffers-requires-clause-room
add_buffers-requires-clause-room c =
    let n = c.args.netlist.now in
    let t = c.in_ok-targets.targets in
    let took : t.clocks.items ≡ c.args.clocks.items = ap (λ (v : Vec ℕ). v.items) c.in_ok-targets.ensures.clocks in
    let counted : t.count ≡ length n.names = c.in_ok-targets.ensures.count ∙ c.signals.ensures.count in
    let start : c.in_ok-made.made ≡ record (with_buffers n c.args.clocks.items) { cells = [] }
    = c.in_ok-made.ensures ∙ ap (λ clocks. record (with_buffers n clocks) { cells = [] }) c.deref.ensures.value in
    buffers_room n c.add_cells.new.made c.args.outer.now c.args.clocks.items c.deref-2.result.now t.count c.requires.made
    (with_old_cells n c.in_ok-made.made c.add_cells.new.made c.args.outer.now c.args.clocks.items t.clocks.items c.cells.result.now t.count start counted took c.cells.ensures.cells c.in_ok-add_cells.ensures)
    counted (c.deref-2.ensures.value ∙ took)

pub returns : goal.returns
returns c =
    let n = c.args.netlist.now in
    let t = c.in_ok-targets.targets in
    let took : t.clocks.items ≡ c.args.clocks.items = ap (λ (v : Vec ℕ). v.items) c.in_ok-targets.ensures.clocks in
    let counted : t.count ≡ length n.names = c.in_ok-targets.ensures.count ∙ c.signals.ensures.count in
    let start : c.in_ok-made.made ≡ record (with_buffers n c.args.clocks.items) { cells = [] }
    = c.in_ok-made.ensures ∙ ap (λ clocks. record (with_buffers n clocks) { cells = [] }) c.deref.ensures.value in
    with_all_cells n c.add_cells.new.made c.add_buffers.new.made c.args.outer.now c.args.clocks.items c.deref-2.result.now t.count
    (with_old_cells n c.in_ok-made.made c.add_cells.new.made c.args.outer.now c.args.clocks.items t.clocks.items c.cells.result.now t.count start counted took c.cells.ensures.cells c.in_ok-add_cells.ensures)
    counted (c.deref-2.ensures.value ∙ took) c.in_ok-add_buffers.ensures
