use Rattle.std.proofs.Common.{◌<◌, ◌∙◌, get_or, sym, subst}
use Rattle.ice_base.specs.declared.number.WireNo.{WireNo}
use Rattle.ice_core.specs.Moves.{leaves_at}
use Rattle.ice_core.proofs.Moving.{any_more, any_none, wire_at}
use Rattle.ice_core.proofs.rounds.moves.Goals as goal

abbrev none : WireNo
none = record { 0 = 0 }

pub bounds-counts-wire : goal.bounds-counts-wire
bounds-counts-wire c =
    let i = c.loop-wire.wire-index in
    c.requires.wires i (get_or c.args.wires.now i none) (wire_at c.args.wires.now i none c.loop-wire-test.true)

pub bounds-seen-wire : goal.bounds-seen-wire
bounds-seen-wire c =
    let i = c.loop-wire.wire-index in
    subst (λ n. (get_or c.args.wires.now i none).0 < n) (sym c.requires.lengths) (c.requires.wires i (get_or c.args.wires.now i none) (wire_at c.args.wires.now i none c.loop-wire-test.true))

pub loop-wire-preserved : goal.loop-wire-preserved
loop-wire-preserved c =
    any_more (leaves_at c.args.round c.args.counts.now c.args.seen.now) c.args.wires.now c.loop-wire.wire-index none c.loop-wire-test.true (sym c.leaves_wire.ensures ∙ c.if-leaves_wire.false) c.loop-wire.invariant

pub returns : goal.returns
returns c = any_none (leaves_at c.args.round c.args.counts.now c.args.seen.now) c.args.wires.now c.loop-wire.wire-index c.loop-wire-test.false c.loop-wire.invariant
