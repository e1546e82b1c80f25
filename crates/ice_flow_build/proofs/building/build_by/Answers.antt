use Rattle.std.proofs.Common.{ℕ, ◌+◌, ◌≤◌, length, sym, ap, ◌∙◌, subst, arith}
use Rattle.std.specs.Prelude.{Ok, Err}
use Rattle.std.proofs.lemmas.Result.{err_from_is_err_and}
use Rattle.ice_bits.specs.Configuration.{bits_of}
use Rattle.ice_net.specs.NetlistData.{NetlistData}
use Rattle.ice_flow_build.proofs.Answering.{lay_fault, end_fault, bits_stop, built, circuit, no_loop, complete}
use Rattle.ice_flow_build.specs.Answers.{net_count, routes_in}
use Rattle.ice_flow_build.specs.Laid.{plan_in, task_of}
use Rattle.ice_flow_build.specs.declared.answer.BuildFault.TheVariants.{NoMemory}
use Rattle.ice_flow_build.proofs.building.build_by.Goals as goal

pub finish-requires-clause-placed : goal.finish-requires-clause-placed
finish-requires-clause-placed g c κs within = let s = c.layouts_stand_on_their_chip.ensures c.args.name.now c.args.pcf.now c.in_ok-layout.layout c.in_ok-layout.ensures.laid in let none = s.4 in (s.0, s.2, omega (arith, none))

pub nets_by_signals-requires : goal.nets_by_signals-requires
nets_by_signals-requires g c =
    let few = c.layouts_have_few_nets.ensures c.args.name.now c.args.pcf.now c.in_ok-layout.layout c.in_ok-layout.ensures.laid in
    let count = c.signals.ensures.count ∙ ap (λ (n : NetlistData). length n.names) c.netlist.ensures.netlist in
    subst (λ (k : ℕ). net_count c.args.index.now.chip.now (plan_in c.in_ok-layout.layout) ≤ k + 2) (sym count) few

-- ---- the netlist is not placed
pub returns-in_err-layout-clause-fault : goal.returns-in_err-layout-clause-fault
returns-in_err-layout-clause-fault g c =
    let p = err_from_is_err_and c.from_residual.result c.from_residual.ensures.1 in
    rw (p.1, p.2) (lay_fault (task_of c.args.index.now.chip.now c.args.name.now c.args.pcf.now c.args.sound.now) c.args.effort c.in_err-layout.field-0.0 c.in_err-layout.ensures.fault)

pub returns-in_err-layout-clause-complete : goal.returns-in_err-layout-clause-complete
returns-in_err-layout-clause-complete g c =
    let p = err_from_is_err_and c.from_residual.result c.from_residual.ensures.1 in
    let task = task_of c.args.index.now.chip.now c.args.name.now c.args.pcf.now c.args.sound.now in
    rw (p.1, p.2) (complete task c.args.effort (Err c.in_err-layout.field-0.0) (lay_fault task c.args.effort c.in_err-layout.field-0.0 c.in_err-layout.ensures.fault))

-- ---- its nets want memory
pub returns-in_err-nets-clause-complete : goal.returns-in_err-nets-clause-complete
returns-in_err-nets-clause-complete g c =
    let p = err_from_is_err_and c.from_residual-in_err-nets.result c.from_residual-in_err-nets.ensures.1 in
    let task = task_of c.args.index.now.chip.now c.args.name.now c.args.pcf.now c.args.sound.now in
    rw (p.1, p.2) (complete task c.args.effort (Err NoMemory) tt)

-- ---- the design is not routed
pub returns-in_err-built-clause-fault : goal.returns-in_err-built-clause-fault
returns-in_err-built-clause-fault g c =
    let p = err_from_is_err_and c.from_residual-in_err-built.result c.from_residual-in_err-built.ensures.1 in
    rw (p.1, p.2)
    (end_fault (task_of c.args.index.now.chip.now c.args.name.now c.args.pcf.now c.args.sound.now) c.args.effort c.in_ok-layout.layout c.in_err-built.field-0.0 c.in_ok-layout.ensures.laid c.in_err-built.ensures.fault)

pub returns-in_err-built-clause-complete : goal.returns-in_err-built-clause-complete
returns-in_err-built-clause-complete g c =
    let p = err_from_is_err_and c.from_residual-in_err-built.result c.from_residual-in_err-built.ensures.1 in
    let task = task_of c.args.index.now.chip.now c.args.name.now c.args.pcf.now c.args.sound.now in
    rw (p.1, p.2)
    (complete task c.args.effort (Err c.in_err-built.field-0.0)
    (end_fault task c.args.effort c.in_ok-layout.layout c.in_err-built.field-0.0 c.in_ok-layout.ensures.laid c.in_err-built.ensures.fault))

-- ---- the bits have no circuit
pub returns-in-Err-clause-fault : goal.returns-in-Err-clause-fault
returns-in-Err-clause-fault g c =
    let task = task_of c.args.index.now.chip.now c.args.name.now c.args.pcf.now c.args.sound.now in
    let made = built task c.args.effort c.in_ok-layout.layout c.in_ok-built.built c.in_ok-layout.ensures.laid
    (c.layouts_stand_on_their_chip.ensures c.args.name.now c.args.pcf.now c.in_ok-layout.layout c.in_ok-layout.ensures.laid) c.in_ok-built.ensures.finished in
    bits_stop task c.args.effort c.in_ok-built.built c.in-Err.fault c.in_ok-built.ensures.ring made c.in-Err.ensures.fault

pub returns-in-Err-clause-complete : goal.returns-in-Err-clause-complete
returns-in-Err-clause-complete g c =
    let task = task_of c.args.index.now.chip.now c.args.name.now c.args.pcf.now c.args.sound.now in
    let made = built task c.args.effort c.in_ok-layout.layout c.in_ok-built.built c.in_ok-layout.ensures.laid
    (c.layouts_stand_on_their_chip.ensures c.args.name.now c.args.pcf.now c.in_ok-layout.layout c.in_ok-layout.ensures.laid) c.in_ok-built.ensures.finished in
    complete task c.args.effort (Err c.in-Err.fault) (bits_stop task c.args.effort c.in_ok-built.built c.in-Err.fault c.in_ok-built.ensures.ring made c.in-Err.ensures.fault)

-- ---- the bits are built
pub returns-in-Ok-clause-built : goal.returns-in-Ok-clause-built
returns-in-Ok-clause-built g c =
    built (task_of c.args.index.now.chip.now c.args.name.now c.args.pcf.now c.args.sound.now) c.args.effort c.in_ok-layout.layout c.in_ok-built.built c.in_ok-layout.ensures.laid
    (c.layouts_stand_on_their_chip.ensures c.args.name.now c.args.pcf.now c.in_ok-layout.layout c.in_ok-layout.ensures.laid) c.in_ok-built.ensures.finished

pub returns-in-Ok-clause-circuit : goal.returns-in-Ok-clause-circuit
returns-in-Ok-clause-circuit g c =
    let laid = c.in_ok-layout.ensures.laid in
    let stands = c.layouts_stand_on_their_chip.ensures c.args.name.now c.args.pcf.now c.in_ok-layout.layout laid in
    let finished = c.in_ok-built.ensures.finished in
    circuit c.args.sound.now c.args.index.now.chip.now c.in_ok-layout.layout c.in_ok-built.built finished.same
    (c.realised_layouts_show_their_netlist.ensures c.args.name.now c.args.pcf.now c.in_ok-layout.layout (routes_in c.in_ok-built.built.routed) c.in_ok-built.built.bits laid stands finished.written
    (c.in_ok-built.ensures.realised (no_loop c.args.index.now.chip.now (bits_of c.in_ok-built.built.bits) c.in_ok-built.built.bits.extras c.in_ok-built.ensures.loopless c.in-Ok.ensures.loopless)))

pub returns-in-Ok-clause-complete : goal.returns-in-Ok-clause-complete
returns-in-Ok-clause-complete g c =
    let task = task_of c.args.index.now.chip.now c.args.name.now c.args.pcf.now c.args.sound.now in
    complete task c.args.effort (Ok c.in_ok-built.built)
    (built task c.args.effort c.in_ok-layout.layout c.in_ok-built.built c.in_ok-layout.ensures.laid
    (c.layouts_stand_on_their_chip.ensures c.args.name.now c.args.pcf.now c.in_ok-layout.layout c.in_ok-layout.ensures.laid) c.in_ok-built.ensures.finished)
