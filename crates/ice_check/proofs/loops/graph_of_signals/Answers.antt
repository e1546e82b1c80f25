use Rattle.std.proofs.Common.{◌≡◌, List, ℕ, length, map, subst, sym, ◌∙◌, arith}
use Rattle.ice_base_values.specs.System.{present}
use Rattle.ice_net.specs.declared.driver.SignalDriver.{SignalDriver}
use Rattle.ice_net.specs.Meaning.{reads, depends_on}
use Rattle.ice_check.specs.Loops.{IsGraphOf}
use Rattle.ice_check.proofs.Graphs.{signals_graph}
use Rattle.ice_base.proofs.Pushed.{mapped_push, mapped_all}
use Rattle.ice_check.proofs.loops.graph_of_signals.Goals as goal

pub loop-driver-preserved : goal.loop-driver-preserved
loop-driver-preserved c =
    mapped_push (λ (driver : SignalDriver). present (reads c.args.netlist.now driver)) c.args.drivers.now c.loop-driver.driver-index _ _ _ _ (omega arith) c.loop-driver.invariant
    c.in_ok-push.ensures.ok (c.deref.ensures.value ∙ c.in_ok-read_by_driver.ensures)

pub returns : goal.returns
returns c =
    let n = c.args.netlist.now in
    let all : c.loop-driver.graph ≡ map (λ (driver : SignalDriver). present (reads n driver)) c.args.drivers.now
    = mapped_all (λ (driver : SignalDriver). present (reads n driver)) c.args.drivers.now c.loop-driver.driver-index c.loop-driver.graph (omega arith) c.loop-driver.invariant in
    subst (λ (rows : List (List ℕ)). IsGraphOf (length n.names) (depends_on n) rows) (sym all) (signals_graph n c.requires.formed c.args.drivers.now c.requires.drivers)
