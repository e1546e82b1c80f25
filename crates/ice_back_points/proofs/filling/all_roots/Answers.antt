use Rattle.std.proofs.Common.{List, length, All, ap, ◌∙◌, subst, sym, false}
use Rattle.std.proofs.lemmas.List.{length-replicate}
use Rattle.ice_bits.specs.Configuration.{bits_of}
use Rattle.ice_decode.specs.declared.point.Point.{Point}
use Rattle.ice_decode.specs.Points.{HasWire}
use Rattle.ice_back_laws.specs.declared.root.LevelRoot.{LevelRoot}
use Rattle.ice_back_laws.specs.declared.root.LevelRoot.TheVariants.{Fixed}
use Rattle.ice_back_points.specs.Filling.{filled, AreRoots}
use Rattle.ice_base_values.proofs.Places.{written}
use Rattle.ice_back_points.proofs.ConfiguredFacts.{order_wires}
use Rattle.ice_back_points.proofs.Filled.{all_filled}
use Rattle.ice_back_points.proofs.filling.all_roots.Goals as goal

pub fill-requires-clause-order : goal.fill-requires-clause-order
fill-requires-clause-order c =
    subst (λ (order : List Point). All (HasWire c.args.chip.now) order) (sym c.order.ensures) (order_wires c.args.chip.now (bits_of c.args.circuit.now.configuration) c.args.circuit.now.configuration.extras c.args.circuit.now.order c.requires.ordered)

pub returns : goal.returns
returns c =
    subst (λ (roots : List LevelRoot). AreRoots c.args.chip.now (bits_of c.args.circuit.now.configuration) c.args.circuit.now.configuration.extras c.args.pads.now.keys roots)
    (sym (written c.in_ok-roots.roots.len c.in_ok-roots.roots.items c.fill.new.roots (c.fill.auto.roots ∙ ap length c.deref_mut.ensures.value) c.in_ok-roots.roots.ok.0
    ∙ c.fill.ensures
    ∙ ap (λ (order : List Point). filled c.args.chip.now (bits_of c.args.circuit.now.configuration) c.args.circuit.now.configuration.extras c.args.pads.now.keys order c.deref_mut.result.now) c.order.ensures))
    (all_filled c.args.chip.now (bits_of c.args.circuit.now.configuration) c.args.circuit.now.configuration.extras c.args.circuit.now.order c.requires.ordered c.args.pads.now.keys c.deref_mut.result.now
    (ap length (c.deref_mut.ensures.value ∙ c.in_ok-roots.ensures.items_if_clones_equal (λ y h. h)) ∙ length-replicate c.wires.result (Fixed false) ∙ c.wires.ensures.wires))
