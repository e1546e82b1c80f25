-- A routed layout with its bits.
use Rattle.std.proofs.Common.{◌≡◌, [], ◌∙◌, sym, subst}
use Rattle.std.specs.Prelude.{Result, Ok, Err, IfOk}
use Rattle.std.specs.Global.{Vec}
use Rattle.ice_chip.specs.Database.{Parts}
use Rattle.ice_negotiate_defs.specs.declared.fault.Routed.{Routed}
use Rattle.ice_negotiate_defs.specs.declared.kept.Kept.{Kept}
use Rattle.ice_emit_defs.specs.Routed.{AreTrees}
use Rattle.ice_emit_defs.specs.Written.{IsWritten}
use Rattle.ice_flow_build.specs.Answers.{IsRouted, routes_in}
use Rattle.ice_flow_build.specs.Laid.{plan_in}
use Rattle.ice_flow_build.specs.Stages.{IsRoutedLayout, IsFinished}
use Rattle.ice_flow_build.specs.declared.answer.Built.{Built}
use Rattle.ice_flow_build.specs.declared.answer.BuildFault.{BuildFault}
use Rattle.ice_flow_build.specs.declared.answer.Effort.{Effort}
use Rattle.ice_flow_build.specs.declared.answer.Layout.{Layout}
use Rattle.ice_flow_build.specs.declared.answer.RoutedLayout.{RoutedLayout}

pub finished : (parts : Parts) (effort : Effort) (layout : Layout) (made : RoutedLayout) (result : Result Built BuildFault) → IsRoutedLayout parts effort layout made
    → IfOk result (λ built. built.layout ≡ made.layout) → IfOk result (λ built. built.kept ≡ made.kept) → IfOk result (λ built. built.routed ≡ made.routed)
    → IfOk result (λ built. IsWritten parts (plan_in made.layout) made.layout.pads.pullups [] (routes_in made.routed) built.bits) → IfOk result (IsFinished parts effort layout)
finished parts effort layout made (Err fault) is here kept routed written = tt
finished parts effort layout made (Ok built) is here kept routed written = record {
  same = here ∙ is.same;
  routed = subst (λ (l : Layout). IsRouted parts (plan_in l) effort built.kept.items built.routed) is.same
      (subst (λ (k : Vec Kept). IsRouted parts (plan_in made.layout) effort k.items built.routed) (sym kept)
      (subst (λ (r : Routed). IsRouted parts (plan_in made.layout) effort made.kept.items r) (sym routed) is.routed));
  trees = subst (λ (l : Layout). AreTrees parts (plan_in l) (routes_in built.routed)) is.same
      (subst (λ (r : Routed). AreTrees parts (plan_in made.layout) (routes_in r)) (sym routed) is.trees);
  written = subst (λ (l : Layout). IsWritten parts (plan_in l) l.pads.pullups [] (routes_in built.routed) built.bits) is.same
      (subst (λ (r : Routed). IsWritten parts (plan_in made.layout) made.layout.pads.pullups [] (routes_in r) built.bits) (sym routed) written);
}
