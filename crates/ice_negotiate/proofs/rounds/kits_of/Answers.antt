use Rattle.std.proofs.Common.{◌≡◌, ◌++◌, ◌∷◌, [], All, List, arith, subst, sym}
use Rattle.std.proofs.lemmas.List.Elements.{All-push}
use Rattle.ice_worker.specs.declared.kit.Kit.{Kit}
use Rattle.ice_worker.specs.Kits.{IsKitOf}
use Rattle.ice_negotiate.proofs.rounds.kits_of.Goals as goal

pub loop-worker-preserved : goal.loop-worker-preserved
loop-worker-preserved c =
    let P : Kit → Type 0 = IsKitOf c.args.graph.now in
    let e : c.push.new.self.items ≡ c.loop-worker.kits.items ++ c.in_ok-new.field-0 ∷ [] = c.in_ok-push.ensures.items in
    record {
      many = omega (arith, c.in_ok-push.ensures.len, c.loop-worker.invariant.many);
      kits = subst (λ (ks : List Kit). All P ks) (sym e) (All-push P c.loop-worker.kits.items c.in_ok-new.field-0 c.loop-worker.invariant.kits c.in_ok-new.ensures.kit);
    }
