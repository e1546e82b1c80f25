use Rattle.std.proofs.Common.{◌≡◌, ℕ, ◌∷◌, All, List, refl, sym, ap, subst, ◌∙◌}
use Rattle.std.proofs.lemmas.List.Elements.{All-push}
use Rattle.ice_words.specs.declared.view.View.{View}
use Rattle.ice_words.specs.declared.view.Part.{Part}
use Rattle.ice_words.specs.declared.view.Claim.{Claim}
use Rattle.ice_words.specs.Views.{own, with_own, claim_of, claiming, posted}
use Rattle.ice_words.specs.Grips.{Grip}
use Rattle.ice_words.specs.Rule.{IsNewestReleased, IsAfter}
use Rattle.ice_graph.specs.declared.tree.Tree.{Tree}
use Rattle.ice_worker.specs.Tasks.{IsMade}
use Rattle.ice_worker.specs.Work.{IsNew}
use Rattle.ice_worker.specs.Kits.{Falls, claims_of, with_claims, finished}
use Rattle.ice_worker.proofs.Working.{all_released, own_claimed, own_with, claims_push, task_done, with_more}
use Rattle.ice_worker.proofs.worker.do_all.Goals as goal

pub claim-requires-clause-whole : goal.claim-requires-clause-whole
claim-requires-clause-whole g c =
    let v = c.args.hand.now.view in
    let trees = c.loop-number.kit.trees.items in
    subst (λ (u : View). IsNewestReleased u.olds (own u).claims) (sym c.loop-number.invariant.view)
    (subst (λ (p : Part). IsNewestReleased v.olds p.claims) (sym (own_with (claims_of v.olds trees) v c.requires.fresh)) (all_released v.olds trees))

pub do_task-requires-clause-of : goal.do_task-requires-clause-of
do_task-requires-clause-of g c = c.in-Some.ensures.of

pub do_task-requires-clause-tasks : goal.do_task-requires-clause-tasks
do_task-requires-clause-tasks g c = ap (λ (u : View). u.olds) c.in-Some.ensures.number.2 ∙ (ap (λ (u : View). u.olds) c.loop-number.invariant.view ∙ c.requires.tasks)

pub do_task-requires-clause-counts : goal.do_task-requires-clause-counts
do_task-requires-clause-counts g c = ap (λ (u : View). u.counts) c.in-Some.ensures.number.2 ∙ (ap (λ (u : View). u.counts) c.loop-number.invariant.view ∙ c.requires.counts)

pub do_task-requires-clause-going : goal.do_task-requires-clause-going
do_task-requires-clause-going g c =
    let v = c.args.hand.now.view in
    ap (λ (p : Part). p.ended) (own_claimed c.in-Some.number (claims_of v.olds c.loop-number.kit.trees.items) v c.loop-number.hand.view c.claim.new.hand.view c.requires.fresh c.loop-number.invariant.view c.in-Some.ensures.number.2)

pub do_task-requires-clause-new : goal.do_task-requires-clause-new
do_task-requires-clause-new g c =
    let v = c.args.hand.now.view in
    subst (λ (p : Part). IsNew c.in-Some.number p.claims)
    (sym (own_claimed c.in-Some.number (claims_of v.olds c.loop-number.kit.trees.items) v c.loop-number.hand.view c.claim.new.hand.view c.requires.fresh c.loop-number.invariant.view c.in-Some.ensures.number.2))
    refl

pub do_task-requires-clause-kit : goal.do_task-requires-clause-kit
do_task-requires-clause-kit g c = c.loop-number.invariant.kit

pub returns-in_default-clause-made : goal.returns-in_default-clause-made
returns-in_default-clause-made g c = c.loop-number.invariant.made

pub returns-in_default-clause-falls : goal.returns-in_default-clause-falls
returns-in_default-clause-falls g c = c.loop-number.invariant.falls

pub returns-in-Err-clause-falls : goal.returns-in-Err-clause-falls
returns-in-Err-clause-falls g c =
    subst (λ (trees : List (ℕ × Tree)). Falls (claims_of c.args.hand.now.view.olds trees)) (sym c.in-Err.ensures.stop.2) c.loop-number.invariant.falls

pub returns-in-Err-clause-stop : goal.returns-in-Err-clause-stop
returns-in-Err-clause-stop g c =
    let v = c.args.hand.now.view in
    let number : ℕ = c.in-Some.number in
    let trees : List (ℕ × Tree) = c.loop-number.kit.trees.items in
    let cs = claims_of v.olds trees in
    let s = c.in-Err.ensures.stop in
    let after : IsAfter number cs = subst (λ (p : Part). IsAfter number p.claims) (own_with cs v c.requires.fresh) (subst (λ (u : View). IsAfter number (own u).claims) c.loop-number.invariant.view c.in-Some.ensures.number.1) in
    let claimed : posted c.claim.new.hand.view ≡ with_own (claiming number) (with_claims cs (posted v)) = ap posted c.in-Some.ensures.number.2 ∙ ap (λ (u : View). with_own (claiming number) u) c.loop-number.invariant.view in
    let view : posted c.do_task.new.hand.view ≡ with_claims (claim_of number ∷ cs) (posted v) = ap (λ (h : Grip). posted h.view) s.1 ∙ (claimed ∙ with_more (claiming number) cs (claim_of number ∷ cs) (posted v) (λ b. refl)) in
    let claims : cs ≡ claims_of v.olds c.do_task.new.kit.trees.items = ap (claims_of v.olds) (sym s.2) in
    record {
      number = number;
      cause = s.0;
      after = subst (λ (ds : List Claim). IsAfter number ds) claims after;
      view = view ∙ ap (λ (ds : List Claim). with_claims (claim_of number ∷ ds) (posted v)) claims;
    }

pub returns-in-Err-clause-made : goal.returns-in-Err-clause-made
returns-in-Err-clause-made g c = subst (λ (trees : List (ℕ × Tree)). All (IsMade c.args.graph.now c.args.prices.now c.args.tasks.now) trees) (sym c.in-Err.ensures.stop.2) c.loop-number.invariant.made

pub loop-number-preserved : goal.loop-number-preserved
loop-number-preserved g c =
    let v = c.args.hand.now.view in
    let trees = c.loop-number.kit.trees.items in
    let cs = claims_of v.olds trees in
    let d = c.in_default-do_task.ensures.done in
    let m = d.0 in
    let after : IsAfter m.0 cs = subst (λ (p : Part). IsAfter m.0 p.claims) (own_with cs v c.requires.fresh) (subst (λ (u : View). IsAfter m.0 (own u).claims) c.loop-number.invariant.view (subst (λ k. IsAfter k (own c.loop-number.hand.view).claims) (sym d.1) c.in-Some.ensures.number.1)) in
    let claimed : posted c.claim.new.hand.view ≡ with_own (claiming c.in-Some.number) (with_claims cs (posted v)) = ap posted c.in-Some.ensures.number.2 ∙ ap (λ (u : View). with_own (claiming c.in-Some.number) u) c.loop-number.invariant.view in
    let claims : claims_of v.olds c.do_task.new.kit.trees.items ≡ finished v.olds m ∷ cs = ap (claims_of v.olds) d.4 ∙ claims_push v.olds trees m in
    record {
      of = c.do_task.ensures.of;
      view = task_done (posted v) (posted c.claim.new.hand.view) (posted c.do_task.new.hand.view) cs c.in-Some.number m claimed d.3 d.1 ∙ ap (λ (ds : List Claim). with_claims ds (posted v)) (sym claims);
      made = subst (λ (ts : List (ℕ × Tree)). All (IsMade c.args.graph.now c.args.prices.now c.args.tasks.now) ts) (sym d.4) (All-push (IsMade c.args.graph.now c.args.prices.now c.args.tasks.now) trees m c.loop-number.invariant.made d.2);
      falls = subst Falls (sym claims) (after, c.loop-number.invariant.falls);
      kit = c.do_task.ensures.kit;
    }
