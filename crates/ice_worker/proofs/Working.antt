-- A worker's tasks, one by one.
use Rattle.std.proofs.Common.{◌≡◌, ℕ, zero, suc, ◌<◌, Bool, List, [], ◌∷◌, ◌++◌, All, length, get_or, false, true, slice_get, Some, refl, sym, ap, subst, arith, ◌∙◌}
use Rattle.std.proofs.lemmas.Option.{slice_get_within, slice_get_read, get_or_from_slice_get}
use Rattle.std.proofs.lemmas.List.Elements.{All-get_or}
use Rattle.std.proofs.lemmas.List.Sums.{fold_push}
use Rattle.std.specs.List.{fold, AllByRecursion}
use Rattle.ice_words.specs.declared.view.Claim.{Claim}
use Rattle.ice_words.specs.declared.view.Part.{Part}
use Rattle.ice_words.specs.declared.view.View.{View}
use Rattle.ice_core.specs.declared.round_prices.RoundPrices.{RoundPrices}
use Rattle.ice_core.specs.declared.task.Task.{Task}
use Rattle.ice_core.specs.Routes.{numbers, old_wires, wires_of, IsOpening}
use Rattle.ice_base.specs.declared.number.WireNo.{WireNo}
use Rattle.ice_graph.specs.declared.tree.Tree.{Tree}
use Rattle.ice_graph.specs.Network.{Network}
use Rattle.ice_path.specs.Room.{AreWires}
use Rattle.ice_words.specs.Views.{with_own, own_changed, own, first_part, claim_of, claiming, ending, posted}
use Rattle.ice_words.specs.Rule.{IsNewestReleased}
use Rattle.ice_negotiate_defs.specs.declared.stop.TreeStop.{TreeStop}
use Rattle.ice_negotiate_defs.specs.declared.stop.TreeStop.TheVariants.{Unreachable, NoMemory}
use Rattle.ice_negotiate_defs.specs.Trees.{IsCause}
use Rattle.ice_worker.proofs.Wires.{wires_within}
use Rattle.ice_worker.specs.Tasks.{ArePlayable}
use Rattle.ice_worker.specs.Work.{changing, finished_as}
use Rattle.ice_worker.proofs.Stepping.{with_list}
use Rattle.ice_worker.specs.Kits.{Stops, stop_as, finished, claims_of, with_claims, AreFresh, IsFresh}

pub wires_at : (tasks : List Task) (i : ℕ) (t : Task) → slice_get tasks i ≡ Some t → wires_of (old_wires tasks) i ≡ numbers t.old.items
wires_at [] i t at = absurd (let none : List Task = [] in let lt : i < 0 = slice_get_within none i t at in omega arith)
wires_at (x ∷ tasks) zero t at = ap (λ (u : Task). numbers u.old.items) (get_or_from_slice_get (x ∷ tasks) 0 t x at)
wires_at (x ∷ tasks) (suc i) t at = wires_at tasks i t at

pub old_within : (olds : List (List ℕ)) (counts : List ℕ) (t : ℕ) (wires : List WireNo) → IsOpening olds counts → numbers wires ≡ wires_of olds t → AreWires (length counts) wires
old_within olds counts t wires opening is = wires_within (length counts) wires (subst (AllByRecursion (λ w. w < length counts)) (sym is) (opening.within t))

-- the opening that a hand knows is that of the tasks
pub hand_opening : (v : View) (graph : Network) (r : RoundPrices) (tasks : List Task) → ArePlayable graph r tasks → v.olds ≡ old_wires tasks → v.counts ≡ r.counts.items → IsOpening v.olds v.counts
hand_opening v graph r tasks playable olds counts =
    subst (λ (o : List (List ℕ)). IsOpening o v.counts) (sym olds) (subst (λ (c : List ℕ). IsOpening (old_wires tasks) c) (sym counts) playable.opening)

-- what holds of all tasks holds of one of them
pub task_at : (P : Task → Type 0) (tasks : List Task) (i : ℕ) (t : Task) → t ≡ get_or tasks i t → i < length tasks → All P tasks → P t
task_at P tasks i t is lt all = subst P (sym is) (All-get_or P tasks i t lt all)

-- the old wires of a task that was read
pub old_of : (olds : List (List ℕ)) (tasks : List Task) (i : ℕ) (t : Task) → olds ≡ old_wires tasks → t ≡ get_or tasks i t → i < length tasks → numbers t.old.items ≡ wires_of olds i
old_of olds tasks i t same is lt = sym (wires_at tasks i t (slice_get_read tasks (length tasks) i t refl lt is)) ∙ ap (λ os. wires_of os i) (sym same)

pub stops_as : (graph : Network) (tasks : List Task) (number : ℕ) (t : Task) (cut : TreeStop) → slice_get tasks number ≡ Some t → IsCause graph.edges t.root t.sinks.items cut → Stops graph tasks number (stop_as number cut)
stops_as graph tasks number t (Unreachable sink) at cause = (refl, (t, at, cause))
stops_as graph tasks number t NoMemory at cause = tt

-- ---- the claims so far
pub claims_push : (olds : List (List ℕ)) (trees : List (ℕ × Tree)) (m : ℕ × Tree) → claims_of olds (trees ++ m ∷ []) ≡ finished olds m ∷ claims_of olds trees
claims_push olds trees m = fold_push (λ (cs : List Claim) (m : ℕ × Tree). finished olds m ∷ cs) [] trees m

released_from : (olds : List (List ℕ)) (trees : List (ℕ × Tree)) (cs : List Claim) → IsNewestReleased olds cs → IsNewestReleased olds (fold (λ (cs : List Claim) (m : ℕ × Tree). finished olds m ∷ cs) cs trees)
released_from olds [] cs whole = whole
released_from olds (m ∷ trees) cs whole = released_from olds trees (finished olds m ∷ cs) refl

pub all_released : (olds : List (List ℕ)) (trees : List (ℕ × Tree)) → IsNewestReleased olds (claims_of olds trees)
all_released olds trees = released_from olds trees [] tt

-- a fresh hand's own part with these claims
pub own_with : (cs : List Claim) (v : View) → IsFresh v → own (with_claims cs v) ≡ record { claims = cs; ended = false }
own_with cs v fresh = own_of v.parts fresh
  where
    own_of : (ps : List Part) → AreFresh ps → first_part (own_changed (λ (p : Part). record { claims = cs; ended = p.ended }) ps) ≡ record { claims = cs; ended = false }
    own_of [] fresh = absurd fresh
    own_of (p ∷ ps) fresh = ap (λ (q : Part). record { claims = cs; ended = q.ended }) fresh

pub first_claims : (v : View) → IsFresh v → v ≡ with_claims [] v
first_claims v fresh = ap (with_list v) (sym (same_parts v.parts fresh))
  where
    same_parts : (ps : List Part) → AreFresh ps → own_changed (λ (p : Part). record { claims = []; ended = p.ended }) ps ≡ ps
    same_parts [] fresh = refl
    same_parts (p ∷ ps) fresh = ap (λ (q : Part). q ∷ ps) (subst (λ (q : Part). record { claims = []; ended = q.ended } ≡ q) (sym fresh) refl)

-- a step of the own part on such a view
pub with_more : (f : Part → Part) (cs ds : List Claim) (v : View) → ((b : Bool) → f (record { claims = cs; ended = b }) ≡ record { claims = ds; ended = b }) → with_own f (with_claims cs v) ≡ with_claims ds v
with_more f cs ds v same = ap (with_list v) (parts_of v.parts)
  where
    parts_of : (ps : List Part) → own_changed f (own_changed (λ (p : Part). record { claims = cs; ended = p.ended }) ps) ≡ own_changed (λ (p : Part). record { claims = ds; ended = p.ended }) ps
    parts_of [] = refl
    parts_of (p ∷ ps) = ap (λ (q : Part). q ∷ ps) (same p.ended)

-- a fresh hand's own part once it has claimed one more
pub own_claimed : (number : ℕ) (cs : List Claim) (v u w : View) → IsFresh v → posted u ≡ posted (with_claims cs v) → w ≡ with_own (claiming number) u → own w ≡ record { claims = claim_of number ∷ cs; ended = false }
own_claimed number cs v u w fresh before is =
    ap (λ (x : View). own x) (ap posted is ∙ (ap (λ (x : View). with_own (claiming number) x) before ∙ with_more (claiming number) cs (claim_of number ∷ cs) (posted v) (λ b. refl)))
    ∙ own_with (claim_of number ∷ cs) (posted v) fresh

pub with_end : (cs : List Claim) (v : View) → with_own ending (with_claims cs v) ≡ with_own (λ p. record { claims = cs; ended = true }) v
with_end cs v = ap (with_list v) (parts_of v.parts)
  where
    parts_of : (ps : List Part) → own_changed ending (own_changed (λ (p : Part). record { claims = cs; ended = p.ended }) ps) ≡ own_changed (λ (p : Part). record { claims = cs; ended = true }) ps
    parts_of [] = refl
    parts_of (p ∷ ps) = refl

-- one task more
pub task_done : (v v1 v2 : View) (cs : List Claim) (n : ℕ) (m : ℕ × Tree) → v1 ≡ with_own (claiming n) (with_claims cs v) → v2 ≡ with_own (changing (finished_as (wires_of v1.olds n) (numbers m.1.wires.items))) v1 → m.0 ≡ n
    → v2 ≡ with_claims (finished v.olds m ∷ cs) v
task_done v v1 v2 cs n m claimed done is =
    let e1 : v1 ≡ with_claims (claim_of n ∷ cs) v = claimed ∙ with_more (claiming n) cs (claim_of n ∷ cs) v (λ b. refl) in
    let e2 : v2 ≡ with_own (changing (finished_as (wires_of v.olds n) (numbers m.1.wires.items))) (with_claims (claim_of n ∷ cs) v) = subst (λ (u : View). v2 ≡ with_own (changing (finished_as (wires_of u.olds n) (numbers m.1.wires.items))) u) e1 done in
    let e3 = with_more (changing (finished_as (wires_of v.olds n) (numbers m.1.wires.items))) (claim_of n ∷ cs) (record { task = n; released = wires_of v.olds n; held = (numbers m.1.wires.items) } ∷ cs) v (λ b. refl) in
    e2 ∙ (e3 ∙ ap (λ k. with_claims (record { task = k; released = wires_of v.olds k; held = (numbers m.1.wires.items) } ∷ cs) v) (sym is))
