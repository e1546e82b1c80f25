-- Workers' hands are taken in.
use Rattle.std.proofs.Common.{◌≡◌, ◌≢◌, ℕ, List, [], ◌∷◌, ◌++◌, ◌+◌, ◌-◌, Option, None, Some, false, refl, sym, ap, subst, arith, ◌∙◌}
use Rattle.ice_graph.specs.Network.{Network}
use Rattle.ice_core.specs.declared.round_prices.RoundPrices.{RoundPrices}
use Rattle.ice_core.specs.declared.task.Task.{Task}
use Rattle.ice_words.specs.declared.view.Part.{Part}
use Rattle.ice_words.specs.declared.view.View.{View}
use Rattle.ice_words.specs.Views.{claim_of, with_parts}
use Rattle.ice_words.specs.Grips.{Board}
use Rattle.ice_worker.specs.declared.stop.WorkStop.{WorkStop}
use Rattle.ice_worker.specs.declared.stop.WorkStop.TheVariants.{Unreachable, NoMemory}
use Rattle.ice_worker.specs.Kits.{claims_of, made_by}
use Rattle.ice_negotiate_round.specs.declared.jobs.Job.{Job}
use Rattle.ice_negotiate_round.specs.declared.jobs.Done.{Done}
use Rattle.ice_negotiate_round.specs.Jobs.{HasWorked, main_view, worker_of}
use Rattle.ice_negotiate_round.specs.Played.{IsLeft, part_by, part_of, parts_of}

pub worked_part : (graph : Network) (r : RoundPrices) (tasks : List Task) (board : Board) (job : Job) (h : HasWorked graph r tasks board job) → job.stop ≢ Some NoMemory → h.part ≡ part_by (claims_of board.olds (made_by job.kit)) job.stop
worked_part graph r tasks board job h some_memory = by_stop job.stop refl
  where
    by_stop : (stop : Option WorkStop) → job.stop ≡ stop → h.part ≡ part_by (claims_of board.olds (made_by job.kit)) stop
    by_stop None is = h.done is
    by_stop (Some (Unreachable task sink)) is =
        let t = h.stop (Unreachable task sink) is in
        t.2 ∙ ap (λ n. record { claims = claim_of n ∷ claims_of board.olds (made_by job.kit); ended = false }) (sym t.1.0)
    by_stop (Some NoMemory) is = absurd (some_memory is)

pub left_of : (graph : Network) (r : RoundPrices) (tasks : List Task) (board : Board) (job : Job) (d : Done) → HasWorked graph r tasks board job → job.stop ≢ Some NoMemory → d ≡ record { kit = job.kit; stop = job.stop } → IsLeft graph r tasks board.olds d
left_of graph r tasks board job d h memory is = subst (IsLeft graph r tasks board.olds) (sym is) (record {
  made = h.made;
  falls = h.falls;
  memory = memory;
  stop = λ task sink at. (let t = h.stop (Unreachable task sink) at in t.1.1);
  kit = h.kit;
})

pub parts_push : (olds : List (List ℕ)) (dones : List Done) (d : Done) → parts_of olds (dones ++ d ∷ []) ≡ parts_of olds dones ++ part_of olds d ∷ []
parts_push olds [] d = refl
parts_push olds (x ∷ dones) d = ap (λ (ps : List Part). part_of olds x ∷ ps) (parts_push olds dones d)

-- one hand more is taken in
pub joined_view : (board : Board) (splits out : ℕ) (dones : List Done) (d : Done) (part : Part) (main other new : View) → main ≡ main_view board splits (out + 1) (parts_of board.olds dones) → other ≡ worker_of board part → part ≡ part_of board.olds d → new ≡ with_parts main other
    → new ≡ main_view board splits out (parts_of board.olds (dones ++ d ∷ []))
joined_view board splits out dones d part main other new main_is other_is part_is is =
    let one_less : (out + 1) - 1 ≡ out = omega arith in
    is ∙ (ap (λ (v : View). with_parts v other) main_is
    ∙ (ap (λ (v : View). with_parts (main_view board splits (out + 1) (parts_of board.olds dones)) v) other_is
    ∙ (ap (λ (k : ℕ). main_view board splits k (parts_of board.olds dones ++ part ∷ [])) one_less
    ∙ ap (λ (ps : List Part). main_view board splits out ps) (ap (λ (p : Part). parts_of board.olds dones ++ p ∷ []) part_is ∙ sym (parts_push board.olds dones d)))))
