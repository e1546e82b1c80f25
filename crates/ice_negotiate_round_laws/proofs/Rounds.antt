-- When all workers of the core have ended, their trees are the round.
use Rattle.std.proofs.Common.{◌≡◌, ℕ, List, length, refl, sym, ap, arith, ◌∙◌}
use Rattle.std.proofs.lemmas.List.{length-map}
use Rattle.std.specs.List.{sum_by}
use Rattle.ice_graph.specs.declared.tree.Tree.{Tree}
use Rattle.ice_core.specs.declared.task.Task.{Task}
use Rattle.ice_core.specs.Machine.{IsReached}
use Rattle.ice_core.specs.Moments.{HaveEnded}
use Rattle.ice_core.specs.Routes.{IsOpening, numbers, old_wires, sum_below, times, tree_wires}
use Rattle.ice_core.proofs.Counting.{core_counts, reached_counted}
use Rattle.ice_core.proofs.Sums.{below_lists}
use Rattle.ice_words.specs.Grips.{Shut, shut_of}
use Rattle.ice_negotiate_round.specs.Played.{IsPlayed}
use Rattle.ice_negotiate_round.proofs.Ending.{is_round, is_tally}
use Rattle.ice_negotiate_round.proofs.Opening.{are_playable}
use Rattle.ice_negotiate_round_laws.specs.Rounds.{EventsMakeRounds}

pub events_make_rounds : EventsMakeRounds
events_make_rounds graph nets r trees moved tasks news t of play =
    let olds : List (List ℕ) = old_wires tasks in
    let new_routes : List (List ℕ) = tree_wires news in
    let opening : IsOpening olds r.counts.items = (are_playable nets trees moved tasks of.each of.different of.many graph r of.few of.counts of.once of.bounded of.routable).opening in
    let many : length new_routes ≡ length olds = length-map news (λ (tree : Tree). numbers tree.wires.items) ∙ (of.made.long ∙ sym (length-map tasks (λ (task : Task). numbers task.old.items))) in
    let reached : IsReached olds new_routes r.counts.items t = record { start = play.start; begins = play.begins; events = play.events; leads = play.leads } in
    let long : length t.counts ≡ length r.counts.items = (reached_counted olds new_routes r.counts.items t opening reached).long in
    let ended : HaveEnded olds new_routes r.counts.items t = (core_counts olds new_routes r.counts.items play.start t play.events opening many play.begins play.leads).ended play.some_of play.ended in
    let shut : Shut = shut_of r.counts.items t.counts 0 0 (length tasks) (sum_by length olds) (sum_by length new_routes) in
    let played : IsPlayed graph r tasks news shut = record {
      trees = of.made;
      opened = refl;
      long = long;
      closed = λ w lt. omega (arith, ended.counts w lt, opening.counted w lt, below_lists (times w) olds);
      claims = refl;
      releases = refl;
      holds = refl;
    } in
    record {
      claimed = λ f. ended.claimed f ∙ ap (λ n. sum_below n f) (length-map tasks (λ (task : Task). numbers task.old.items));
      routes = ended.routes;
      counts = (is_tally graph r nets trees moved tasks news shut of.each of.different of.many of.few of.counts of.once of.bounded played).closed;
      round = is_round graph r nets trees moved tasks news shut of.each of.different of.many of.few of.counts of.once of.bounded played;
    }
