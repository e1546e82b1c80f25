-- At each moment of a round the words show a state of the core.
use Rattle.std.proofs.Common.{◌≡◌, ℕ, List, [], ◌∷◌}
use Rattle.std.proofs.lemmas.List.Elements.{All-weaker}
use Rattle.std.specs.List.{AllByRecursion}
use Rattle.ice_graph.specs.declared.tree.Tree.{Tree}
use Rattle.ice_graph.specs.Network.{Network}
use Rattle.ice_core.specs.declared.round_prices.RoundPrices.{RoundPrices}
use Rattle.ice_core.specs.declared.task.Task.{Task}
use Rattle.ice_core.specs.Routes.{numbers, old_wires, wires_of}
use Rattle.ice_words.specs.declared.view.Part.{Part}
use Rattle.ice_words.specs.declared.view.View.{View}
use Rattle.ice_worker.specs.Lawfulness.{IsAtWork}
use Rattle.ice_worker.specs.Tasks.{IsMade}
use Rattle.ice_worker.proofs.Moments.{work_shows_core}
use Rattle.ice_negotiate_round.specs.Moments.{AreNewRoutes, IsInPlay, PlayShowsCore, TreesAreNewRoutes}
use Rattle.ice_negotiate_round.proofs.Finishing.{made_wires}

module _ (graph : Network) (r : RoundPrices) (tasks : List Task) (news : List (List ℕ)) (are : AreNewRoutes graph r tasks news) where
  at_work : (p : Part) → IsInPlay graph r tasks p → IsAtWork (old_wires tasks) news p
  at_work p at = record {
    deeds = at.deeds;
    may = at.may;
    trees = at.trees;
    made = All-weaker (IsMade graph r tasks) (λ (m : ℕ × Tree). numbers m.1.wires.items ≡ wires_of news m.0) are at.trees at.made;
    falls = at.falls;
    end = at.end;
    done = at.done;
    now = at.now;
  }

  parts_at_work : (parts : List Part) → AllByRecursion (IsInPlay graph r tasks) parts → AllByRecursion (IsAtWork (old_wires tasks) news) parts
  parts_at_work [] each = tt
  parts_at_work (p ∷ parts) each = (at_work p each.0, parts_at_work parts each.1)

  views_at_work : (views : List View) → AllByRecursion (λ v. AllByRecursion (IsInPlay graph r tasks) v.parts) views → AllByRecursion (λ v. AllByRecursion (IsAtWork (old_wires tasks) news) v.parts) views
  views_at_work [] each = tt
  views_at_work (v ∷ views) each = (parts_at_work v.parts each.0, views_at_work views each.1)

pub play_shows_core : PlayShowsCore
play_shows_core graph r tasks news s are holds at few = work_shows_core (old_wires tasks) news r.counts.items s holds (views_at_work graph r tasks news are s.views at) few

pub trees_are_new_routes : TreesAreNewRoutes
trees_are_new_routes graph r tasks news are = made_wires graph r tasks news are
