-- At each moment of workers' steps the words show a state of the core.
use Rattle.std.proofs.Common.{◌≡◌, ℕ, List, [], ◌∷◌, sym, subst, inl, inr}
use Rattle.std.specs.List.{AllByRecursion}
use Rattle.ice_graph.specs.declared.tree.Tree.{Tree}
use Rattle.ice_words.specs.declared.view.Part.{Part}
use Rattle.ice_words.specs.declared.view.View.{View}
use Rattle.ice_words.specs.Views.{no_part}
use Rattle.ice_words.specs.Deeds.{done_all}
use Rattle.ice_words.specs.Lawful.{IsLawful}
use Rattle.ice_words.proofs.Fronts.{lawful_all_along}
use Rattle.ice_words.proofs.Showing.{words_show_core}
use Rattle.ice_worker.specs.Kits.{claims_of, Falls}
use Rattle.ice_worker.specs.Lawfulness.{AreNewOf, IsAtWork, IsWorkEnd, WorkShowsCore}
use Rattle.ice_worker.proofs.Lawful.{work_lawful}

lawful_end : (olds news : List (List ℕ)) (trees : List (ℕ × Tree)) (p : Part) → AreNewOf news trees → Falls (claims_of olds trees) → IsWorkEnd olds trees p → IsLawful olds news p
lawful_end olds news trees p made falls (inl done) = subst (IsLawful olds news) (sym done) (work_lawful olds news trees made falls).done.lawful
lawful_end olds news trees p made falls (inr (number, after, is)) = subst (IsLawful olds news) (sym is) ((work_lawful olds news trees made falls).stopped number after)

lawful_at : (olds news : List (List ℕ)) (p : Part) → IsAtWork olds news p → IsLawful olds news p
lawful_at olds news p at = subst (IsLawful olds news) (sym at.now) (lawful_all_along olds news at.deeds at.done at.may (lawful_end olds news at.trees (done_all no_part at.deeds) at.made at.falls at.end))

lawful_parts : (olds news : List (List ℕ)) (parts : List Part) → AllByRecursion (IsAtWork olds news) parts → AllByRecursion (IsLawful olds news) parts
lawful_parts olds news [] each = tt
lawful_parts olds news (p ∷ parts) each = (lawful_at olds news p each.0, lawful_parts olds news parts each.1)

lawful_views : (olds news : List (List ℕ)) (views : List View) → AllByRecursion (λ v. AllByRecursion (IsAtWork olds news) v.parts) views → AllByRecursion (λ v. AllByRecursion (IsLawful olds news) v.parts) views
lawful_views olds news [] each = tt
lawful_views olds news (v ∷ views) each = (lawful_parts olds news v.parts each.0, lawful_views olds news views each.1)

pub work_shows_core : WorkShowsCore
work_shows_core olds news counts s holds at few = words_show_core olds news counts s holds (lawful_views olds news s.views at) few
