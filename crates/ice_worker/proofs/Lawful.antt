-- What a worker did is lawful.
use Rattle.std.proofs.Common.{◌≡◌, ℕ, List, [], ◌∷◌, ◌++◌, All, false, true, refl, ap, inl, inr, ◌∙◌}
use Rattle.std.proofs.lemmas.List.{append-nil}
use Rattle.std.proofs.lemmas.List.Elements.{All-head, All-tail}
use Rattle.std.specs.List.{fold, AllByRecursion}
use Rattle.ice_graph.specs.declared.tree.Tree.{Tree}
use Rattle.ice_core.specs.Routes.{numbers, wires_of}
use Rattle.ice_words.specs.declared.view.Claim.{Claim}
use Rattle.ice_words.specs.Views.{claim_of}
use Rattle.ice_words.specs.Rule.{IsAfter}
use Rattle.ice_words.specs.Lawful.{AreFinished, IsFinished, IsNewestFinished, IsNewestUnderWay}
use Rattle.ice_worker.specs.Kits.{claims_of, finished, Falls}
use Rattle.ice_worker.specs.Lawfulness.{AreNewOf, WorkIsLawful}

finished_from : (olds news : List (List ℕ)) (trees : List (ℕ × Tree)) (cs : List Claim) → AreNewOf news trees → AllByRecursion (IsFinished olds news) cs
    → AllByRecursion (IsFinished olds news) (fold (λ (cs : List Claim) (m : ℕ × Tree). finished olds m ∷ cs) cs trees)
finished_from olds news [] cs same each = each
finished_from olds news (m ∷ trees) cs same each =
    let P : (ℕ × Tree) → Type 0 = λ (m : ℕ × Tree). numbers m.1.wires.items ≡ wires_of news m.0 in
    finished_from olds news trees (finished olds m ∷ cs) (All-tail P m trees same) (record { released = refl; held = All-head P m trees same }, each)

before_of : (olds news : List (List ℕ)) (n : ℕ) (cs : List Claim) → AllByRecursion (IsFinished olds news) cs → IsAfter n cs → Falls cs → AreFinished olds news n cs
before_of olds news n [] each after falls = tt
before_of olds news n (c ∷ cs) each after falls = (after, each.0, before_of olds news c.task cs each.1 falls.0 falls.1)

newest : (olds news : List (List ℕ)) (cs : List Claim) → AllByRecursion (IsFinished olds news) cs → IsNewestFinished olds news cs
newest olds news [] each = tt
newest olds news (c ∷ cs) each = each.0

under_way : (olds news : List (List ℕ)) (cs : List Claim) → AllByRecursion (IsFinished olds news) cs → Falls cs → IsNewestUnderWay olds news cs
under_way olds news [] each falls = tt
under_way olds news (c ∷ cs) each falls = (
  record { left = []; released = append-nil c.released ∙ each.0.released; rest = []; held = append-nil c.held ∙ each.0.held; first = inl refl },
  before_of olds news c.task cs each.1 falls.0 falls.1,
)

pub work_lawful : WorkIsLawful
work_lawful olds news trees same falls = record {
  done = record { lawful = record { claims = under_way olds news (claims_of olds trees) each falls; ended = λ over. newest olds news (claims_of olds trees) each }; over = inl refl };
  stopped = λ number after. record {
    claims = (record { left = wires_of olds number; released = refl; rest = wires_of news number; held = refl; first = inr refl }, before_of olds news number (claims_of olds trees) each after falls);
    ended = λ over. absurd (cc);
  };
}
  where
    each : AllByRecursion (IsFinished olds news) (claims_of olds trees)
    each = finished_from olds news trees [] same tt
