-- The counts at the close are those of the routes.
use Rattle.std.proofs.Common.{◌≡◌, ℕ, ◌+◌, List, [], ◌∷◌, length, min, sym, ap, subst, arith, ◌∙◌, inl, inr}
use Rattle.std.specs.List.{AllByRecursion}
use Rattle.ice_words.specs.declared.view.Claim.{Claim}
use Rattle.ice_words.specs.declared.view.Part.{Part}
use Rattle.ice_words.specs.declared.view.View.{View}
use Rattle.ice_core.specs.Routes.{times, sum_below, wires_of}
use Rattle.ice_words.specs.Views.{total_in, total, one, task_by, released_on, held_on, releases_of, holds_of, ends}
use Rattle.ice_words.specs.Lawful.{IsFinished, AreFinished, IsNewestFinished, IsNewestUnderWay, IsSettled, ClosingLaw}
use Rattle.ice_core.proofs.Sums.{sum_same, below_ones}

all_before : (olds news : List (List ℕ)) (n : ℕ) (claims : List Claim) → AreFinished olds news n claims → AllByRecursion (IsFinished olds news) claims
all_before olds news n [] are = tt
all_before olds news n (c ∷ cs) are = (are.1, all_before olds news c.task cs are.2)

pub all_finished : (olds news : List (List ℕ)) (claims : List Claim) → IsNewestUnderWay olds news claims → IsNewestFinished olds news claims → AllByRecursion (IsFinished olds news) claims
all_finished olds news [] way done = tt
all_finished olds news (c ∷ cs) way done = (done, all_before olds news c.task cs way.1)

settled_finished : (olds news : List (List ℕ)) (p : Part) → IsSettled olds news p → AllByRecursion (IsFinished olds news) p.claims
settled_finished olds news p is = elim is.over [
  | inl over ↦ all_finished olds news p.claims is.lawful.claims (is.lawful.ended over)
  | inr none ↦ subst (AllByRecursion (IsFinished olds news)) (sym none) tt
]

-- over parts that are settled a number of what is released, or held, is that of the tasks
settled_total : (olds news : List (List ℕ)) (v : View) (g k : Claim → ℕ) → ((c : Claim) → IsFinished olds news c → g c ≡ k c) → AllByRecursion (IsSettled olds news) v.parts → total g v ≡ total k v
settled_total olds news v g k same each = sum_same (IsSettled olds news) (total_in g) (total_in k) (λ p is. sum_same (IsFinished olds news) g k same p.claims (settled_finished olds news p is)) v.parts each

pub closing_law : ClosingLaw
closing_law v closed news is ended each =
    let olds = v.olds in
    let n : ℕ = length olds in
    let all : min (total one v + ends v) n ≡ n = omega (arith, ended, is.draws (λ x. 1), below_ones (min (total one v + ends v) n)) in
    let drawn = λ (f : ℕ → ℕ). is.draws f ∙ ap (λ m. sum_below m f) all in
    let settled = λ (g k : Claim → ℕ) (same : (c : Claim) → IsFinished olds news c → g c ≡ k c). settled_total olds news v g k same each in
    record {
      counts = λ w lt.
          let released = settled (released_on w) (task_by (λ t. times w (wires_of olds t))) (λ c done. ap (times w) done.released) in
          let held = settled (held_on w) (task_by (λ t. times w (wires_of news t))) (λ c done. ap (times w) done.held) in
          omega (arith, is.counts w lt, released, held, drawn (λ t. times w (wires_of olds t)), drawn (λ t. times w (wires_of news t)));
      claims = drawn (λ x. 1) ∙ below_ones n;
      releases = settled releases_of (task_by (λ t. length (wires_of olds t))) (λ c done. ap length done.released) ∙ drawn (λ t. length (wires_of olds t));
      holds = settled holds_of (task_by (λ t. length (wires_of news t))) (λ c done. ap length done.held) ∙ drawn (λ t. length (wires_of news t));
    }
