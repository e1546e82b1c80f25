-- What comes into the carry of a cell of a run.
use Rattle.std.proofs.Common.{◌≡◌, ℕ, zero, suc, ◌+◌, cond, None, Some, List, [], ◌∷◌, ◌++◌, length, flat_map, inl, inr, refl, sym, ap, ◌∙◌, subst, eqb, eq-eqb, eqb-true, arith}
use Rattle.std.specs.Prelude.{slice_index_or}
use Rattle.std.proofs.lemmas.Bool.{false_from_ne_true}
use Rattle.std.proofs.lemmas.Option.{same_Some, none-some}
use Rattle.ice_base_values.specs.Order.{At, Has, StandOnce}
use Rattle.ice_base_values.proofs.Members.{At_left, At_right, At_within, At_parts}
use Rattle.ice_cells.specs.declared.design.Design.{Design}
use Rattle.ice_cells.specs.declared.design.Run.{Run}
use Rattle.ice_cells.specs.declared.root.CarryIn.{CarryIn}
use Rattle.ice_cells.specs.declared.root.Root.TheVariants.{CarryOut}
use Rattle.ice_cells.specs.Formed.{cells_in_runs}
use Rattle.ice_cells.specs.Nodes.{Node, Net, Level, into_cell, into_runs, into_carries, node_or, carry_into}

-- ---- lists in which nothing stands twice
once_left : {X : Type 0} (xs ys : List X) → StandOnce (xs ++ ys) → StandOnce xs
once_left xs ys once i j x a b = once i j x (At_left xs ys i x a) (At_left xs ys j x b)

once_right : {X : Type 0} (xs ys : List X) → StandOnce (xs ++ ys) → StandOnce ys
once_right xs ys once i j x a b = let e = once (length xs + i) (length xs + j) x (At_right xs ys i x a) (At_right xs ys j x b) in omega (arith, e)

once_apart : {X : Type 0} (xs ys : List X) → StandOnce (xs ++ ys) → (i j : ℕ) (x : X) → At xs i x → At ys j x → ⊥
once_apart xs ys once i j x a b =
    let e = once i (length xs + j) x (At_left xs ys i x a) (At_right xs ys j x b) in
    let lt = At_within xs i x a in
    omega (arith, e, lt)

once_tail : {X : Type 0} (x : X) (xs : List X) → StandOnce (x ∷ xs) → StandOnce xs
once_tail x xs once i j y a b = let e = once (suc i) (suc j) y a b in omega (arith, e)

-- ---- in one run
-- what comes into the cell at a place, where this comes into the first one
abbrev pub before_at : Node → List ℕ → ℕ → Node
before_at before cells zero = before
before_at before cells (suc q) = Net (CarryOut (slice_index_or cells q 0))

into_at : (before : Node) (cells : List ℕ) (p c : ℕ) → StandOnce cells → At cells p c → into_cell before cells c ≡ Some (before_at before cells p)
into_at before [] p c once at = absurd (none-some c at)
into_at before (x ∷ cells) zero c once at = ap (λ b. cond b (Some before) (into_cell (Net (CarryOut x)) cells c)) (eq-eqb x c (same_Some x c at))
into_at before (x ∷ cells) (suc q) c once at =
    ap (λ b. cond b (Some before) (into_cell (Net (CarryOut x)) cells c)) (false_from_ne_true (eqb x c) (λ e. let f = once 0 (suc q) c (ap Some (eqb-true x c e)) at in omega (arith, f)))
    ∙ into_at (Net (CarryOut x)) cells q c (once_tail x cells once) at ∙ ap Some (same q)
  where
    same : (q : ℕ) → before_at (Net (CarryOut x)) cells q ≡ before_at before (x ∷ cells) (suc q)
    same zero = refl
    same (suc q) = refl

into_none : (before : Node) (cells : List ℕ) (c : ℕ) → (Has cells c → ⊥) → into_cell before cells c ≡ None
into_none before [] c never = refl
into_none before (x ∷ cells) c never =
    ap (λ b. cond b (Some before) (into_cell (Net (CarryOut x)) cells c)) (false_from_ne_true (eqb x c) (λ e. never (0, ap Some (eqb-true x c e))))
    ∙ into_none (Net (CarryOut x)) cells c (λ has. never (suc has.0, has.1))

-- ---- among runs
abbrev pub run_before : Run → ℕ → Node
run_before run p = before_at (Level run.set) run.cells p

abbrev cells_of : Run → List ℕ
cells_of run = run.cells

held : (runs : List Run) (r p c : ℕ) (run : Run) → At runs r run → At run.cells p c → Has (flat_map cells_of runs) c
held [] r p c run at there = absurd (none-some run at)
held (first ∷ runs) zero p c run at there =
    (p, At_left first.cells (flat_map cells_of runs) p c (subst (λ (x : Run). At x.cells p c) (sym (same_Some first run at)) there))
held (first ∷ runs) (suc r) p c run at there =
    let rest = held runs r p c run at there in (length first.cells + rest.0, At_right first.cells (flat_map cells_of runs) rest.0 c rest.1)

into_runs_at : (runs : List Run) (r p c : ℕ) (run : Run) → StandOnce (flat_map cells_of runs) → At runs r run → At run.cells p c → into_runs runs c ≡ Some (run_before run p)
into_runs_at [] r p c run once at there = absurd (none-some run at)
into_runs_at (first ∷ runs) zero p c run once at there =
    let same = same_Some first run at in
    ap (λ o. node_or o (into_runs runs c))
    (into_at (Level first.set) first.cells p c (once_left first.cells (flat_map cells_of runs) once) (subst (λ (x : Run). At x.cells p c) (sym same) there))
    ∙ ap (λ (x : Run). Some (run_before x p)) same
into_runs_at (first ∷ runs) (suc r) p c run once at there =
    let later = held runs r p c run at there in
    ap (λ o. node_or o (into_runs runs c)) (into_none (Level first.set) first.cells c (λ has. once_apart first.cells (flat_map cells_of runs) once has.0 later.0 c has.1 later.1))
    ∙ into_runs_at runs r p c run (once_right first.cells (flat_map cells_of runs) once) at there

-- the run that holds a cell
pub record IsInRun (d : Design) (c : ℕ) : Type 0 where
  pub number : ℕ
  pub place : ℕ
  pub run : Run
  pub run_is : At d.runs number run
  pub cell_is : At run.cells place c

run_of : (runs : List Run) (i c : ℕ) → At (flat_map cells_of runs) i c → (r : ℕ) × (p : ℕ) × (run : Run) × At runs r run × At run.cells p c
run_of [] i c at = absurd (none-some c at)
run_of (first ∷ runs) i c at = elim (At_parts first.cells (flat_map cells_of runs) i c at) [
  | inl here ↦ (0, i, first, refl, here)
  | inr there ↦ let rest = run_of runs there.0 c there.2 in (suc rest.0, rest.1, rest.2, rest.3, rest.4)
]

pub in_run : (d : Design) (c : ℕ) → Has (cells_in_runs d) c → IsInRun d c
in_run d c has = let got = run_of d.runs has.0 c has.1 in record { number = got.0; place = got.1; run = got.2; run_is = got.3; cell_is = got.4 }

-- what comes into the carry of a cell: the level of its run, or the carry of the cell before
pub comes_in : (d : Design) → StandOnce (cells_in_runs d) → d.carries ≡ [] → (c : ℕ) (is : IsInRun d c) → carry_into d c ≡ Some (run_before is.run is.place)
comes_in d once none c is =
    ap (λ (carries : List (ℕ × CarryIn)). node_or (into_carries carries c) (into_runs d.runs c)) none ∙ into_runs_at d.runs is.number is.place c is.run once is.run_is is.cell_is
