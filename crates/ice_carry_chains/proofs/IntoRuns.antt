-- What comes into the carry of a cell that stands in runs: the level of its run, or the carry of the cell below.
use Rattle.std.proofs.Common.{◌≡◌, ℕ, zero, suc, ◌+◌, ◌<◌, Bool, true, false, cond, None, Some, List, [], ◌∷◌, ◌++◌, length, refl, ap, sym, ◌∙◌, subst, arith}
use Rattle.std.specs.Prelude.{◌==◌}
use Rattle.std.specs.List.{flat_map}
use Rattle.std.proofs.lemmas.Bool.{eq-eqb, eqb-true}
use Rattle.std.proofs.lemmas.Option.{none-some, same_Some}
use Rattle.ice_base_values.specs.Order.{At, Has, StandOnce}
use Rattle.ice_base_values.proofs.Members.{At_left, At_right, At_within}
use Rattle.ice_cells.specs.declared.design.Design.{Design}
use Rattle.ice_cells.specs.declared.design.Run.{Run}
use Rattle.ice_cells.specs.declared.root.CarryIn.{CarryIn}
use Rattle.ice_cells.specs.declared.root.Root.TheVariants.{CarryOut}
use Rattle.ice_cells.specs.Formed.{cells_in_runs}
use Rattle.ice_cells.specs.Nodes.{Node, Net, Level, into_cell, into_runs, into_carries, node_or, carry_into}

-- ---- lists in which nothing stands twice
suc_same : (i j : ℕ) → suc i ≡ suc j → i ≡ j
suc_same i j e = omega arith

plus_same : (n i j : ℕ) → n + i ≡ n + j → i ≡ j
plus_same n i j e = omega arith

before_same : (n i j : ℕ) → i < n → i ≡ n + j → ⊥
before_same n i j lt e = omega arith

pub rest_once : {X : Type 0} (xs ys : List X) → StandOnce (xs ++ ys) → StandOnce ys
rest_once xs ys once i j x at there = plus_same (length xs) i j (once (length xs + i) (length xs + j) x (At_right xs ys i x at) (At_right xs ys j x there))

pub front_once : {X : Type 0} (xs ys : List X) → StandOnce (xs ++ ys) → StandOnce xs
front_once xs ys once i j x at there = once i j x (At_left xs ys i x at) (At_left xs ys j x there)

pub parts_once : {X : Type 0} (xs ys : List X) → StandOnce (xs ++ ys) → (x : X) → Has xs x → Has ys x → ⊥
parts_once xs ys once x (i, at) (j, there) = before_same (length xs) i j (At_within xs i x at) (once i (length xs + j) x (At_left xs ys i x at) (At_right xs ys j x there))

-- ---- in one run
other_cell : (x c : ℕ) (cells : List ℕ) (i : ℕ) → StandOnce (x ∷ cells) → At cells i c → (x == c) ≡ false
other_cell x c cells i once at = by (x == c) refl
  where
    never : (i : ℕ) → 0 ≡ suc i → ⊥
    never i e = omega arith

    by : (b : Bool) → (x == c) ≡ b → (x == c) ≡ false
    by false e = e
    by true e = absurd (never i (once 0 (suc i) c (ap Some (eqb-true x c e)) at))

into_first : (node : Node) (cells : List ℕ) (c : ℕ) → At cells 0 c → into_cell node cells c ≡ Some node
into_first node [] c at = absurd (none-some c at)
into_first node (x ∷ cells) c at = ap (λ b. cond b (Some node) (into_cell (Net (CarryOut x)) cells c)) (eq-eqb x c (same_Some x c at))

into_next : (node : Node) (cells : List ℕ) (i x c : ℕ) → StandOnce cells → At cells i x → At cells (suc i) c → into_cell node cells c ≡ Some (Net (CarryOut x))
into_next node [] i x c once at there = absurd (none-some c there)
into_next node (y ∷ cells) zero x c once at there =
    ap (λ b. cond b (Some node) (into_cell (Net (CarryOut y)) cells c)) (other_cell y c cells 0 once there) ∙ into_first (Net (CarryOut y)) cells c there
    ∙ ap (λ k. Some (Net (CarryOut k))) (same_Some y x at)
into_next node (y ∷ cells) (suc i) x c once at there =
    ap (λ b. cond b (Some node) (into_cell (Net (CarryOut y)) cells c)) (other_cell y c cells (suc i) once there)
    ∙ into_next (Net (CarryOut y)) cells i x c (rest_once (y ∷ []) cells once) at there

into_none : (node : Node) (cells : List ℕ) (c : ℕ) → (Has cells c → ⊥) → into_cell node cells c ≡ None
into_none node [] c not = refl
into_none node (x ∷ cells) c never = by (x == c) refl (into_none (Net (CarryOut x)) cells c (λ has. never (suc has.0, has.1)))
  where
    by : (b : Bool) → (x == c) ≡ b → into_cell (Net (CarryOut x)) cells c ≡ None → cond b (Some node) (into_cell (Net (CarryOut x)) cells c) ≡ None
    by true e rest = absurd (never (0, ap Some (eqb-true x c e)))
    by false e rest = rest

-- ---- in one of many
into_one : (runs : List Run) → StandOnce (flat_map (λ (run : Run). run.cells) runs) → (r : ℕ) (run : Run) (c : ℕ) (node : Node) → At runs r run → Has run.cells c
    → into_cell (Level run.set) run.cells c ≡ Some node → into_runs runs c ≡ Some node
into_one [] once r run c node at has e = absurd (none-some run at)
into_one (x ∷ runs) once zero run c node at has e =
    ap (λ o. node_or o (into_runs runs c)) (subst (λ (y : Run). into_cell (Level y.set) y.cells c ≡ Some node) (sym (same_Some x run at)) e)
into_one (x ∷ runs) once (suc r) run c node at has e =
    ap (λ o. node_or o (into_runs runs c)) (into_none (Level x.set) x.cells c (λ here. parts_once x.cells (flat_map (λ (run : Run). run.cells) runs) once c here (in_rest runs r run c at has)))
    ∙ into_one runs (rest_once x.cells (flat_map (λ (run : Run). run.cells) runs) once) r run c node at has e
  where
    in_rest : (runs : List Run) (r : ℕ) (run : Run) (c : ℕ) → At runs r run → Has run.cells c → Has (flat_map (λ (run : Run). run.cells) runs) c
    in_rest [] r run c at has = absurd (none-some run at)
    in_rest (y ∷ runs) zero run c at has = (let here = subst (λ (z : Run). Has z.cells c) (sym (same_Some y run at)) has in (here.0, At_left y.cells (flat_map (λ (run : Run). run.cells) runs) here.0 c here.1))
    in_rest (y ∷ runs) (suc r) run c at has =
        let rest = in_rest runs r run c at has in
        (length y.cells + rest.0, At_right y.cells (flat_map (λ (run : Run). run.cells) runs) rest.0 c rest.1)

-- the cells of one run stand in it once
one_once : (runs : List Run) → StandOnce (flat_map (λ (run : Run). run.cells) runs) → (r : ℕ) (run : Run) → At runs r run → StandOnce run.cells
one_once [] once r run at = absurd (none-some run at)
one_once (x ∷ runs) once zero run at = subst (λ (y : Run). StandOnce y.cells) (same_Some x run at) (front_once x.cells (flat_map (λ (run : Run). run.cells) runs) once)
one_once (x ∷ runs) once (suc r) run at = one_once runs (rest_once x.cells (flat_map (λ (run : Run). run.cells) runs) once) r run at

-- ---- in a design whose runs are made
module _ (d : Design) (made : d.carries ≡ []) (once : StandOnce (cells_in_runs d)) where
  by_runs : (c : ℕ) → carry_into d c ≡ into_runs d.runs c
  by_runs c = ap (λ (carries : List (ℕ × CarryIn)). node_or (into_carries carries c) (into_runs d.runs c)) made

  -- into the first cell of a run comes its level
  pub level_into : (r : ℕ) (run : Run) (c : ℕ) → At d.runs r run → At run.cells 0 c → carry_into d c ≡ Some (Level run.set)
  level_into r run c at first = by_runs c ∙ into_one d.runs once r run c (Level run.set) at (0, first) (into_first (Level run.set) run.cells c first)

  -- into each other one comes the carry of the cell below
  pub carry_next : (r : ℕ) (run : Run) (i x c : ℕ) → At d.runs r run → At run.cells i x → At run.cells (suc i) c → carry_into d c ≡ Some (Net (CarryOut x))
  carry_next r run i x c at below there =
      by_runs c ∙ into_one d.runs once r run c (Net (CarryOut x)) at (suc i, there) (into_next (Level run.set) run.cells i x c (one_once d.runs once r run at) below there)
