use Rattle.std.proofs.Common.{◌≡◌, ℕ, ◌<◌, ◌≤◌, List, [], length, inl, inr, ap, sym, ◌∙◌, subst, arith, rules}
use Rattle.std.proofs.lemmas.Bool.{cases_lt}
use Rattle.std.proofs.lemmas.List.{get_or_past}
use Rattle.ice_base_values.specs.Order.{At, Has}
use Rattle.ice_base_values.specs.Graph.{depends_of}
use Rattle.ice_base_values.proofs.graph.Graph.is_within.Goals as goal

pub returns-then-not-are_below : goal.returns-then-not-are_below
returns-then-not-are_below c = (
  λ never. search rules,
  λ within. c.if-not-are_below.ensures.1 (λ k q at.
      let lt = within.points c.loop-point.point q (k, subst (λ (row : List ℕ). At row k q) c.depends.ensures at) in
      let e = c.len-points.ensures in omega arith),
)

-- what is past the last row depends on nothing
past : (rows : List (List ℕ)) (p q : ℕ) → length rows ≤ p → Has (depends_of rows p) q → ⊥
past rows p q le has = let bad : At [] has.0 q = subst (λ (row : List ℕ). At row has.0 q) (get_or_past rows p [] le) has.1 in cc bad

pub loop-point-preserved : goal.loop-point-preserved
loop-point-preserved c p q lt has =
    elim (cases_lt p c.loop-point.point) [
      | inl below ↦ c.loop-point.invariant p q below has
      | inr above ↦ (let e : p ≡ c.loop-point.point = omega arith in
          let all : (k r : ℕ) → At c.depends.result.now k r → r < c.len-points.result = c.if-not-are_below.ensures.0 (search rules) in
          all has.0 q (subst (λ (row : List ℕ). At row has.0 q) (ap (depends_of c.args.self.now) e ∙ sym c.depends.ensures) has.1))
    ]

pub returns : goal.returns
returns c = (
  λ always. record {
    points = λ p q has. elim (cases_lt p (length c.args.self.now)) [
      | inl lt ↦ (let e = c.len-points.ensures in let below : q < c.len-points.result = c.loop-point.invariant p q (omega arith) has in omega arith)
      | inr le ↦ absurd (past c.args.self.now p q le has)
    ];
  },
  λ within. search rules,
)
