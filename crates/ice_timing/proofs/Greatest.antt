-- Arrivals by those of the points that a point depends on.
use Rattle.std.proofs.Common.{◌≡◌, ◌⊎◌, ℕ, zero, suc, ◌+◌, ◌-◌, ◌<◌, ◌≤◌, List, [], ◌∷◌, ◌++◌, length, Some, inl, inr, refl, sym, ap, ◌∙◌, subst, arith, length-append}
use Rattle.std.proofs.lemmas.Option.{same_Some}
use Rattle.ice_base_values.specs.Order.{At, Has}
use Rattle.ice_base_values.proofs.Members.{Has_none}
use Rattle.ice_decode.specs.declared.point.Point.{Point}
use Rattle.ice_timing.specs.Paths.{IsPath, IsPathTo, IsArrival, length_of}
use Rattle.ice_timing.proofs.PathEnds.{IsOne, IsMore, cut, longer, length_longer}

-- a point is a path to itself where it depends on nothing
pub alone : {P : Type 0} (depends : P → List P) (p : P) → depends p ≡ [] → IsPathTo depends (p ∷ []) p
alone depends p free = record {
  is_path = record {
    some = omega arith;
    first = λ x at. subst (λ z. depends z ≡ []) (same_Some p x at) free;
    later = later;
  };
  ends = refl;
}
  where
    later : (i : ℕ) (x y : _) → At (p ∷ []) i x → At (p ∷ []) (i + 1) y → Has (depends y) x
    later zero x y at next = cc next
    later (suc i) x y at next = cc at

module _ {P : Type 0} (depends : P → List P) (first delay : P → ℕ) where
  one_long : (path : List P) (p : P) → path ≡ p ∷ [] → length_of first delay path ≤ first p
  one_long path p e = subst (λ l. length_of first delay l ≤ first p) (sym e) (omega arith)

  more_long : (path front : List P) (q p : P) → path ≡ front ++ p ∷ [] → IsPathTo depends front q → length_of first delay path ≡ length_of first delay front + delay p
  more_long path front q p e to = ap (length_of first delay) e ∙ length_longer first delay front p to.is_path.some

  -- a point that depends on nothing
  pub first_arrival : (p : P) → depends p ≡ [] → IsArrival depends first delay p (first p)
  first_arrival p free = record {
    path = p ∷ [];
    leads = alone depends p free;
    long = (let e : first p + 0 ≡ first p = omega arith in e);
    most = λ other to. by other (cut depends other p to);
  }
    where
      by : (other : List P) → IsOne depends other p ⊎ IsMore depends other p → length_of first delay other ≤ first p
      by other (inl one) = one_long other p one.is
      by other (inr more) = absurd (Has_none more.before (subst (λ l. Has l more.before) free more.has))

  -- a point behind the one with the greatest arrival of those that it depends on
  pub later_arrival : (p q : P) (a : ℕ) → Has (depends p) q → IsArrival depends first delay q a
      → ((r : P) → Has (depends p) r → (b : ℕ) × IsArrival depends first delay r b × (b ≤ a)) → IsArrival depends first delay p (a + delay p)
  later_arrival p q a has arrival others = record {
    path = arrival.path ++ p ∷ [];
    leads = longer depends arrival.path q p arrival.leads has;
    long = length_longer first delay arrival.path p arrival.leads.is_path.some ∙ ap (λ n. n + delay p) arrival.long;
    most = λ other to. by other (cut depends other p to);
  }
    where
      by : (other : List P) → IsOne depends other p ⊎ IsMore depends other p → length_of first delay other ≤ a + delay p
      by other (inl one) = absurd (Has_none q (subst (λ l. Has l q) one.free has))
      by other (inr more) =
          let long = more_long other more.front more.before p more.is more.leads in
          let there = others more.before more.has in
          let le = there.1.most more.front more.leads in
          let below = there.2 in
          omega (arith, long, le, below)

  -- a point has one arrival
  pub arrival_once : (p : P) (a b : ℕ) → IsArrival depends first delay p a → IsArrival depends first delay p b → a ≡ b
  arrival_once p a b x y =
      let le = y.most x.path x.leads in
      let ge = x.most y.path y.leads in
      let e = x.long in
      let f = y.long in
      omega (arith, le, ge, e, f)

  -- it isn't below that of a point on which it depends, and its own delay
  pub arrival_behind : (p q : P) (a b : ℕ) → Has (depends p) q → IsArrival depends first delay p a → IsArrival depends first delay q b → b + delay p ≤ a
  arrival_behind p q a b has x y =
      let le = x.most (y.path ++ p ∷ []) (longer depends y.path q p y.leads has) in
      let long = length_longer first delay y.path p y.leads.is_path.some in
      let e = y.long in
      omega (arith, le, long, e)

-- ---- the law
bounded : (depends : Point → List Point) (first delay bound : Point → ℕ) → ((p : Point) → depends p ≡ [] → first p ≤ bound p)
    → ((p q : Point) → Has (depends p) q → bound q + delay p ≤ bound p)
    → (n : ℕ) (path : List Point) (last : Point) → length path ≤ n → IsPathTo depends path last → length_of first delay path ≤ bound last
bounded depends first delay bound starts grows zero path last le to = let some = to.is_path.some in absurd (omega (arith, le, some))
bounded depends first delay bound starts grows (suc n) path last le to = by (cut depends path last to) (bounded depends first delay bound starts grows n)
  where
    by : IsOne depends path last ⊎ IsMore depends path last → ((front : List Point) (q : Point) → length front ≤ n → IsPathTo depends front q → length_of first delay front ≤ bound q)
        → length_of first delay path ≤ bound last
    by (inl one) rest =
        let here = one_long depends first delay path last one.is in
        let start = starts last one.free in
        omega (arith, here, start)
    by (inr more) rest =
        let e : length path ≡ length more.front + 1 = ap length more.is ∙ length-append more.front (last ∷ []) in
        let long = more_long depends first delay path more.front more.before last more.is more.leads in
        let there = rest more.front more.before (omega (arith, e, le)) more.leads in
        let step = grows last more.before more.has in
        omega (arith, long, there, step)

pub certificates_bound : (depends : Point → List Point) (first delay bound : Point → ℕ) → ((p : Point) → depends p ≡ [] → first p ≤ bound p)
    → ((p q : Point) → Has (depends p) q → bound q + delay p ≤ bound p)
    → (path : List Point) (last : Point) → IsPathTo depends path last → length_of first delay path ≤ bound last
certificates_bound depends first delay bound starts grows path last to = bounded depends first delay bound starts grows (length path) path last (omega arith) to
