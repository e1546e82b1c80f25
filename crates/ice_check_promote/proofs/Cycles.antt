-- Where points read behind others, they stand in a cycle only where they stood in one before.
use Rattle.std.proofs.Common.{◌≡◌, ◌⊎◌, ℕ, zero, suc, ◌+◌, ◌-◌, ◌<◌, ◌≤◌, List, [], ◌∷◌, ◌++◌, length, Some, inl, inr, refl, sym, ap, ◌∙◌, subst, arith}
use Rattle.std.proofs.lemmas.Option.{none-some, same_Some}
use Rattle.ice_base_values.specs.Order.{At, Has, IsCycle, IsCycleBelow}
use Rattle.ice_check_promote.proofs.Behind.{IsBehind}

one_more : (k : ℕ) → suc k ≡ k + 1
one_more k = omega arith

-- ---- walks
-- p depends on the first of these points, each on the next, and the last on q
abbrev IsWalk : (ℕ → List ℕ) → ℕ → List ℕ → ℕ → Type 0
IsWalk D p [] q = Has (D p) q
IsWalk D p (x ∷ xs) q = Has (D p) x × IsWalk D x xs q

abbrev AreBelow : ℕ → List ℕ → Type 0
AreBelow most [] = Unit {0}
AreBelow most (x ∷ xs) = (x < most) × AreBelow most xs

module _ (D : ℕ → List ℕ) where
  -- one walk behind the other
  joined : (p : ℕ) (xs : List ℕ) (q r : ℕ) → IsWalk D p xs q → Has (D q) r → IsWalk D p (xs ++ q ∷ []) r
  joined p [] q r walk next = (walk, next)
  joined p (x ∷ xs) q r walk next = (walk.0, joined x xs q r walk.1 next)

  -- a cycle is a walk from its first point round to it
  walked : (p : ℕ) (xs : List ℕ) (q : ℕ) → ((i a b : ℕ) → At (p ∷ xs) i a → At (p ∷ xs) (suc i) b → Has (D a) b) → ((a : ℕ) → At (p ∷ xs) (length xs) a → Has (D a) q) → IsWalk D p xs q
  walked p [] q next last = last p refl
  walked p (x ∷ xs) q next last = (next 0 p x refl refl, walked x xs q (λ i a b at then. next (suc i) a b at then) (λ a at. last a at))

  walk_next : (p : ℕ) (xs : List ℕ) (q : ℕ) → IsWalk D p xs q → (i a b : ℕ) → At (p ∷ xs) i a → At (p ∷ xs) (suc i) b → Has (D a) b
  walk_next p [] q walk i a b at then = absurd (none-some b then)
  walk_next p (x ∷ xs) q walk zero a b at then = subst (λ c. Has (D c) b) (same_Some p a at) (subst (Has (D p)) (same_Some x b then) walk.0)
  walk_next p (x ∷ xs) q walk (suc i) a b at then = walk_next x xs q walk.1 i a b at then

  walk_last : (p : ℕ) (xs : List ℕ) (q : ℕ) → IsWalk D p xs q → (a : ℕ) → At (p ∷ xs) (length xs) a → Has (D a) q
  walk_last p [] q walk a at = subst (λ c. Has (D c) q) (same_Some p a at) walk
  walk_last p (x ∷ xs) q walk a at = walk_last x xs q walk.1 a at

  cycle_walk : (p : ℕ) (xs : List ℕ) → IsCycle D (p ∷ xs) → IsWalk D p xs p
  cycle_walk p xs c =
      walked p xs p (λ i a b at then. c.next i a b at (subst (λ k. At (p ∷ xs) k b) (one_more i) then))
      (λ a at. c.closed p a refl (subst (λ k. At (p ∷ xs) k a) (let e : length xs ≡ length (p ∷ xs) - 1 = omega arith in e) at))

  walk_cycle : (p : ℕ) (xs : List ℕ) → IsWalk D p xs p → IsCycle D (p ∷ xs)
  walk_cycle p xs walk = record {
    some = omega arith;
    next = λ i a b at then. walk_next p xs p walk i a b at (subst (λ k. At (p ∷ xs) k b) (sym (one_more i)) then);
    closed = λ first last at end.
        subst (Has (D last)) (same_Some p first at)
        (walk_last p xs p walk last (subst (λ k. At (p ∷ xs) k last) (let e : length (p ∷ xs) - 1 ≡ length xs = omega arith in e) end));
  }

below_at : (most : ℕ) (xs : List ℕ) → AreBelow most xs → (i x : ℕ) → At xs i x → x < most
below_at most [] below i x at = absurd (none-some x at)
below_at most (y ∷ xs) below zero x at = subst (λ k. k < most) (same_Some y x at) below.0
below_at most (y ∷ xs) below (suc i) x at = below_at most xs below.1 i x at

all_below : (most : ℕ) (xs : List ℕ) → ((i x : ℕ) → At xs i x → x < most) → AreBelow most xs
all_below most [] below = tt
all_below most (x ∷ xs) below = (below 0 x refl, all_below most xs (λ i y at. below (suc i) y at))

below_joined : (most : ℕ) (xs : List ℕ) (q : ℕ) → AreBelow most xs → q < most → AreBelow most (xs ++ q ∷ [])
below_joined most [] q below lt = (lt, tt)
below_joined most (x ∷ xs) q below lt = (below.0, below_joined most xs q below.1 lt)

-- ---- points that are behind others are left out
-- the points below `total`, of which those from `next` on are behind the others
pub record AreLinked (next total : ℕ) (clocks : List ℕ) (before after : ℕ → List ℕ) : Type 0 where
  pub within : next ≤ total
  pub which : (p : ℕ) → p < total → (p < next) ⊎ ((j clock : ℕ) × At clocks j clock × (p ≡ next + j))
  pub low : (p q : ℕ) → p < total → Has (before p) q → q < next
  pub tied : (p q : ℕ) → Has (after p) q → (y : ℕ) × Has (before p) y × IsBehind next clocks q y
  pub leads : (j clock q : ℕ) → At clocks j clock → Has (after (next + j)) q → q ≡ clock
  pub below : (j clock : ℕ) → At clocks j clock → clock < next

module _ (next total : ℕ) (clocks : List ℕ) (before after : ℕ → List ℕ) (l : AreLinked next total clocks before after) where
  abbrev IsOldWalk : ℕ → ℕ → Type 0
  IsOldWalk p q = (xs : List ℕ) × AreBelow next xs × IsWalk before p xs q

  -- a point that is read, and the rest of the walk from it
  further : (p x y : ℕ) (q : ℕ) → p < total → Has (before p) y → x ≡ y → IsOldWalk x q → IsOldWalk p q
  further p x y q lt has same rest =
      (x ∷ rest.0, (subst (λ k. k < next) (sym same) (l.low p y lt has), rest.1), (subst (Has (before p)) (sym same) has, rest.2))

  last_step : (p q : ℕ) → q < next → (y : ℕ) × Has (before p) y × IsBehind next clocks q y → IsOldWalk p q
  last_step p q low (y, has, inl same) = ([], tt, subst (Has (before p)) (sym same) has)
  last_step p q low (y, has, inr (j, at, is)) = absurd (omega (arith, low, is))

  one_between : (p x q : ℕ) → p < total → Has (after x) q → IsOldWalk x q → (y : ℕ) × Has (before p) y × IsBehind next clocks x y → IsOldWalk p q
  one_between p x q lt reads rest (y, has, inl same) = further p x y q lt has same rest
  one_between p x q lt reads rest (y, has, inr (j, at, is)) = ([], tt, subst (Has (before p)) (sym (l.leads j y q at (subst (λ k. Has (after k) q) is reads))) has)

  two_between : (p x z q : ℕ) → p < total → Has (after x) z → IsOldWalk x q → IsOldWalk z q → (y : ℕ) × Has (before p) y × IsBehind next clocks x y → IsOldWalk p q
  two_between p x z q lt reads rest beyond (y, has, inl same) = further p x y q lt has same rest
  two_between p x z q lt reads rest beyond (y, has, inr (j, at, is)) =
      further p z y q lt has (l.leads j y z at (subst (λ k. Has (after k) z) is reads)) beyond

  walk_back : (p : ℕ) (xs : List ℕ) (q : ℕ) → p < total → AreBelow total xs → q < next → IsWalk after p xs q → IsOldWalk p q
  walk_back p [] q lt below low walk = last_step p q low (l.tied p q walk)
  walk_back p (x ∷ []) q lt below low walk = one_between p x q lt walk.1 (walk_back x [] q below.0 tt low walk.1) (l.tied p x walk.0)
  walk_back p (x ∷ z ∷ xs) q lt below low walk =
      two_between p x z q lt walk.1.0 (walk_back x (z ∷ xs) q below.0 below.1 low walk.1) (walk_back z xs q below.1.0 below.1.1 low walk.1.1) (l.tied p x walk.0)

  -- a cycle from a point that is behind no other
  from_low : (p : ℕ) (xs : List ℕ) → p < next → AreBelow total xs → IsWalk after p xs p → (cycle : List ℕ) × IsCycleBelow total before cycle
  from_low p xs lt below walk =
      let within = l.within in
      let old = walk_back p xs p (omega (arith, lt, within)) below lt walk in (
        p ∷ old.0,
        record {
          within = λ i point at. (let less = below_at next (p ∷ old.0) (lt, old.1) i point at in omega (arith, less, within));
          closes = walk_cycle before p old.0 old.2;
        },
      )

  -- a cycle from any point: one that is behind another leads to that
  from_any : (p : ℕ) (xs : List ℕ) → AreBelow total (p ∷ xs) → IsWalk after p xs p → (p < next) ⊎ ((j clock : ℕ) × At clocks j clock × (p ≡ next + j)) → (cycle : List ℕ) × IsCycleBelow total before cycle
  from_any p xs below walk (inl lt) = from_low p xs lt below.1 walk
  from_any p [] below walk (inr (j, clock, at, is)) =
      let same : p ≡ clock = l.leads j clock p at (subst (λ k. Has (after k) p) is walk) in
      let low = l.below j clock at in
      absurd (omega (arith, same, low, is))
  from_any p (z ∷ xs) below walk (inr (j, clock, at, is)) =
      let same : z ≡ clock = l.leads j clock z at (subst (λ k. Has (after k) z) is walk.0) in
      from_low z (xs ++ p ∷ []) (subst (λ k. k < next) (sym same) (l.below j clock at)) (below_joined total xs p below.1.1 below.0) (joined after z xs p z walk.1 walk.0)

  pub cycle_before : (cycle : List ℕ) → IsCycleBelow total after cycle → (old : List ℕ) × IsCycleBelow total before old
  cycle_before [] c = (let some = c.closes.some in absurd (omega (arith, some)))
  cycle_before (p ∷ xs) c = from_any p xs (all_below total (p ∷ xs) c.within) (cycle_walk after p xs c.closes) (l.which p (c.within 0 p refl))
