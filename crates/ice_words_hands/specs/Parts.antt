-- The parts of a view: its own hand's first, and then those of the hands that it took in. A number for each part is added up over a view, and over all views.
use Rattle.std.specs.Prelude.{ℕ, List, [], ◌∷◌}
use Rattle.std.specs.List.{sum_by}

module _ {P : Type 0} where
  -- the own part, which `none` stands for where there is no part
  abbrev pub own_of : P → List P → P
  own_of none [] = none
  own_of none (p ∷ ps) = p

  abbrev pub own_changed : (P → P) → List P → List P
  own_changed f [] = []
  own_changed f (p ∷ ps) = f p ∷ ps

module _ {V P : Type 0} (parts_of : V → List P) where
  abbrev pub total_in : (P → ℕ) → V → ℕ
  total_in k v = sum_by k (parts_of v)

  abbrev pub total_of_all : (P → ℕ) → List V → ℕ
  total_of_all k views = sum_by (total_in k) views
