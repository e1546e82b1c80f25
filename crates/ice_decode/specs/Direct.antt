-- Globals that have the level of a pad, by extra bits. An extra bit is a bank and a place.
use Rattle.std.specs.Prelude.{ℕ, ◌==◌, ◌&&◌, Bool, false, Option, None, Some, List, [], ◌∷◌, map}
use Rattle.std.specs.List.{list_any}
use Rattle.ice_chip.specs.Database.{Parts}
use Rattle.ice_chip.specs.Lookups.{padin_of}

abbrev pub same_extra : ℕ × ℕ × ℕ → ℕ × ℕ × ℕ → Bool
same_extra a b = (a.0 == b.0) && (a.1 == b.1) && (a.2 == b.2)

-- the extra bit is a global's, where the global has one
abbrev pub is_extra_of : Option (ℕ × ℕ × ℕ) → ℕ × ℕ × ℕ → Bool
is_extra_of None e = false
is_extra_of (Some own) e = same_extra own e

-- the extra bit is among those that are set
abbrev pub is_set_among : List (ℕ × ℕ × ℕ) → Option (ℕ × ℕ × ℕ) → Bool
is_set_among extras own = list_any (is_extra_of own) extras

-- the global has the level of a pad: its extra bit is set
abbrev pub takes_pad : Parts → List (ℕ × ℕ × ℕ) → ℕ → Bool
takes_pad parts extras n = is_set_among extras (padin_of parts n)

-- ---- extra bits of no global
-- the numbers of the globals
abbrev pub globals : List ℕ
globals = 0 ∷ 1 ∷ 2 ∷ 3 ∷ 4 ∷ 5 ∷ 6 ∷ 7 ∷ []

-- the extra bit of each global, where it has one
abbrev pub padins : Parts → List (Option (ℕ × ℕ × ℕ))
padins parts = map (padin_of parts) globals

abbrev pub is_own_among : List (Option (ℕ × ℕ × ℕ)) → ℕ × ℕ × ℕ → Bool
is_own_among own e = list_any (λ o. is_extra_of o e) own

-- the extra bit is some global's
abbrev pub is_padin : Parts → ℕ × ℕ × ℕ → Bool
is_padin parts e = is_own_among (padins parts) e
