-- Look-up tables by their turns among those of a pair, and how many of each pair were met.
use Rattle.std.specs.Prelude.{ℕ, ◌==◌, ◌<◌, ◌≡◌, ◌&&◌, unwrap_or, Bool, List, length, filter, Option, None, slice_get, if◌then◌else◌}
use Rattle.std.specs.List.{range_with_len}
use Rattle.std.specs.Map.{lookup}
use Rattle.ice_cells.specs.declared.share.Pair.{Pair}
use Rattle.ice_cells.specs.declared.share.Role.{Role}
use Rattle.ice_cells.specs.declared.share.Role.TheVariants.{Gives, Takes, Neither}
use Rattle.ice_cells.specs.Pairs.{role, givers}
use Rattle.ice_cells.specs.Same.{same_pair}
use Rattle.ice_pack_share.specs.declared.pairing.Turn.{Turn}

-- how many were met of a pair
abbrev pub count_in : List (Pair × ℕ) → Pair → ℕ
count_in counts p = unwrap_or (lookup (same_pair p) counts) 0

-- no count is too large to grow
abbrev pub AreSmall : List (Pair × ℕ) → Type 0
AreSmall counts = (p : Pair) → count_in counts p < 18446744073709551615

abbrev pub one_if : Bool → ℕ
one_if b = if b then 1 else 0

-- the turn of a look-up table among those of its pair
abbrev pub same_turn : Turn → Turn → Bool
same_turn a b = same_pair a.pair b.pair && (a.turn == b.turn)

abbrev pub turn_of : Pair → ℕ → Turn
turn_of p k = record { pair = p; turn = k }

abbrev pub lut_at : List (Turn × ℕ) → Turn → Option ℕ
lut_at luts turn = lookup (same_turn turn) luts

-- what the look-up tables by turn are for the first cells
abbrev pub AreByTurn : List Role → ℕ → List (Turn × ℕ) → Type 0
AreByTurn roles n luts = (p : Pair) (k : ℕ) → lut_at luts (turn_of p k) ≡ slice_get (givers roles p n) k

-- as many as the look-up tables of each pair among the first cells
abbrev pub AreCounted : (Pair → Role → Bool) → List Role → ℕ → List (Pair × ℕ) → Type 0
AreCounted has roles n counts = (p : Pair) → count_in counts p ≡ length (filter (λ j. has p (role roles j)) (range_with_len 0 n))

-- the look-up table that a cell's role takes from those by turn
abbrev pub lut_taken : List (Turn × ℕ) → List (Pair × ℕ) → Role → Option ℕ
lut_taken luts counts (Gives p) = None
lut_taken luts counts (Takes p) = lut_at luts (turn_of p (count_in counts p))
lut_taken luts counts Neither = None
