-- The ports that are seen from outside, and the others.
use Rattle.std.proofs.Common.{◌≡◌, ℕ, zero, suc, ◌<◌, ◌≤◌, None, List, [], ◌∷◌, take, slice_get, refl, sym, ap, arith}
use Rattle.ice_net.specs.NetlistData.{NetlistData}
use Rattle.ice_pads.specs.Closings.{with_first}
use Rattle.ice_pads.specs.Constraints.{name_at, port_name}

taken_at : {X : Type 0} (first k : ℕ) (xs : List X) → k < first → slice_get (take first xs) k ≡ slice_get xs k
taken_at zero k xs lt = absurd (omega (arith, lt))
taken_at (suc first) k [] lt = refl
taken_at (suc first) zero (x ∷ xs) lt = refl
taken_at (suc first) (suc k) (x ∷ xs) lt = taken_at first k xs (omega (arith, lt))

taken_past : {X : Type 0} (first k : ℕ) (xs : List X) → first ≤ k → slice_get (take first xs) k ≡ None
taken_past zero k xs le = refl
taken_past (suc first) k [] le = refl
taken_past (suc first) zero (x ∷ xs) le = absurd (omega (arith, le))
taken_past (suc first) (suc k) (x ∷ xs) le = taken_past first k xs (omega (arith, le))

-- the name of a port that is seen, and that there is no other
pub seen_name : (n : NetlistData) (first k : ℕ) → k < first → port_name n k ≡ port_name (with_first first n) k
seen_name n first k lt = ap (name_at n) (sym (taken_at first k n.ports lt))

pub no_name : (n : NetlistData) (first k : ℕ) → first ≤ k → [] ≡ port_name (with_first first n) k
no_name n first k le = ap (name_at n) (sym (taken_past first k n.ports le))
