-- Nets are taken off the counts of their wires and added to those of others.
use Rattle.std.proofs.Common.{◌≡◌, ℕ, zero, suc, ◌-◌, ◌<◌, Bool, true, false, cond, ◌||◌, eqb, List, [], ◌∷◌, Some, length, take, get_or, slice_get, slice_index, refl, ap, arith}
use Rattle.std.proofs.lemmas.Bool.{eq-eqb}
use Rattle.ice_base.specs.declared.number.WireNo.{WireNo}
use Rattle.ice_core.specs.Moves.{stands_in}
use Rattle.ice_path.specs.Room.{AreWires}
use Rattle.ice_core.proofs.Moving.{wire_at}
use Rattle.ice_negotiate_defs.specs.Trees.{AreOnce}

-- the wire at a place is below n
pub wire_below : (n : ℕ) (wires : List WireNo) (i : ℕ) (d : WireNo) → AreWires n wires → i < length wires → (get_or wires i d).0 < n
wire_below n wires i d below lt = below i (get_or wires i d) (wire_at wires i d lt)

pub stands_at : (wires : List WireNo) (i : ℕ) (v : WireNo) → slice_get wires i ≡ Some v → stands_in wires v.0 ≡ true
stands_at [] i v at = absurd (cc)
stands_at (u ∷ wires) zero v at = (let same : u ≡ v = (cc) in ap (λ b. b || stands_in wires v.0) (eq-eqb u.0 v.0 (ap (λ (x : WireNo). x.0) same)))
stands_at (u ∷ wires) (suc i) v at = or_true (eqb u.0 v.0) (stands_in wires v.0) (stands_at wires i v at)
  where
    or_true : (a b : Bool) → b ≡ true → (a || b) ≡ true
    or_true true b e = refl
    or_true false b e = e

pub once_rest : (u : WireNo) (wires : List WireNo) → AreOnce (u ∷ wires) → AreOnce wires
once_rest u wires once = λ j k v a b. (let e : suc j ≡ suc k = once (suc j) (suc k) v a b in omega arith)

-- the net is taken off the counts on the first i of its wires
pub record LeftOut (counts : List ℕ) (wires : List WireNo) (i : ℕ) (others : List ℕ) : Type 0 where
  pub long : length others ≡ length counts
  pub each : (w : ℕ) → w < length counts → slice_index others w ≡ slice_index counts w - cond (stands_in (take i wires) w) 1 0
