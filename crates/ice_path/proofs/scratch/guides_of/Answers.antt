use Rattle.std.proofs.Common.{ℕ, List, [], ◌∷◌, zero, suc, take}
use Rattle.ice_base.specs.declared.number.WireNo.{WireNo}
use Rattle.ice_path.specs.Room.{AreWires}
use Rattle.ice_path.proofs.scratch.guides_of.Goals as goal

first_within : (n : ℕ) (targets : List WireNo) → AreWires n targets → AreWires n (take 1 targets)
first_within n [] h k v at = absurd (cc)
first_within n (t ∷ rest) h zero v at = h 0 v at
first_within n (t ∷ rest) h (suc k) v at = absurd (cc)

pub returns-then-is_empty : goal.returns-then-is_empty
returns-then-is_empty c = λ n wires. first_within n c.args.targets.now wires
