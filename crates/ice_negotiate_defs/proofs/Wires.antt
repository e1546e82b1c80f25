-- Lists of wires, and their numbers: how often a wire stands in them.
use Rattle.std.proofs.Common.{◌≡◌, ◌≢◌, ℕ, zero, suc, ◌≤◌, List, [], ◌∷◌, Some, length, slice_get, refl, sym, ap, arith, inl, inr, ◌∙◌}
use Rattle.std.proofs.lemmas.Bool.{cases_eq}
use Rattle.ice_base.specs.declared.number.WireNo.{WireNo}
use Rattle.ice_core.specs.Routes.{numbers, times}
use Rattle.ice_core.proofs.Sums.{is_at, at_itself, at_other, times_cons}
use Rattle.ice_negotiate_defs.specs.Trees.{AreOnce}
use Rattle.ice_negotiate_defs.proofs.Leaving.{once_rest}

abbrev pub numbered : ℕ → WireNo
numbered n = record { 0 = n }

pub same_wire : (u v : WireNo) → u.0 ≡ v.0 → u ≡ v
same_wire u v e = ap numbered e

pub numbers_long : (wires : List WireNo) → length (numbers wires) ≡ length wires
numbers_long [] = refl
numbers_long (u ∷ wires) = omega (arith, numbers_long wires)

pub one_at : (x w : ℕ) → x ≡ w → is_at x w ≡ 1
one_at x w same = ap (λ y. is_at y w) same ∙ at_itself w

absent : (wires : List WireNo) (w : ℕ) → ((k : ℕ) (v : WireNo) → slice_get wires k ≡ Some v → v.0 ≢ w) → times w (numbers wires) ≡ 0
absent [] w none = refl
absent (u ∷ wires) w none = omega (arith, times_cons w u.0 (numbers wires), at_other u.0 w (none 0 u refl), absent wires w (λ k v at. none (suc k) v at))

-- wires that stand once do so by number
pub once_times : (wires : List WireNo) → AreOnce wires → (w : ℕ) → times w (numbers wires) ≤ 1
once_times [] once w = omega arith
once_times (u ∷ wires) once w = elim (cases_eq u.0 w) [
  | inl same ↦ omega (arith, times_cons w u.0 (numbers wires), absent wires w (other same), one_at u.0 w same)
  | inr ne ↦ omega (arith, times_cons w u.0 (numbers wires), at_other u.0 w ne, once_times wires (once_rest u wires once) w)
]
  where
    other : u.0 ≡ w → (k : ℕ) (v : WireNo) → slice_get wires k ≡ Some v → v.0 ≢ w
    other same k v at e = (let is : v ≡ u = same_wire v u (e ∙ sym same) in let place : zero ≡ suc k = once zero (suc k) u refl (at ∙ ap Some is) in omega arith)
