-- A last input that reads a carry: the cell's carry follows that one, or it is the last of its chain and read otherwise.
use Rattle.std.proofs.Common.{◌≡◌, ◌⊎◌, ℕ, zero, suc, ◌+◌, true, false, None, Some, List, [], ◌∷◌, ◌++◌, map, refl, ap, sym, ◌∙◌, subst, arith, inl, inr}
use Rattle.std.specs.Prelude.{slice_index_or}
use Rattle.std.specs.List.{flat_map}
use Rattle.std.proofs.lemmas.Option.{none-some, same_Some}
use Rattle.ice_base_values.specs.Order.{At, Has}
use Rattle.ice_base_values.proofs.ListPlaces.{Has_left, Has_right}
use Rattle.ice_cells.specs.declared.cell.LogicCell.{LogicCell}
use Rattle.ice_cells.specs.declared.design.Design.{Design}
use Rattle.ice_cells.specs.declared.root.Root.TheVariants.{CarryOut}
use Rattle.ice_cells.specs.declared.follow.Follow.{Follow}
use Rattle.ice_cells.specs.declared.follow.Follow.TheVariants.{Nobody, Next, Other}
use Rattle.ice_cells.specs.declared.follow.Reader.TheVariants.{Into, Last}
use Rattle.ice_cells.specs.Readings.{Reading, carry_reading, cell_readings, cells_readings, pad_readings, plain, readings}
use Rattle.ice_cells.specs.Follows.{follow}
use Rattle.ice_carry_chains.proofs.FollowLaws.{is_marked, read_marked, next_only}

abbrev last_read : ℕ → LogicCell → Reading
last_read c cell = (slice_index_or cell.ins 3 None, Last c)

from_next : (c j : ℕ) → c + 1 + j ≡ c + suc j
from_next c j = omega arith

from_first : (c : ℕ) → c ≡ c + 0
from_first c = omega arith

-- the last input of each cell is among the readings
last_there : (c : ℕ) (cells : List LogicCell) (j : ℕ) (cell : LogicCell) → At cells j cell → Has (cells_readings c cells) (last_read (c + j) cell)
last_there c [] j cell at = absurd (none-some cell at)
last_there c (x ∷ cells) zero cell at =
    Has_left (cell_readings c x) (cells_readings (c + 1) cells) (last_read (c + 0) cell) (3, (λ i. Some (last_read (from_first c i) (same_Some x cell at i))))
last_there c (x ∷ cells) (suc j) cell at =
    Has_right (cell_readings c x) (cells_readings (c + 1) cells) (last_read (c + suc j) cell)
    (subst (λ n. Has (cells_readings (c + 1) cells) (last_read n cell)) (from_next c j) (last_there (c + 1) cells j cell at))

pub last_reading : (d : Design) (c : ℕ) (cell : LogicCell) → At d.cells c cell → Has (readings d) (last_read c cell)
last_reading d c cell at =
    Has_left (map carry_reading d.carries ++ cells_readings 0 d.cells ++ flat_map pad_readings d.pads) (map plain d.globals) (last_read c cell)
    (Has_left (map carry_reading d.carries ++ cells_readings 0 d.cells) (flat_map pad_readings d.pads) (last_read c cell)
    (Has_right (map carry_reading d.carries) (cells_readings 0 d.cells) (last_read c cell) (subst (λ n. Has (cells_readings 0 d.cells) (last_read n cell)) (first c) (last_there 0 d.cells c cell at))))
  where
    first : (c : ℕ) → 0 + c ≡ c
    first c = omega arith

same_last : (d c : ℕ) → Last d ≡ Last c → d ≡ c
same_last d c e = cc

last_into : (d c : ℕ) → Last d ≡ Into c → ⊥
last_into d c e = cc

-- a carry that the last input of a cell reads is followed by that cell's, or is read in another way
pub last_follows : (d : Design) (c k : ℕ) (cell : LogicCell) → At d.cells c cell → slice_index_or cell.ins 3 None ≡ Some (CarryOut k) → (follow d k ≡ Next c) ⊎ (follow d k ≡ Other)
last_follows d c k cell at e = by (follow d k) refl
  where
    reading : Has (readings d) (Some (CarryOut k), Last c)
    reading = subst (λ o. Has (readings d) (o, Last c)) e (last_reading d c cell at)

    by : (mark : Follow) → follow d k ≡ mark → (follow d k ≡ Next c) ⊎ (follow d k ≡ Other)
    by Nobody f = (let marked : is_marked (follow d k) ≡ true = read_marked k (readings d) Nobody reading.0 (Last c) reading.1 in let bad : is_marked (follow d k) ≡ false = ap is_marked f in cc (marked, bad))
    by (Next e) f = elim (next_only k e (readings d) Nobody f reading.0 (Last c) reading.1) [
      | inl bad ↦ absurd (last_into c e bad)
      | inr same ↦ inl (f ∙ ap Next (sym (same_last c e same)))
    ]
    by Other f = inr f
