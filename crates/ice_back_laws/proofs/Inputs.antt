-- The points that the cells and pads of a chip read are there, have ranks, and are heard.
use Rattle.std.proofs.Common.{ℕ, ◌≡◌, zero, suc, ◌+◌, ◌*◌, ◌<◌, true, Option, None, Some, List, [], ◌∷◌, refl, subst, arith}
use Rattle.std.specs.Prelude.{codes}
use Rattle.std.proofs.lemmas.Option.{same_Some, none-some}
use Rattle.ice_base.specs.declared.number.TileAt.{TileAt}
use Rattle.ice_base_values.specs.System.{present}
use Rattle.ice_base_values.specs.Order.{At, Has}
use Rattle.ice_base_values.proofs.Gaps.{present_at}
use Rattle.ice_base_values.proofs.Enough.{first}
use Rattle.ice_chip.specs.Database.{Parts}
use Rattle.ice_chip.specs.IsRead.{IsRead}
use Rattle.ice_chip.specs.Lookups.{placed_at}
use Rattle.ice_chip.specs.Names.{input_name, pad_output_name, output_enable_name}
use Rattle.ice_chip.specs.declared.rows.Pad.{Pad}
use Rattle.ice_chip_laws.specs.Names.{HasNames}
use Rattle.ice_bits.specs.Configuration.{Bits}
use Rattle.ice_decode.specs.declared.point.Point.{Point}
use Rattle.ice_decode.specs.declared.point.Point.TheVariants.{Carry}
use Rattle.ice_decode.specs.Cells.{logic_tiles}
use Rattle.ice_decode.specs.Meaning.{chip_system}
use Rattle.ice_decode.specs.Reads.{count_points, at_pin, cell_inputs, carry_into, carry_inputs}
use Rattle.ice_decode.specs.Points.{points}
use Rattle.ice_decode.specs.Refusals.{IsFaultless}
use Rattle.ice_decode.proofs.KeptLevels.{tile_at}
use Rattle.ice_decode.proofs.PointPlaces.{carry_at}
use Rattle.ice_back_laws.specs.Roots.{LevelRoot, Fixed, Input, Taken, Given, Kept, Level, Table, Register, Sum, is_reading_name, root_of}
use Rattle.ice_back_laws.proofs.Heard.{IsHeard, pin_heard}
use Rattle.ice_back_laws.proofs.Ranks.{IsThere, StandsAt, Ranks, ranked, AreBelow, IsGood, all_good, pin_there}

-- ---- names of what reads
each_four : (P : ℕ → Type 0) → P 0 → P 1 → P 2 → P 3 → (k : ℕ) → k < 4 → P k
each_four P a b c d zero lt = a
each_four P a b c d (suc zero) lt = b
each_four P a b c d (suc (suc zero)) lt = c
each_four P a b c d (suc (suc (suc zero))) lt = d
each_four P a b c d (suc (suc (suc (suc k)))) lt = absurd (omega (arith, lt))

pub input_reads : (t : TileAt) (cell k : ℕ) → cell < 8 → k < 4 → is_reading_name (placed_at t (input_name cell k)) ≡ true
input_reads t zero k lt few = each_four (λ j. is_reading_name (placed_at t (input_name 0 j)) ≡ true) refl refl refl refl k few
input_reads t (suc zero) k lt few = each_four (λ j. is_reading_name (placed_at t (input_name 1 j)) ≡ true) refl refl refl refl k few
input_reads t (suc (suc zero)) k lt few = each_four (λ j. is_reading_name (placed_at t (input_name 2 j)) ≡ true) refl refl refl refl k few
input_reads t (suc (suc (suc zero))) k lt few = each_four (λ j. is_reading_name (placed_at t (input_name 3 j)) ≡ true) refl refl refl refl k few
input_reads t (suc (suc (suc (suc zero)))) k lt few = each_four (λ j. is_reading_name (placed_at t (input_name 4 j)) ≡ true) refl refl refl refl k few
input_reads t (suc (suc (suc (suc (suc zero))))) k lt few = each_four (λ j. is_reading_name (placed_at t (input_name 5 j)) ≡ true) refl refl refl refl k few
input_reads t (suc (suc (suc (suc (suc (suc zero)))))) k lt few = each_four (λ j. is_reading_name (placed_at t (input_name 6 j)) ≡ true) refl refl refl refl k few
input_reads t (suc (suc (suc (suc (suc (suc (suc zero))))))) k lt few = each_four (λ j. is_reading_name (placed_at t (input_name 7 j)) ≡ true) refl refl refl refl k few
input_reads t (suc (suc (suc (suc (suc (suc (suc (suc cell)))))))) k lt few = absurd (omega (arith, lt))

pub output_reads : (t : TileAt) (pio : ℕ) → pio < 2 → is_reading_name (placed_at t (pad_output_name pio)) ≡ true
output_reads t zero lt = refl
output_reads t (suc zero) lt = refl
output_reads t (suc (suc pio)) lt = absurd (omega (arith, lt))

pub enable_reads : (t : TileAt) (pio : ℕ) → pio < 2 → is_reading_name (placed_at t (output_enable_name pio)) ≡ true
enable_reads t zero lt = refl
enable_reads t (suc zero) lt = refl
enable_reads t (suc (suc pio)) lt = absurd (omega (arith, lt))

module _ (parts : Parts) (read : IsRead parts) (bits : Bits) (names : HasNames parts) where
  -- a point of the chip that something reads
  pub record IsUsed (p : Point) : Type 0 where
    pub there : Has (points parts) p
    pub heard : IsHeard parts bits names p

  pub pin_used : (t : TileAt) (name : List ℕ) → is_reading_name (placed_at t name) ≡ true → (p : Point) → at_pin parts t name ≡ Some p → IsUsed p
  pin_used t name reads p e = record { there = pin_there parts read t name p e; heard = pin_heard parts bits names t name reads p e }

  input_pin : (u : TileAt) (i k : ℕ) (q : Point) → i < 8 → k < 4 → Some (at_pin parts u (input_name i k)) ≡ Some (Some q) → IsUsed q
  input_pin u i k q lt few at = pin_used u (input_name i k) (input_reads u i k lt few) q (same_Some (at_pin parts u (input_name i k)) (Some q) at)

  -- such is a point that a table reads
  pub input_used : (u : TileAt) (i : ℕ) (q : Point) → i < 8 → (j : ℕ) → At (cell_inputs parts u i) j (Some q) → IsUsed q
  input_used u i q lt zero at = input_pin u i 0 q lt (omega arith) at
  input_used u i q lt (suc zero) at = input_pin u i 1 q lt (omega arith) at
  input_used u i q lt (suc (suc zero)) at = input_pin u i 2 q lt (omega arith) at
  input_used u i q lt (suc (suc (suc zero))) at = input_pin u i 3 q lt (omega arith) at
  input_used u i q lt (suc (suc (suc (suc j)))) at = absurd (none-some (Some q) at)

  inputs_used : (u : TileAt) (i : ℕ) → i < 8 → (q : Point) → Has (present (cell_inputs parts u i)) q → IsUsed q
  inputs_used u i lt q has = let found = present_at (cell_inputs parts u i) has.0 q has.1 in input_used u i q lt found.0 found.1

  pub inputs_heard : (u : TileAt) (i : ℕ) → i < 8 → (q : Point) → Has (present (cell_inputs parts u i)) q → IsHeard parts bits names q
  inputs_heard u i lt q has = (inputs_used u i lt q has).heard

  pub inputs_there : (u : TileAt) (i : ℕ) → i < 8 → (q : Point) → Has (present (cell_inputs parts u i)) q → Has (points parts) q
  inputs_there u i lt q has = (inputs_used u i lt q has).there

  -- and so is one that a carry reads
  pub carry_there : (u : TileAt) (i : ℕ) → StandsAt parts u i → Has (points parts) (Carry u i)
  carry_there u i (k, e, lt) = (parts.wires + 8 * k + i, carry_at parts.wires (logic_tiles parts) k i u (tile_at u (logic_tiles parts) k e) lt)

  into_used : (u : TileAt) (i : ℕ) (q : Point) → StandsAt parts u i → carry_into parts u i ≡ Some q → IsUsed q
  into_used u zero q place e = pin_used u (codes "carry_in_mux") refl q e
  into_used u (suc i) q (k, f, lt) e = subst IsUsed (same_Some (Carry u i) q e) (record { there = carry_there u i (k, f, omega arith); heard = tt })

  pub carry_input_used : (u : TileAt) (i : ℕ) (q : Point) → StandsAt parts u i → (j : ℕ) → At (carry_inputs parts u i) j (Some q) → IsUsed q
  carry_input_used u i q (k, e, lt) zero at = input_pin u i 1 q lt (omega arith) at
  carry_input_used u i q (k, e, lt) (suc zero) at = input_pin u i 2 q lt (omega arith) at
  carry_input_used u i q place (suc (suc zero)) at = into_used u i q place (same_Some (carry_into parts u i) (Some q) at)
  carry_input_used u i q place (suc (suc (suc j))) at = absurd (none-some (Some q) at)

  carry_inputs_there : (u : TileAt) (i : ℕ) → StandsAt parts u i → (q : Point) → Has (present (carry_inputs parts u i)) q → Has (points parts) q
  carry_inputs_there u i place q has = let found = present_at (carry_inputs parts u i) has.0 q has.1 in (carry_input_used u i q place found.0 found.1).there

  pub carry_inputs_heard : (u : TileAt) (i : ℕ) → StandsAt parts u i → (q : Point) → Has (present (carry_inputs parts u i)) q → IsHeard parts bits names q
  carry_inputs_heard u i place q has = let found = present_at (carry_inputs parts u i) has.0 q has.1 in (carry_input_used u i q place found.0 found.1).heard

  module _ (extras : List (ℕ × ℕ × ℕ)) (faultless : IsFaultless parts bits extras) (pads : List Pad) where
    abbrev rank : Point → ℕ
    rank p = first (chip_system parts bits extras [] [] []) (count_points parts + 1) p

    abbrev IsRanked : ℕ → Point → Type 0
    IsRanked = Ranks parts bits extras read names faultless

    -- some number is above the ranks of all these points
    pub below_some : (ps : List (Option Point)) → ((q : Point) → Has (present ps) q → Has (points parts) q) → (m : ℕ) × AreBelow parts bits extras read names faultless pads m ps
    below_some [] there = (0, λ q has. absurd (none-some q has.1))
    below_some (None ∷ ps) there = below_some ps there
    below_some (Some p ∷ ps) there =
        let rest = below_some ps (λ q has. there q (suc has.0, has.1)) in
        (suc (rank p + rest.0), by rest.0 rest.1 (ranked parts bits extras read names faultless p (there p (0, refl))))
      where
        by : (m : ℕ) → AreBelow parts bits extras read names faultless pads m ps → IsRanked (rank p) p → (q : Point) → Has (p ∷ present ps) q → (j : ℕ) × (j < suc (rank p + m)) × IsRanked j q
        by m below r q (zero, at) = (rank p, omega arith, subst (IsRanked (rank p)) (same_Some p q at) r)
        by m below r q (suc i, at) = let one = below q (i, at) in (one.0, omega (arith, one.1), one.2)

    -- any root but what a register takes that may have nothing to take
    abbrev pub IsNotTaken : LevelRoot → Type 0
    IsNotTaken (Fixed level) = Unit {0}
    IsNotTaken (Input k) = Unit {0}
    IsNotTaken (Taken k) = ⊥
    IsNotTaken (Given k) = Unit {0}
    IsNotTaken (Kept k) = Unit {0}
    IsNotTaken (Level k) = Unit {0}
    IsNotTaken (Table t i) = Unit {0}
    IsNotTaken (Register t i) = Unit {0}
    IsNotTaken (Sum t i) = Unit {0}

    -- each such root that is there is made of points of ranks below some number
    pub good_some : (r : LevelRoot) → IsNotTaken r → IsThere parts bits extras pads r → (m : ℕ) × IsGood parts bits extras read names faultless pads m r
    good_some (Fixed level) other there = (0, (there, tt))
    good_some (Input k) other there = (0, (there, tt))
    good_some (Taken k) other there = absurd other
    good_some (Given k) other there = (0, (there, tt))
    good_some (Kept k) other there = (0, (there, tt))
    good_some (Level k) other there = (0, (there, tt))
    good_some (Table t i) other there = let below = below_some (cell_inputs parts t i) (inputs_there t i there.0.2) in (below.0, (there, below.1))
    good_some (Register t i) other there = (0, (there, tt))
    good_some (Sum t i) other there = let below = below_some (carry_inputs parts t i) (carry_inputs_there t i there.0) in (below.0, (there, below.1))

    -- the root of a point that something reads is there
    pub point_good : (p : Point) → IsUsed p → IsThere parts bits extras pads (root_of parts bits extras pads p)
    point_good p used = (all_good parts bits extras read names faultless pads (suc (rank p)) (rank p) p (ranked parts bits extras read names faultless p used.there) used.heard (omega arith)).0
