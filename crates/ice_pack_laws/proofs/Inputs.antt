-- Inputs of cells, and what tables make of them.
use Rattle.std.proofs.Common.{◌≡◌, ℕ, zero, suc, ◌≤◌, Bool, true, false, cond, Option, None, Some, List, [], ◌∷◌, length, map, refl, sym, ap, ◌∙◌, subst, arith, All}
use Rattle.std.specs.Prelude.{slice_index_or, option_map}
use Rattle.std.proofs.lemmas.Option.{same_Some, get_or_from_slice_get, slice_get_within}
use Rattle.ice_base.specs.declared.number.SignalNo.{SignalNo}
use Rattle.ice_base_values.specs.Order.{At, Has}
use Rattle.ice_base_values.specs.System.{present}
use Rattle.ice_net.specs.declared.kind.CellKind.{CellKind}
use Rattle.ice_net.specs.declared.kind.CellKind.TheVariants.{Lut, Cover, Carry, Flop, PadCell, Global}
use Rattle.ice_net.specs.Drivers.{signal_number, numbers, is_signal, place_of}
use Rattle.ice_net.specs.Kinds.{ins_count}
use Rattle.ice_net.specs.Meaning.{number_of, table_bit, makes_by}
use Rattle.ice_lut.specs.Tables.{levels_from, overlaid}
use Rattle.ice_lut.proofs.TableLaws.{rewired_gives}
use Rattle.ice_cells.specs.Origins.{is_table_kind}
use Rattle.ice_cells.specs.Packed.{four, first_inputs, table_by}

pub at_all : {X : Type 0} (P : X → Type 0) (xs : List X) (k : ℕ) (x : X) → All P xs → At xs k x → P x
at_all P xs k x all at = subst P (get_or_from_slice_get xs k x x at) (all k x (slice_get_within xs k x at))

-- what holds of a missing input, and of all inputs, holds of an input that may be missing
pub input_at : (P : Option SignalNo → Type 0) → P None → (ins : List (Option SignalNo)) → ((k : ℕ) (input : Option SignalNo) → At ins k input → P input) → (k : ℕ) → P (slice_index_or ins k None)
input_at P none [] all k = none
input_at P none (x ∷ ins) all zero = all 0 x refl
input_at P none (x ∷ ins) all (suc k) = input_at P none ins (λ i y at. all (suc i) y at) k

pub present_number : (ins : List (Option SignalNo)) (k : ℕ) (signal : SignalNo) → At ins k (Some signal) → Has (present (numbers ins)) signal.0
present_number [] k signal at = cc at
present_number (None ∷ ins) zero signal at = cc at
present_number (None ∷ ins) (suc k) signal at = present_number ins k signal at
present_number (Some s ∷ ins) zero signal at = (0, ap (λ (o : Option SignalNo). signal_number o) (same_Some (Some s) (Some signal) at))
present_number (Some s ∷ ins) (suc k) signal at = let rest = present_number ins k signal at in (suc rest.0, rest.1)

-- what stands at the first place of a signal is the signal
pub place_at : (s : ℕ) (xs : List (Option SignalNo)) (i : ℕ) → place_of s xs ≡ Some i → (x : Option SignalNo) × At xs i x × (is_signal s x ≡ true)
place_at s [] i e = cc e
place_at s (x ∷ xs) i e = by (is_signal s x) refl (place_of s xs) (λ k h. place_at s xs k h) e
  where
    by : (b : Bool) → is_signal s x ≡ b → (o : Option ℕ) → ((k : ℕ) → o ≡ Some k → (y : Option SignalNo) × At xs k y × (is_signal s y ≡ true)) → cond b (Some 0) (option_map suc o) ≡ Some i
        → (y : Option SignalNo) × At (x ∷ xs) i y × (is_signal s y ≡ true)
    by true is o rest f = subst (λ k. (y : Option SignalNo) × At (x ∷ xs) k y × (is_signal s y ≡ true)) (same_Some 0 i f) (x, refl, is)
    by false is None rest f = cc f
    by false is (Some k) rest f = subst (λ m. (y : Option SignalNo) × At (x ∷ xs) m y × (is_signal s y ≡ true)) (same_Some (suc k) i f) (rest k refl)

-- ---- tables
-- one input more
pub overlaid_one : (l : Option Bool) (x y : Bool) (ls : List (Option Bool)) (xs ys : List Bool) → (l ≡ None → x ≡ y) → ((b : Bool) → l ≡ Some b → b ≡ y) → overlaid ls xs ≡ ys
    → overlaid (l ∷ ls) (x ∷ xs) ≡ y ∷ ys
overlaid_one None x y ls xs ys free held rest = λ i. free refl i ∷ rest i
overlaid_one (Some b) x y ls xs ys free held rest = λ i. held b refl i ∷ rest i

module _ (lev : Option SignalNo → Bool) (missing : lev None ≡ false) where
  pub read_at : (ins : List (Option SignalNo)) (k : ℕ) → slice_index_or (map lev ins) k false ≡ lev (slice_index_or ins k None)
  read_at [] k = sym missing
  read_at (x ∷ ins) zero = refl
  read_at (x ∷ ins) (suc k) = read_at ins k

  four_is : (ins : List (Option SignalNo)) → length ins ≡ 4 → four lev ins ≡ map lev ins
  four_is [] e = absurd (omega arith)
  four_is (a ∷ []) e = absurd (omega arith)
  four_is (a ∷ b ∷ []) e = absurd (omega arith)
  four_is (a ∷ b ∷ c ∷ []) e = absurd (omega arith)
  four_is (a ∷ b ∷ c ∷ d ∷ []) e = refl
  four_is (a ∷ b ∷ c ∷ d ∷ f ∷ ins) e = absurd (omega arith)

  few_levels : (ins : List (Option SignalNo)) → length ins ≤ 4 → number_of (levels_from (first_inputs (length ins)) (four lev ins)) ≡ number_of (map lev ins)
  few_levels [] e = refl
  few_levels (a ∷ []) e = refl
  few_levels (a ∷ b ∷ []) e = refl
  few_levels (a ∷ b ∷ c ∷ []) e = refl
  few_levels (a ∷ b ∷ c ∷ d ∷ []) e = refl
  few_levels (a ∷ b ∷ c ∷ d ∷ f ∷ ins) e = absurd (omega arith)

  -- the table of a cell gives on four inputs what the cell makes of those that it has
  pub table_gives : (kind : CellKind) (ins : List (Option SignalNo)) (kept pad : Bool) → is_table_kind kind ≡ true → length ins ≡ ins_count kind → length ins ≤ 4
      → table_bit (table_by kind) (number_of (four lev ins)) ≡ makes_by kind kept pad (map lev ins)
  table_gives (Lut t) ins kept pad is e le = ap (λ xs. table_bit t (number_of xs)) (four_is ins e)
  table_gives (Cover t width) ins kept pad is e le =
      rewired_gives t (first_inputs width) (four lev ins) refl ∙ ap (λ w. table_bit t (number_of (levels_from (first_inputs w) (four lev ins)))) (sym e) ∙ ap (table_bit t) (few_levels ins le)
  table_gives Carry ins kept pad is e le = cc is
  table_gives (Flop falling enable reset) ins kept pad is e le = cc is
  table_gives (PadCell pin_type pullup) ins kept pad is e le = cc is
  table_gives Global ins kept pad is e le = cc is
