-- The origins of signals where covers that pass clocks on read the buffers: each signal keeps its own, or has that of a buffer whose clock
-- has it.
use Rattle.std.proofs.Common.{◌≡◌, ◌⊎◌, ℕ, zero, suc, ◌+◌, ◌<◌, ◌==◌, ◌&&◌, Bool, true, false, cond, Option, None, Some, List, [], ◌∷◌, length, map, inl, inr, refl, ap, sym, ◌∙◌, subst, arith, eqb-true}
use Rattle.std.specs.Prelude.{option_map, slice_get, slice_index_or}
use Rattle.std.specs.Option.{option_map_or}
use Rattle.std.proofs.lemmas.Option.{none-some, same_Some}
use Rattle.ice_base.specs.Lists.{all_known}
use Rattle.ice_base.proofs.Options.{option_map_same}
use Rattle.ice_base.specs.declared.number.SignalNo.{SignalNo}
use Rattle.ice_base_values.specs.Order.{At}
use Rattle.ice_base_values.specs.Simulations.{try_reading}
use Rattle.ice_base_values.specs.System.{System, value}
use Rattle.ice_base_values.proofs.Gaps.{value_gapped}
use Rattle.ice_base_values.proofs.Members.{Has_all}
use Rattle.ice_base_values.proofs.Values.{value_suc}
use Rattle.ice_net.specs.declared.cell.Cell.{Cell}
use Rattle.ice_net.specs.declared.kind.CellKind.{CellKind}
use Rattle.ice_net.specs.declared.kind.CellKind.TheVariants.{Lut, Cover, Carry, Flop, PadCell, Global}
use Rattle.ice_net.specs.declared.driver.SignalDriver.{SignalDriver}
use Rattle.ice_net.specs.declared.driver.SignalDriver.TheVariants.{Nothing, Pad, Output}
use Rattle.ice_net.specs.NetlistData.{NetlistData}
use Rattle.ice_net.specs.Formed.{IsFormedCell, IsFormed}
use Rattle.ice_net.specs.Drivers.{numbers, driver_of}
use Rattle.ice_net.specs.Kinds.{ins_count}
use Rattle.ice_cells.specs.declared.origin.Origin.{Origin}
use Rattle.ice_cells.specs.declared.origin.Origin.TheVariants.{Fixed, Made}
use Rattle.ice_cells.specs.Origins.{is_alias, constant_of, cell_aliases, aliases, cell_origin, origin_made, origin_system}
use Rattle.ice_check_promote.specs.Promoted.{buffer, passing_ins}
use Rattle.ice_check_promote.proofs.Behind.{IsBehind, AreTied}
use Rattle.ice_check_promote.proofs.Passing.{IsBuffered, ins_tied, at_turned, turn, turned_or, new, driver_same}

-- ---- what an alias is made of: one input
one_number : (ins : List (Option SignalNo)) → length ins ≡ 1 → (q : Option ℕ) × (numbers ins ≡ q ∷ [])
one_number [] e = cc e
one_number (pin ∷ []) e = (_, refl)
one_number (pin ∷ other ∷ ins) e = absurd (omega (arith, e))

-- nothing, or one input, of which it is the origin
data IsMadeOf (n : NetlistData) (d : SignalDriver) : Type 0 where
  nothing : aliases n d ≡ [] → IsMadeOf n d
  alias : (q : Option ℕ) → aliases n d ≡ q ∷ [] → ((os : List Origin) → origin_made n d os ≡ slice_index_or os 0 (Fixed false)) → IsMadeOf n d

module _ (next : ℕ) (clocks : List ℕ) (outer : List SignalNo) (m : NetlistData) (b : IsBuffered next clocks m) (formed : IsFormed m) where
  abbrev after : NetlistData
  after = new next clocks outer m

  abbrev old_value : ℕ → ℕ → Option Origin
  old_value f s = value (origin_system m) f s

  abbrev new_value : ℕ → ℕ → Option Origin
  new_value f s = value (origin_system after) f s

  made_of : (d : SignalDriver) → IsMadeOf m d
  made_of Nothing = nothing refl
  made_of (Pad k) = nothing refl
  made_of (Output i) = by (slice_get m.cells i) refl
    where
      of_kind : (cell : Cell) → At m.cells i cell → (kind : CellKind) → cell.kind ≡ kind → IsMadeOf m (Output i)
      of_kind cell at (Cover t width) is = cover (width == 1) (t == 2) refl refl
        where
          aliases_are : (w u : Bool) → (width == 1) ≡ w → (t == 2) ≡ u → aliases m (Output i) ≡ cond (w && u) (numbers cell.ins) []
          aliases_are w u e f = ap (λ o. option_map_or cell_aliases o []) at ∙ ap (λ kind. cond (is_alias kind) (numbers cell.ins) []) is ∙ ap (λ x. cond (x && (t == 2)) (numbers cell.ins) []) e ∙ ap (λ x. cond (w && x) (numbers cell.ins) []) f

          long : (width == 1) ≡ true → length cell.ins ≡ 1
          long e = (Has_all (IsFormedCell (length m.names)) m.cells cell formed.cells (i, at)).ins_long ∙ ap (λ kind. ins_count kind) is ∙ eqb-true width 1 e

          cover : (w u : Bool) → (width == 1) ≡ w → (t == 2) ≡ u → IsMadeOf m (Output i)
          cover true true e f =
              let one = one_number cell.ins (long e) in
              alias one.0 (aliases_are true true e f ∙ one.1)
              (λ os. ap (λ o. option_map_or (cell_origin i os) o (Fixed false)) at ∙ ap (λ x. cond x (slice_index_or os 0 (Fixed false)) (option_map_or (λ level. Fixed level) (constant_of cell.kind) (Made i)))
              (ap is_alias is ∙ ap (λ x. x && (t == 2)) e ∙ f))
          cover true false e f = nothing (aliases_are true false e f)
          cover false u e f = nothing (aliases_are false u e f)
      of_kind cell at (Lut t) is = nothing (ap (λ o. option_map_or cell_aliases o []) at ∙ ap (λ kind. cond (is_alias kind) (numbers cell.ins) []) is)
      of_kind cell at Carry is = nothing (ap (λ o. option_map_or cell_aliases o []) at ∙ ap (λ kind. cond (is_alias kind) (numbers cell.ins) []) is)
      of_kind cell at (Flop falling enable reset) is = nothing (ap (λ o. option_map_or cell_aliases o []) at ∙ ap (λ kind. cond (is_alias kind) (numbers cell.ins) []) is)
      of_kind cell at (PadCell pin_type pullup) is = nothing (ap (λ o. option_map_or cell_aliases o []) at ∙ ap (λ kind. cond (is_alias kind) (numbers cell.ins) []) is)
      of_kind cell at Global is = nothing (ap (λ o. option_map_or cell_aliases o []) at ∙ ap (λ kind. cond (is_alias kind) (numbers cell.ins) []) is)

      by : (o : Option Cell) → slice_get m.cells i ≡ o → IsMadeOf m (Output i)
      by None e = nothing (ap (λ o. option_map_or cell_aliases o []) e)
      by (Some cell) e = of_kind cell e cell.kind refl

  -- ---- before and after
  abbrev Tied : List (Option ℕ) → List (Option ℕ) → Type 0
  Tied = AreTied (IsBehind next clocks)

  aliases_tied : (d : SignalDriver) → Tied (aliases after d) (aliases m d)
  aliases_tied Nothing = tt
  aliases_tied (Pad k) = tt
  aliases_tied (Output i) = subst (λ o. Tied (option_map_or cell_aliases o []) (aliases m (Output i))) (sym (at_turned next clocks outer m.cells i)) (by (slice_get m.cells i))
    where
      of_cell : (cell : Cell) (x : Bool) → Tied (cond x (numbers (passing_ins next clocks outer cell.kind cell.outs cell.ins)) []) (cond x (numbers cell.ins) [])
      of_cell cell true = ins_tied next clocks outer cell.kind cell.outs cell.ins
      of_cell cell false = tt

      by : (o : Option Cell) → Tied (option_map_or cell_aliases (option_map (turn next clocks outer) o) []) (option_map_or cell_aliases o [])
      by None = tt
      by (Some cell) = of_cell cell (is_alias cell.kind)

  made_same : (d : SignalDriver) (os : List Origin) → origin_made after d os ≡ origin_made m d os
  made_same Nothing os = refl
  made_same (Pad k) os = refl
  made_same (Output i) os = turned_or next clocks outer (cell_origin i os) (Fixed false) (λ cell. refl) m.cells i

  -- a signal's value, by what it is made of
  old_is : (f s : ℕ) (rs : List (Option ℕ)) → aliases m (driver_of m s) ≡ rs → old_value (suc f) s ≡ option_map (origin_made m (driver_of m s)) (all_known (map (try_reading (Fixed false) (λ q. old_value f q)) rs))
  old_is f s rs e =
      value_gapped (λ q. aliases m (driver_of m q)) (Fixed false) (λ q. origin_made m (driver_of m q)) f s
      ∙ ap (λ inputs. option_map (origin_made m (driver_of m s)) (all_known (map (try_reading (Fixed false) (λ q. old_value f q)) inputs))) e

  new_is : (f s : ℕ) (rs : List (Option ℕ)) → aliases after (driver_of m s) ≡ rs → new_value (suc f) s ≡ option_map (origin_made m (driver_of m s)) (all_known (map (try_reading (Fixed false) (λ q. new_value f q)) rs))
  new_is f s rs e =
      value_gapped (λ q. aliases after (driver_of after q)) (Fixed false) (λ q. origin_made after (driver_of after q)) f s
      ∙ ap (λ d. option_map (origin_made after d) (all_known (map (try_reading (Fixed false) (λ q. new_value f q)) (aliases after d)))) (driver_same next clocks outer m s)
      ∙ ap (λ inputs. option_map (origin_made after (driver_of m s)) (all_known (map (try_reading (Fixed false) (λ q. new_value f q)) inputs))) e
      ∙ option_map_same (origin_made after (driver_of m s)) (origin_made m (driver_of m s)) (λ os. made_same (driver_of m s) os) (all_known (map (try_reading (Fixed false) (λ q. new_value f q)) rs))

  -- ---- one signal
  -- its origin is the same, or that of another signal: of y before, and of what is behind y after
  data IsFrom (s : ℕ) : Type 0 where
    alone : ((f : ℕ) → new_value (suc f) s ≡ old_value (suc f) s) → IsFrom s
    another : (x y : ℕ) → IsBehind next clocks x y → ((f : ℕ) → old_value (suc f) s ≡ old_value f y) → ((f : ℕ) → new_value (suc f) s ≡ new_value f x) → IsFrom s

  -- the origin of the one input
  passed : (d : SignalDriver) → ((os : List Origin) → origin_made m d os ≡ slice_index_or os 0 (Fixed false)) → (o : Option Origin) → option_map (origin_made m d) (all_known (o ∷ [])) ≡ o
  passed d is None = refl
  passed d is (Some x) = ap Some (is (x ∷ []))

  one_input : (s : ℕ) → ((os : List Origin) → origin_made m (driver_of m s) os ≡ slice_index_or os 0 (Fixed false)) → (x y : Option ℕ)
      → aliases after (driver_of m s) ≡ x ∷ [] → aliases m (driver_of m s) ≡ y ∷ [] → Tied (x ∷ []) (y ∷ []) → IsFrom s
  one_input s is None None xs ys tied = alone (λ f. new_is f s (None ∷ []) xs ∙ sym (old_is f s (None ∷ []) ys))
  one_input s is None (Some y) xs ys tied = absurd tied
  one_input s is (Some x) None xs ys tied = absurd tied
  one_input s is (Some x) (Some y) xs ys tied =
      another x y tied.0 (λ f. old_is f s (Some y ∷ []) ys ∙ passed (driver_of m s) is (old_value f y)) (λ f. new_is f s (Some x ∷ []) xs ∙ passed (driver_of m s) is (new_value f x))

  from : (s : ℕ) → IsFrom s
  from s = by (made_of (driver_of m s)) (aliases after (driver_of m s)) refl (aliases_tied (driver_of m s))
    where
      two : (x z y : Option ℕ) (more : List (Option ℕ)) → Tied (x ∷ z ∷ more) (y ∷ []) → ⊥
      two None z None more tied = tied
      two None z (Some y) more tied = tied
      two (Some x) z None more tied = tied
      two (Some x) z (Some y) more tied = tied.1

      by : IsMadeOf m (driver_of m s) → (xs : List (Option ℕ)) → aliases after (driver_of m s) ≡ xs → Tied xs (aliases m (driver_of m s)) → IsFrom s
      by (nothing none) [] xs tied = alone (λ f. new_is f s [] xs ∙ sym (old_is f s [] none))
      by (nothing none) (x ∷ more) xs tied = absurd (subst (Tied (x ∷ more)) none tied)
      by (alias y ys is) [] xs tied = absurd (subst (Tied []) ys tied)
      by (alias y ys is) (x ∷ []) xs tied = one_input s is x y xs ys (subst (Tied (x ∷ [])) ys tied)
      by (alias y ys is) (x ∷ z ∷ more) xs tied = absurd (two x z y more (subst (Tied (x ∷ z ∷ more)) ys tied))

  -- the signal of a buffer is made by it
  abbrev IsMadeByBuffer : Origin → Type 0
  IsMadeByBuffer o = (j clock i : ℕ) × At clocks j clock × At m.cells i (buffer clock (next + j)) × (o ≡ Made i)

  buffer_origin : (f j clock : ℕ) (o : Origin) → At clocks j clock → new_value f (next + j) ≡ Some o → IsMadeByBuffer o
  buffer_origin zero j clock o at e = absurd (none-some o e)
  buffer_origin (suc f) j clock o at e =
      let found = b.driver j clock at in
      let here : slice_get after.cells found.0 ≡ Some (buffer clock (next + j)) = at_turned next clocks outer m.cells found.0 ∙ ap (option_map (turn next clocks outer)) found.1 in
      let none : aliases after (driver_of m (next + j)) ≡ [] = ap (aliases after) found.2 ∙ ap (λ c. option_map_or cell_aliases c []) here in
      let made : origin_made m (driver_of m (next + j)) [] ≡ Made found.0 = ap (λ d. origin_made m d []) found.2 ∙ ap (λ c. option_map_or (cell_origin found.0 []) c (Fixed false)) found.1 in
      (j, clock, found.0, at, found.1, sym (same_Some (Made found.0) o (ap Some (sym made) ∙ sym (new_is f (next + j) [] none) ∙ e)))

  -- ---- a value that was there is there, or a clock with a buffer has it
  abbrev IsAtClock : ℕ → Origin → Type 0
  IsAtClock f o = (j clock : ℕ) × At clocks j clock × (new_value f clock ≡ Some o)

  later : (f : ℕ) (o : Origin) → IsAtClock f o → IsAtClock (suc f) o
  later f o (j, clock, at, e) = (j, clock, at, value_suc (origin_system after) f clock o e)

  down_from : (f s : ℕ) (o : Origin) → ((q : ℕ) → old_value f q ≡ Some o → (new_value f q ≡ Some o) ⊎ IsAtClock f o) → IsFrom s → old_value (suc f) s ≡ Some o → (new_value (suc f) s ≡ Some o) ⊎ IsAtClock (suc f) o
  down_from f s o again (alone same) e = inl (same f ∙ e)
  down_from f s o again (another x y behind olds news) e = by behind (again y (sym (olds f) ∙ e))
    where
      by : IsBehind next clocks x y → (new_value f y ≡ Some o) ⊎ IsAtClock f o → (new_value (suc f) s ≡ Some o) ⊎ IsAtClock (suc f) o
      by (inl same) (inl there) = inl (news f ∙ ap (λ q. new_value f q) same ∙ there)
      by (inr (j, at, is)) (inl there) = inr (later f o (j, y, at, there))
      by which (inr clock) = inr (later f o clock)

  pub down : (f s : ℕ) (o : Origin) → old_value f s ≡ Some o → (new_value f s ≡ Some o) ⊎ IsAtClock f o
  down zero s o e = absurd (none-some o e)
  down (suc f) s o e = down_from f s o (λ q h. down f q o h) (from s) e

  -- ---- a value that is there was there, or is a buffer
  up_from : (f s : ℕ) (o : Origin) → ((q : ℕ) → new_value f q ≡ Some o → (old_value f q ≡ Some o) ⊎ IsMadeByBuffer o) → IsFrom s → new_value (suc f) s ≡ Some o → (old_value (suc f) s ≡ Some o) ⊎ IsMadeByBuffer o
  up_from f s o again (alone same) e = inl (sym (same f) ∙ e)
  up_from f s o again (another x y behind olds news) e = by behind (sym (news f) ∙ e)
    where
      before : (old_value f y ≡ Some o) ⊎ IsMadeByBuffer o → (old_value (suc f) s ≡ Some o) ⊎ IsMadeByBuffer o
      before (inl there) = inl (olds f ∙ there)
      before (inr made) = inr made

      by : IsBehind next clocks x y → new_value f x ≡ Some o → (old_value (suc f) s ≡ Some o) ⊎ IsMadeByBuffer o
      by (inl same) there = before (again y (ap (λ q. new_value f q) (sym same) ∙ there))
      by (inr (j, at, is)) there = inr (buffer_origin f j y o at (ap (λ q. new_value f q) (sym is) ∙ there))

  pub up : (f s : ℕ) (o : Origin) → new_value f s ≡ Some o → (old_value f s ≡ Some o) ⊎ IsMadeByBuffer o
  up zero s o e = absurd (none-some o e)
  up (suc f) s o e = up_from f s o (λ q h. up f q o h) (from s) e
