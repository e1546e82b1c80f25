-- Signals of the same name have the same value in netlists that are the same by names.
use Rattle.std.proofs.Common.{◌≡◌, ◌⊎◌, ℕ, zero, suc, ◌+◌, ◌<◌, Bool, false, Option, None, Some, List, [], ◌∷◌, length, map, inl, refl, sym, ap, ◌∙◌, subst, arith}
use Rattle.std.specs.Prelude.{option_map, slice_get, slice_index_or, unwrap_or}
use Rattle.std.specs.List.{range_with_len}
use Rattle.std.specs.Option.{option_map_or}
use Rattle.std.proofs.lemmas.List.FromFn.{length-range_with_len}
use Rattle.ice_base.specs.Lists.{all_known}
use Rattle.ice_base.proofs.Options.{option_map_same}
use Rattle.ice_base.specs.declared.number.SignalNo.{SignalNo}
use Rattle.ice_base_values.specs.Order.{At, Has}
use Rattle.ice_base_values.specs.System.{value, present, filled_inputs}
use Rattle.ice_base_values.proofs.Enough.{value_enough}
use Rattle.ice_net.specs.declared.cell.Cell.{Cell}
use Rattle.ice_net.specs.declared.driver.SignalDriver.{SignalDriver}
use Rattle.ice_net.specs.declared.driver.SignalDriver.TheVariants as driver
use Rattle.ice_net.specs.Drivers.{pin_of, driver_of}
use Rattle.ice_net.specs.Meaning.{level_by, pad_level, makes_by, reads, makes, depends_on, system_of, signal_value}
use Rattle.ice_net.specs.NetlistData.{NetlistData}
use Rattle.ice_blif_laws.proofs.Alike.{Both, Each, each_at}
use Rattle.ice_blif_laws.proofs.Tied.{IsOne, IsTied, IsCellTied, AreTied}
use Rattle.ice_blif_laws.proofs.Drivers.{pin_tied, port_at_same, driver_same, NumberTied, reads_tied, depends_left, depends_right}

-- ---- numbers in a row
at_range : (a n i : ℕ) → i < n → At (range_with_len a n) i (a + i)
at_range a zero i lt = absurd (omega arith)
at_range a (suc n) zero lt = let e : a ≡ a + 0 = omega arith in ap (λ k. Some k) e
at_range a (suc n) (suc i) lt = let e : a + 1 + i ≡ a + suc i = omega arith in subst (λ k. At (range_with_len (a + 1) n) i k) e (at_range (a + 1) n i (omega arith))

in_range : (n i : ℕ) → i < n → Has (range_with_len 0 n) i
in_range n i lt = (i, subst (λ k. At (range_with_len 0 n) i k) (let e : 0 + i ≡ i = omega arith in e) (at_range 0 n i lt))

module _ (n m : NetlistData) (are : AreTied n m) (levels kept : List Bool) where
  -- ---- what a driver makes of what it reads
  filled_same : (xs ys : List (Option ℕ)) (zs : List Bool) → Each (NumberTied n m are) xs ys → filled_inputs false xs zs ≡ filled_inputs false ys zs
  filled_same [] [] zs h = refl
  filled_same [] (y ∷ ys) zs h = absurd h
  filled_same (x ∷ xs) [] zs h = absurd h
  filled_same (None ∷ xs) (None ∷ ys) zs h = ap (λ bs. false ∷ bs) (filled_same xs ys zs h.1)
  filled_same (None ∷ xs) (Some y ∷ ys) zs h = absurd h.0
  filled_same (Some x ∷ xs) (None ∷ ys) zs h = absurd h.0
  filled_same (Some x ∷ xs) (Some y ∷ ys) [] h = ap (λ bs. false ∷ bs) (filled_same xs ys [] h.1)
  filled_same (Some x ∷ xs) (Some y ∷ ys) (z ∷ zs) h = ap (λ bs. z ∷ bs) (filled_same xs ys zs h.1)

  pad_level_same : (x y : Option SignalNo) → IsTied n m x y → pad_level n.ports levels x ≡ pad_level m.ports levels y
  pad_level_same None None h = refl
  pad_level_same None (Some y) h = absurd h
  pad_level_same (Some x) None h = absurd h
  pad_level_same (Some x) (Some y) h = ap (level_by levels) (port_at_same n m are x.0 y.0 h)

  makes_same : (d : SignalDriver) (zs : List Bool) → makes n levels kept d zs ≡ makes m levels kept d zs
  makes_same driver.Nothing zs = refl
  makes_same (driver.Pad k) zs = refl
  makes_same (driver.Output i) zs = by (slice_get n.cells i) (slice_get m.cells i) (each_at (IsCellTied n m) n.cells m.cells i are.cells)
    where
      by : (o p : Option Cell) → Both (IsCellTied n m) o p
          → option_map_or (λ (cell : Cell). makes_by cell.kind (slice_index_or kept i false) (pad_level n.ports levels (pin_of cell)) zs) o false
          ≡ option_map_or (λ (cell : Cell). makes_by cell.kind (slice_index_or kept i false) (pad_level m.ports levels (pin_of cell)) zs) p false
      by None None h = refl
      by None (Some d) h = absurd h
      by (Some c) None h = absurd h
      by (Some c) (Some d) h = (λ j. makes_by (h.kind j) (slice_index_or kept i false) (pad_level_same (pin_of c) (pin_of d) (pin_tied n m are c d h) j) zs)

  -- ---- values
  abbrev left : ℕ → ℕ → Option Bool
  left f s = value (system_of n levels kept) f s

  abbrev right : ℕ → ℕ → Option Bool
  right f t = value (system_of m levels kept) f t

  known_same : (f : ℕ) → ((s t : ℕ) → IsOne n m s t → left f s ≡ right f t) → (xs ys : List (Option ℕ)) → Each (NumberTied n m are) xs ys → map (left f) (present xs) ≡ map (right f) (present ys)
  known_same f same [] [] h = refl
  known_same f same [] (y ∷ ys) h = absurd h
  known_same f same (x ∷ xs) [] h = absurd h
  known_same f same (None ∷ xs) (None ∷ ys) h = known_same f same xs ys h.1
  known_same f same (None ∷ xs) (Some y ∷ ys) h = absurd h.0
  known_same f same (Some x ∷ xs) (None ∷ ys) h = absurd h.0
  known_same f same (Some x ∷ xs) (Some y ∷ ys) h = (λ j. same x y h.0 j ∷ known_same f same xs ys h.1 j)

  made : NetlistData → (ℕ → Option Bool) → SignalDriver → Option Bool
  made k v d = option_map (λ xs. makes k levels kept d (filled_inputs false (reads k d) xs)) (all_known (map v (present (reads k d))))

  made_same : (f : ℕ) → ((s t : ℕ) → IsOne n m s t → left f s ≡ right f t) → (d : SignalDriver) → made n (left f) d ≡ made m (right f) d
  unfolding made
  made_same f same d =
      ap (λ os. option_map (λ xs. makes n levels kept d (filled_inputs false (reads n d) xs)) (all_known os)) (known_same f same (reads n d) (reads m d) (reads_tied n m are d))
      ∙ option_map_same (λ xs. makes n levels kept d (filled_inputs false (reads n d) xs)) (λ xs. makes m levels kept d (filled_inputs false (reads m d) xs))
      (λ xs. makes_same d (filled_inputs false (reads n d) xs) ∙ ap (makes m levels kept d) (filled_same (reads n d) (reads m d) xs (reads_tied n m are d)))
      (all_known (map (right f) (present (reads m d))))

  -- after any number of steps
  value_same : (f s t : ℕ) → IsOne n m s t → left f s ≡ right f t
  unfolding made
  value_same zero s t st = refl
  value_same (suc f) s t st = made_same f (value_same f) (driver_of n s) ∙ ap (made m (right f)) (driver_same n m are s t st)

  -- as many steps as there are signals, and one more, are enough in both
  closed_left : (p q : ℕ) → Has (range_with_len 0 (length n.names)) p → Has (depends_on n p) q → Has (range_with_len 0 (length n.names)) q ⊎ (depends_on n q ≡ [])
  closed_left p q has on = inl (in_range (length n.names) q (depends_left n m are p q on).1.left)

  closed_right : (p q : ℕ) → Has (range_with_len 0 (length m.names)) p → Has (depends_on m p) q → Has (range_with_len 0 (length m.names)) q ⊎ (depends_on m q ≡ [])
  closed_right p q has on = inl (in_range (length m.names) q (depends_right n m are p q on).1.right)

  enough_left : (f s : ℕ) (x : Bool) → s < length n.names → left f s ≡ Some x → left (length n.names + 1) s ≡ Some x
  enough_left f s x lt is =
      ap (λ k. left (k + 1) s) (sym (length-range_with_len 0 (length n.names)))
      ∙ value_enough (system_of n levels kept) (range_with_len 0 (length n.names)) closed_left f s x (in_range (length n.names) s lt) is

  enough_right : (f t : ℕ) (x : Bool) → t < length m.names → right f t ≡ Some x → right (length m.names + 1) t ≡ Some x
  enough_right f t x lt is =
      ap (λ k. right (k + 1) t) (sym (length-range_with_len 0 (length m.names)))
      ∙ value_enough (system_of m levels kept) (range_with_len 0 (length m.names)) closed_right f t x (in_range (length m.names) t lt) is

  at_end : (s t : ℕ) → IsOne n m s t → left (length n.names + 1) s ≡ right (length m.names + 1) t
  at_end s t st = by (left (length n.names + 1) s) refl (right (length m.names + 1) t) refl
    where
      by : (o : Option Bool) → left (length n.names + 1) s ≡ o → (p : Option Bool) → right (length m.names + 1) t ≡ p → o ≡ p
      by None e None f = refl
      by (Some x) e p f = sym (enough_right (length n.names + 1) t x st.right (sym (value_same (length n.names + 1) s t st) ∙ e)) ∙ f
      by None e (Some y) f = sym e ∙ enough_left (length m.names + 1) s y st.left (value_same (length m.names + 1) s t st ∙ f)

  -- signals of the same name have the same value
  pub signal_value_same : (s t : ℕ) → IsOne n m s t → signal_value n levels kept s ≡ signal_value m levels kept t
  signal_value_same s t st = ap (λ o. unwrap_or o false) (at_end s t st)
