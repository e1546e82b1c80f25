-- Of netlists that are the same by names the one has a meaning where the other has.
use Rattle.std.proofs.Common.{◌≡◌, ◌⊎◌, ℕ, zero, suc, ◌+◌, ◌-◌, ◌<◌, ◌==◌, Bool, true, false, ◌&&◌, ◌||◌, nat_lt, Option, None, Some, List, [], ◌∷◌, length, map, inl, inr, refl, sym, ap, ◌∙◌, subst, arith, eqb-true, true≢false, if◌then◌else◌}
use Rattle.std.specs.Prelude.{option_map, slice_get}
use Rattle.std.specs.List.{flat_map}
use Rattle.std.specs.Option.{option_map_or}
use Rattle.std.proofs.lemmas.Option.{none-some}
use Rattle.ice_base.specs.declared.number.SignalNo.{SignalNo}
use Rattle.ice_base_values.specs.System.{present}
use Rattle.ice_base_values.specs.Order.{At, Has, IsCycleBelow}
use Rattle.ice_base_values.proofs.Cycles.{cycle_goes_on}
use Rattle.ice_net.specs.declared.cell.Cell.{Cell}
use Rattle.ice_net.specs.declared.kind.CellKind.{CellKind}
use Rattle.ice_net.specs.declared.kind.CellKind.TheVariants.{Lut, Cover, Carry, Flop, PadCell, Global}
use Rattle.ice_net.specs.declared.port.Port.{Port}
use Rattle.ice_net.specs.declared.port.Way.{Way}
use Rattle.ice_net.specs.declared.port.Way.TheVariants.{Input, Output}
use Rattle.ice_net.specs.declared.port.Way.TheVariants as way
use Rattle.ice_net.specs.Drivers.{is_signal, place_of, is_there, pin_of, has_buffer, pad_signals, outputs, driver_from, driver_of}
use Rattle.ice_net.specs.Drives.{output_type, enabled_type}
use Rattle.ice_net.specs.Uses.{data_of, enable_of, pad_uses, uses_by}
use Rattle.ice_net.specs.Meaning.{reads, depends_on}
use Rattle.ice_net.specs.NetlistData.{NetlistData}
use Rattle.ice_net.specs.Ways.{way_by, way_at}
use Rattle.ice_check.specs.Faults.{first_number, uses_of, shown_by, shown_of, is_nothing, is_undriven, is_driven_twice, port_is, is_shared, is_bare_by, is_bare, cell_is, is_type_out, is_no_way, is_no_port, is_portless}
use Rattle.ice_check.specs.Loops.{HasNoLoop}
use Rattle.ice_check.specs.Sound.{IsSound}
use Rattle.ice_check.specs.Tables.{once, times}
use Rattle.ice_blif_laws.proofs.Alike.{Both, Each, each_map, each_flat, each_long, each_at, each_or}
use Rattle.ice_blif_laws.proofs.Tied.{IsOne, AreOne, IsTied, IsPortTied, IsCellTied, AreTied, one_left}
use Rattle.ice_blif_laws.proofs.Drivers.{signal_same, place_same, pin_tied, pins_tied, outputs_tied, has_buffer_same, pads_tied, port_at_same, driver_same, depends_too}

-- ---- numbers that no test takes
passes_none : (test : ℕ → Bool) (k more j : ℕ) → first_number test k more ≡ None → j < more → test (k + j) ≡ false
passes_none test k zero j none lt = absurd (omega arith)
passes_none test k (suc more) j none lt = by (test k) refl none (passes_none test (k + 1) more) j lt
  where
    by : (b : Bool) → test k ≡ b → (if b then Some k else first_number test (k + 1) more) ≡ None → ((i : ℕ) → first_number test (k + 1) more ≡ None → i < more → test (k + 1 + i) ≡ false) → (i : ℕ) → i < suc more → test (k + i) ≡ false
    by true is e later i l = absurd (none-some k (sym e))
    by false is e later zero l = ap test (let same : k + 0 ≡ k = omega arith in same) ∙ is
    by false is e later (suc i) l = ap test (let same : k + suc i ≡ k + 1 + i = omega arith in same) ∙ later i e (omega arith)

none_passes : (test : ℕ → Bool) (k more : ℕ) → ((j : ℕ) → j < more → test (k + j) ≡ false) → first_number test k more ≡ None
none_passes test k zero never = refl
none_passes test k (suc more) never =
    (λ i. if here i then Some k else first_number test (k + 1) more)
    ∙ none_passes test (k + 1) more (λ j lt. ap test (let same : k + 1 + j ≡ k + suc j = omega arith in same) ∙ never (suc j) (omega arith))
  where
    here : test k ≡ false
    here = ap test (let same : k ≡ k + 0 = omega arith in same) ∙ never 0 (omega arith)

-- the same from 0 on
none_of : (test : ℕ → Bool) (count j : ℕ) → first_number test 0 count ≡ None → j < count → test j ≡ false
none_of test count j none lt = subst (λ k. test k ≡ false) (let same : 0 + j ≡ j = omega arith in same) (passes_none test 0 count j none lt)

of_none : (test : ℕ → Bool) (count : ℕ) → ((j : ℕ) → j < count → test j ≡ false) → first_number test 0 count ≡ None
of_none test count never = none_passes test 0 count (λ j lt. subst (λ k. test k ≡ false) (let same : j ≡ 0 + j = omega arith in same) (never j lt))

-- the tests of two lists of places that say the same
same_none : (p q : ℕ → Bool) (a b : ℕ) → a ≡ b → ((k : ℕ) → p k ≡ q k) → first_number p 0 a ≡ None → first_number q 0 b ≡ None
same_none p q a b long same none = of_none q b (λ j lt. sym (same j) ∙ none_of p a j none (omega (arith, long, lt)))

module _ (n m : NetlistData) (are : AreTied n m) where
  -- ---- signals of a list
  place_there : (xs ys : List (Option SignalNo)) (t : ℕ) → Each (IsTied n m) xs ys → is_there (place_of t ys) ≡ true → (s : ℕ) × IsOne n m s t
  place_there [] [] t h there = absurd (true≢false (sym there))
  place_there [] (y ∷ ys) t h there = absurd h
  place_there (x ∷ xs) [] t h there = absurd h
  place_there (x ∷ xs) (y ∷ ys) t h there = by x y h.0 (place_there xs ys t h.1) (is_signal t y) refl there
    where
      later : (o : Option ℕ) → is_there (option_map suc o) ≡ true → is_there o ≡ true
      later None e = e
      later (Some k) e = refl

      by : (a b : Option SignalNo) → IsTied n m a b → (is_there (place_of t ys) ≡ true → (s : ℕ) × IsOne n m s t) → (c : Bool) → is_signal t b ≡ c
          → is_there (if c then Some 0 else option_map suc (place_of t ys)) ≡ true → (s : ℕ) × IsOne n m s t
      by a b tie rest false e on = rest (later (place_of t ys) on)
      by None None tie rest true e on = absurd (true≢false (sym e))
      by None (Some b) tie rest true e on = absurd tie
      by (Some a) None tie rest true e on = absurd tie
      by (Some a) (Some b) tie rest true e on = (a.0, subst (IsOne n m a.0) (eqb-true b.0 t e) tie)

  times_same : (xs ys : List (Option SignalNo)) (s t : ℕ) → Each (IsTied n m) xs ys → IsOne n m s t → times s xs ≡ times t ys
  times_same [] [] s t h st = refl
  times_same [] (y ∷ ys) s t h st = absurd h
  times_same (x ∷ xs) [] s t h st = absurd h
  times_same (x ∷ xs) (y ∷ ys) s t h st = (λ j. once (signal_same n m are x y s t h.0 st j) + times_same xs ys s t h.1 st j)

  times_zero : (t : ℕ) (ys : List (Option SignalNo)) → place_of t ys ≡ None → times t ys ≡ 0
  times_zero t [] none = refl
  times_zero t (y ∷ ys) none = by (is_signal t y) refl none (times_zero t ys)
    where
      later : (o : Option ℕ) → option_map suc o ≡ None → o ≡ None
      later None e = refl
      later (Some k) e = absurd (cc e)

      by : (c : Bool) → is_signal t y ≡ c → (if c then Some 0 else option_map suc (place_of t ys)) ≡ None → (place_of t ys ≡ None → times t ys ≡ 0) → once (is_signal t y) + times t ys ≡ 0
      by true e on rest = absurd (none-some 0 (sym on))
      by false e on rest = (let none_here : once (is_signal t y) ≡ 0 = ap once e in omega (arith, none_here, rest (later (place_of t ys) on)))

  -- a signal stands in the list and has one of the same name, or it has no place there
  named_or_not : (xs ys : List (Option SignalNo)) (t : ℕ) → Each (IsTied n m) xs ys → ((s : ℕ) × IsOne n m s t) ⊎ (place_of t ys ≡ None)
  named_or_not xs ys t h = by (place_of t ys) refl
    where
      by : (o : Option ℕ) → place_of t ys ≡ o → ((s : ℕ) × IsOne n m s t) ⊎ (place_of t ys ≡ None)
      by None e = inr e
      by (Some k) e = inl (place_there xs ys t h (ap is_there e))

  -- ---- uses
  pad_uses_tied : (pin_type : ℕ) (xs ys : List (Option SignalNo)) → Each (IsTied n m) xs ys → Each (IsTied n m) (pad_uses pin_type xs) (pad_uses pin_type ys)
  pad_uses_tied pin_type xs ys h = by (pin_type == output_type) (pin_type == enabled_type)
    where
      by : (a b : Bool)
          → Each (IsTied n m) (if a then data_of xs ∷ [] else (if b then data_of xs ∷ enable_of xs ∷ [] else [])) (if a then data_of ys ∷ [] else (if b then data_of ys ∷ enable_of ys ∷ [] else []))
      by true b = (each_or (AreOne n m) xs ys 1 h, tt)
      by false true = (each_or (AreOne n m) xs ys 1 h, (each_or (AreOne n m) xs ys 2 h, tt))
      by false false = tt

  uses_by_tied : (kind : CellKind) (xs ys : List (Option SignalNo)) → Each (IsTied n m) xs ys → Each (IsTied n m) (uses_by kind xs) (uses_by kind ys)
  uses_by_tied (Lut table) xs ys h = h
  uses_by_tied (Cover table width) xs ys h = h
  uses_by_tied Carry xs ys h = h
  uses_by_tied (Flop falling enable reset) xs ys h = h
  uses_by_tied (PadCell pin_type pullup) xs ys h = pad_uses_tied pin_type xs ys h
  uses_by_tied Global xs ys h = h

  uses_tied : Each (IsTied n m) (flat_map uses_of n.cells) (flat_map uses_of m.cells)
  uses_tied =
      each_flat (IsCellTied n m) (IsTied n m) uses_of uses_of
      (λ c d h. subst (λ k. Each (IsTied n m) (uses_by c.kind c.ins) (uses_by k d.ins)) h.kind (uses_by_tied c.kind c.ins d.ins h.ins)) n.cells m.cells are.cells

  shown_by_tied : (p q : Port) (buffered : Bool) (w : Way) → IsOne n m p.signal.0 q.signal.0 → IsTied n m (shown_by p buffered w) (shown_by q buffered w)
  shown_by_tied p q buffered Input h = tt
  shown_by_tied p q buffered way.Both h = tt
  shown_by_tied p q true Output h = tt
  shown_by_tied p q false Output h = h

  shown_tied : Each (IsTied n m) (map (shown_of n.cells) n.ports) (map (shown_of m.cells) m.ports)
  shown_tied =
      each_map (IsPortTied n m) (IsTied n m) (shown_of n.cells) (shown_of m.cells)
      (λ p q h. subst (λ w. IsTied n m (shown_of n.cells p) (shown_by q (has_buffer m.cells q.signal.0) w)) h.way
      (subst (λ b. IsTied n m (shown_of n.cells p) (shown_by q b p.way)) (has_buffer_same n m are p.signal.0 q.signal.0 h.signal) (shown_by_tied p q (has_buffer n.cells p.signal.0) p.way h.signal)))
      n.ports m.ports are.ports

  -- ---- signals
  module _ (sound : IsSound n) where
    driven : (t : ℕ) → t < length m.names → is_undriven m t ≡ false
    driven t lt = by (named_or_not (flat_map uses_of n.cells) (flat_map uses_of m.cells) t uses_tied) (named_or_not (map (shown_of n.cells) n.ports) (map (shown_of m.cells) m.ports) t shown_tied)
      where
        named : (s : ℕ) → IsOne n m s t → is_undriven m t ≡ false
        named s st =
            sym (λ j. is_nothing (driver_same n m are s t st j)
            && (is_there (place_same n m are (flat_map uses_of n.cells) (flat_map uses_of m.cells) s t uses_tied st j)
            || is_there (place_same n m are (map (shown_of n.cells) n.ports) (map (shown_of m.cells) m.ports) s t shown_tied st j)))
            ∙ none_of (is_undriven n) (length n.names) s sound.driven st.left

        idle : (b : Bool) → (b && (false || false)) ≡ false
        idle true = refl
        idle false = refl

        by : ((s : ℕ) × IsOne n m s t) ⊎ (place_of t (flat_map uses_of m.cells) ≡ None) → ((s : ℕ) × IsOne n m s t) ⊎ (place_of t (map (shown_of m.cells) m.ports) ≡ None) → is_undriven m t ≡ false
        by (inl one) other = named one.0 one.1
        by (inr unused) (inl one) = named one.0 one.1
        by (inr unused) (inr hidden) = (λ j. is_nothing (driver_of m t) && (is_there (unused j) || is_there (hidden j))) ∙ idle (is_nothing (driver_of m t))

    driven_once : (t : ℕ) → t < length m.names → is_driven_twice m t ≡ false
    driven_once t lt = by (named_or_not (pad_signals n) (pad_signals m) t (pads_tied n m are)) (named_or_not (outputs n) (outputs m) t (outputs_tied n m are))
      where
        named : (s : ℕ) → IsOne n m s t → is_driven_twice m t ≡ false
        named s st =
            sym (λ j. nat_lt 1 (times_same (pad_signals n) (pad_signals m) s t (pads_tied n m are) st j + times_same (outputs n) (outputs m) s t (outputs_tied n m are) st j))
            ∙ none_of (is_driven_twice n) (length n.names) s sound.driven_once st.left

        by : ((s : ℕ) × IsOne n m s t) ⊎ (place_of t (pad_signals m) ≡ None) → ((s : ℕ) × IsOne n m s t) ⊎ (place_of t (outputs m) ≡ None) → is_driven_twice m t ≡ false
        by (inl one) other = named one.0 one.1
        by (inr no_pad) (inl one) = named one.0 one.1
        by (inr no_pad) (inr no_output) = (λ j. nat_lt 1 (times_zero t (pad_signals m) no_pad j + times_zero t (outputs m) no_output j))

  -- ---- loops
  -- a signal has one of the same name, or depends on nothing
  named_or_source : (t : ℕ) → ((s : ℕ) × IsOne n m s t) ⊎ (depends_on m t ≡ [])
  named_or_source t = by (named_or_not (pad_signals n) (pad_signals m) t (pads_tied n m are)) (named_or_not (outputs n) (outputs m) t (outputs_tied n m are))
    where
      by : ((s : ℕ) × IsOne n m s t) ⊎ (place_of t (pad_signals m) ≡ None) → ((s : ℕ) × IsOne n m s t) ⊎ (place_of t (outputs m) ≡ None) → ((s : ℕ) × IsOne n m s t) ⊎ (depends_on m t ≡ [])
      by (inl one) other = inl one
      by (inr no_pad) (inl one) = inl one
      by (inr no_pad) (inr no_output) = inr (λ j. present (reads m (driver_from (no_pad j) (no_output j))))

  goes : (p p' q q' : ℕ) → IsOne n m p p' → IsOne n m q q' → Has (depends_on m p') q' → Has (depends_on n p) q
  goes p p' q q' at to has = let found = depends_too n m are p p' q' at has in subst (Has (depends_on n p)) (one_left n m are found.0 q q' found.1 to) found.2

  -- signals of the same names, one by one
  named_list : (ys : List ℕ) → ((y : ℕ) → Has ys y → (s : ℕ) × IsOne n m s y) → (xs : List ℕ) × Each (IsOne n m) xs ys
  named_list [] on = ([], tt)
  named_list (y ∷ ys) on = let first = on y (0, refl) in let rest = named_list ys (λ z has. on z (suc has.0, has.1)) in (first.0 ∷ rest.0, (first.1, rest.1))

  like : (xs ys : List ℕ) → Each (IsOne n m) xs ys → (i x : ℕ) → At xs i x → (y : ℕ) × At ys i y × IsOne n m x y
  like xs ys each i x at = by (slice_get ys i) refl (subst (λ o. Both (IsOne n m) o (slice_get ys i)) at (each_at (IsOne n m) xs ys i each))
    where
      by : (o : Option ℕ) → slice_get ys i ≡ o → Both (IsOne n m) (Some x) o → (y : ℕ) × At ys i y × IsOne n m x y
      by None e h = absurd h
      by (Some y) e h = (y, e, h)

  loopless : HasNoLoop n → HasNoLoop m
  loopless none = record { none = no_cycle }
    where
      no_cycle : (cycle : List ℕ) → IsCycleBelow (length m.names) (depends_on m) cycle → ⊥
      no_cycle cycle c = none.none xs (record { within = within; closes = record { some = omega (arith, long, c.closes.some); next = next; closed = closed } })
        where
          partner : (y : ℕ) → Has cycle y → (s : ℕ) × IsOne n m s y
          partner y has = by (named_or_source y)
            where
              by : ((s : ℕ) × IsOne n m s y) ⊎ (depends_on m y ≡ []) → (s : ℕ) × IsOne n m s y
              by (inl one) = one
              by (inr source) = let later = cycle_goes_on (depends_on m) cycle c.closes y has in absurd (none-some later.0 (subst (λ (row : List ℕ). At row later.1.0 later.0) source later.1.1))

          named : (xs : List ℕ) × Each (IsOne n m) xs cycle
          named = named_list cycle partner

          xs : List ℕ
          xs = named.0

          long : length named.0 ≡ length cycle
          long = each_long (IsOne n m) named.0 cycle named.1

          within : (i point : ℕ) → At named.0 i point → point < length n.names
          within i p at = (like named.0 cycle named.1 i p at).2.left

          next : (i point read : ℕ) → At named.0 i point → At named.0 (i + 1) read → Has (depends_on n point) read
          next i p q at to =
              let a = like named.0 cycle named.1 i p at in
              let b = like named.0 cycle named.1 (i + 1) q to in
              goes p a.0 q b.0 a.2 b.2 (c.closes.next i a.0 b.0 a.1 b.1)

          closed : (first last : ℕ) → At named.0 0 first → At named.0 (length named.0 - 1) last → Has (depends_on n last) first
          closed p q at to =
              let a = like named.0 cycle named.1 0 p at in
              let b = like named.0 cycle named.1 (length named.0 - 1) q to in
              goes q b.0 p a.0 b.2 a.2 (c.closes.closed a.0 b.0 a.1 (subst (λ k. At cycle (k - 1) b.0) long b.1))

  -- ---- ports
  port_test_same : (p q : Port → Bool) → ((a b : Port) → IsPortTied n m a b → p a ≡ q b) → (k : ℕ) → port_is n p k ≡ port_is m q k
  port_test_same p q same k = by (slice_get n.ports k) (slice_get m.ports k) (each_at (IsPortTied n m) n.ports m.ports k are.ports)
    where
      by : (a b : Option Port) → Both (IsPortTied n m) a b → option_map_or p a false ≡ option_map_or q b false
      by None None h = refl
      by None (Some b) h = absurd h
      by (Some a) None h = absurd h
      by (Some a) (Some b) h = same a b h

  shared_same : (a b : Port) → IsPortTied n m a b → is_shared n.cells a ≡ is_shared m.cells b
  shared_same a b h = ap (nat_lt 1) (times_same (map pin_of n.cells) (map pin_of m.cells) a.signal.0 b.signal.0 (pins_tied n m are) h.signal)

  bare_same : (a b : Port) → IsPortTied n m a b → is_bare n.cells a ≡ is_bare m.cells b
  bare_same a b h = (λ j. is_bare_by (has_buffer_same n m are a.signal.0 b.signal.0 h.signal j) (h.way j))

  -- ---- cells
  cell_test_same : (p q : Cell → Bool) → ((a b : Cell) → IsCellTied n m a b → p a ≡ q b) → (k : ℕ) → cell_is n p k ≡ cell_is m q k
  cell_test_same p q same k = by (slice_get n.cells k) (slice_get m.cells k) (each_at (IsCellTied n m) n.cells m.cells k are.cells)
    where
      by : (a b : Option Cell) → Both (IsCellTied n m) a b → option_map_or p a false ≡ option_map_or q b false
      by None None h = refl
      by None (Some b) h = absurd h
      by (Some a) None h = absurd h
      by (Some a) (Some b) h = same a b h

  way_by_same : (a b : Option Port) → Both (IsPortTied n m) a b → way_by a ≡ way_by b
  way_by_same None None h = refl
  way_by_same None (Some b) h = absurd h
  way_by_same (Some a) None h = absurd h
  way_by_same (Some a) (Some b) h = ap Some h.way

  way_same : (o : Option ℕ) → way_at n.ports o ≡ way_at m.ports o
  way_same None = refl
  way_same (Some k) = way_by_same (slice_get n.ports k) (slice_get m.ports k) (each_at (IsPortTied n m) n.ports m.ports k are.ports)

  no_port_same : (x y : Option SignalNo) → IsTied n m x y → is_no_port n.ports x ≡ is_no_port m.ports y
  no_port_same None None h = refl
  no_port_same None (Some y) h = absurd h
  no_port_same (Some x) None h = absurd h
  no_port_same (Some x) (Some y) h = ap is_no_way (ap (way_at n.ports) (port_at_same n m are x.0 y.0 h) ∙ way_same _)

  portless_by_same : (kind : CellKind) (x y : Option SignalNo) → IsTied n m x y → is_portless n.ports kind x ≡ is_portless m.ports kind y
  portless_by_same (Lut table) x y h = refl
  portless_by_same (Cover table width) x y h = refl
  portless_by_same Carry x y h = refl
  portless_by_same (Flop falling enable reset) x y h = refl
  portless_by_same (PadCell pin_type pullup) x y h = no_port_same x y h
  portless_by_same Global x y h = refl

  portless_same : (a b : Cell) → IsCellTied n m a b → is_portless n.ports a.kind (pin_of a) ≡ is_portless m.ports b.kind (pin_of b)
  portless_same a b h = portless_by_same a.kind (pin_of a) (pin_of b) (pin_tied n m are a b h) ∙ (λ j. is_portless m.ports (h.kind j) (pin_of b))

  -- ---- all of them
  pub still_sound : IsSound n → IsSound m
  still_sound sound =
      let ports = each_long (IsPortTied n m) n.ports m.ports are.ports in
      let cells = each_long (IsCellTied n m) n.cells m.cells are.cells in
      record {
        driven = of_none (is_undriven m) (length m.names) (driven sound);
        driven_once = of_none (is_driven_twice m) (length m.names) (driven_once sound);
        loopless = loopless sound.loopless;
        pads_apart = same_none (port_is n (is_shared n.cells)) (port_is m (is_shared m.cells)) (length n.ports) (length m.ports) ports (port_test_same (is_shared n.cells) (is_shared m.cells) shared_same) sound.pads_apart;
        pin_types = same_none (cell_is n (λ (cell : Cell). is_type_out cell.kind)) (cell_is m (λ (cell : Cell). is_type_out cell.kind)) (length n.cells) (length m.cells) cells
            (cell_test_same (λ (cell : Cell). is_type_out cell.kind) (λ (cell : Cell). is_type_out cell.kind) (λ a b h. ap is_type_out h.kind)) sound.pin_types;
        pins_at_ports = same_none (cell_is n (λ (cell : Cell). is_portless n.ports cell.kind (pin_of cell))) (cell_is m (λ (cell : Cell). is_portless m.ports cell.kind (pin_of cell))) (length n.cells) (length m.cells) cells
            (cell_test_same (λ (cell : Cell). is_portless n.ports cell.kind (pin_of cell)) (λ (cell : Cell). is_portless m.ports cell.kind (pin_of cell)) portless_same) sound.pins_at_ports;
        inouts_buffered = same_none (port_is n (is_bare n.cells)) (port_is m (is_bare m.cells)) (length n.ports) (length m.ports) ports (port_test_same (is_bare n.cells) (is_bare m.cells) bare_same) sound.inouts_buffered;
      }
