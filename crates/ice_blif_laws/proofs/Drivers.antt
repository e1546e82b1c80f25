-- What drives signals of the same name in netlists that are the same by names, and what it reads.
use Rattle.std.proofs.Common.{◌≡◌, ℕ, zero, suc, Bool, true, false, Option, None, Some, List, [], ◌∷◌, map, refl, sym, ap, subst, if◌then◌else◌}
use Rattle.std.specs.Prelude.{option_map, slice_get}
use Rattle.std.specs.Option.{option_map_or}
use Rattle.std.proofs.lemmas.Option.{none-some}
use Rattle.ice_base.specs.declared.number.SignalNo.{SignalNo}
use Rattle.ice_base_values.specs.System.{present}
use Rattle.ice_base_values.specs.Order.{Has}
use Rattle.ice_net.specs.declared.cell.Cell.{Cell}
use Rattle.ice_net.specs.declared.driver.SignalDriver.{SignalDriver}
use Rattle.ice_net.specs.declared.driver.SignalDriver.TheVariants as driver
use Rattle.ice_net.specs.declared.kind.CellKind.{CellKind}
use Rattle.ice_net.specs.declared.kind.CellKind.TheVariants.{Lut, Cover, Carry, Flop, PadCell, Global}
use Rattle.ice_net.specs.declared.port.Port.{Port}
use Rattle.ice_net.specs.declared.port.Way.{Way}
use Rattle.ice_net.specs.declared.port.Way.TheVariants.{Input, Output}
use Rattle.ice_net.specs.declared.port.Way.TheVariants as way
use Rattle.ice_net.specs.Drivers.{signal_number, is_signal, place_of, is_there, pin_by, pin_of, buffer_at, has_buffer, pad_by, pad_of, pad_signals, output_of, outputs, driver_from, driver_of}
use Rattle.ice_net.specs.Meaning.{reads_by, cell_reads, reads, depends_on}
use Rattle.ice_net.specs.NetlistData.{NetlistData, port_at, is_at}
use Rattle.ice_blif_laws.proofs.Alike.{Both, Each, each_map, each_at, each_or, each_position}
use Rattle.ice_blif_laws.proofs.Tied.{IsOne, AreOne, IsTied, IsPortTied, IsCellTied, AreTied, same_test}

module _ (n m : NetlistData) (are : AreTied n m) where
  -- ---- places
  pub signal_same : (x y : Option SignalNo) (s t : ℕ) → IsTied n m x y → IsOne n m s t → is_signal s x ≡ is_signal t y
  signal_same None None s t h st = refl
  signal_same None (Some y) s t h st = absurd h
  signal_same (Some x) None s t h st = absurd h
  signal_same (Some x) (Some y) s t h st = same_test n m are x.0 y.0 s t h st

  pub place_same : (xs ys : List (Option SignalNo)) (s t : ℕ) → Each (IsTied n m) xs ys → IsOne n m s t → place_of s xs ≡ place_of t ys
  place_same [] [] s t h st = refl
  place_same [] (y ∷ ys) s t h st = absurd h
  place_same (x ∷ xs) [] s t h st = absurd h
  place_same (x ∷ xs) (y ∷ ys) s t h st = (λ j. if signal_same x y s t h.0 st j then Some 0 else option_map suc (place_same xs ys s t h.1 st j))

  -- ---- cells
  pin_by_tied : (kind : CellKind) (xs ys : List (Option SignalNo)) → Each (IsTied n m) xs ys → IsTied n m (pin_by kind xs) (pin_by kind ys)
  pin_by_tied (Lut table) xs ys h = tt
  pin_by_tied (Cover table width) xs ys h = tt
  pin_by_tied Carry xs ys h = tt
  pin_by_tied (Flop falling enable reset) xs ys h = tt
  pin_by_tied (PadCell pin_type pullup) xs ys h = each_or (AreOne n m) xs ys 0 h
  pin_by_tied Global xs ys h = tt

  pub pin_tied : (c d : Cell) → IsCellTied n m c d → IsTied n m (pin_of c) (pin_of d)
  pin_tied c d h = subst (λ k. IsTied n m (pin_by c.kind c.ins) (pin_by k d.ins)) h.kind (pin_by_tied c.kind c.ins d.ins h.ins)

  pub pins_tied : Each (IsTied n m) (map pin_of n.cells) (map pin_of m.cells)
  pins_tied = each_map (IsCellTied n m) (IsTied n m) pin_of pin_of pin_tied n.cells m.cells are.cells

  pub outputs_tied : Each (IsTied n m) (outputs n) (outputs m)
  outputs_tied = each_map (IsCellTied n m) (IsTied n m) output_of output_of (λ c d h. each_or (AreOne n m) c.outs d.outs 0 h.outs) n.cells m.cells are.cells

  -- ---- ports
  pub buffer_same : (s t : ℕ) → IsOne n m s t → buffer_at n.cells s ≡ buffer_at m.cells t
  buffer_same s t st = place_same (map pin_of n.cells) (map pin_of m.cells) s t pins_tied st

  pub has_buffer_same : (s t : ℕ) → IsOne n m s t → has_buffer n.cells s ≡ has_buffer m.cells t
  has_buffer_same s t st = ap is_there (buffer_same s t st)

  pad_by_tied : (p q : Port) (buffered : Bool) (w : Way) → IsOne n m p.signal.0 q.signal.0 → IsTied n m (pad_by p buffered w) (pad_by q buffered w)
  pad_by_tied p q buffered Input h = h
  pad_by_tied p q buffered way.Both h = h
  pad_by_tied p q true Output h = h
  pad_by_tied p q false Output h = tt

  pad_tied : (p q : Port) → IsPortTied n m p q → IsTied n m (pad_of n.cells p) (pad_of m.cells q)
  pad_tied p q h =
      subst (λ w. IsTied n m (pad_of n.cells p) (pad_by q (has_buffer m.cells q.signal.0) w)) h.way
      (subst (λ b. IsTied n m (pad_of n.cells p) (pad_by q b p.way)) (has_buffer_same p.signal.0 q.signal.0 h.signal) (pad_by_tied p q (has_buffer n.cells p.signal.0) p.way h.signal))

  pub pads_tied : Each (IsTied n m) (pad_signals n) (pad_signals m)
  pads_tied = each_map (IsPortTied n m) (IsTied n m) (pad_of n.cells) (pad_of m.cells) pad_tied n.ports m.ports are.ports

  pub port_at_same : (s t : ℕ) → IsOne n m s t → port_at s n.ports ≡ port_at t m.ports
  port_at_same s t st = each_position (IsPortTied n m) (is_at s) (is_at t) (λ p q h. same_test n m are p.signal.0 q.signal.0 s t h.signal st) n.ports m.ports are.ports

  -- ---- drivers
  pub driver_same : (s t : ℕ) → IsOne n m s t → driver_of n s ≡ driver_of m t
  driver_same s t st = (λ j. driver_from (place_same (pad_signals n) (pad_signals m) s t pads_tied st j) (place_same (outputs n) (outputs m) s t outputs_tied st j))

  -- ---- what a driver reads
  abbrev pub NumberTied : Option ℕ → Option ℕ → Type 0
  NumberTied x y = Both (IsOne n m) x y

  number_tied : (x y : Option SignalNo) → IsTied n m x y → NumberTied (signal_number x) (signal_number y)
  number_tied None None h = tt
  number_tied None (Some y) h = absurd h
  number_tied (Some x) None h = absurd h
  number_tied (Some x) (Some y) h = h

  reads_by_tied : (kind : CellKind) (xs ys : List (Option SignalNo)) → Each (IsTied n m) xs ys → Each (IsTied n m) (reads_by kind xs) (reads_by kind ys)
  reads_by_tied (Lut table) xs ys h = h
  reads_by_tied (Cover table width) xs ys h = h
  reads_by_tied Carry xs ys h = h
  reads_by_tied (Flop falling enable reset) xs ys h = tt
  reads_by_tied (PadCell pin_type pullup) xs ys h = tt
  reads_by_tied Global xs ys h = h

  cell_reads_tied : (c d : Cell) → IsCellTied n m c d → Each NumberTied (cell_reads c) (cell_reads d)
  cell_reads_tied c d h =
      each_map (IsTied n m) NumberTied signal_number signal_number number_tied (reads_by c.kind c.ins) (reads_by d.kind d.ins)
      (subst (λ k. Each (IsTied n m) (reads_by c.kind c.ins) (reads_by k d.ins)) h.kind (reads_by_tied c.kind c.ins d.ins h.ins))

  pub reads_tied : (d : SignalDriver) → Each NumberTied (reads n d) (reads m d)
  reads_tied driver.Nothing = tt
  reads_tied (driver.Pad k) = tt
  reads_tied (driver.Output i) = by (slice_get n.cells i) (slice_get m.cells i) (each_at (IsCellTied n m) n.cells m.cells i are.cells)
    where
      by : (o p : Option Cell) → Both (IsCellTied n m) o p → Each NumberTied (option_map_or (λ (cell : Cell). cell_reads cell) o []) (option_map_or (λ (cell : Cell). cell_reads cell) p [])
      by None None h = tt
      by None (Some d) h = absurd h
      by (Some c) None h = absurd h
      by (Some c) (Some d) h = cell_reads_tied c d h

  present_left : (xs ys : List (Option ℕ)) → Each NumberTied xs ys → (p : ℕ) → Has (present xs) p → (q : ℕ) × IsOne n m p q × Has (present ys) q
  present_left [] [] h p has = absurd (none-some p has.1)
  present_left [] (y ∷ ys) h p has = absurd h
  present_left (x ∷ xs) [] h p has = absurd h
  present_left (None ∷ xs) (None ∷ ys) h p has = present_left xs ys h.1 p has
  present_left (None ∷ xs) (Some y ∷ ys) h p has = absurd h.0
  present_left (Some x ∷ xs) (None ∷ ys) h p has = absurd h.0
  present_left (Some x ∷ xs) (Some y ∷ ys) h p (zero, at) = (y, subst (λ k. IsOne n m k y) (some_same x p at) h.0, (0, refl))
    where
      some_same : (a b : ℕ) → Some a ≡ Some b → a ≡ b
      some_same a b e = cc
  present_left (Some x ∷ xs) (Some y ∷ ys) h p (suc i, at) = let later = present_left xs ys h.1 p (i, at) in (later.0, later.1, (suc later.2.0, later.2.1))

  present_right : (xs ys : List (Option ℕ)) → Each NumberTied xs ys → (q : ℕ) → Has (present ys) q → (p : ℕ) × IsOne n m p q × Has (present xs) p
  present_right [] [] h q has = absurd (none-some q has.1)
  present_right [] (y ∷ ys) h q has = absurd h
  present_right (x ∷ xs) [] h q has = absurd h
  present_right (None ∷ xs) (None ∷ ys) h q has = present_right xs ys h.1 q has
  present_right (None ∷ xs) (Some y ∷ ys) h q has = absurd h.0
  present_right (Some x ∷ xs) (None ∷ ys) h q has = absurd h.0
  present_right (Some x ∷ xs) (Some y ∷ ys) h q (zero, at) = (x, subst (λ k. IsOne n m x k) (some_same y q at) h.0, (0, refl))
    where
      some_same : (a b : ℕ) → Some a ≡ Some b → a ≡ b
      some_same a b e = cc
  present_right (Some x ∷ xs) (Some y ∷ ys) h q (suc i, at) = let later = present_right xs ys h.1 q (i, at) in (later.0, later.1, (suc later.2.0, later.2.1))

  -- what a signal depends on has its like in what a signal of the same name depends on, and the other way
  pub depends_left : (s p : ℕ) → Has (depends_on n s) p → (q : ℕ) × IsOne n m p q
  depends_left s p has = let found = present_left (reads n (driver_of n s)) (reads m (driver_of n s)) (reads_tied (driver_of n s)) p has in (found.0, found.1)

  pub depends_right : (t q : ℕ) → Has (depends_on m t) q → (p : ℕ) × IsOne n m p q
  depends_right t q has = let found = present_right (reads n (driver_of m t)) (reads m (driver_of m t)) (reads_tied (driver_of m t)) q has in (found.0, found.1)

  pub depends_too : (s t q : ℕ) → IsOne n m s t → Has (depends_on m t) q → (p : ℕ) × IsOne n m p q × Has (depends_on n s) p
  depends_too s t q st has =
      let found = present_right (reads n (driver_of m t)) (reads m (driver_of m t)) (reads_tied (driver_of m t)) q has in
      (found.0, found.1, subst (λ d. Has (present (reads n d)) found.0) (sym (driver_same s t st)) found.2)
