-- What a signal's driver makes of levels is what the signal is compiled to.
use Rattle.std.proofs.Common.{◌≡◌, ℕ, zero, suc, ◌≤◌, Bool, true, false, cond, List, [], ◌∷◌, length, map, get_or, Option, Some, None, refl, ap, sym, ◌∙◌, subst, arith}
use Rattle.std.specs.Prelude.{option_map, slice_get, slice_index_or}
use Rattle.std.specs.Option.{option_map_or}
use Rattle.std.proofs.lemmas.List.{length-map}
use Rattle.std.proofs.lemmas.Option.{slice_get_within, get_or_from_slice_get, slice_get-map, same_Some}
use Rattle.std.proofs.lemmas.Bool.{eqb-true, eq-eqb}
use Rattle.ice_base.specs.declared.number.SignalNo.{SignalNo}
use Rattle.ice_base_values.specs.Order.{At}
use Rattle.ice_base_values.specs.System.{reading}
use Rattle.ice_base_values.proofs.ListPlaces.{position_cons}
use Rattle.ice_net.specs.declared.cell.Cell.{Cell}
use Rattle.ice_net.specs.declared.kind.CellKind.{CellKind}
use Rattle.ice_net.specs.declared.kind.CellKind.TheVariants.{Lut, Cover, Carry, Flop, PadCell, Global}
use Rattle.ice_net.specs.declared.port.Port.{Port}
use Rattle.ice_net.specs.declared.port.Way.TheVariants.{Input, Output, Both}
use Rattle.ice_net.specs.declared.driver.SignalDriver.{SignalDriver}
use Rattle.ice_net.specs.declared.driver.SignalDriver.TheVariants as driver
use Rattle.ice_net.specs.NetlistData.{NetlistData, is_at, port_at}
use Rattle.ice_net.specs.Formed.{IsFormed, IsFormedCell, IsFormedKind}
use Rattle.ice_net.specs.Kinds.{ins_count}
use Rattle.ice_net.specs.Drivers.{signal_number, numbers, is_signal, place_of, is_there, pin_by, pin_of, has_buffer, pad_by, pad_of, pad_signals, outputs, driver_from, driver_of}
use Rattle.ice_net.specs.Meaning.{number_of, table_bit, majority, level_by, pad_level, reads_by, makes_by, cell_reads, reads, makes}
use Rattle.ice_sim_sweep.specs.declared.parts.Gate.{Gate}
use Rattle.ice_sim_sweep.specs.declared.parts.Feed.TheVariants.{Made}
use Rattle.ice_sim_sweep.specs.Slots.{slot_of, slot_at, level_at, gate_of}
use Rattle.ice_sim_sweep.specs.Feeds.{majority_table, first_table, pad_feed, pin_feed, kind_feed, cell_feed, driver_feed, feed_of}
use Rattle.ice_sim_sweep.specs.Sweeps.{gate_level}
use Rattle.ice_sim_sweep.specs.Arrays.{feed_level}

-- ---- tables
-- what missing inputs read doesn't count
four : (xs : List Bool) → length xs ≤ 4 → number_of (get_or xs 0 false ∷ get_or xs 1 false ∷ get_or xs 2 false ∷ get_or xs 3 false ∷ []) ≡ number_of xs
four [] le = refl
four (a ∷ []) le = refl
four (a ∷ b ∷ []) le = refl
four (a ∷ b ∷ c ∷ []) le = refl
four (a ∷ b ∷ c ∷ d ∷ []) le = refl
four (a ∷ b ∷ c ∷ d ∷ e ∷ xs) le = absurd (omega arith)

pub majority_bits : (x y z : Bool) → majority x y z ≡ table_bit 232 (number_of (x ∷ y ∷ z ∷ false ∷ []))
majority_bits true true true = refl
majority_bits true true false = refl
majority_bits true false true = refl
majority_bits true false false = refl
majority_bits false true true = refl
majority_bits false true false = refl
majority_bits false false true = refl
majority_bits false false false = refl

first_bits : (x : Bool) → x ≡ table_bit 2 (number_of (x ∷ false ∷ false ∷ false ∷ []))
first_bits true = refl
first_bits false = refl

-- the levels that inputs read in the array
abbrev pub read_in : List Bool → Option ℕ → Bool
read_in values input = reading false (λ q. get_or values q false) input

abbrev pub inputs_in : List Bool → List (Option SignalNo) → List Bool
inputs_in values ins = map (read_in values) (numbers ins)

module _ (values : List Bool) (signals : ℕ) (zero_is : get_or values signals false ≡ false) where
  slot_level : (input : Option SignalNo) → level_at values (slot_of signals input) ≡ read_in values (signal_number input)
  slot_level None = zero_is
  slot_level (Some signal) = refl

  at_level : (ins : List (Option SignalNo)) (k : ℕ) → level_at values (slot_at signals ins k) ≡ get_or (inputs_in values ins) k false
  at_level [] k = zero_is
  at_level (input ∷ ins) zero = slot_level input
  at_level (input ∷ ins) (suc k) = at_level ins k

  gate_number : (ins : List (Option SignalNo)) (table s : ℕ)
      → gate_level values (gate_of signals table ins s)
      ≡ table_bit table (number_of (get_or (inputs_in values ins) 0 false ∷ get_or (inputs_in values ins) 1 false ∷ get_or (inputs_in values ins) 2 false ∷ get_or (inputs_in values ins) 3 false ∷ []))
  gate_number ins table s =
      let a = at_level ins 0 in let b = at_level ins 1 in let c = at_level ins 2 in let d = at_level ins 3 in
      ap (λ x. table_bit table (number_of (x ∷ level_at values (slot_at signals ins 1) ∷ level_at values (slot_at signals ins 2) ∷ level_at values (slot_at signals ins 3) ∷ []))) a
      ∙ ap (λ x. table_bit table (number_of (get_or (inputs_in values ins) 0 false ∷ x ∷ level_at values (slot_at signals ins 2) ∷ level_at values (slot_at signals ins 3) ∷ []))) b
      ∙ ap (λ x. table_bit table (number_of (get_or (inputs_in values ins) 0 false ∷ get_or (inputs_in values ins) 1 false ∷ x ∷ level_at values (slot_at signals ins 3) ∷ []))) c
      ∙ ap (λ x. table_bit table (number_of (get_or (inputs_in values ins) 0 false ∷ get_or (inputs_in values ins) 1 false ∷ get_or (inputs_in values ins) 2 false ∷ x ∷ []))) d

  gate_makes : (ins : List (Option SignalNo)) (table s : ℕ) → length ins ≤ 4
      → table_bit table (number_of (inputs_in values ins)) ≡ gate_level values (gate_of signals table ins s)
  gate_makes ins table s le =
      let long : length (inputs_in values ins) ≡ length ins = length-map (numbers ins) (read_in values) ∙ length-map ins signal_number in
      sym (gate_number ins table s ∙ ap (table_bit table) (four (inputs_in values ins) (omega arith)))

  majority_makes : (xs : List Bool) → length xs ≡ 3
      → majority (get_or xs 0 false) (get_or xs 1 false) (get_or xs 2 false) ≡ table_bit 232 (number_of (get_or xs 0 false ∷ get_or xs 1 false ∷ get_or xs 2 false ∷ get_or xs 3 false ∷ []))
  majority_makes [] e = absurd (omega arith)
  majority_makes (a ∷ []) e = absurd (omega arith)
  majority_makes (a ∷ b ∷ []) e = absurd (omega arith)
  majority_makes (a ∷ b ∷ c ∷ []) e = majority_bits a b c
  majority_makes (a ∷ b ∷ c ∷ d ∷ xs) e = absurd (omega arith)

  first_makes : (xs : List Bool) → length xs ≡ 1 → get_or xs 0 false ≡ table_bit 2 (number_of (get_or xs 0 false ∷ get_or xs 1 false ∷ get_or xs 2 false ∷ get_or xs 3 false ∷ []))
  first_makes [] e = absurd (omega arith)
  first_makes (a ∷ []) e = first_bits a
  first_makes (a ∷ b ∷ xs) e = absurd (omega arith)

-- ---- pads
-- a signal at an SB_IO is driven by its first port's pad, if it is a port
pad_stands : (cells : List Cell) (s : ℕ) → has_buffer cells s ≡ true → (port : Port) → is_signal s (pad_of cells port) ≡ is_at s port
pad_stands cells s has port = by port.way
  where
    out : (b : Bool) → is_at s port ≡ b → is_signal s (cond (has_buffer cells port.signal.0) (Some port.signal) None) ≡ b
    out true e = let same : port.signal.0 ≡ s = eqb-true port.signal.0 s e in let h : has_buffer cells port.signal.0 ≡ true = subst (λ t. has_buffer cells t ≡ true) (sym same) has in rw h e
    out false e = of (has_buffer cells port.signal.0)
      where
        of : (b : Bool) → is_signal s (cond b (Some port.signal) None) ≡ false
        of true = e
        of false = refl

    by : (way : _) → is_signal s (pad_by port (has_buffer cells port.signal.0) way) ≡ is_at s port
    by Input = refl
    by Both = refl
    by Output = out (is_at s port) refl

pad_place : (cells : List Cell) (s : ℕ) → has_buffer cells s ≡ true → (ports : List Port) → place_of s (map (pad_of cells) ports) ≡ port_at s ports
pad_place cells s has [] = refl
pad_place cells s has (port ∷ ports) =
    rw (pad_stands cells s has port, pad_place cells s has ports) (sym (position_cons (is_at s) port ports))

there_at : (s : ℕ) (list : List (Option SignalNo)) (i : ℕ) (signal : SignalNo) → At list i (Some signal) → signal.0 ≡ s → is_there (place_of s list) ≡ true
there_at s [] i signal at e = cc
there_at s (x ∷ list) i signal at e = of (is_signal s x) refl i at (λ j h. there_at s list j signal h e)
  where
    next : (o : Option ℕ) → is_there o ≡ true → is_there (option_map suc o) ≡ true
    next None h = cc
    next (Some k) h = refl

    of : (b : Bool) → is_signal s x ≡ b → (i : ℕ) → At (x ∷ list) i (Some signal) → ((j : ℕ) → At list j (Some signal) → is_there (place_of s list) ≡ true)
        → is_there (cond b (Some 0) (option_map suc (place_of s list))) ≡ true
    of true f i at rec = refl
    of false f zero at rec = let same : x ≡ Some signal = same_Some _ _ at in let hit : is_signal s x ≡ true = rw (same, e) (eq-eqb s s refl) in cc (hit, f)
    of false f (suc i) at rec = next (place_of s list) (rec i at)

module _ (n : NetlistData) (levels kept values : List Bool) (formed : IsFormed n) (zero_is : get_or values (length n.names) false ≡ false) where
  placed : (p o : Option ℕ) → level_by levels p ≡ feed_level levels kept values (pad_feed (driver_from p o))
  placed None None = refl
  placed None (Some i) = refl
  placed (Some k) o = refl

  pad_makes : (i : ℕ) (cell : Cell) → At n.cells i cell → (pin : Option SignalNo) → pin_of cell ≡ pin
      → pad_level n.ports levels pin ≡ feed_level levels kept values (pin_feed n pin)
  pad_makes i cell at None e = refl
  pad_makes i cell at (Some pin) e =
      let there : At (map pin_of n.cells) i (Some pin) = slice_get-map pin_of n.cells i ∙ ap (option_map pin_of) at ∙ ap Some e in
      let has : has_buffer n.cells pin.0 ≡ true = there_at pin.0 (map pin_of n.cells) i pin there refl in
      ap (level_by levels) (sym (pad_place n.cells pin.0 has n.ports)) ∙ placed (place_of pin.0 (pad_signals n)) (place_of pin.0 (outputs n))

  kind_makes : (s i : ℕ) (kind : CellKind) (ins outs : List (Option SignalNo)) (pad : Bool) → length ins ≡ ins_count kind → IsFormedKind (length n.names) kind ins outs
      → pad ≡ feed_level levels kept values (pin_feed n (pin_by kind ins))
      → makes_by kind (slice_index_or kept i false) pad (inputs_in values (reads_by kind ins)) ≡ feed_level levels kept values (kind_feed n s i kind ins)
  kind_makes s i (Lut table) ins outs pad long ok padded = gate_makes values (length n.names) zero_is ins table s (omega arith)
  kind_makes s i (Cover table width) ins outs pad long ok padded = gate_makes values (length n.names) zero_is ins table s (let le = ok.narrow in omega arith)
  kind_makes s i Carry ins outs pad long ok padded =
      majority_makes values (length n.names) zero_is (inputs_in values ins) (length-map (numbers ins) (read_in values) ∙ length-map ins signal_number ∙ long)
      ∙ sym (gate_number values (length n.names) zero_is ins majority_table s)
  kind_makes s i (Flop falling enable reset) ins outs pad long ok padded = refl
  kind_makes s i (PadCell pin_type pullup) ins outs pad long ok padded = padded
  kind_makes s i Global ins outs pad long ok padded =
      first_makes values (length n.names) zero_is (inputs_in values ins) (length-map (numbers ins) (read_in values) ∙ length-map ins signal_number ∙ long)
      ∙ sym (gate_number values (length n.names) zero_is ins first_table s)

  cell_formed : (i : ℕ) (cell : Cell) → At n.cells i cell → IsFormedCell (length n.names) cell
  cell_formed i cell at =
      subst (IsFormedCell (length n.names)) (get_or_from_slice_get n.cells i cell cell at) (formed.cells i cell (slice_get_within n.cells i cell at))

  cell_makes : (s i : ℕ) (o : Option Cell) → slice_get n.cells i ≡ o
      → option_map_or (λ (cell : Cell). makes_by cell.kind (slice_index_or kept i false) (pad_level n.ports levels (pin_of cell))
      (map (read_in values) (option_map_or (λ (c : Cell). cell_reads c) o []))) o false
      ≡ feed_level levels kept values (cell_feed n s i o)
  cell_makes s i None at = refl
  cell_makes s i (Some cell) at =
      let ok = cell_formed i cell at in
      kind_makes s i cell.kind cell.ins cell.outs (pad_level n.ports levels (pin_of cell)) ok.ins_long ok.kind (pad_makes i cell at (pin_of cell) refl)

  driver_makes : (s : ℕ) (d : SignalDriver) → makes n levels kept d (map (read_in values) (reads n d)) ≡ feed_level levels kept values (driver_feed n s d)
  driver_makes s driver.Nothing = refl
  driver_makes s (driver.Pad k) = refl
  driver_makes s (driver.Output i) = cell_makes s i (slice_get n.cells i) refl

  -- what the driver of a signal makes of the levels in the array
  pub feed_makes : (s : ℕ) → makes n levels kept (driver_of n s) (map (read_in values) (reads n (driver_of n s))) ≡ feed_level levels kept values (feed_of n s)
  feed_makes s = driver_makes s (driver_of n s)

-- the table that makes a signal writes its slot
pub gate_out : (n : NetlistData) (s : ℕ) (gate : Gate) → feed_of n s ≡ Made gate → gate.out ≡ s
gate_out n s gate e = by (driver_of n s) e
  where
    pin : (d : SignalDriver) → pad_feed d ≡ Made gate → gate.out ≡ s
    pin driver.Nothing e = cc
    pin (driver.Pad k) e = cc
    pin (driver.Output i) e = cc

    pad : (o : Option SignalNo) → pin_feed n o ≡ Made gate → gate.out ≡ s
    pad None e = cc
    pad (Some signal) e = pin (driver_of n signal.0) e

    is : (g : Gate) → g.out ≡ s → Made g ≡ Made gate → gate.out ≡ s
    is g f e = let same : g ≡ gate = cc in rw (← same) f

    kinds : (i : ℕ) (kind : CellKind) (ins : List (Option SignalNo)) → kind_feed n s i kind ins ≡ Made gate → gate.out ≡ s
    kinds i (Lut table) ins e = is _ refl e
    kinds i (Cover table width) ins e = is _ refl e
    kinds i Carry ins e = is _ refl e
    kinds i (Flop falling enable reset) ins e = cc
    kinds i (PadCell pin_type pullup) ins e = pad (slice_index_or ins 0 None) e
    kinds i Global ins e = is _ refl e

    cells : (i : ℕ) (o : Option Cell) → cell_feed n s i o ≡ Made gate → gate.out ≡ s
    cells i None e = cc
    cells i (Some cell) e = kinds i cell.kind cell.ins e

    by : (d : SignalDriver) → driver_feed n s d ≡ Made gate → gate.out ≡ s
    by driver.Nothing e = cc
    by (driver.Pad k) e = cc
    by (driver.Output i) e = cells i (slice_get n.cells i) e
