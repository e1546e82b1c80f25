-- At each moment the signal of a root has the root's level, and what reads a point reads its level.
use Rattle.std.proofs.Common.{◌≡◌, ◌⊎◌, ℕ, suc, ◌+◌, ◌*◌, ◌<◌, Bool, true, false, Option, None, Some, List, [], ◌∷◌, length, map, inl, inr, refl, sym, ap, ◌∙◌, subst, arith, if◌then◌else◌}
use Rattle.std.specs.Prelude.{slice_get, slice_index_or, unwrap_or}
use Rattle.std.specs.Option.{option_map_or}
use Rattle.std.specs.List.{range_with_len}
use Rattle.std.proofs.lemmas.Bool.{cases_lt}
use Rattle.std.proofs.lemmas.List.FromFn.{length-range_with_len}
use Rattle.ice_base.specs.declared.number.TileAt.{TileAt}
use Rattle.ice_base.specs.declared.number.SignalNo.{SignalNo}
use Rattle.ice_base_values.specs.System.{value, present, reading}
use Rattle.ice_base_values.specs.Order.{At, Has}
use Rattle.ice_base_values.specs.Arriving.{Arrive, IsMade}
use Rattle.ice_base_values.proofs.Arriving.{value_arrives}
use Rattle.ice_base_values.proofs.Enough.{value_enough}
use Rattle.ice_chip.specs.Database.{Parts, PackageRows}
use Rattle.ice_chip.specs.IsRead.{IsRead}
use Rattle.ice_chip.specs.declared.rows.Pad.{Pad}
use Rattle.ice_chip_laws.specs.Names.{HasNames}
use Rattle.ice_bits.specs.Configuration.{Bits}
use Rattle.ice_lut.proofs.TableLaws.{bit_of_number, number_bound}
use Rattle.ice_net.specs.declared.cell.Cell.{Cell}
use Rattle.ice_net.specs.Drivers.{signal_number, numbers, pin_of, driver_of}
use Rattle.ice_net.specs.Meaning as net
use Rattle.ice_net.specs.Meaning.{number_of, table_bit, level_by, pad_level, cell_reads, makes_by, signal_value}
use Rattle.ice_net.specs.NetlistData.{NetlistData}
use Rattle.ice_decode.specs.declared.point.Point.{Point}
use Rattle.ice_decode.specs.declared.point.Point.TheVariants.{Carry}
use Rattle.ice_decode.specs.Cells.{table_entry, looked_up, has_carry, logic_tiles}
use Rattle.ice_decode.specs.Meaning.{point_level, chip_system, makes_at}
use Rattle.ice_decode.specs.Reads.{count_points, cell_inputs, carry_inputs}
use Rattle.ice_decode.specs.Points.{points}
use Rattle.ice_decode.specs.Refusals.{IsFaultless}
use Rattle.ice_decode.proofs.KeptLevels.{tile_at}
use Rattle.ice_decode.proofs.Members.{At_range}
use Rattle.ice_decode.proofs.PointPlaces.{carry_at}
use Rattle.ice_decode.proofs.Valued.{faultless_valued}
use Rattle.ice_back_laws.specs.Back.{reader, signal_at}
use Rattle.ice_back_laws.specs.Law.{root_level, AreQuiet}
use Rattle.ice_back_laws.specs.Numbers.{port_number, root_number, reader_of}
use Rattle.ice_back_laws.specs.Roots.{LevelRoot, Fixed, Input, Taken, Given, Kept, Level, Table, Register, Sum, cell_table, root_of}
use Rattle.ice_back_laws.proofs.Heard.{IsHeard}
use Rattle.ice_back_laws.proofs.Inputs.{IsUsed, inputs_heard, carry_inputs_heard}
use Rattle.ice_back_laws.proofs.Ranks.{IsThere, StandsAt, IsHeld, Ranks, ranked, ranks_fall, root_there, AreBelow, IsGood, all_good}
use Rattle.ice_back_laws.proofs.RootLevels.{all_rooted, own_made, four_below}
use Rattle.ice_back_laws.proofs.Standing.{netlist, cell_of, root_driven, root_below, undriven, port_place, port_driven}

-- ---- what registers keep
module _ (parts : Parts) (bits : Bits) (extras : List (ℕ × ℕ × ℕ)) (read : IsRead parts) (names : HasNames parts) (faultless : IsFaultless parts bits extras) (package_rows : PackageRows) where
  -- the root's level is what a register keeps, of the netlist and of the chip
  abbrev pub IsKeptRoot : LevelRoot → Type 0
  IsKeptRoot (Fixed level) = ⊥
  IsKeptRoot (Input k) = ⊥
  IsKeptRoot (Taken k) = IsThere parts bits extras package_rows.pads (Taken k) × IsHeld parts bits extras read names faultless package_rows.pads k
  IsKeptRoot (Given k) = ⊥
  IsKeptRoot (Kept k) = IsThere parts bits extras package_rows.pads (Kept k)
  IsKeptRoot (Level k) = ⊥
  IsKeptRoot (Table t i) = ⊥
  IsKeptRoot (Register t i) = IsThere parts bits extras package_rows.pads (Register t i)
  IsKeptRoot (Sum t i) = ⊥

  -- which the chip keeps so
  abbrev pub chip_keeps : List Bool → LevelRoot → Bool
  chip_keeps kept r = root_level parts bits package_rows.pads (λ p. false) [] kept r

module _ (parts : Parts) (bits : Bits) (extras : List (ℕ × ℕ × ℕ)) (read : IsRead parts) (names : HasNames parts) (faultless : IsFaultless parts bits extras) (package_rows : PackageRows) (levels kept remembered : List Bool)
    (quiet : AreQuiet parts bits package_rows.pads kept)
    (same_kept : (j : ℕ) (r : LevelRoot) → IsKeptRoot parts bits extras read names faultless package_rows r → At (netlist parts bits extras package_rows).cells j (cell_of parts bits extras package_rows r)
    → slice_index_or remembered j false ≡ chip_keeps parts bits extras read names faultless package_rows kept r) where
  abbrev n : NetlistData
  n = netlist parts bits extras package_rows

  abbrev pads : List Pad
  pads = package_rows.pads

  abbrev own : Point → Bool
  own = point_level parts bits extras pads levels kept

  abbrev root : Point → LevelRoot
  root = root_of parts bits extras pads

  abbrev level : LevelRoot → Bool
  level r = root_level parts bits pads own levels kept r

  abbrev IsRanked : ℕ → Point → Type 0
  IsRanked = Ranks parts bits extras read names faultless

  own_there : (i : ℕ) (p : Point) → IsRanked i p → value (chip_system parts bits extras pads levels kept) (count_points parts + 1) p ≡ Some (own p)
  own_there i p r = faultless_valued parts bits extras read faultless pads levels kept p r.0

  rooted : (i : ℕ) (p : Point) → IsRanked i p → own p ≡ level (root p)
  rooted i p r =
      all_rooted parts bits extras IsRanked (ranks_fall parts bits extras read names faultless) pads (root_there parts bits extras read names faultless pads) levels kept quiet own_there (suc i) i p r (omega arith)

  good : (i : ℕ) (p : Point) → IsRanked i p → IsHeard parts bits names p → IsGood parts bits extras read names faultless pads i (root p)
  good i p r heard = all_good parts bits extras read names faultless pads (suc i) i p r heard (omega arith)

  -- ---- which signal is to have which value
  -- that of a root that is good at a lower measure, or a port's
  abbrev Holds : ℕ → ℕ → Bool → Type 0
  Holds m s x = ((r : LevelRoot) × (i : ℕ) × (i < m) × IsGood parts bits extras read names faultless pads i r × (s ≡ root_number parts pads r) × (x ≡ level r))
      ⊎ ((k : ℕ) × (k < length pads) × (s ≡ port_number k) × (x ≡ slice_index_or levels k false))

  reader_arrives : (m k : ℕ) (r : LevelRoot) (x : Bool) (qs : List (Option ℕ)) (xs : List Bool) → suc k < m → IsGood parts bits extras read names faultless pads k r → x ≡ level r → Arrive Holds false m qs xs
      → Arrive Holds false m (signal_number (reader_of parts pads false r) ∷ qs) (x ∷ xs)
  reader_arrives m k (Fixed true) x qs xs lt is e rest = ((suc k, lt, inl (Fixed true, k, omega arith, is, refl, e)), rest)
  reader_arrives m k (Fixed false) x qs xs lt is e rest = (e, rest)
  reader_arrives m k (Input j) x qs xs lt is e rest = ((suc k, lt, inl (Input j, k, omega arith, is, refl, e)), rest)
  reader_arrives m k (Taken j) x qs xs lt is e rest = ((suc k, lt, inl (Taken j, k, omega arith, is, refl, e)), rest)
  reader_arrives m k (Given j) x qs xs lt is e rest = ((suc k, lt, inl (Given j, k, omega arith, is, refl, e)), rest)
  reader_arrives m k (Kept j) x qs xs lt is e rest = ((suc k, lt, inl (Kept j, k, omega arith, is, refl, e)), rest)
  reader_arrives m k (Level j) x qs xs lt is e rest = ((suc k, lt, inl (Level j, k, omega arith, is, refl, e)), rest)
  reader_arrives m k (Table t i) x qs xs lt is e rest = ((suc k, lt, inl (Table t i, k, omega arith, is, refl, e)), rest)
  reader_arrives m k (Register t i) x qs xs lt is e rest = ((suc k, lt, inl (Register t i, k, omega arith, is, refl, e)), rest)
  reader_arrives m k (Sum t i) x qs xs lt is e rest = ((suc k, lt, inl (Sum t i, k, omega arith, is, refl, e)), rest)

  -- points of which those that are there are heard
  abbrev AreHeard : List (Option Point) → Type 0
  AreHeard ps = (q : Point) → Has (present ps) q → IsHeard parts bits names q

  inputs_arrive : (m i : ℕ) (ps : List (Option Point)) → i < m → AreHeard ps → AreBelow parts bits extras read names faultless pads i ps
      → Arrive Holds false m (numbers (map (reader parts bits extras pads false) ps)) (map (reading false own) ps)
  inputs_arrive m i [] lt heard below = tt
  inputs_arrive m i (None ∷ ps) lt heard below = (refl, inputs_arrive m i ps lt heard below)
  inputs_arrive m i (Some p ∷ ps) lt heard below =
      let here = below p (0, refl) in
      let under : suc here.0 < m = (let less : here.0 < i = here.1 in omega arith) in
      reader_arrives m here.0 (root p) (own p) (numbers (map (reader parts bits extras pads false) ps)) (map (reading false own) ps) under (good here.0 p here.2 (heard p (0, refl)))
      (rooted here.0 p here.2) (inputs_arrive m i ps lt (λ q has. heard q (suc has.0, has.1)) (λ q has. below q (suc has.0, has.1)))

  -- ---- what each cell makes
  entry : (t : TileAt) (i : ℕ) (a b c d : Bool) → table_bit (cell_table parts bits t i) (number_of (a ∷ b ∷ c ∷ d ∷ [])) ≡ looked_up parts bits t i (a ∷ b ∷ c ∷ d ∷ [])
  entry t i a b c d =
      bit_of_number (map (table_entry parts bits t i) (0 ∷ 1 ∷ 2 ∷ 3 ∷ 4 ∷ 5 ∷ 6 ∷ 7 ∷ 8 ∷ 9 ∷ 10 ∷ 11 ∷ 12 ∷ 13 ∷ 14 ∷ 15 ∷ [])) (number_of (a ∷ b ∷ c ∷ d ∷ []))
      (number_bound (a ∷ b ∷ c ∷ d ∷ []) 4 (omega arith))
      ∙ four_below a b c d (table_entry parts bits t i)

  abbrev ByCell : ℕ → ℕ → Bool → Option Cell → Type 0
  ByCell m j x o = (xs : List Bool) × Arrive Holds false m (option_map_or (λ (c : Cell). cell_reads c) o []) xs
      × (option_map_or (λ (c : Cell). makes_by c.kind (slice_index_or remembered j false) (pad_level n.ports levels (pin_of c)) xs) o false ≡ x)

  -- the carry of a cell is a point of the chip
  carry_ranked : (t : TileAt) (i : ℕ) → StandsAt parts t i → Has (points parts) (Carry t i)
  carry_ranked t i (k, e, lt) = (parts.wires + 8 * k + i, carry_at parts.wires (logic_tiles parts) k i t (tile_at t (logic_tiles parts) k e) lt)

  carry_made : (t : TileAt) (i : ℕ) → StandsAt parts t i → has_carry parts bits t i ≡ true
      → net.majority (slice_index_or (map (reading false own) (carry_inputs parts t i)) 0 false) (slice_index_or (map (reading false own) (carry_inputs parts t i)) 1 false) (slice_index_or (map (reading false own) (carry_inputs parts t i)) 2 false)
      ≡ own (Carry t i)
  carry_made t i place e =
      let r = ranked parts bits extras read names faultless (Carry t i) (carry_ranked t i place) in
      sym (own_made parts bits extras IsRanked (ranks_fall parts bits extras read names faultless) pads (root_there parts bits extras read names faultless pads) levels kept quiet own_there _ (Carry t i) r
      ∙ ap (λ b. makes_at parts bits extras pads levels kept (Carry t i) (map (reading false own) (if b then carry_inputs parts t i else []))) e)

  -- an SB_GB reads a port
  port_arrives : (m i k : ℕ) → i < m → k < length pads → Arrive Holds false m (numbers (signal_at (port_number k) ∷ [])) (slice_index_or levels k false ∷ [])
  port_arrives m i k lt within = ((0, omega (arith, lt), inr (k, within, refl, refl)), tt)

  cell_makes : (m i j : ℕ) (r : LevelRoot) → i < m → IsGood parts bits extras read names faultless pads i r → At n.cells j (cell_of parts bits extras package_rows r)
      → ByCell m j (level r) (Some (cell_of parts bits extras package_rows r))
  cell_makes m i j (Fixed false) lt is at = ([], tt, refl)
  cell_makes m i j (Fixed true) lt is at = ([], tt, refl)
  cell_makes m i j (Input k) lt is at = ([], tt, ap (level_by levels) (port_place parts bits extras package_rows k is.0.0))
  cell_makes m i j (Taken k) lt is at = ([], tt, same_kept j (Taken k) is at)
  cell_makes m i j (Given k) lt is at = ([], tt, ap (level_by levels) (port_place parts bits extras package_rows k is.0.0))
  cell_makes m i j (Kept k) lt is at = ([], tt, same_kept j (Kept k) is.0 at)
  cell_makes m i j (Level k) lt is at = (slice_index_or levels k false ∷ [], port_arrives m i k lt is.0.0, refl)
  cell_makes m i j (Table t c) lt is at =
      (map (reading false own) (cell_inputs parts t c), inputs_arrive m i (cell_inputs parts t c) lt (inputs_heard parts read bits names t c is.0.0.2) is.1, entry t c _ _ _ _)
  cell_makes m i j (Register t c) lt is at = ([], tt, same_kept j (Register t c) is.0 at)
  cell_makes m i j (Sum t c) lt is at =
      (map (reading false own) (carry_inputs parts t c), inputs_arrive m i (carry_inputs parts t c) lt (carry_inputs_heard parts read bits names t c is.0.0) is.1, carry_made t c is.0.0 is.0.1)

  abbrev inputs : ℕ → List (Option ℕ)
  inputs s = net.reads n (driver_of n s)

  abbrev local : ℕ → List Bool → Bool
  local s = net.makes n levels remembered (driver_of n s)

  root_made : (m i : ℕ) (r : LevelRoot) → i < m → IsGood parts bits extras read names faultless pads i r → IsMade inputs false local Holds m (root_number parts pads r) (level r)
  root_made m i r lt is =
      let driven = root_driven parts bits extras package_rows r is.0 in
      let made : ByCell m driven.0 (level r) (slice_get n.cells driven.0) = subst (ByCell m driven.0 (level r)) (sym driven.2) (cell_makes m i driven.0 r lt is driven.2) in
      record {
        values = made.0;
        arrive = subst (λ d. Arrive Holds false m (net.reads n d) made.0) (sym driven.1) made.1;
        made = ap (λ d. net.makes n levels remembered d made.0) driven.1 ∙ made.2;
      }

  -- a port's signal has the level of the port's pad
  port_made : (m k : ℕ) → k < length pads → IsMade inputs false local Holds m (port_number k) (slice_index_or levels k false)
  port_made m k lt =
      let driven = port_driven parts bits extras package_rows k lt in
      record {
        values = [];
        arrive = subst (λ d. Arrive Holds false m (net.reads n d) []) (sym driven) tt;
        made = ap (λ d. net.makes n levels remembered d []) driven;
      }

  signal_made : (m s : ℕ) (x : Bool) → Holds m s x → IsMade inputs false local Holds m s x
  signal_made m s x (inl (r, i, lt, is, e, f)) =
      subst (λ y. IsMade inputs false local Holds m s y) (sym f) (subst (λ k. IsMade inputs false local Holds m k (level r)) (sym e) (root_made m i r lt is))
  signal_made m s x (inr (k, lt, e, f)) =
      subst (λ y. IsMade inputs false local Holds m s y) (sym f) (subst (λ q. IsMade inputs false local Holds m q (slice_index_or levels k false)) (sym e) (port_made m k lt))

  -- ---- levels of signals
  named : (s : ℕ) → s < length n.names → Has (range_with_len 0 (length n.names)) s
  named s lt = (s, (let e : 0 + s ≡ s = omega arith in subst (λ k. At (range_with_len 0 (length n.names)) s k) e (At_range 0 (length n.names) s lt)))

  closed : (s q : ℕ) → Has (range_with_len 0 (length n.names)) s → Has (net.depends_on n s) q → Has (range_with_len 0 (length n.names)) q ⊎ (net.depends_on n q ≡ [])
  closed s q has dep = elim (cases_lt q (length n.names)) [
    | inl lt ↦ inl (named q lt)
    | inr ge ↦ inr (ap (λ d. present (net.reads n d)) (undriven parts bits extras package_rows q ge))
  ]

  pub signal_arrives : (m : ℕ) (r : LevelRoot) → IsGood parts bits extras read names faultless pads m r → value (net.system_of n levels remembered) (suc (suc m)) (root_number parts pads r) ≡ Some (level r)
  signal_arrives m r is =
      value_arrives inputs false local Holds signal_made (suc (suc m)) (suc m) (root_number parts pads r) (level r) (inl (r, m, omega arith, is, refl, refl)) (omega arith)

  -- what has a value has it in as many steps as there are signals
  settled : (f s : ℕ) (x : Bool) → s < length n.names → value (net.system_of n levels remembered) f s ≡ Some x → signal_value n levels remembered s ≡ x
  settled f s x lt found =
      let system = net.system_of n levels remembered in
      let enough = value_enough system (range_with_len 0 (length n.names)) closed f s x (named s lt) found in
      let long : length (range_with_len 0 (length n.names)) ≡ length n.names = length-range_with_len 0 (length n.names) in
      ap (λ o. unwrap_or o false) (subst (λ k. value system (k + 1) s ≡ Some x) long enough)

  -- the signal of a root has the root's level
  pub signal_level : (m : ℕ) (r : LevelRoot) → IsGood parts bits extras read names faultless pads m r → signal_value n levels remembered (root_number parts pads r) ≡ level r
  signal_level m r is = settled (suc (suc m)) (root_number parts pads r) (level r) (root_below parts bits extras package_rows r is.0) (signal_arrives m r is)

  -- what reads a root reads its level
  pub root_reads : (bare : Bool) (m : ℕ) (r : LevelRoot) → IsGood parts bits extras read names faultless pads m r → reading bare (λ (s : SignalNo). signal_value n levels remembered s.0) (reader_of parts pads bare r) ≡ level r
  root_reads true m (Fixed true) is = refl
  root_reads true m (Fixed false) is = signal_level m (Fixed false) is
  root_reads false m (Fixed true) is = signal_level m (Fixed true) is
  root_reads false m (Fixed false) is = refl
  root_reads true m (Input k) is = signal_level m (Input k) is
  root_reads true m (Taken k) is = signal_level m (Taken k) is
  root_reads true m (Given k) is = signal_level m (Given k) is
  root_reads true m (Kept k) is = signal_level m (Kept k) is
  root_reads true m (Level k) is = signal_level m (Level k) is
  root_reads true m (Table t i) is = signal_level m (Table t i) is
  root_reads true m (Register t i) is = signal_level m (Register t i) is
  root_reads true m (Sum t i) is = signal_level m (Sum t i) is
  root_reads false m (Input k) is = signal_level m (Input k) is
  root_reads false m (Taken k) is = signal_level m (Taken k) is
  root_reads false m (Given k) is = signal_level m (Given k) is
  root_reads false m (Kept k) is = signal_level m (Kept k) is
  root_reads false m (Level k) is = signal_level m (Level k) is
  root_reads false m (Table t i) is = signal_level m (Table t i) is
  root_reads false m (Register t i) is = signal_level m (Register t i) is
  root_reads false m (Sum t i) is = signal_level m (Sum t i) is

  -- and what reads a point, the point's
  pub point_reads : (bare : Bool) (o : Option Point) → ((p : Point) → o ≡ Some p → IsUsed parts read bits names p)
      → reading bare (λ (s : SignalNo). signal_value n levels remembered s.0) (reader parts bits extras pads bare o) ≡ reading bare own o
  point_reads bare None there = refl
  point_reads bare (Some p) there =
      let used = there p refl in
      let r = ranked parts bits extras read names faultless p used.there in
      root_reads bare _ (root p) (good _ p r used.heard) ∙ sym (rooted _ p r)
