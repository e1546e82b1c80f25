-- The bits of a placed and routed design show, step by step, what the design shows.
use Rattle.std.proofs.Common.{◌≡◌, ◌⊎◌, ℕ, zero, suc, ◌+◌, ◌-◌, ◌*◌, ◌/◌, ◌<◌, Bool, true, false, cond, Option, None, Some, List, [], ◌∷◌, length, map, replicate, inl, inr, refl, sym, ap, ◌∙◌, subst, true≢false, arith, lt-ltb, le-ltb}
use Rattle.std.specs.Prelude.{◌&&◌, ◌||◌, ◌==◌, not, is_some, nat_lt, slice_get, slice_index_or, option_map}
use Rattle.std.specs.Option.{option_map_or, option_and_then}
use Rattle.std.proofs.lemmas.Bool.{and_parts, ltb-true}
use Rattle.std.proofs.lemmas.Option.{same_Some, none-some, get_or_from_slice_get}
use Rattle.ice_base.specs.declared.number.TileAt.{TileAt}
use Rattle.ice_base.specs.declared.number.WireNo.{WireNo}
use Rattle.ice_base.proofs.Booleans.{not_true}
use Rattle.ice_base.proofs.Keys.{nat_same, tile_self}
use Rattle.ice_base_values.specs.Order.{At, Has}
use Rattle.ice_base_values.specs.System.{value, reading, machine_shows}
use Rattle.ice_base_values.specs.Simulations.{Simulates}
use Rattle.ice_base_values.proofs.Machines.{shows_always_alike}
use Rattle.ice_base_values.proofs.Members.{At_map, At_within}
use Rattle.ice_base_values.proofs.Values.{value_at_more}
use Rattle.ice_base_values.proofs.ListPlaces.{all_alike}
use Rattle.ice_chip.specs.Lookups.{kind_at, wire_named}
use Rattle.ice_chip.specs.Database.{Parts, same_tile}
use Rattle.ice_chip.specs.Names.{input_name, pad_output_name, output_enable_name, falling_clock_function}
use Rattle.ice_chip.specs.RamNames.{ram_name, is_read_out, is_clock_enable, has_ram_wire}
use Rattle.ice_chip.specs.WireNames.{clock_name, clock_enable_name, set_reset_name}
use Rattle.ice_chip.specs.declared.rows.Pad.{Pad}
use Rattle.ice_chip.specs.declared.rows.TileKind.{TileKind}
use Rattle.ice_chip.specs.declared.rows.TileKind.TheVariants.{Io, Logic, RamBottom, RamTop}
use Rattle.ice_chip_rams.specs.Sites.{sites}
use Rattle.ice_chip_sockets.specs.Pins.{IsRamPin}
use Rattle.ice_chip_sockets.proofs.SocketWires.{io_wire, ram_wire}
use Rattle.ice_chip_sockets.specs.Sockets.{driven_name, has_io_wire, has_ram_pin, has_ram_wire_in, is_driven}
use Rattle.ice_bits.specs.Settings.{set_at}
use Rattle.ice_net.specs.declared.driver.Drive.{Drive}
use Rattle.ice_net.specs.declared.driver.Drive.TheVariants.{Off}
use Rattle.ice_net.specs.declared.kind.Reset.{Reset}
use Rattle.ice_net.specs.declared.kind.Reset.TheVariants as reset
use Rattle.ice_net.specs.Drives.{level_drive, pad_drive}
use Rattle.ice_net.specs.Kinds.{is_edge, fired}
use Rattle.ice_net.specs.Meaning.{State}
use Rattle.ice_decode.specs.declared.point.Point.{Point}
use Rattle.ice_decode.specs.declared.point.Point.TheVariants.{Wire, Carry}
use Rattle.ice_decode.specs.declared.role.Role.TheVariants.{Plain, ClockEnable}
use Rattle.ice_decode.specs.declared.driver.Driver.TheVariants.{Nothing}
use Rattle.ice_decode.specs.Cells.{logic_tiles, has_flop, reset_of, looked_up, tile_place}
use Rattle.ice_decode.specs.Faults.{HasNoLoop}
use Rattle.ice_decode.specs.Meaning as chip
use Rattle.ice_decode.proofs.PadDrives.{low_drive, pad_low}
use Rattle.ice_decode.specs.Meaning.{store_after, clock_after, point_level, is_ram_driven, ram_drive, drive_at, chip_system}
use Rattle.ice_decode.specs.Pads.{kept_at, pads, pin_level, part_drive, Store, CellStore, stores, output_kept}
use Rattle.ice_decode.specs.Reads.{wire_point, at_pin, cell_inputs, count_points}
use Rattle.ice_decode.specs.Drivers.{role_of}
use Rattle.ice_decode.proofs.KeptLevels.{kept_stepped, clock_stepped, cell_stands}
use Rattle.ice_decode.proofs.PointPlaces.{wire_at}
use Rattle.ice_decode.proofs.RolePlaces as places
use Rattle.ice_decode.proofs.Valued.{faultless_valued}
use Rattle.ice_decode.proofs.OtherTypes.{other_untyped}
use Rattle.ice_cells.specs.declared.cell.Control.{Control}
use Rattle.ice_cells.specs.declared.cell.LogicCell.{LogicCell}
use Rattle.ice_cells.specs.declared.design.Design.{Design}
use Rattle.ice_cells.specs.declared.design.DesignPad.{DesignPad}
use Rattle.ice_cells.specs.declared.root.Root.{Root}
use Rattle.ice_cells.specs.Formed.{IsPad}
use Rattle.ice_cells.specs.Meaning as design
use Rattle.ice_cells.specs.Meaning.{at_root, given, flop_keeps, flop_clock, cell_keeps, cell_clock, pad_drives}
use Rattle.ice_cells.specs.Nodes.{Node, Net, net}
use Rattle.ice_cells.specs.Pieces.{control_by}
use Rattle.ice_cells.specs.Readings.{control_roots}
use Rattle.ice_cells.proofs.TableLaws.{get_or-table}
use Rattle.ice_pads.specs.Facts.{HasWires}
use Rattle.ice_emit_defs.specs.Led.{IsLed, IsControlLed, IsSocket}
use Rattle.ice_emit_defs.specs.Realised.{port_levels, seen_at, seen}
use Rattle.ice_emit_defs.specs.Set.{read_reset}
use Rattle.ice_emit_defs.specs.Slots.{StandsIn}
use Rattle.ice_emit_meaning_laws.proofs.Premises.{Premises}
use Rattle.ice_emit_meaning_laws.proofs.Arriving.{v, arrives, pin_reads, root_reads, table_given}
use Rattle.ice_emit_meaning_laws.proofs.Starts.{Starts}
use Rattle.ice_emit_meaning_laws.proofs.Faultless.{faultless}
use Rattle.ice_emit_meaning_laws.proofs.PadTypes.{pad_there, io_or_other}
use Rattle.ice_emit_meaning_laws.proofs.Pins.{clock_plain, enable_is, reset_plain, pad_output_plain, pad_enable_plain}
use Rattle.ice_emit_meaning_laws.proofs.RamWires.{clock_enable_is, taken_plain}
use Rattle.ice_emit_meaning_laws.proofs.Read.{IsReadable, cell_reads, pad_reads, low_or_pin, pin_other}
use Rattle.ice_emit_meaning_laws.proofs.Slots.{below, logic_there}
use Rattle.ice_emit_meaning_laws.proofs.WireLevels.{HasLevel, HaveLevels, Reads, wire_made}

-- ---- lists and machines

-- what is seen at pads is what their ports give, item by item
seen_alike : (f : Pad → Drive) (h : DesignPad → Drive) (xs : List Pad) (ys : List DesignPad) → length xs ≡ length ys → ((k : ℕ) (x : Pad) (y : DesignPad) → At xs k x → At ys k y → seen_at x y (f x) ≡ h y)
    → seen xs ys (map f xs) ≡ map h ys
seen_alike f h [] [] long same = refl
seen_alike f h [] (y ∷ ys) long same = absurd (omega (arith, long))
seen_alike f h (x ∷ xs) [] long same = absurd (omega (arith, long))
seen_alike f h (x ∷ xs) (y ∷ ys) long same =
    let one = same 0 x y refl refl in
    let rest = seen_alike f h xs ys (omega (arith, long)) (λ k a b at there. same (suc k) a b at there) in
    λ i. one i ∷ rest i

-- what a machine shows for levels that are made of others
shows_over : {S L M O : Type 0} (step : S → M → S × O) (f : L → M) (s : S) (ls : List L) → machine_shows step s (map f ls) ≡ machine_shows (λ t l. step t (f l)) s ls
shows_over step f s [] = refl
shows_over step f s (l ∷ ls) = ap (λ os. (step s (f l)).1 ∷ os) (shows_over step f (step s (f l)).0 ls)

-- what is seen of all that a machine shows is what is seen in each step
shows_through : {S L O P : Type 0} (step : S → L → S × O) (f : O → P) (s : S) (ls : List L) → map f (machine_shows step s ls) ≡ machine_shows (λ t l. ((step t l).0, f (step t l).1)) s ls
shows_through step f s [] = refl
shows_through step f s (l ∷ ls) = ap (λ os. f (step s l).1 ∷ os) (shows_through step f (step s l).0 ls)

shows_one : {S L O : Type 0} (step : S → L → S × O) (o : O) → ((s : S) (l : L) → (step s l).1 ≡ o) → (s : S) (ls : List L) → machine_shows step s ls ≡ replicate (length ls) o
shows_one step o same s [] = refl
shows_one step o same s (l ∷ ls) =
    let one = same s l in
    let rest = shows_one step o same (step s l).0 ls in
    λ i. one i ∷ rest i

-- ---- flip-flops
-- one without set and reset is read back as one that is reset by nothing
read_back : (kind : Reset) (edge enable level datum kept : Bool) → (kind ≡ reset.Nothing → level ≡ false) → fired (read_reset kind) edge enable level datum kept ≡ fired kind edge enable level datum kept
read_back reset.Nothing edge enable level datum kept low = ap (λ b. fired reset.SyncReset edge enable b datum kept) (low refl)
read_back reset.SyncReset edge enable level datum kept low = refl
read_back reset.AsyncReset edge enable level datum kept low = refl
read_back reset.SyncSet edge enable level datum kept low = refl
read_back reset.AsyncSet edge enable level datum kept low = refl

at_net : (b : Bool) (w : Node → Bool) (o : Option Root) → reading b w (net o) ≡ at_root b w o
at_net b w None = refl
at_net b w (Some r) = refl

place_found : (t : TileAt) (tiles : List TileAt) → Has tiles t → (k : ℕ) × (tile_place t tiles ≡ Some k)
place_found t [] has = absurd (none-some t has.1)
place_found t (u ∷ tiles) has = by (same_tile u t) refl has (λ h. place_found t tiles h)
  where
    by : (b : Bool) → same_tile u t ≡ b → Has (u ∷ tiles) t → (Has tiles t → (k : ℕ) × (tile_place t tiles ≡ Some k)) → (k : ℕ) × (cond b (Some 0) (option_map suc (tile_place t tiles)) ≡ Some k)
    by true e h later = (0, refl)
    by false e (zero, at) later = absurd (true≢false (sym (tile_self t) ∙ ap (λ x. same_tile x t) (sym (same_Some u t at)) ∙ e))
    by false e (suc i, at) later = let rest = later (i, at) in (suc rest.0, ap (option_map suc) rest.1)

-- what a pad of a type drives
typed : (n m : ℕ) (level enable kept : Bool) → n ≡ m → part_drive (m / 4) level enable kept ≡ pad_drive m level enable → part_drive (n / 4) level enable kept ≡ pad_drive n level enable
typed n m level enable kept e same = ap (λ k. part_drive (k / 4) level enable kept) e ∙ same ∙ sym (ap (λ k. pad_drive k level enable) e)

-- ---- pins of block RAMs
-- the pad is a pin that a block RAM takes
abbrev is_taken_pin : Parts → Pad → Bool
is_taken_pin parts pad = not (is_read_out (pad.pio - 2)) && nat_lt (pad.pio - 2) 74 && has_ram_pin parts pad.tile (pad.pio - 2)

no_enable : (n : ℕ) → n < 74 → is_clock_enable n ≡ false
no_enable n lt = by (n == 74) (n == 75) refl refl
  where
    by : (a b : Bool) → (n == 74) ≡ a → (n == 75) ≡ b → (a || b) ≡ false
    by true b ea eb = absurd (let same = nat_same n 74 ea in omega (arith, lt, same))
    by false true ea eb = absurd (let same = nat_same n 75 eb in omega (arith, lt, same))
    by false false ea eb = refl

-- the enable of a port stands in one tile with that of its clock
beside_read : (kind : TileKind) → has_ram_wire kind 72 ≡ true → has_ram_wire kind 74 ≡ true
beside_read Io has = absurd (true≢false (sym has))
beside_read Logic has = absurd (true≢false (sym has))
beside_read RamBottom has = absurd (true≢false (sym has))
beside_read RamTop has = refl

beside_write : (kind : TileKind) → has_ram_wire kind 73 ≡ true → has_ram_wire kind 75 ≡ true
beside_write Io has = absurd (true≢false (sym has))
beside_write Logic has = absurd (true≢false (sym has))
beside_write RamBottom has = refl
beside_write RamTop has = absurd (true≢false (sym has))

-- ---- states
module _ (g : Premises) (loopless : HasNoLoop g.parts g.bits g.extras) where
  abbrev d : Design
  d = g.plan.design

  -- each cell keeps in its slot what it keeps in the design, and has seen the same level of its clock
  pub record Alike (s t : State) : Type 0 where
    pub kept : (u : TileAt) (i c : ℕ) (cell : LogicCell) → StandsIn g.plan u i c cell → (k : ℕ) → tile_place u (logic_tiles g.parts) ≡ Some k → At s.kept (8 * k + i) (slice_index_or t.kept c false)
    pub clocks : (u : TileAt) (i c : ℕ) (cell : LogicCell) → StandsIn g.plan u i c cell → (k : ℕ) → tile_place u (logic_tiles g.parts) ≡ Some k → At s.clocks (8 * k + i) (slice_index_or t.clocks c None)

  place : (u : TileAt) (i c : ℕ) (cell : LogicCell) → StandsIn g.plan u i c cell → (k : ℕ) × (tile_place u (logic_tiles g.parts) ≡ Some k)
  place u i c cell stands = place_found u (logic_tiles g.parts) (places.logic_there g.parts u (logic_there g u i c cell stands))

  kept_same : (s t : State) → Alike s t → (u : TileAt) (i c : ℕ) (cell : LogicCell) → StandsIn g.plan u i c cell → kept_at g.parts s.kept u i ≡ slice_index_or t.kept c false
  kept_same s t alike u i c cell stands =
      let found = place u i c cell stands in
      ap (λ (o : Option ℕ). option_map_or (λ k. slice_index_or s.kept (8 * k + i) false) o false) found.1
      ∙ get_or_from_slice_get s.kept (8 * found.0 + i) (slice_index_or t.kept c false) false (alike.kept u i c cell stands found.0 found.1)

  -- ---- one step
  module _ (bonded : List Pad) (levels : List Bool) (s t : State) (alike : Alike s t) where
    abbrev now : Point → Bool
    now p = point_level g.parts g.bits g.extras bonded levels s.kept p

    abbrev node_now : Node → Bool
    node_now n = v g bonded levels s.kept t.kept (kept_same s t alike) n

    -- the wire of a pin is one of the chip
    abbrev IsBelow : Option Point → Type 0
    IsBelow None = Unit {0}
    IsBelow (Some (Wire w)) = w.0 < g.parts.wires
    IsBelow (Some (Carry u i)) = ⊥

    pin_within : (u : TileAt) (name : List ℕ) → IsBelow (at_pin g.parts u name)
    pin_within u name = by (wire_named g.parts u name) refl
      where
        by : (o : Option ℕ) → wire_named g.parts u name ≡ o → IsBelow (option_map wire_point o)
        by None e = tt
        by (Some w) e = g.lawful.names.below w (record { tile = u; name = name }) (g.lawful.names.found u name w e)

    level_now : (w : WireNo) (x : Bool) → w.0 < g.parts.wires → HasLevel g.parts g.bits g.extras bonded levels s.kept (Wire w) x → now (Wire w) ≡ x
    level_now w x lt (k, e) =
        let system = chip_system g.parts g.bits g.extras bonded levels s.kept in
        let is : value system (count_points g.parts + 1) (Wire w) ≡ Some (now (Wire w)) =
        faultless_valued g.parts g.bits g.extras g.chip_read (faultless g loopless) bonded levels s.kept (Wire w) (w.0, wire_at g.parts.wires (logic_tiles g.parts) w.0 lt) in
        let one = value_at_more system (count_points g.parts + 1) (k + (count_points g.parts + 1)) (Wire w) (now (Wire w)) (omega arith) is in
        let two = value_at_more system k (k + (count_points g.parts + 1)) (Wire w) x (omega arith) e in
        same_Some (now (Wire w)) x (sym one ∙ two)

    reads_now : (p : Option Point) (x : Bool) → IsBelow p → Reads g.parts g.bits g.extras bonded levels s.kept p x → reading false now p ≡ x
    reads_now None x lt has = sym has
    reads_now (Some (Wire w)) x lt has = level_now w x lt has
    reads_now (Some (Carry u i)) x lt has = absurd lt

    abbrev AreBelow : List (Option Point) → Type 0
    AreBelow [] = Unit {0}
    AreBelow (p ∷ ps) = IsBelow p × AreBelow ps

    have_now : (ps : List (Option Point)) (xs : List Bool) → AreBelow ps → HaveLevels g.parts g.bits g.extras bonded levels s.kept ps xs → map (reading false now) ps ≡ xs
    have_now [] [] lt have = refl
    have_now [] (x ∷ xs) lt have = absurd have
    have_now (None ∷ ps) [] lt have = absurd have
    have_now (None ∷ ps) (x ∷ xs) lt have =
        let one = reads_now None x lt.0 have.0 in
        let rest = have_now ps xs lt.1 have.1 in
        λ i. one i ∷ rest i
    have_now (Some p ∷ ps) [] lt have = absurd have
    have_now (Some p ∷ ps) (x ∷ xs) lt have =
        let one = reads_now (Some p) x lt.0 have.0 in
        let rest = have_now ps xs lt.1 have.1 in
        λ i. one i ∷ rest i

    -- each node has its level where it starts
    arrived : (n : Node) (p : Point) → Starts g p n → HasLevel g.parts g.bits g.extras bonded levels s.kept p (node_now n)
    arrived n p starts = arrives g bonded levels s.kept t.kept (kept_same s t alike) n p starts

    -- the level at a pin that a root is led to
    pin_now : (u : TileAt) (name : List ℕ) (o : Option Root) → IsLed g.parts g.plan g.wanted (wire_named g.parts u name) o → ((w : ℕ) → wire_named g.parts u name ≡ Some w → role_of g.parts w ≡ Plain)
        → ((r : Root) → o ≡ Some r → IsReadable d r) → pin_level false g.parts now u name ≡ at_root false node_now o
    pin_now u name o led plain readable =
        reads_now (at_pin g.parts u name) (reading false node_now (net o)) (pin_within u name)
        (pin_reads g bonded levels s.kept t.kept (kept_same s t alike) (wire_named g.parts u name) o led plain readable (λ n e p starts. arrived n p starts))
        ∙ at_net false node_now o

    -- what the table of a cell gives
    table_now : (u : TileAt) (i c : ℕ) (cell : LogicCell) → StandsIn g.plan u i c cell → chip.table_level g.parts g.bits now u i ≡ given d node_now c cell
    table_now u i c cell stands =
        let table = table_given g bonded levels s.kept t.kept (kept_same s t alike) u i c cell stands (λ n has p starts. arrived n p starts) in
        let within : AreBelow (cell_inputs g.parts u i) = (pin_within u (input_name i 0), (pin_within u (input_name i 1), (pin_within u (input_name i 2), (pin_within u (input_name i 3), tt)))) in
        ap (looked_up g.parts g.bits u i) (have_now (cell_inputs g.parts u i) table.xs within table.have) ∙ table.gives

    -- ---- what a flip-flop does
    module _ (u : TileAt) (i c : ℕ) (cell : LogicCell) (stands : StandsIn g.plan u i c cell) (control : Control) (kind : Reset) (flop : cell.flop ≡ Some (control, kind)) where
      logic : kind_at g.parts u ≡ Some Logic
      logic = logic_there g u i c cell stands

      shared : stands.cluster.control ≡ Some control
      shared =
          g.driven stands.on.number i c stands.cluster control stands.on.cluster_is stands.slot
          (ap (option_and_then (λ (x : LogicCell). control_by x.flop)) stands.cell_is ∙ ap control_by flop)

      led : IsControlLed g.parts g.plan g.wanted u control
      led = g.led.controls u stands.cluster control stands.on shared

      control_read : (j : ℕ) (o : Option Root) → At (control.clock ∷ control.enable ∷ control.reset ∷ []) j o → (r : Root) → o ≡ Some r → IsReadable d r
      control_read j o at =
          cell_reads d c cell (suc (suc (suc (suc j)))) o stands.cell_is
          (subst (λ (f : Option (Control × Reset)). slice_get (control_roots f) j ≡ Some o) (sym flop) at)

      clock_now : chip.clock_level g.parts now u ≡ at_root false node_now control.clock
      clock_now = pin_now u clock_name control.clock led.clock (λ w e. clock_plain g.parts g.lawful u logic w e) (control_read 0 control.clock refl)

      reset_now : pin_level false g.parts now u set_reset_name ≡ at_root false node_now control.reset
      reset_now = pin_now u set_reset_name control.reset led.reset (λ w e. reset_plain g.parts g.lawful u logic w e) (control_read 2 control.reset refl)

      -- an enable that nothing is led to is open, and reads 1
      enable_now : pin_level true g.parts now u clock_enable_name ≡ at_root true node_now control.enable
      enable_now = by (wire_named g.parts u clock_enable_name) control.enable refl led.enable (control_read 1 control.enable refl)
        where
          enable_within : (w : ℕ) → wire_named g.parts u clock_enable_name ≡ Some w → w < g.parts.wires
          enable_within w e = g.lawful.names.below w (record { tile = u; name = clock_enable_name }) (g.lawful.names.found u clock_enable_name w e)

          by : (pin : Option ℕ) (o : Option Root) → wire_named g.parts u clock_enable_name ≡ pin → IsLed g.parts g.plan g.wanted pin o → ((r : Root) → o ≡ Some r → IsReadable d r)
              → reading true now (option_map wire_point pin) ≡ at_root true node_now o
          by None None e is readable = refl
          by (Some w) None e is readable =
              level_now (record { 0 = w }) true (enable_within w e)
              (wire_made g.parts g.bits g.extras bonded levels s.kept w Nothing ClockEnable [] true (g.wired.bare w (is w refl)) (enable_is g.parts g.lawful u logic w e) tt refl)
          by None (Some r) e is readable = absurd (none-some is.0 is.1)
          by (Some w) (Some r) e is readable =
              level_now (record { 0 = w }) (node_now (Net r)) (enable_within w e)
              (root_reads g bonded levels s.kept t.kept (kept_same s t alike) (Some w) r is (readable r refl) (λ p starts. arrived (Net r) p starts))

      edge : set_at g.parts g.bits u falling_clock_function 0 ≡ control.falling
      edge = (g.are_set.tiles u stands.cluster stands.on).edge control shared

      resets : reset_of g.parts g.bits u i ≡ read_reset kind
      resets = (g.are_set.cells u i c cell stands).reset control kind flop

      unreset : kind ≡ reset.Nothing → at_root false node_now control.reset ≡ false
      unreset e = ap (at_root false node_now) (g.placed.formed.resets c cell control stands.cell_is (flop ∙ ap (λ (k : Reset). Some (control, k)) e))

      flop_now : (kept : Bool) (clock : Option Bool) → chip.flop_after g.parts g.bits now u i kept clock ≡ flop_keeps node_now (Some (control, kind)) (given d node_now c cell) kept clock
      flop_now kept clock =
          (λ j. fired (resets j) (is_edge (edge j) clock (clock_now j)) (enable_now j) (reset_now j) (table_now u i c cell stands j) kept)
          ∙ read_back kind (is_edge control.falling clock (at_root false node_now control.clock)) (at_root true node_now control.enable) (at_root false node_now control.reset) (given d node_now c cell) kept unreset

    -- ---- the state afterwards
    module _ (u : TileAt) (i c : ℕ) (cell : LogicCell) (stands : StandsIn g.plan u i c cell) where
      flop_is : (f : Option (Control × Reset)) → cell.flop ≡ f → has_flop g.parts g.bits u i ≡ is_some f
      flop_is f e = (g.are_set.cells u i c cell stands).flop ∙ ap (λ (o : Option (Control × Reset)). is_some o) e

      keeps_now : (kept : Bool) (clock : Option Bool) (f : Option (Control × Reset)) → cell.flop ≡ f
          → store_after g.parts g.bits bonded levels now (CellStore u i) kept clock ≡ flop_keeps node_now f (given d node_now c cell) kept clock
      keeps_now kept clock None e = ap (λ b. b && chip.flop_after g.parts g.bits now u i kept clock) (flop_is None e)
      keeps_now kept clock (Some (control, kind)) e =
          ap (λ b. b && chip.flop_after g.parts g.bits now u i kept clock) (flop_is (Some (control, kind)) e) ∙ flop_now u i c cell stands control kind e kept clock

      clocks_now : (f : Option (Control × Reset)) → cell.flop ≡ f → clock_after g.parts g.bits now (CellStore u i) ≡ flop_clock node_now f
      clocks_now None e = ap (λ b. cond b (Some (chip.clock_level g.parts now u)) None) (flop_is None e)
      clocks_now (Some (control, kind)) e =
          ap (λ b. cond b (Some (chip.clock_level g.parts now u)) None) (flop_is (Some (control, kind)) e) ∙ ap (λ (x : Bool). Some x) (clock_now u i c cell stands control kind e)

      lt : c < length d.cells
      lt = At_within d.cells c cell stands.cell_is

      kept_then : (k : ℕ) → tile_place u (logic_tiles g.parts) ≡ Some k → At (chip.state_after g.parts g.bits bonded levels now s).kept (8 * k + i) (slice_index_or (design.state_after d node_now t).kept c false)
      kept_then k found =
          let a = slice_index_or t.kept c false in
          let b = slice_index_or t.clocks c None in
          let at = cell_stands g.parts u i k found (below g u i c cell stands) in
          kept_stepped g.parts g.bits bonded levels now s (8 * k + i) (CellStore u i) at a b (alike.kept u i c cell stands k found) (alike.clocks u i c cell stands k found)
          ∙ ap (λ (x : Bool). Some x)
          (keeps_now a b cell.flop refl
          ∙ sym (ap (λ o. option_map_or (λ (x : LogicCell). flop_keeps node_now x.flop (given d node_now c x) a b) o false) stands.cell_is)
          ∙ sym (get_or-table (cell_keeps d node_now t) (length d.cells) c false lt))

      clocks_then : (k : ℕ) → tile_place u (logic_tiles g.parts) ≡ Some k → At (chip.state_after g.parts g.bits bonded levels now s).clocks (8 * k + i) (slice_index_or (design.state_after d node_now t).clocks c None)
      clocks_then k found =
          clock_stepped g.parts g.bits bonded levels now s (8 * k + i) (CellStore u i) (cell_stands g.parts u i k found (below g u i c cell stands))
          ∙ ap (λ (x : Option Bool). Some x)
          (clocks_now cell.flop refl ∙ sym (ap (λ o. option_map_or (λ (x : LogicCell). flop_clock node_now x.flop) o None) stands.cell_is)
          ∙ sym (get_or-table (cell_clock d node_now) (length d.cells) c None lt))

    alike_then : Alike (chip.state_after g.parts g.bits bonded levels now s) (design.state_after d node_now t)
    alike_then = record { kept = kept_then; clocks = clocks_then }

    -- ---- what pads show
    -- a pad of a package
    low_drive_now : (k : ℕ) (pad : Pad) (port : DesignPad) → At g.plan.ports k pad → At d.pads k port → pad.pio < 2 → chip.pad_drive g.parts g.bits s.kept now pad ≡ pad_drives node_now port
    low_drive_now k pad port here there lt = by (io_or_other g pad.tile) (g.placed.formed.pads k port there)
      where
        level : Bool
        level = pin_level false g.parts now pad.tile (pad_output_name pad.pio)

        enable : Bool
        enable = pin_level false g.parts now pad.tile (output_enable_name pad.pio)

        -- what a register would keep: no port drives it
        held : Bool
        held = output_kept g.parts s.kept pad

        wires : HasWires g.parts port pad
        wires = g.placed.pads.wires k port pad there here

        driven_by : driven_name pad.pio ≡ pad_output_name pad.pio
        driven_by = ap (λ b. cond b (pad_output_name pad.pio) (ram_name (pad.pio - 2))) (lt-ltb pad.pio 2 lt)

        driven : is_driven g.parts pad ≡ true → has_io_wire g.parts pad.tile (pad_output_name pad.pio) ≡ true
        driven is = sym (ap (λ b. cond b (has_io_wire g.parts pad.tile (pad_output_name pad.pio)) (is_taken_pin g.parts pad)) (lt-ltb pad.pio 2 lt)) ∙ is

        by : (kind_at g.parts pad.tile ≡ Some Io) ⊎ (kind_at g.parts pad.tile ≡ Some Io → ⊥) → IsPad port → chip.pad_drive g.parts g.bits s.kept now pad ≡ pad_drives node_now port
        by (inr other) (inl one) =
            ap (λ n. part_drive (n / 4) level enable held) (other_untyped g.parts g.bits g.chip_read pad other lt) ∙ sym (ap (λ n. pad_drive n (at_root false node_now port.drive) (at_root false node_now port.enable)) one.0)
        by (inr other) (inr (inl two)) = absurd (other (io_wire g.parts pad.tile (pad_output_name pad.pio) (driven (wires.output (inl two.0)))).0)
        by (inr other) (inr (inr three)) = absurd (other (io_wire g.parts pad.tile (pad_output_name pad.pio) (driven (wires.output (inr three)))).0)
        by (inl io) form =
            let known = pad_there g pad io lt in
            let led = g.led.ports k pad port here there (inl known) in
            let type_is = g.are_set.types k pad port here there known in
            let drive : level ≡ at_root false node_now port.drive =
            pin_now pad.tile (pad_output_name pad.pio) port.drive (subst (λ (name : List ℕ). IsLed g.parts g.plan g.wanted (wire_named g.parts pad.tile name) port.drive) driven_by led.drive)
            (λ w e. pad_output_plain g.parts g.lawful pad.tile io w pad.pio lt e) (pad_reads d k port 0 port.drive there refl) in
            let on : enable ≡ at_root false node_now port.enable =
            pin_now pad.tile (output_enable_name pad.pio) port.enable (led.enable known) (λ w e. pad_enable_plain g.parts g.lawful pad.tile io w pad.pio lt e) (pad_reads d k port 1 port.enable there refl) in
            (λ i. part_drive (type_is i / 4) (drive i) (on i) held) ∙ of_type form
          where
            of_type : IsPad port → part_drive (port.pin_type / 4) (at_root false node_now port.drive) (at_root false node_now port.enable) held ≡ pad_drives node_now port
            of_type (inl one) = typed port.pin_type 1 (at_root false node_now port.drive) (at_root false node_now port.enable) held one.0 refl
            of_type (inr (inl two)) = typed port.pin_type 25 (at_root false node_now port.drive) (at_root false node_now port.enable) held two.0 refl
            of_type (inr (inr three)) = typed port.pin_type 41 (at_root false node_now port.drive) (at_root false node_now port.enable) held three refl

    -- the enable of a clock of a block RAM reads 1, since no row enters it
    clock_enabled : (t : TileAt) (kind : TileKind) (n : ℕ) → kind_at g.parts t ≡ Some kind → has_ram_wire kind n ≡ true → n < 76 → is_read_out n ≡ false → is_clock_enable n ≡ true → pin_level true g.parts now t (ram_name n) ≡ true
    clock_enabled t kind n at has lt out enables = by (wire_named g.parts t (ram_name n)) refl
      where
        by : (o : Option ℕ) → wire_named g.parts t (ram_name n) ≡ o → reading true now (option_map wire_point o) ≡ true
        by None e = refl
        by (Some w) e =
            let bare = g.wired.bare w (g.led.clock_enables t n w enables (ap (has_ram_wire_in n) at ∙ has) e) in
            level_now (record { 0 = w }) true (g.lawful.names.below w (record { tile = t; name = ram_name n }) (g.lawful.names.found t (ram_name n) w e))
            (wire_made g.parts g.bits g.extras bonded levels s.kept w Nothing ClockEnable [] true bare (clock_enable_is g.parts g.lawful t kind at w n lt has out enables e) tt refl)

    -- so each pin of a block RAM is driven
    ram_driven : (t : TileAt) (kind : TileKind) (n : ℕ) → kind_at g.parts t ≡ Some kind → has_ram_wire kind n ≡ true → is_ram_driven g.parts now t n ≡ true
    ram_driven t kind n at has = by (n == 72) (n == 73) refl refl
      where
        by : (a b : Bool) → (n == 72) ≡ a → (n == 73) ≡ b → cond a (pin_level true g.parts now t (ram_name 74)) (cond b (pin_level true g.parts now t (ram_name 75)) true) ≡ true
        by true b ea eb = clock_enabled t kind 74 at (beside_read kind (sym (ap (has_ram_wire kind) (nat_same n 72 ea)) ∙ has)) (omega arith) refl refl
        by false true ea eb = clock_enabled t kind 75 at (beside_write kind (sym (ap (has_ram_wire kind) (nat_same n 73 eb)) ∙ has)) (omega arith) refl refl
        by false false ea eb = refl

    -- a pin of a block RAM
    ram_drive_now : (k : ℕ) (pad : Pad) (port : DesignPad) → At g.plan.ports k pad → At d.pads k port → IsRamPin g.parts g.placed.rams pad → seen_at pad port (drive_at g.parts g.bits s.kept now pad) ≡ pad_drives node_now port
    ram_drive_now k pad port here there pin = by (g.placed.formed.pads k port there)
      where
        pio_is : pad.pio ≡ pin.number + 2
        pio_is = ap (λ (p : Pad). p.pio) pin.is_pin

        n : ℕ
        n = pad.pio - 2

        high : nat_lt pad.pio 2 ≡ false
        high = le-ltb pad.pio 2 (omega (arith, pio_is))

        wires : HasWires g.parts port pad
        wires = g.placed.pads.wires k port pad there here

        level : Bool
        level = pin_level false g.parts now pad.tile (ram_name n)

        socket : IsSocket g.parts pad
        socket =
            inr (record {
              place = pin.place;
              site = pin.site;
              number = pin.number;
              there = pin.there;
              first = At_within (sites g.parts) pin.place pin.site pin.there;
              below = pin.below;
              is_pin = pin.is_pin;
            })

        -- an output, whose pin is one that the block RAM takes
        taken : port.pin_type ≡ 25 → is_taken_pin g.parts pad ≡ true → seen_at pad port (drive_at g.parts g.bits s.kept now pad) ≡ pad_drives node_now port
        taken two is =
            let out = and_parts (not (is_read_out n) && nat_lt n 74) (has_ram_pin g.parts pad.tile n) is in
            let apart = and_parts (not (is_read_out n)) (nat_lt n 74) out.0 in
            let low : n < 74 = ltb-true n 74 apart.1 in
            let kind = ram_wire g.parts pad.tile n out.1 in
            let name : driven_name pad.pio ≡ ram_name n = ap (λ b. cond b (pad_output_name pad.pio) (ram_name n)) high in
            let led = (g.led.ports k pad port here there socket).drive in
            let drive : level ≡ at_root false node_now port.drive =
            pin_now pad.tile (ram_name n) port.drive (subst (λ (x : List ℕ). IsLed g.parts g.plan g.wanted (wire_named g.parts pad.tile x) port.drive) name led)
            (λ w e. taken_plain g.parts g.lawful pad.tile kind.0 kind.1 w n (omega (arith, low)) kind.2 (not_true (is_read_out n) apart.0) (no_enable n low) e) (pad_reads d k port 0 port.drive there refl) in
            (λ i. cond (high i || not (two i == 1)) (drive_at g.parts g.bits s.kept now pad) Off)
            ∙ (λ i. cond (high i) (chip.pad_drive g.parts g.bits s.kept now pad) (cond (lt-ltb pad.pio 78 (omega (arith, low)) i) (ram_drive g.parts now pad.tile n) Off))
            ∙ (λ i. cond (ram_driven pad.tile kind.0 n kind.1 kind.2 i) (level_drive (drive i)) Off)
            ∙ sym (ap (λ m. pad_drive m (at_root false node_now port.drive) (at_root false node_now port.enable)) two)

        driven : is_driven g.parts pad ≡ true → is_taken_pin g.parts pad ≡ true
        driven is = sym (ap (λ b. cond b (has_io_wire g.parts pad.tile (pad_output_name pad.pio)) (is_taken_pin g.parts pad)) high) ∙ is

        by : IsPad port → seen_at pad port (drive_at g.parts g.bits s.kept now pad) ≡ pad_drives node_now port
        by (inl one) =
            (λ i. cond (high i || not (one.0 i == 1)) (drive_at g.parts g.bits s.kept now pad) Off)
            ∙ sym (ap (λ m. pad_drive m (at_root false node_now port.drive) (at_root false node_now port.enable)) one.0)
        by (inr (inl two)) = taken two.0 (driven (wires.output (inl two.0)))
        by (inr (inr three)) = absurd (pin_other g.parts g.placed.rams pad pin (io_wire g.parts pad.tile (output_enable_name pad.pio) (wires.enable three)).0)

    drive_now : (k : ℕ) (pad : Pad) (port : DesignPad) → At g.plan.ports k pad → At d.pads k port → seen_at pad port (drive_at g.parts g.bits s.kept now pad) ≡ pad_drives node_now port
    drive_now k pad port here there = elim (low_or_pin g k pad here) [
      | inl lt ↦
          ap (λ b. cond (b || not (port.pin_type == 1)) (drive_at g.parts g.bits s.kept now pad) Off) (lt-ltb pad.pio 2 lt)
          ∙ low_drive g.parts g.bits s.kept now pad lt
          ∙ low_drive_now k pad port here there lt
      | inr pin ↦ ram_drive_now k pad port here there pin
    ]

    drives_now : seen g.plan.ports d.pads (map (drive_at g.parts g.bits s.kept now) g.plan.ports) ≡ map (pad_drives node_now) d.pads
    drives_now = seen_alike (drive_at g.parts g.bits s.kept now) (pad_drives node_now) g.plan.ports d.pads g.placed.pads.ports drive_now

  -- ---- all steps
  alike_start : Alike (chip.chip_start g.parts) (design.start d)
  alike_start = record {
    kept = λ u i c cell stands k found. At_map (λ (x : Store). false) (stores g.parts) (8 * k + i) (CellStore u i) (cell_stands g.parts u i k found (below g u i c cell stands))
        ∙ ap (λ (x : Bool). Some x) (sym (all_alike false d.cells c));
    clocks = λ u i c cell stands k found. At_map (λ (x : Store). None) (stores g.parts) (8 * k + i) (CellStore u i) (cell_stands g.parts u i k found (below g u i c cell stands))
        ∙ ap (λ (x : Option Bool). Some x) (sym (all_alike None d.cells c));
  }

  module _ (bonded : List Pad) where
    -- a step of the chip, of whose drives this is seen
    abbrev step_seen : State → List Bool → State × List Drive
    step_seen s levels =
        ((chip.chip_step g.parts g.bits g.extras bonded g.plan.ports s levels).0, seen g.plan.ports d.pads (chip.chip_step g.parts g.bits g.extras bonded g.plan.ports s levels).1)

    simulates : Simulates step_seen (λ t levels. design.step d t (port_levels bonded g.plan.ports levels)) Alike (λ levels. Unit {0})
    simulates s t levels allowed alike = (alike_then bonded levels s t alike, drives_now bonded levels s t alike)

    pub shows_same : (steps : List (List Bool)) → map (seen g.plan.ports d.pads) (chip.bits_show g.parts g.bits g.extras bonded g.plan.ports steps) ≡ design.shows d (map (port_levels bonded g.plan.ports) steps)
    shows_same steps =
        shows_through (chip.chip_step g.parts g.bits g.extras bonded g.plan.ports) (seen g.plan.ports d.pads) (chip.chip_start g.parts) steps
        ∙ shows_always_alike step_seen (λ t levels. design.step d t (port_levels bonded g.plan.ports levels)) Alike simulates (chip.chip_start g.parts) (design.start d) alike_start steps
        ∙ sym (shows_over (design.step d) (port_levels bonded g.plan.ports) (design.start d) steps)

    -- every other pad is off
    pub off_elsewhere : (steps : List (List Bool)) (pad : Pad) → Has (pads g.parts) pad → (Has g.plan.ports pad → ⊥) → chip.bits_show g.parts g.bits g.extras bonded (pad ∷ []) steps ≡ replicate (length steps) (Off ∷ [])
    off_elsewhere steps pad there none =
        shows_one (chip.chip_step g.parts g.bits g.extras bonded (pad ∷ [])) (Off ∷ [])
        (λ s levels. ap (λ d. d ∷ []) (low_drive g.parts g.bits s.kept (point_level g.parts g.bits g.extras bonded levels s.kept) pad (pad_low g.parts pad there))
        ∙ ap (λ n. part_drive (n / 4) (pin_level false g.parts (point_level g.parts g.bits g.extras bonded levels s.kept) pad.tile (pad_output_name pad.pio))
        (pin_level false g.parts (point_level g.parts g.bits g.extras bonded levels s.kept) pad.tile (output_enable_name pad.pio)) (output_kept g.parts s.kept pad) ∷ []) (g.are_set.untyped pad there none))
        (chip.chip_start g.parts) steps
