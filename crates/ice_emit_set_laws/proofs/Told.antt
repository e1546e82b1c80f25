-- What each setting of a placed design says.
use Rattle.std.proofs.Common.{◌≡◌, ◌⊎◌, ℕ, zero, suc, ◌+◌, ◌-◌, ◌%◌, ◌<◌, ◌==◌, Bool, true, false, cond, Option, None, Some, List, [], ◌∷◌, ◌++◌, length, filter, inl, inr, refl, ap, sym, ◌∙◌, subst, arith, codes}
use Rattle.std.specs.Prelude.{◌&&◌, not, nat_lt, flat_map, if◌then◌else◌}
use Rattle.std.specs.List.{range_with_len}
use Rattle.std.specs.Map.{lookup}
use Rattle.std.specs.Option.{option_map_or}
use Rattle.std.proofs.lemmas.Bool.{and_parts, eq-eqb, ltb-true}
use Rattle.std.proofs.lemmas.Option.{same_Some}
use Rattle.ice_base.specs.declared.number.TileAt.{TileAt}
use Rattle.ice_base.proofs.Booleans.{not_true}
use Rattle.ice_base_values.specs.Order.{At, Has}
use Rattle.ice_base_values.proofs.Members.{At_within, Has_none, Has_all, Has_any, filter_Has}
use Rattle.ice_chip.specs.Database.{Parts, PackageRows, same_tile, same_pad}
use Rattle.ice_chip.specs.FunctionNames.{function_name, tile_function, IsTileFunction, FunctionNamesAreRead, carry_set_function, pull_up_function}
use Rattle.ice_chip.specs.Names.{pin_type_function, input_enable_function, falling_clock_function, column_buffer_function, is_global_name}
use Rattle.ice_chip.specs.Indices.{put_first, with_first, firsts, enables_of}
use Rattle.ice_chip.specs.IsRead.{IsChip}
use Rattle.ice_chip.specs.Lookups.{kind_at, ieren_of, colbuf_of, names_of, enable_counts}
use Rattle.ice_chip.specs.Within.{ArePads}
use Rattle.ice_chip_names.specs.declared.function_names.TileFunction.{TileFunction}
use Rattle.ice_chip_names.specs.declared.function_names.TileFunction.TheVariants.{Cell, FallingClock, CarrySet, PinType, InputEnable, PullUp, ColumnBuffer, PowerUp, RamMode}
use Rattle.ice_chip.specs.declared.rows.Pad.{Pad}
use Rattle.ice_chip.specs.declared.rows.TileKind.TheVariants.{Io, Logic, RamBottom, RamTop}
use Rattle.ice_chip.specs.declared.placed.PlacedName.{PlacedName}
use Rattle.ice_chip_names.proofs.Prefixes.{set_number}
use Rattle.ice_chip_laws.specs.Laws.{IsLawful}
use Rattle.ice_chip_rams.specs.Sites.{sites}
use Rattle.ice_chip_rams.specs.declared.ram_site.RamSite.{RamSite}
use Rattle.ice_chip_sockets.proofs.SiteFacts.{site_facts}
use Rattle.ice_decode.specs.declared.driver.Switch.{Switch}
use Rattle.ice_decode.specs.Meaning.{global_at}
use Rattle.ice_decode.specs.Drivers.{number_at}
use Rattle.ice_decode.proofs.Members.{Has_left, Has_right, Has_append_cases}
use Rattle.ice_net.specs.Meaning.{table_bit}
use Rattle.ice_ram.specs.Ram.{Kept}
use Rattle.ice_ram.specs.declared.setup.Setup.{Setup}
use Rattle.ice_cells.specs.declared.cell.Control.{Control}
use Rattle.ice_cells.specs.declared.cell.LogicCell.{LogicCell}
use Rattle.ice_cells.specs.declared.cluster.Cluster.{Cluster}
use Rattle.ice_cells.specs.declared.design.DesignPad.{DesignPad}
use Rattle.ice_cluster.specs.Slots.{CellsStandInOneSlot}
use Rattle.ice_emit_rows_laws.specs.Settings.{Setting}
use Rattle.ice_place_defs.specs.Loads.{slots_give}
use Rattle.ice_place_defs.specs.Plan.{Plan, listed}
use Rattle.ice_emit_defs.specs.Arrivals.{Held, written_table}
use Rattle.ice_emit_defs.specs.Functions.{setting, setting_if, cell_settings, edge_settings, is_set, carry_settings, clusters_settings, type_settings, off_setting, pull_up_settings, ports_settings, read_pads, is_needed, enable_settings, buffer_at, global_settings, buffer_settings, settings}
use Rattle.ice_emit_defs.specs.Rams.{ram_settings, site_settings}
use Rattle.ice_emit_defs.specs.Routed.{IsPlaced}
use Rattle.ice_emit_defs.specs.Slots.{IsOn, StandsIn}
use Rattle.ice_emit_set_laws.proofs.CellNumbers.{if_told, lists, named}
use Rattle.ice_emit_set_laws.proofs.FunctionKinds.{IsOwn, own_name}
use Rattle.ice_emit_set_laws.proofs.Inside.{slots_back, clusters_back, ports_back}
use Rattle.ice_emit_set_laws.proofs.Lists.{flat_Has, one_Has, range_Has}
use Rattle.ice_emit_set_laws.proofs.LogicTiles.{on_logic}
use Rattle.ice_emit_set_laws.proofs.RamSettings.{InUse, IsBehind, mode_digit_of, sites_back, ram_back}

-- ---- what is known of every chip
pub record Known (parts : Parts) : Type 0 where
  pub chip : IsChip parts
  pub lawful : IsLawful parts
  pub names : FunctionNamesAreRead
  pub enables : (pad : Pad) → lookup (same_pad pad) (enables_of parts) ≡ ieren_of parts pad
  pub slots : CellsStandInOneSlot

-- a placed design, its block RAMs, what its trees hold, and the rows that are wanted
pub record Case : Type 0 where
  pub parts : Parts
  pub known : Known parts
  pub rows : PackageRows
  pub plan : Plan
  pub pullups : List Bool
  pub rams : List (Setup × Kept)
  pub placed : IsPlaced parts rows plan pullups
  pub held : Held
  pub wanted : List Switch

-- ---- rows that count
kept_rows : {K V : Type 0} (eq : K → K → Bool) (entries rows : List (K × V)) (x : K × V) → Has (firsts eq entries rows) x → Has entries x ⊎ Has rows x
kept_rows eq entries [] x has = inl has
kept_rows {K} {V} eq entries (row ∷ rows) x has = by (kept_rows eq (with_first eq entries row) rows x has)
  where
    old : (o : Option V) → Has (put_first entries row o) x → Has entries x ⊎ Has (row ∷ rows) x
    old (Some v) there = inl there
    old None there = elim (Has_append_cases entries (row ∷ []) x there) [ inl before ↦ inl before | inr last ↦ inr (0, ap (λ (y : K × V). Some y) (one_Has row x last)) ]

    by : Has (put_first entries row (lookup (eq row.0) entries)) x ⊎ Has rows x → Has entries x ⊎ Has (row ∷ rows) x
    by (inl first) = old (lookup (eq row.0) entries) first
    by (inr (i, at)) = inr (suc i, at)

-- ---- globals
lone_digit : (n : ℕ) → n < 8 → 48 + n % 10 - 48 < 8
lone_digit n lt = omega arith

pub global_below : (t : TileAt) (names : List PlacedName) (n : ℕ) → global_at t names ≡ Some n → n < 8
global_below t [] n e = cc e
global_below t (m ∷ names) n e = by (same_tile m.tile t && is_global_name m.name) refl e (global_below t names n)
  where
    by : (b : Bool) → (same_tile m.tile t && is_global_name m.name) ≡ b → cond b (Some (number_at m.name 10)) (global_at t names) ≡ Some n → (global_at t names ≡ Some n → n < 8) → n < 8
    by false is f rest = rest f
    by true is f rest =
        let which = set_number 8 (codes "glb_netwk_") m.name (omega arith) (and_parts (same_tile m.tile t) (is_global_name m.name) is).1 in
        let number : number_at m.name 10 ≡ n = same_Some (number_at m.name 10) n f in
        subst (λ k. k < 8) (ap (λ (name : List ℕ). number_at name 10) (sym which.2) ∙ number) (lone_digit which.0 which.1)

module _ (z : Case) where
  -- ---- what a setting says of its tile, by its function and its number
  abbrev pub read : List Pad
  read = read_pads z.plan.ports z.plan.design.pads

  -- the clock of a cluster, or that of the port of a block RAM that reads, or that writes
  abbrev pub FallsInTile : TileAt → Type 0
  FallsInTile t = (cluster : Cluster) × (control : Control) × IsOn z.plan t cluster × (cluster.control ≡ Some control) × (control.falling ≡ true)

  abbrev pub FallsAbove : TileAt → Type 0
  FallsAbove t = (used : InUse (sites z.parts) z.rams) × (t ≡ used.site.upper) × (used.ram.0.read_falls ≡ true)

  abbrev pub FallsBelow : TileAt → Type 0
  FallsBelow t = (used : InUse (sites z.parts) z.rams) × (t ≡ used.site.lower) × (used.ram.0.write_falls ≡ true)

  abbrev pub Told : TileAt → ℕ → TileFunction → Type 0
  Told t k (Cell i) = (c : ℕ) × (cell : LogicCell) × StandsIn z.plan t i c cell × (lists k (cell_settings z.parts z.held t i cell) ≡ true)
  Told t k FallingClock = FallsInTile t ⊎ (FallsAbove t ⊎ FallsBelow t)
  Told t k CarrySet = (cluster : Cluster) × (r : ℕ) × IsOn z.plan t cluster × (cluster.run ≡ Some (r, zero)) × (is_set z.plan.design.runs r ≡ true)
  Told t k (PinType pio digit) =
      (j : ℕ) × (port : DesignPad) × At z.plan.ports j (record { tile = t; pio = pio }) × At z.plan.design.pads j port × (table_bit port.pin_type digit ≡ true)
  Told t k (InputEnable pio) = is_needed (enables_of z.parts) read (record { tile = t; pio = pio }) ≡ false
  Told t k (PullUp pio) = Unit {0}
  Told t k (ColumnBuffer n) = Unit {0}
  Told t k PowerUp = (s : RamSite) × IsBehind (sites z.parts) z.rams s × (t ≡ s.lower)
  Told t k (RamMode place) = (used : InUse (sites z.parts) z.rams) × (t ≡ used.site.upper) × (mode_digit_of used.ram.0 place ≡ true)

  pub record IsTold (x : Setting) : Type 0 where
    pub function : TileFunction
    pub within : IsTileFunction function
    pub name : x.name ≡ function_name function
    pub says : Told x.tile x.number function

  -- by a setting that is the same
  told_by : (x : Setting) (t : TileAt) (k : ℕ) (g : TileFunction) → setting t (function_name g) k ≡ x → IsTileFunction g → Told t k g → IsTold x
  told_by x t k g e within says = subst IsTold e (record { function = g; within = within; name = refl; says = says })

  -- ---- clusters
  eight : (t : TileAt) (cluster : Cluster) → IsOn z.plan t cluster → length cluster.cells ≡ 8
  eight t cluster on =
      (z.known.slots z.plan.design (listed z.plan) z.placed.formed z.placed.clusters).eight on.number cluster on.cluster_is

  slot_below : (n place : ℕ) → n ≡ 8 → place < n → place < 8
  slot_below n place e lt = omega arith

  pub slot_within : (t : TileAt) (cluster : Cluster) (i c : ℕ) → IsOn z.plan t cluster → At cluster.cells i (Some c) → i < 8
  slot_within t cluster i c on at = slot_below (length cluster.cells) i (eight t cluster on) (At_within cluster.cells i (Some c) at)

  told_cell : (t : TileAt) (i c : ℕ) (cell : LogicCell) → StandsIn z.plan t i c cell → (x : Setting) → Has (cell_settings z.parts z.held t i cell) x → IsTold x
  told_cell t i c cell stands x has =
      let is = named t (function_name (Cell i)) (written_table z.parts z.held t i cell) cell.carry cell.flop x has in
      let listed : lists x.number (cell_settings z.parts z.held t i cell) ≡ true
      = Has_any (λ (y : Setting). y.number == x.number) (cell_settings z.parts z.held t i cell) x has.0 has.1 (eq-eqb x.number x.number refl) in
      record {
        function = Cell i;
        within = slot_within t stands.cluster i c stands.on stands.slot;
        name = is.1;
        says = subst (λ (u : TileAt). Told u x.number (Cell i)) (sym is.0) (c, cell, stands, listed);
      }

  told_slots : (t : TileAt) (cluster : Cluster) → IsOn z.plan t cluster → (x : Setting) → Has (slots_give (cell_settings z.parts z.held) z.plan.design.cells t 0 cluster.cells) x → IsTold x
  told_slots t cluster on x has =
      let at = slots_back (cell_settings z.parts z.held) z.plan.design.cells t 0 cluster.cells x has in
      told_cell t at.place at.number at.cell (record { cluster = cluster; on = on; slot = at.slot; cell_is = at.cell_is }) x
      (subst (λ n. Has (cell_settings z.parts z.held t n at.cell) x) (let e : 0 + at.place ≡ at.place = omega arith in e) at.inside)

  told_edge : (t : TileAt) (cluster : Cluster) → IsOn z.plan t cluster → (x : Setting) → Has (edge_settings t cluster.control) x → IsTold x
  told_edge t cluster on x has = by cluster.control refl has
    where
      by : (o : Option Control) → cluster.control ≡ o → Has (edge_settings t o) x → IsTold x
      by None is there = absurd (Has_none x there)
      by (Some control) is there =
          let one = if_told control.falling t falling_clock_function 0 x there in told_by x t 0 FallingClock one.1 tt (inl (cluster, control, on, is, one.0))

  told_carry : (t : TileAt) (cluster : Cluster) → IsOn z.plan t cluster → (x : Setting) → Has (carry_settings z.plan.design.runs t cluster.run) x → IsTold x
  told_carry t cluster on x has = by cluster.run refl has
    where
      by : (o : Option (ℕ × ℕ)) → cluster.run ≡ o → Has (carry_settings z.plan.design.runs t o) x → IsTold x
      by None is there = absurd (Has_none x there)
      by (Some (r, suc k)) is there = absurd (Has_none x there)
      by (Some (r, zero)) is there =
          let one = if_told (is_set z.plan.design.runs r) t carry_set_function 0 x there in told_by x t 0 CarrySet one.1 tt (cluster, r, on, is, one.0)

  told_clusters : (x : Setting) → Has (clusters_settings z.parts z.held z.plan.design z.plan.at z.plan.clusters) x → IsTold x
  told_clusters x has =
      let at = clusters_back z.parts z.held z.plan.design z.plan.at z.plan.clusters x has in
      let on : IsOn z.plan at.tile at.cluster = record { number = at.number; cluster_is = at.cluster_is; tile_is = at.tile_is } in
      let slots = slots_give (cell_settings z.parts z.held) z.plan.design.cells at.tile 0 at.cluster.cells in
      elim (Has_append_cases (slots ++ edge_settings at.tile at.cluster.control) (carry_settings z.plan.design.runs at.tile at.cluster.run) x at.inside) [
        | inr last ↦ told_carry at.tile at.cluster on x last
        | inl first ↦ elim (Has_append_cases slots (edge_settings at.tile at.cluster.control) x first) [
          | inl here ↦ told_slots at.tile at.cluster on x here
          | inr there ↦ told_edge at.tile at.cluster on x there
        ]
      ]

  -- ---- ports
  told_type : (j : ℕ) (pad : Pad) (port : DesignPad) → pad.pio < 2 → At z.plan.ports j pad → At z.plan.design.pads j port → (x : Setting) → Has (type_settings pad port.pin_type) x → IsTold x
  told_type j pad port below pad_is port_is x has =
      let one = flat_Has (λ k. setting_if (table_bit port.pin_type k) pad.tile (pin_type_function pad.pio k) 0) (range_with_len 0 6) x has in
      let set = if_told (table_bit port.pin_type one.0) pad.tile (pin_type_function pad.pio one.0) 0 x one.2 in
      told_by x pad.tile 0 (PinType pad.pio one.0) set.1 (below, range_Has 6 one.0 one.1) (j, port, pad_is, port_is, set.0)

  told_pull_up : (pad : Pad) (pullup : Bool) (x : Setting) → Has (pull_up_settings z.parts pad pullup) x → IsTold x
  told_pull_up pad true x has = absurd (Has_none x has)
  told_pull_up pad false x has = by (ieren_of z.parts pad) refl has
    where
      by : (o : Option Pad) → ieren_of z.parts pad ≡ o → Has (option_map_or off_setting o []) x → IsTold x
      by None is there = absurd (Has_none x there)
      by (Some place) is there =
          told_by x place.tile 0 (PullUp place.pio) (one_Has (setting place.tile (pull_up_function place.pio) 0) x there) (z.known.lawful.servers.pads pad place is) tt

  told_ports : (x : Setting) → Has (ports_settings z.parts z.plan.ports z.pullups z.plan.design.pads) x → IsTold x
  told_ports x has =
      let at = ports_back z.parts z.plan.ports z.pullups z.plan.design.pads x has in
      by at.number at.pad at.pullup at.port at.pad_is at.port_is (nat_lt at.pad.pio 2) refl at.inside
    where
      by : (j : ℕ) (pad : Pad) (pullup : Bool) (port : DesignPad) → At z.plan.ports j pad → At z.plan.design.pads j port
          → (b : Bool) → nat_lt pad.pio 2 ≡ b → Has (if b then type_settings pad port.pin_type ++ pull_up_settings z.parts pad pullup else []) x → IsTold x
      by j pad pullup port pad_is port_is true below inside = elim (Has_append_cases (type_settings pad port.pin_type) (pull_up_settings z.parts pad pullup) x inside) [
        | inl here ↦ told_type j pad port (ltb-true pad.pio 2 below) pad_is port_is x here
        | inr there ↦ told_pull_up pad pullup x there
      ]
      by j pad pullup port pad_is port_is false past inside = absurd (Has_none x inside)

  -- ---- input enables
  pub enable_below : (row : Pad × Pad) → Has (enables_of z.parts) row → row.1.pio < 2
  enable_below row has = by (kept_rows same_pad [] (filter (enable_counts z.parts.tiles) z.parts.ieren) row has)
    where
      by : Has {P = Pad × Pad} [] row ⊎ Has (filter (enable_counts z.parts.tiles) z.parts.ieren) row → row.1.pio < 2
      by (inl nowhere) = absurd (Has_none row nowhere)
      by (inr there) =
          (Has_all (ArePads z.parts.width z.parts.height) z.parts.ieren row z.known.chip.read.enables (filter_Has (enable_counts z.parts.tiles) z.parts.ieren row there).0).enable.pio

  told_enables : (x : Setting) → Has (flat_map (enable_settings (enables_of z.parts) read) (enables_of z.parts)) x → IsTold x
  told_enables x has =
      let one = flat_Has (enable_settings (enables_of z.parts) read) (enables_of z.parts) x has in
      let row = one.0 in
      let set = if_told (not (is_needed (enables_of z.parts) read row.1)) row.1.tile (input_enable_function row.1.pio) 0 x one.2 in
      told_by x row.1.tile 0 (InputEnable row.1.pio) set.1 (enable_below row one.1) (not_true (is_needed (enables_of z.parts) read row.1) set.0)

  -- ---- column buffers
  told_buffer : (t : TileAt) (o : Option ℕ) → ((n : ℕ) → o ≡ Some n → n < 8) → (x : Setting) → Has (global_settings z.parts t o) x → IsTold x
  told_buffer t None below x has = absurd (Has_none x has)
  told_buffer t (Some n) below x has = by (colbuf_of z.parts t) has
    where
      by : (o : Option TileAt) → Has (option_map_or (buffer_at t n) o []) x → IsTold x
      by None there = absurd (Has_none x there)
      by (Some served) there = told_by x served 0 (ColumnBuffer n) (one_Has (setting served (column_buffer_function n) 0) x there) (below n refl) tt

  told_buffers : (x : Setting) → Has (flat_map (buffer_settings z.parts) z.wanted) x → IsTold x
  told_buffers x has =
      let one = flat_Has (buffer_settings z.parts) z.wanted x has in
      let s = one.0 in
      told_buffer s.tile (global_at s.tile (names_of z.parts s.source.0)) (λ n e. global_below s.tile (names_of z.parts s.source.0) n e) x one.2

  -- ---- block RAMs
  told_ram : (used : InUse (sites z.parts) z.rams) (x : Setting) → Has (ram_settings used.site used.ram.0) x → IsTold x
  told_ram used x has = elim (ram_back used.site used.ram.0 x has) [
    | inl mode ↦ told_by x used.site.upper 0 (RamMode mode.0) mode.3 mode.1 (used, refl, mode.2)
    | inr edge ↦ elim edge [
      | inl read ↦ told_by x used.site.upper 0 FallingClock read.1 tt (inr (inl (used, refl, read.0)))
      | inr written ↦ told_by x used.site.lower 0 FallingClock written.1 tt (inr (inr (used, refl, written.0)))
    ]
  ]

  told_rams : (x : Setting) → Has (site_settings (sites z.parts) z.rams) x → IsTold x
  told_rams x has = elim (sites_back (sites z.parts) z.rams x has) [
    | inl used ↦ told_ram used.0 x used.1
    | inr other ↦ told_by x other.0.lower 0 PowerUp other.2 tt (other.0, other.1, refl)
  ]

  -- ---- all of them
  abbrev pub all : List Setting
  all = settings z.parts z.plan z.pullups z.rams z.held z.wanted

  abbrev of_clusters : List Setting
  of_clusters = clusters_settings z.parts z.held z.plan.design z.plan.at z.plan.clusters

  abbrev of_ports : List Setting
  of_ports = ports_settings z.parts z.plan.ports z.pullups z.plan.design.pads

  abbrev of_enables : List Setting
  of_enables = flat_map (enable_settings (enables_of z.parts) read) (enables_of z.parts)

  abbrev of_buffers : List Setting
  of_buffers = flat_map (buffer_settings z.parts) z.wanted

  abbrev pub of_rams : List Setting
  of_rams = site_settings (sites z.parts) z.rams

  told_first : (x : Setting) → Has (of_clusters ++ of_ports ++ of_enables) x → IsTold x
  told_first x has = elim (Has_append_cases (of_clusters ++ of_ports) of_enables x has) [
    | inr third ↦ told_enables x third
    | inl two ↦ elim (Has_append_cases of_clusters of_ports x two) [
      | inl first ↦ told_clusters x first
      | inr second ↦ told_ports x second
    ]
  ]

  told : (x : Setting) → Has all x → IsTold x
  told x has = elim (Has_append_cases (of_clusters ++ of_ports ++ of_enables ++ of_buffers) of_rams x has) [
    | inr last ↦ told_rams x last
    | inl four ↦ elim (Has_append_cases (of_clusters ++ of_ports ++ of_enables) of_buffers x four) [
      | inr fourth ↦ told_buffers x fourth
      | inl three ↦ told_first x three
    ]
  ]

  -- a setting of a function says what the function tells
  pub told_at : (t : TileAt) (k : ℕ) (g : TileFunction) → IsTileFunction g → Has all (setting t (function_name g) k) → Told t k g
  told_at t k g within has =
      let x = told (setting t (function_name g) k) has in
      let same : x.function ≡ g
      = same_Some x.function g (sym (z.known.names.read x.function x.within) ∙ ap tile_function (sym x.name) ∙ z.known.names.read g within) in
      subst (Told t k) same x.says

  in_use_kind : (used : InUse (sites z.parts) z.rams) → (kind_at z.parts used.site.lower ≡ Some RamBottom) × (kind_at z.parts used.site.upper ≡ Some RamTop)
  in_use_kind used = let is = site_facts z.parts used.number used.site used.site_is in (is.lower, is.upper)

  -- the clock of no IO tile falls
  clock_on_io : (t : TileAt) → Told t 0 FallingClock → kind_at z.parts t ≡ Some Io → ⊥
  clock_on_io t (inl cluster) io = let logic = on_logic z.parts z.rows z.plan z.pullups z.placed t cluster.0 cluster.2 in cc (logic, io)
  clock_on_io t (inr (inl above)) io = let upper = ap (kind_at z.parts) above.1 ∙ (in_use_kind above.0).1 in cc (upper, io)
  clock_on_io t (inr (inr below)) io = let lower = ap (kind_at z.parts) below.1 ∙ (in_use_kind below.0).0 in cc (lower, io)

  -- by the kind of the tile it is the clock of a cluster, or of one of the ports of a block RAM
  pub falls_in_tile : (t : TileAt) → kind_at z.parts t ≡ Some Logic → Told t 0 FallingClock → FallsInTile t
  falls_in_tile t logic (inl cluster) = cluster
  falls_in_tile t logic (inr (inl above)) = let upper = ap (kind_at z.parts) above.1 ∙ (in_use_kind above.0).1 in cc (upper, logic)
  falls_in_tile t logic (inr (inr below)) = let lower = ap (kind_at z.parts) below.1 ∙ (in_use_kind below.0).0 in cc (lower, logic)

  pub falls_above : (t : TileAt) → kind_at z.parts t ≡ Some RamTop → Told t 0 FallingClock → FallsAbove t
  falls_above t top (inl cluster) = let logic = on_logic z.parts z.rows z.plan z.pullups z.placed t cluster.0 cluster.2 in cc (logic, top)
  falls_above t top (inr (inl above)) = above
  falls_above t top (inr (inr below)) = let lower = ap (kind_at z.parts) below.1 ∙ (in_use_kind below.0).0 in cc (lower, top)

  pub falls_below : (t : TileAt) → kind_at z.parts t ≡ Some RamBottom → Told t 0 FallingClock → FallsBelow t
  falls_below t bottom (inl cluster) = let logic = on_logic z.parts z.rows z.plan z.pullups z.placed t cluster.0 cluster.2 in cc (logic, bottom)
  falls_below t bottom (inr (inl above)) = let upper = ap (kind_at z.parts) above.1 ∙ (in_use_kind above.0).1 in cc (upper, bottom)
  falls_below t bottom (inr (inr below)) = below

  clock_not_io : (t : TileAt) (k : ℕ) (g : TileFunction) → Told t k g → g ≡ FallingClock → kind_at z.parts t ≡ Some Io → ⊥
  clock_not_io t k g says e io = clock_on_io t (subst (Told t k) e says) io

  pub all_own : (x : Setting) → Has all x → IsOwn z.parts x.tile x.name
  all_own x has =
      let is = told x has in
      subst (IsOwn z.parts x.tile) (sym is.name) (own_name z.parts x.tile is.function (clock_not_io x.tile x.number is.function is.says))

  -- ---- where settings are listed
  in_three : (x : Setting) → Has (of_clusters ++ of_ports ++ of_enables) x → Has all x
  in_three x has = Has_left (of_clusters ++ of_ports ++ of_enables ++ of_buffers) of_rams x (Has_left (of_clusters ++ of_ports ++ of_enables) of_buffers x has)

  pub in_clusters : (x : Setting) → Has of_clusters x → Has all x
  in_clusters x has = in_three x (Has_left (of_clusters ++ of_ports) of_enables x (Has_left of_clusters of_ports x has))

  pub in_ports : (x : Setting) → Has of_ports x → Has all x
  in_ports x has = in_three x (Has_left (of_clusters ++ of_ports) of_enables x (Has_right of_clusters of_ports x has))

  pub in_buffers : (x : Setting) → Has of_buffers x → Has all x
  in_buffers x has = Has_left (of_clusters ++ of_ports ++ of_enables ++ of_buffers) of_rams x (Has_right (of_clusters ++ of_ports ++ of_enables) of_buffers x has)

  pub in_rams : (x : Setting) → Has of_rams x → Has all x
  in_rams x has = Has_right (of_clusters ++ of_ports ++ of_enables ++ of_buffers) of_rams x has
