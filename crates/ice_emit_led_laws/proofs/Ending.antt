-- Each pin that reads a root has a sink of the root, whose targets are the wires at which the root may arrive there.
use Rattle.std.proofs.Common.{◌≡◌, ℕ, zero, suc, ◌+◌, ◌<◌, Bool, true, false, cond, Option, None, Some, List, [], ◌∷◌, ◌++◌, map, refl, sym, ap, ◌∙◌, subst, arith}
use Rattle.std.specs.Prelude.{slice_index_or}
use Rattle.std.specs.Option.{option_map_or}
use Rattle.std.proofs.lemmas.Bool.{or_from}
use Rattle.std.proofs.lemmas.Option.{none-some, same_Some}
use Rattle.ice_base.specs.declared.number.TileAt.{TileAt}
use Rattle.ice_base.specs.declared.number.WireNo.{WireNo}
use Rattle.ice_base_values.specs.Order.{At, Has}
use Rattle.ice_base_values.proofs.Members.{Has_map}
use Rattle.ice_chip.specs.Database.{Parts}
use Rattle.ice_chip.specs.Lookups.{global_of}
use Rattle.ice_chip.specs.declared.rows.Pad.{Pad}
use Rattle.ice_decode.proofs.Members.{Has_left, Has_right}
use Rattle.ice_cells.specs.declared.cell.Control.{Control}
use Rattle.ice_cells.specs.declared.cell.LogicCell.{LogicCell}
use Rattle.ice_cells.specs.declared.cluster.Cluster.{Cluster}
use Rattle.ice_cells.specs.declared.design.DesignPad.{DesignPad}
use Rattle.ice_cells.specs.declared.root.Root.{Root}
use Rattle.ice_cells.specs.Same.{same_root}
use Rattle.ice_place_defs.specs.Plan.{Plan, is_direct}
use Rattle.ice_place_defs.proofs.Feeding.{fed_there}
use Rattle.ice_place_defs.specs.Loads.{Pin, Input, Clock, Enable, SetReset, Feed, Drive, DriveEnable, Load, load_at, pad_loads, pads_loads, feed_load, fed_roots, global_loads, globals_loads, cell_loads, control_loads, slot_gives, slots_give, clusters_give}
use Rattle.ice_emit_nets.specs.Ends.{End, load_end, pin_wires, is_free, is_seen, free_ends, inputs_of, cell_ends, control_ends, ends}
use Rattle.ice_emit_defs.specs.Slots.{IsOn, StandsIn}
use Rattle.ice_emit_led_laws.proofs.Roots.{root_same}

-- ---- loads
abbrev load : TileAt → Pin → Root → Load
load t pin root = record { root = root; tile = t; pin = pin }

load_has : (t : TileAt) (pin : Pin) (o : Option Root) (root : Root) → o ≡ Some root → Has (load_at t pin o) (load t pin root)
load_has t pin o root e = subst (λ p. Has (load_at t pin p) (load t pin root)) (sym e) (0, refl)

pads_has : (ports : List Pad) (pads : List DesignPad) (k : ℕ) (pad : Pad) (port : DesignPad) (l : Load) → At ports k pad → At pads k port → Has (pad_loads pad port) l → Has (pads_loads ports pads) l
pads_has [] pads k pad port l a b has = absurd (none-some pad a)
pads_has (p ∷ ports) [] k pad port l a b has = absurd (none-some port b)
pads_has (p ∷ ports) (q ∷ pads) zero pad port l a b has =
    Has_left (pad_loads p q) (pads_loads ports pads) l
    (subst (λ x. Has (pad_loads x q) l) (sym (same_Some p pad a)) (subst (λ y. Has (pad_loads pad y) l) (sym (same_Some q port b)) has))
pads_has (p ∷ ports) (q ∷ pads) (suc k) pad port l a b has = Has_right (pad_loads p q) (pads_loads ports pads) l (pads_has ports pads k pad port l a b has)

globals_has : (parts : Parts) (ns : List ℕ) (roots : List (Option Root)) (g n : ℕ) (root : Option Root) (l : Load) → At ns g n → At roots g root → Has (global_loads parts n root) l
    → Has (globals_loads parts ns roots) l
globals_has parts [] roots g n root l a b has = absurd (none-some n a)
globals_has parts (m ∷ ns) [] g n root l a b has = absurd (none-some root b)
globals_has parts (m ∷ ns) (r ∷ roots) zero n root l a b has =
    Has_left (global_loads parts m r) (globals_loads parts ns roots) l
    (subst (λ x. Has (global_loads parts x r) l) (sym (same_Some m n a)) (subst (λ y. Has (global_loads parts n y) l) (sym (same_Some r root b)) has))
globals_has parts (m ∷ ns) (r ∷ roots) (suc g) n root l a b has = Has_right (global_loads parts m r) (globals_loads parts ns roots) l (globals_has parts ns roots g n root l a b has)

-- ---- clusters
slots_has : {A : Type 0} (of_cell : TileAt → ℕ → LogicCell → List A) (cells : List LogicCell) (t : TileAt) (n : ℕ) (slots : List (Option ℕ)) (j i c : ℕ) (cell : LogicCell) (x : A)
    → i ≡ n + j → At slots j (Some c) → At cells c cell → Has (of_cell t i cell) x → Has (slots_give of_cell cells t n slots) x
slots_has of_cell cells t n [] j i c cell x e at is has = absurd (none-some (Some c) at)
slots_has of_cell cells t n (slot ∷ slots) zero i c cell x e at is has =
    let same : i ≡ n = omega (arith, e) in
    Has_left (slot_gives of_cell cells t n slot) (slots_give of_cell cells t (n + 1) slots) x
    (subst (λ o. Has (slot_gives of_cell cells t n o) x) (sym (same_Some slot (Some c) at))
    (subst (λ o. Has (option_map_or (of_cell t n) o []) x) (sym is) (subst (λ m. Has (of_cell t m cell) x) same has)))
slots_has of_cell cells t n (slot ∷ slots) (suc j) i c cell x e at is has =
    Has_right (slot_gives of_cell cells t n slot) (slots_give of_cell cells t (n + 1) slots) x
    (slots_has of_cell cells t (n + 1) slots j i c cell x (omega (arith, e)) at is has)

clusters_has : {A : Type 0} (of_cell : TileAt → ℕ → LogicCell → List A) (of_control : TileAt → Option Control → List A) (cells : List LogicCell) (at : List TileAt) (clusters : List Cluster)
    (n : ℕ) (t : TileAt) (cluster : Cluster) (x : A) → At clusters n cluster → At at n t → Has (slots_give of_cell cells t 0 cluster.cells ++ of_control t cluster.control) x
    → Has (clusters_give of_cell of_control cells at clusters) x
clusters_has of_cell of_control cells [] clusters n t cluster x a b has = absurd (none-some t b)
clusters_has of_cell of_control cells (u ∷ at) [] n t cluster x a b has = absurd (none-some cluster a)
clusters_has of_cell of_control cells (u ∷ at) (k ∷ clusters) zero t cluster x a b has =
    Has_left (slots_give of_cell cells u 0 k.cells ++ of_control u k.control) (clusters_give of_cell of_control cells at clusters) x
    (subst (λ v. Has (slots_give of_cell cells v 0 k.cells ++ of_control v k.control) x) (sym (same_Some u t b))
    (subst (λ (y : Cluster). Has (slots_give of_cell cells t 0 y.cells ++ of_control t y.control) x) (sym (same_Some k cluster a)) has))
clusters_has of_cell of_control cells (u ∷ at) (k ∷ clusters) (suc n) t cluster x a b has =
    Has_right (slots_give of_cell cells u 0 k.cells ++ of_control u k.control) (clusters_give of_cell of_control cells at clusters) x
    (clusters_has of_cell of_control cells at clusters n t cluster x a b has)

-- ---- free cells
free_has : (targets : List WireNo) (seen : List Root) (ins : List (Option Root)) (j : ℕ) (root : Root) → At ins j (Some root) → is_seen seen root ≡ false → Has (free_ends targets seen ins) (root, targets)
free_has targets seen [] j root at new = absurd (none-some (Some root) at)
free_has targets seen (None ∷ ins) zero root at new = absurd (none-some root (same_Some None (Some root) at))
free_has targets seen (None ∷ ins) (suc j) root at new = free_has targets seen ins j root at new
free_has targets seen (Some r ∷ ins) j root at new = by (is_seen seen r) refl (same_root root r) refl j at (free_has targets seen ins) (free_has targets (r ∷ seen) ins)
  where
    first : r ≡ root → Has ((r, targets) ∷ free_ends targets (r ∷ seen) ins) (root, targets)
    first same = (0, ap (λ x. Some (x, targets)) same)

    by : (b : Bool) → is_seen seen r ≡ b → (d : Bool) → same_root root r ≡ d → (j : ℕ) → At (Some r ∷ ins) j (Some root)
        → ((j : ℕ) (root : Root) → At ins j (Some root) → is_seen seen root ≡ false → Has (free_ends targets seen ins) (root, targets))
        → ((j : ℕ) (root : Root) → At ins j (Some root) → is_seen (r ∷ seen) root ≡ false → Has (free_ends targets (r ∷ seen) ins) (root, targets))
        → Has (cond b (free_ends targets seen ins) ((r, targets) ∷ free_ends targets (r ∷ seen) ins)) (root, targets)
    by true s d same zero at old more = (let e : r ≡ root = same_Some r root (same_Some (Some r) (Some root) at) in let f : is_seen seen root ≡ true = ap (is_seen seen) (sym e) ∙ s in cc (f, new))
    by true s d same (suc j) at old more = old j root at new
    by false s d same zero at old more = first (same_Some r root (same_Some (Some r) (Some root) at))
    by false s true same (suc j) at old more = first (sym (root_same root r same))
    by false s false same (suc j) at old more =
        (let rest = more j root at (or_from (same_root root r) (is_seen seen root) same new) in (suc rest.0, rest.1))

-- ---- all sinks
module _ (parts : Parts) (plan : Plan) where
  -- a sink with the one target of a pin
  abbrev pub pin_end : TileAt → Pin → Root → End
  pin_end t pin root = (root, pin_wires parts t (pin ∷ []))

  -- a sink of a free cell
  abbrev pub free_end : TileAt → ℕ → Root → End
  free_end t i root = (root, pin_wires parts t (inputs_of i))

  abbrev pads_ends : List End
  pads_ends = map (load_end parts) (pads_loads plan.ports plan.design.pads)

  abbrev globals_ends : List End
  globals_ends = map (load_end parts) (globals_loads parts plan.globals (fed_roots plan.direct plan.design.globals))

  abbrev clusters_ends : List End
  clusters_ends = clusters_give (cell_ends parts) (control_ends parts) plan.design.cells plan.at plan.clusters

  in_pads : (e : End) → Has pads_ends e → Has (ends parts plan) e
  in_pads e has = Has_left (pads_ends ++ globals_ends) clusters_ends e (Has_left pads_ends globals_ends e has)

  in_globals : (e : End) → Has globals_ends e → Has (ends parts plan) e
  in_globals e has = Has_left (pads_ends ++ globals_ends) clusters_ends e (Has_right pads_ends globals_ends e has)

  in_clusters : (e : End) → Has clusters_ends e → Has (ends parts plan) e
  in_clusters e has = Has_right (pads_ends ++ globals_ends) clusters_ends e has

  pub drive_end : (k : ℕ) (pad : Pad) (port : DesignPad) (root : Root) → At plan.ports k pad → At plan.design.pads k port → port.drive ≡ Some root
      → Has (ends parts plan) (pin_end pad.tile (Drive pad.pio) root)
  drive_end k pad port root a b e =
      in_pads (pin_end pad.tile (Drive pad.pio) root)
      (Has_map (load_end parts) (pads_loads plan.ports plan.design.pads) (load pad.tile (Drive pad.pio) root)
      (pads_has plan.ports plan.design.pads k pad port (load pad.tile (Drive pad.pio) root) a b
      (Has_left (load_at pad.tile (Drive pad.pio) port.drive) (load_at pad.tile (DriveEnable pad.pio) port.enable) (load pad.tile (Drive pad.pio) root)
      (load_has pad.tile (Drive pad.pio) port.drive root e))))

  pub drive_enable_end : (k : ℕ) (pad : Pad) (port : DesignPad) (root : Root) → At plan.ports k pad → At plan.design.pads k port → port.enable ≡ Some root
      → Has (ends parts plan) (pin_end pad.tile (DriveEnable pad.pio) root)
  drive_enable_end k pad port root a b e =
      in_pads (pin_end pad.tile (DriveEnable pad.pio) root)
      (Has_map (load_end parts) (pads_loads plan.ports plan.design.pads) (load pad.tile (DriveEnable pad.pio) root)
      (pads_has plan.ports plan.design.pads k pad port (load pad.tile (DriveEnable pad.pio) root) a b
      (Has_right (load_at pad.tile (Drive pad.pio) port.drive) (load_at pad.tile (DriveEnable pad.pio) port.enable) (load pad.tile (DriveEnable pad.pio) root)
      (load_has pad.tile (DriveEnable pad.pio) port.enable root e))))

  pub feed_end : (g n : ℕ) (t : TileAt) (root : Root) → At plan.globals g n → At plan.design.globals g (Some root) → is_direct plan g ≡ false → global_of parts n ≡ Some t → Has (ends parts plan) (pin_end t Feed root)
  feed_end g n t root a b not_direct e =
      in_globals (pin_end t Feed root)
      (Has_map (load_end parts) (globals_loads parts plan.globals (fed_roots plan.direct plan.design.globals)) (load t Feed root)
      (globals_has parts plan.globals (fed_roots plan.direct plan.design.globals) g n (Some root) (load t Feed root) a (fed_there plan.direct plan.design.globals g (Some root) not_direct b)
      (subst (λ o. Has (option_map_or (feed_load (Some root)) o []) (load t Feed root)) (sym e) (0, refl))))

  -- ---- cells
  cell_end : (t : TileAt) (i c : ℕ) (cell : LogicCell) (e : End) → StandsIn plan t i c cell → Has (cell_ends parts t i cell) e → Has (ends parts plan) e
  cell_end t i c cell e stands has =
      in_clusters e
      (clusters_has (cell_ends parts) (control_ends parts) plan.design.cells plan.at plan.clusters stands.on.number t stands.cluster e stands.on.cluster_is stands.on.tile_is
      (Has_left (slots_give (cell_ends parts) plan.design.cells t 0 stands.cluster.cells) (control_ends parts t stands.cluster.control) e
      (slots_has (cell_ends parts) plan.design.cells t 0 stands.cluster.cells i i c cell e (omega arith) stands.slot stands.cell_is has)))

  input_has : (t : TileAt) (i : ℕ) (cell : LogicCell) (k : ℕ) (root : Root) → k < 4 → slice_index_or cell.ins k None ≡ Some root → Has (cell_loads t i cell) (load t (Input i k) root)
  input_has t i cell k root lt e = by k lt e
    where
      at : ℕ → List Load
      at j = load_at t (Input i j) (slice_index_or cell.ins j None)

      by : (k : ℕ) → k < 4 → slice_index_or cell.ins k None ≡ Some root → Has (cell_loads t i cell) (load t (Input i k) root)
      by zero lt e =
          Has_left (at 0 ++ at 1 ++ at 2) (at 3) (load t (Input i 0) root) (Has_left (at 0 ++ at 1) (at 2) (load t (Input i 0) root) (Has_left (at 0) (at 1) (load t (Input i 0) root)
          (load_has t (Input i 0) (slice_index_or cell.ins 0 None) root e)))
      by (suc zero) lt e =
          Has_left (at 0 ++ at 1 ++ at 2) (at 3) (load t (Input i 1) root) (Has_left (at 0 ++ at 1) (at 2) (load t (Input i 1) root) (Has_right (at 0) (at 1) (load t (Input i 1) root)
          (load_has t (Input i 1) (slice_index_or cell.ins 1 None) root e)))
      by (suc (suc zero)) lt e =
          Has_left (at 0 ++ at 1 ++ at 2) (at 3) (load t (Input i 2) root) (Has_right (at 0 ++ at 1) (at 2) (load t (Input i 2) root)
          (load_has t (Input i 2) (slice_index_or cell.ins 2 None) root e))
      by (suc (suc (suc zero))) lt e = Has_right (at 0 ++ at 1 ++ at 2) (at 3) (load t (Input i 3) root) (load_has t (Input i 3) (slice_index_or cell.ins 3 None) root e)
      by (suc (suc (suc (suc k)))) lt e = absurd (omega (arith, lt))

  pub fixed_end : (t : TileAt) (i k c : ℕ) (cell : LogicCell) (root : Root) → StandsIn plan t i c cell → is_free cell ≡ false → k < 4 → slice_index_or cell.ins k None ≡ Some root
      → Has (ends parts plan) (pin_end t (Input i k) root)
  fixed_end t i k c cell root stands not_free lt e =
      cell_end t i c cell (pin_end t (Input i k) root) stands
      (subst (λ b. Has (cond b (free_ends (pin_wires parts t (inputs_of i)) [] cell.ins) (map (load_end parts) (cell_loads t i cell))) (pin_end t (Input i k) root)) (sym not_free)
      (Has_map (load_end parts) (cell_loads t i cell) (load t (Input i k) root) (input_has t i cell k root lt e)))

  pub free_end_is : (t : TileAt) (i j c : ℕ) (cell : LogicCell) (root : Root) → StandsIn plan t i c cell → is_free cell ≡ true → At cell.ins j (Some root) → Has (ends parts plan) (free_end t i root)
  free_end_is t i j c cell root stands free at =
      cell_end t i c cell (free_end t i root) stands
      (subst (λ b. Has (cond b (free_ends (pin_wires parts t (inputs_of i)) [] cell.ins) (map (load_end parts) (cell_loads t i cell))) (free_end t i root)) (sym free)
      (free_has (pin_wires parts t (inputs_of i)) [] cell.ins j root at refl))

  -- ---- what a tile of cells shares
  control_end : (t : TileAt) (cluster : Cluster) (control : Control) (pin : Pin) (root : Root) → IsOn plan t cluster → cluster.control ≡ Some control
      → Has (control_loads t (Some control)) (load t pin root) → Has (ends parts plan) (pin_end t pin root)
  control_end t cluster control pin root on is has =
      in_clusters (pin_end t pin root)
      (clusters_has (cell_ends parts) (control_ends parts) plan.design.cells plan.at plan.clusters on.number t cluster (pin_end t pin root) on.cluster_is on.tile_is
      (Has_right (slots_give (cell_ends parts) plan.design.cells t 0 cluster.cells) (control_ends parts t cluster.control) (pin_end t pin root)
      (subst (λ o. Has (control_ends parts t o) (pin_end t pin root)) (sym is) (Has_map (load_end parts) (control_loads t (Some control)) (load t pin root) has))))

  module _ (t : TileAt) (cluster : Cluster) (control : Control) (root : Root) (on : IsOn plan t cluster) (is : cluster.control ≡ Some control) where
    abbrev clocks : List Load
    clocks = load_at t Clock control.clock

    abbrev enables : List Load
    enables = load_at t Enable control.enable

    abbrev resets : List Load
    resets = load_at t SetReset control.reset

    pub clock_end : control.clock ≡ Some root → Has (ends parts plan) (pin_end t Clock root)
    clock_end e =
        control_end t cluster control Clock root on is
        (Has_left (clocks ++ enables) resets (load t Clock root) (Has_left clocks enables (load t Clock root) (load_has t Clock control.clock root e)))

    pub enable_end : control.enable ≡ Some root → Has (ends parts plan) (pin_end t Enable root)
    enable_end e =
        control_end t cluster control Enable root on is
        (Has_left (clocks ++ enables) resets (load t Enable root) (Has_right clocks enables (load t Enable root) (load_has t Enable control.enable root e)))

    pub reset_end : control.reset ≡ Some root → Has (ends parts plan) (pin_end t SetReset root)
    reset_end e = control_end t cluster control SetReset root on is (Has_right (clocks ++ enables) resets (load t SetReset root) (load_has t SetReset control.reset root e))
