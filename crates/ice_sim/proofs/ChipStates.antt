-- What the stores of a chip keep after a step.
use Rattle.std.proofs.Common.{◌≡◌, ℕ, suc, Bool, true, false, cond, List, [], ◌∷◌, ◌++◌, length, map, set, Some, None, refl, ap, sym, ◌∙◌, arith, append_assoc, length-append, replicate}
use Rattle.std.specs.Prelude.{◌&&◌, codes}
use Rattle.std.specs.List.{zip}
use Rattle.std.proofs.Math.Seq.{get_or-append_seam, set-append_seam}
use Rattle.ice_base.specs.declared.number.TileAt.{TileAt}
use Rattle.ice_chip.specs.Database.{Parts}
use Rattle.ice_chip.specs.IsRead.{IsRead}
use Rattle.ice_chip.specs.Names.{pad_output_name, input_clock_name, output_clock_name, in_out_enable_name}
use Rattle.ice_chip.specs.declared.rows.Pad.{Pad}
use Rattle.ice_bits.specs.Configuration.{Bits}
use Rattle.ice_bits.specs.Settings.{set_at}
use Rattle.ice_net.specs.declared.kind.Reset.TheVariants as reset
use Rattle.ice_decode.specs.declared.point.Point.{Point}
use Rattle.ice_decode.specs.Cells.{has_flop, reset_of}
use Rattle.ice_decode.specs.Pads.{pad_gives, pin_level, Store, CellStore, InputStore, OutputStore, stores, has_input_register, has_output_register}
use Rattle.ice_decode.specs.Loops.{IsOrderOf}
use Rattle.ice_decode.specs.Meaning.{point_level, table_level, clock_level, flop_after, register_after, store_after, store_kept_after, clock_after, state_after, chip_start}
use Rattle.ice_sim_sweep.specs.declared.parts.Keeper.{Keeper}
use Rattle.ice_sim_sweep.specs.declared.parts.Memory.{Memory}
use Rattle.ice_sim_sweep.specs.declared.parts.Feed.{Feed}
use Rattle.ice_sim_sweep.specs.declared.parts.Feed.TheVariants.{Made}
use Rattle.ice_sim_sweep.specs.Slots.{level_at}
use Rattle.ice_sim_sweep.specs.Sweeps.{blank, kept_levels, gate_level, memory_at, next_memory, remembered}
use Rattle.ice_sim_sweep.specs.Plans.{state_of}
use Rattle.ice_sim_sweep.specs.Arrays.{feed_level, Obeys}
use Rattle.ice_sim_sweep.proofs.Remembering.{state_with, flop_same}
use Rattle.ice_sim.specs.ChipSlots.{pin_slot, cell_gate}
use Rattle.ice_sim.specs.Layouts.{Layout, keeper_of, register_of, input_feed, is_used, store_keepers, store_feeds, next_slot, keepers_from, feeds_from}
use Rattle.ice_sim.specs.ChipRuns.{IsBlankUnless, AreKept}
use Rattle.ice_sim.proofs.Laying.{IsLaid}
use Rattle.ice_sim.proofs.ChipLevels.{Holds, holds_head, holds_left, holds_right, input_is, zero_is, pin_zero, pin_one, table_is}

-- what a store keeps after a step in which points have the levels v
module _ (parts : Parts) (bits : Bits) (bonded : List Pad) (levels : List Bool) (v : Point → Bool) where
  abbrev pub store_memory : Store → Memory → Memory
  store_memory s memory = record { kept = store_after parts bits bonded levels v s memory.kept memory.clock; clock = clock_after parts bits v s }

  abbrev pub followed : List Store → List Memory → List Memory
  followed [] memories = []
  followed (s ∷ stores) [] = []
  followed (s ∷ stores) (memory ∷ memories) = store_memory s memory ∷ followed stores memories

  -- ---- the state, as the meaning has it
  kept_are : (stores : List Store) (memories : List Memory) → AreKept parts bits stores memories
      → kept_levels (followed stores memories) ≡ map (store_kept_after parts bits bonded levels v) (zip stores (zip (kept_levels memories) (map (λ (memory : Memory). memory.clock) memories)))
  kept_are [] [] are = refl
  kept_are [] (memory ∷ memories) are = absurd are
  kept_are (s ∷ stores) [] are = absurd are
  kept_are (s ∷ stores) (memory ∷ memories) are = ap (λ xs. store_after parts bits bonded levels v s memory.kept memory.clock ∷ xs) (kept_are stores memories are.1)

  clocks_are : (stores : List Store) (memories : List Memory) → AreKept parts bits stores memories
      → map (λ (memory : Memory). memory.clock) (followed stores memories) ≡ map (clock_after parts bits v) stores
  clocks_are [] [] are = refl
  clocks_are [] (memory ∷ memories) are = absurd are
  clocks_are (s ∷ stores) [] are = absurd are
  clocks_are (s ∷ stores) (memory ∷ memories) are = ap (λ xs. clock_after parts bits v s ∷ xs) (clocks_are stores memories are.1)

  pub state_is : (memories : List Memory) → AreKept parts bits (stores parts) memories → state_of (followed (stores parts) memories) ≡ state_after parts bits bonded levels v (state_of memories)
  state_is memories are =
      ap (λ kept. state_with kept (map (λ (memory : Memory). memory.clock) (followed (stores parts) memories))) (kept_are (stores parts) memories are)
      ∙ ap (λ clocks. state_with (map (store_kept_after parts bits bonded levels v) (zip (stores parts) (zip (kept_levels memories) (map (λ (memory : Memory). memory.clock) memories)))) clocks)
      (clocks_are (stores parts) memories are)

  quiet_one : (b kept : Bool) (clock : Bool) → IsBlankUnless b (record { kept = b && kept; clock = cond b (Some clock) None })
  quiet_one true kept clock = tt
  quiet_one false kept clock = refl

  quiet_store : (s : Store) (memory : Memory) → IsBlankUnless (is_used parts bits s) (store_memory s memory)
  quiet_store (CellStore t i) memory = quiet_one (has_flop parts bits t i) (flop_after parts bits v t i memory.kept memory.clock) (clock_level parts v t)
  quiet_store (InputStore pad) memory =
      quiet_one (has_input_register parts bits pad) (register_after parts v pad.tile input_clock_name (pad_gives parts bits bonded levels pad) memory.kept memory.clock)
      (pin_level false parts v pad.tile input_clock_name)
  quiet_store (OutputStore pad) memory =
      quiet_one (has_output_register parts bits pad)
      (register_after parts v pad.tile output_clock_name (pin_level false parts v pad.tile (pad_output_name pad.pio)) memory.kept memory.clock)
      (pin_level false parts v pad.tile output_clock_name)

  pub kept_next : (stores : List Store) (memories : List Memory) → AreKept parts bits stores memories → AreKept parts bits stores (followed stores memories)
  kept_next [] [] are = tt
  kept_next [] (memory ∷ memories) are = absurd are
  kept_next (s ∷ stores) [] are = absurd are
  kept_next (s ∷ stores) (memory ∷ memories) are = (quiet_store s memory, kept_next stores memories are.1)

-- ---- the start
module _ (parts : Parts) (bits : Bits) where
  quiet_blank : (b : Bool) → IsBlankUnless b blank
  quiet_blank true = tt
  quiet_blank false = refl

  pub kept_blank : (stores : List Store) → AreKept parts bits stores (replicate (length stores) blank)
  kept_blank [] = tt
  kept_blank (s ∷ stores) = (quiet_blank (is_used parts bits s), kept_blank stores)

  pub kept_long : (stores : List Store) (memories : List Memory) → AreKept parts bits stores memories → length memories ≡ length stores
  kept_long [] [] are = refl
  kept_long [] (memory ∷ memories) are = absurd are
  kept_long (s ∷ stores) [] are = absurd are
  kept_long (s ∷ stores) (memory ∷ memories) are = ap suc (kept_long stores memories are.1)

levels_blank : (stores : List Store) → kept_levels (replicate (length stores) blank) ≡ map (λ (s : Store). false) stores
levels_blank [] = refl
levels_blank (s ∷ stores) = ap (λ levels. false ∷ levels) (levels_blank stores)

clocks_blank : (stores : List Store) → map (λ (memory : Memory). memory.clock) (replicate (length stores) blank) ≡ map (λ (s : Store). None) stores
clocks_blank [] = refl
clocks_blank (s ∷ stores) = ap (λ clocks. None ∷ clocks) (clocks_blank stores)

pub state_blank : (parts : Parts) → state_of (replicate (length (stores parts)) blank) ≡ chip_start parts
state_blank parts =
    ap (λ l. state_with l (map (λ (memory : Memory). memory.clock) (replicate (length (stores parts)) blank))) (levels_blank (stores parts))
    ∙ ap (λ l. state_with (map (λ (s : Store). false) (stores parts)) l) (clocks_blank (stores parts))

-- ---- one keeper
module _ (values : List Bool) where
  -- a store that is used has taken what its keeper makes, and one that isn't has nothing to take
  one_kept : (b : Bool) (keeper : Keeper) (done rest : List Memory) (memory : Memory) (kept clock : Bool) (keepers : List Keeper) → keeper.cell ≡ length done → IsBlankUnless b memory
      → (b ≡ true → next_memory values keeper memory ≡ record { kept = kept; clock = Some clock })
      → remembered (cond b (keeper ∷ []) [] ++ keepers) values (done ++ memory ∷ rest)
      ≡ remembered keepers values (done ++ (record { kept = b && kept; clock = cond b (Some clock) None }) ∷ rest)
  one_kept false keeper done rest memory kept clock keepers place quiet makes = ap (λ m. remembered keepers values (done ++ m ∷ rest)) quiet
  one_kept true keeper done rest memory kept clock keepers place quiet makes =
      ap (remembered keepers values)
      (ap (λ k. set (done ++ memory ∷ rest) k (next_memory values keeper (memory_at (done ++ memory ∷ rest) k))) place
      ∙ ap (λ m. set (done ++ memory ∷ rest) (length done) (next_memory values keeper m)) (get_or-append_seam done memory rest blank)
      ∙ set-append_seam done memory rest (next_memory values keeper memory)
      ∙ ap (λ m. done ++ m ∷ rest) (makes refl))

-- ---- one step of all stores
module _ (parts : Parts) (bits : Bits) (extras : List (ℕ × ℕ × ℕ)) (bonded : List Pad) (order : List Point) (o : IsOrderOf parts bits extras order) (read : IsRead parts) (l : Layout)
    (laid_ : IsLaid parts bits extras bonded order (length order) l) (levels kept values : List Bool) (all_kept : length kept ≡ length (stores parts)) (obeys : Obeys l.feeds levels kept values) where
  abbrev v : Point → Bool
  v = point_level parts bits extras bonded levels kept

  zero : level_at values 0 ≡ false
  zero = zero_is parts bits extras bonded order o read l laid_ levels kept values all_kept obeys

  low : (t : TileAt) (name : List ℕ) → pin_level false parts v t name ≡ level_at values (pin_slot 0 parts l.slots t name)
  low t name = pin_zero parts bits extras bonded order o read l laid_ levels kept values all_kept obeys t name

  high : (t : TileAt) (name : List ℕ) → pin_level true parts v t name ≡ level_at values (pin_slot 1 parts l.slots t name)
  high t name = pin_one parts bits extras bonded order o read l laid_ levels kept values all_kept obeys t name

  flop_is : (t : TileAt) (i c next : ℕ) (memory : Memory) → level_at values next ≡ gate_level values (cell_gate parts bits l.slots next t i)
      → next_memory values (keeper_of parts bits l.slots c next (t, i)) memory ≡ record { kept = flop_after parts bits v t i memory.kept memory.clock; clock = Some (clock_level parts v t) }
  flop_is t i c next memory datum =
      flop_same (set_at parts bits t (codes "NegClk") 0) (reset_of parts bits t i) memory
      (clock_level parts v t) (pin_level true parts v t (codes "lutff_global/cen")) (pin_level false parts v t (codes "lutff_global/s_r")) (table_level parts bits v t i)
      (level_at values (pin_slot 0 parts l.slots t (codes "lutff_global/clk"))) (level_at values (pin_slot 1 parts l.slots t (codes "lutff_global/cen")))
      (level_at values (pin_slot 0 parts l.slots t (codes "lutff_global/s_r"))) (level_at values next)
      (low t (codes "lutff_global/clk")) (high t (codes "lutff_global/cen")) (low t (codes "lutff_global/s_r"))
      (sym (datum ∙ table_is parts bits extras bonded order o read l laid_ levels kept values all_kept obeys t i next))

  register_is : (t : TileAt) (clock_name : List ℕ) (c datum : ℕ) (level : Bool) (memory : Memory) → level_at values datum ≡ level
      → next_memory values (register_of parts l.slots c datum t clock_name) memory
      ≡ record { kept = register_after parts v t clock_name level memory.kept memory.clock; clock = Some (pin_level false parts v t clock_name) }
  register_is t clock_name c datum level memory e =
      flop_same false reset.Nothing memory (pin_level false parts v t clock_name) (pin_level true parts v t in_out_enable_name) false level
      (level_at values (pin_slot 0 parts l.slots t clock_name)) (level_at values (pin_slot 1 parts l.slots t in_out_enable_name)) (level_at values 0) (level_at values datum)
      (low t clock_name) (high t in_out_enable_name) (sym zero) (sym e)

  -- the slot of a store that is used has the level that its feed gives it
  own_level : (next : ℕ) (feed : Feed) (b : Bool) → Holds levels kept values next (cond b (feed ∷ []) []) → b ≡ true → level_at values next ≡ feed_level levels kept values feed
  own_level next feed true holds e = holds_head levels kept values next feed [] holds
  own_level next feed false holds e = cc e

  store_follows : (s : Store) (done rest : List Memory) (memory : Memory) (next : ℕ) (keepers : List Keeper) → IsBlankUnless (is_used parts bits s) memory
      → Holds levels kept values next (store_feeds parts bits bonded l.slots next s)
      → remembered (store_keepers parts bits l.slots (length done) next s ++ keepers) values (done ++ memory ∷ rest)
      ≡ remembered keepers values (done ++ store_memory parts bits bonded levels v s memory ∷ rest)
  store_follows (CellStore t i) done rest memory next keepers quiet holds =
      one_kept values (has_flop parts bits t i) (keeper_of parts bits l.slots (length done) next (t, i)) done rest memory (flop_after parts bits v t i memory.kept memory.clock) (clock_level parts v t)
      keepers refl quiet (λ e. flop_is t i (length done) next memory (own_level next (Made (cell_gate parts bits l.slots next t i)) (has_flop parts bits t i) holds e))
  store_follows (InputStore pad) done rest memory next keepers quiet holds =
      one_kept values (has_input_register parts bits pad) (register_of parts l.slots (length done) next pad.tile input_clock_name) done rest memory
      (register_after parts v pad.tile input_clock_name (pad_gives parts bits bonded levels pad) memory.kept memory.clock) (pin_level false parts v pad.tile input_clock_name)
      keepers refl quiet (λ e. register_is pad.tile input_clock_name (length done) next (pad_gives parts bits bonded levels pad) memory
      (own_level next (input_feed parts bits bonded pad) (has_input_register parts bits pad) holds e ∙ input_is levels kept values parts bits bonded pad))
  store_follows (OutputStore pad) done rest memory next keepers quiet holds =
      one_kept values (has_output_register parts bits pad)
      (register_of parts l.slots (length done) (pin_slot 0 parts l.slots pad.tile (pad_output_name pad.pio)) pad.tile output_clock_name) done rest memory
      (register_after parts v pad.tile output_clock_name (pin_level false parts v pad.tile (pad_output_name pad.pio)) memory.kept memory.clock) (pin_level false parts v pad.tile output_clock_name)
      keepers refl quiet (λ e. register_is pad.tile output_clock_name (length done) (pin_slot 0 parts l.slots pad.tile (pad_output_name pad.pio))
      (pin_level false parts v pad.tile (pad_output_name pad.pio)) memory (sym (low pad.tile (pad_output_name pad.pio))))

  stores_follow : (list : List Store) (done rest : List Memory) (next : ℕ) → AreKept parts bits list rest → Holds levels kept values next (feeds_from parts bits bonded l.slots next list)
      → remembered (keepers_from parts bits bonded l.slots (length done) next list) values (done ++ rest) ≡ done ++ followed parts bits bonded levels v list rest
  stores_follow [] done [] next are holds = refl
  stores_follow [] done (memory ∷ rest) next are holds = absurd are
  stores_follow (s ∷ list) done [] next are holds = absurd are
  stores_follow (s ∷ list) done (memory ∷ rest) next are holds =
      let m : Memory = store_memory parts bits bonded levels v s memory in
      let n : ℕ = next_slot parts bits bonded l.slots next s in
      let own : List Feed = store_feeds parts bits bonded l.slots next s in
      let more : List Feed = feeds_from parts bits bonded l.slots n list in
      let long : length (done ++ m ∷ []) ≡ suc (length done) = omega (arith, length-append done (m ∷ [])) in
      store_follows s done rest memory next (keepers_from parts bits bonded l.slots (suc (length done)) n list) are.0 (holds_left levels kept values next own more holds)
      ∙ ap (remembered (keepers_from parts bits bonded l.slots (suc (length done)) n list) values) (sym (append_assoc done (m ∷ []) rest))
      ∙ ap (λ k. remembered (keepers_from parts bits bonded l.slots k n list) values ((done ++ m ∷ []) ++ rest)) (sym long)
      ∙ stores_follow list (done ++ m ∷ []) rest n are.1 (holds_right levels kept values next own more holds)
      ∙ append_assoc done (m ∷ []) (followed parts bits bonded levels v list rest)

  pub all_follow : (memories : List Memory) (next : ℕ) → AreKept parts bits (stores parts) memories
      → Holds levels kept values next (feeds_from parts bits bonded l.slots next (stores parts))
      → remembered (keepers_from parts bits bonded l.slots 0 next (stores parts)) values memories ≡ followed parts bits bonded levels v (stores parts) memories
  all_follow memories next are holds = stores_follow (stores parts) [] memories next are holds
