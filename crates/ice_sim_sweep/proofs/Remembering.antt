-- What cells keep after a step.
use Rattle.std.proofs.Common.{◌≡◌, ℕ, suc, ◌+◌, ◌<◌, Bool, true, false, List, [], ◌∷◌, ◌++◌, length, map, set, replicate, Option, Some, None, All, refl, ap, sym, ◌∙◌, arith, append_assoc, length-append}
use Rattle.std.proofs.Math.Seq.{get_or-append_seam, set-append_seam}
use Rattle.ice_base.specs.declared.number.SignalNo.{SignalNo}
use Rattle.ice_net.specs.declared.cell.Cell.{Cell}
use Rattle.ice_net.specs.declared.kind.Reset.{Reset}
use Rattle.ice_net.specs.declared.kind.CellKind.{CellKind}
use Rattle.ice_net.specs.declared.kind.CellKind.TheVariants.{Lut, Cover, Carry, Flop, PadCell, Global}
use Rattle.ice_net.specs.Formed.{IsBelow, IsFormedCell}
use Rattle.ice_net.specs.Drives.{at_input}
use Rattle.ice_net.specs.Kinds.{is_edge, fired}
use Rattle.ice_net.specs.Meaning.{State, enable_level, set_level, kept_by, clock_by, kept_after, clocks_after}
use Rattle.ice_sim_sweep.specs.declared.parts.Keeper.{Keeper}
use Rattle.ice_sim_sweep.specs.declared.parts.Memory.{Memory}
use Rattle.ice_sim_sweep.specs.Slots.{slot_at, level_at, enable_slot, set_slot}
use Rattle.ice_sim_sweep.specs.Feeds.{keeper_at, keepers_of}
use Rattle.ice_sim_sweep.specs.Sweeps.{blank, kept_levels, next_memory, remembered}
use Rattle.ice_sim_sweep.specs.Plans.{IsQuiet, AreMemories, state_of}
use Rattle.ice_sim_sweep.proofs.Showing.{input_level, tail_all}

-- what a cell keeps after a step in which signals have the values v
abbrev pub memory_by : (ℕ → Bool) → CellKind → List (Option SignalNo) → Memory → Memory
memory_by v kind ins memory = record { kept = kept_by v kind ins memory.kept memory.clock; clock = clock_by v kind ins }

abbrev pub followed : (ℕ → Bool) → List Cell → List Memory → List Memory
followed v [] memories = []
followed v (cell ∷ cells) [] = []
followed v (cell ∷ cells) (memory ∷ memories) = memory_by v cell.kind cell.ins memory ∷ followed v cells memories

-- the state that keeps these levels, and has seen these levels of clocks
abbrev pub state_with : List Bool → List (Option Bool) → State
state_with levels clocks = record { kept = levels; clocks = clocks }

-- what a flip-flop keeps, by the levels that it reads
abbrev pub next_by : Bool → Reset → Memory → Bool → Bool → Bool → Bool → Memory
next_by falling reset memory clock enable level datum =
    record { kept = fired reset (is_edge falling memory.clock clock) enable level datum memory.kept; clock = Some clock }

pub flop_same : (falling : Bool) (reset : Reset) (memory : Memory) (c e s d clock enable level datum : Bool) → c ≡ clock → e ≡ enable → s ≡ level → d ≡ datum
    → next_by falling reset memory clock enable level datum ≡ next_by falling reset memory c e s d
flop_same falling reset memory c e s d clock enable level datum ce ee se de = rw (ce, ee, se, de) refl

module _ (v : ℕ → Bool) (values : List Bool) (signals : ℕ) (agree : (s : ℕ) → s < signals → v s ≡ level_at values s)
    (zero_is : level_at values signals ≡ false) (one_is : level_at values (signals + 1) ≡ true) where
  enable_is : (enable : Bool) (ins : List (Option SignalNo)) → All (IsBelow signals) ins → enable_level v enable ins ≡ level_at values (enable_slot signals enable ins)
  enable_is true ins all = input_level v values signals agree zero_is one_is true (signals + 1) one_is ins 2 all
  enable_is false ins all = sym one_is

  set_is : (enable : Bool) (ins : List (Option SignalNo)) → All (IsBelow signals) ins → set_level v enable ins ≡ level_at values (set_slot signals enable ins)
  set_is true ins all = input_level v values signals agree zero_is one_is false signals zero_is ins 3 all
  set_is false ins all = input_level v values signals agree zero_is one_is false signals zero_is ins 2 all

  flop_is : (falling enable : Bool) (reset : Reset) (ins : List (Option SignalNo)) (i : ℕ) (memory : Memory) → All (IsBelow signals) ins
      → next_memory values (record {
        cell = i;
        clock = slot_at signals ins 0;
        datum = slot_at signals ins 1;
        enable = enable_slot signals enable ins;
        set = set_slot signals enable ins;
        falling = falling;
        reset = reset;
      }) memory ≡ memory_by v (Flop falling enable reset) ins memory
  flop_is falling enable reset ins i memory all =
      flop_same falling reset memory (at_input false v ins 0) (enable_level v enable ins) (set_level v enable ins) (at_input false v ins 1)
      (level_at values (slot_at signals ins 0)) (level_at values (enable_slot signals enable ins)) (level_at values (set_slot signals enable ins)) (level_at values (slot_at signals ins 1))
      (input_level v values signals agree zero_is one_is false signals zero_is ins 0 all) (enable_is enable ins all) (set_is enable ins all)
      (input_level v values signals agree zero_is one_is false signals zero_is ins 1 all)

  one_cell : (kind : CellKind) (ins : List (Option SignalNo)) (done rest : List Memory) (memory : Memory) (keepers : List Keeper) → All (IsBelow signals) ins → IsQuiet kind memory
      → remembered (keeper_at signals (length done) kind ins ++ keepers) values (done ++ memory ∷ rest) ≡ remembered keepers values (done ++ memory_by v kind ins memory ∷ rest)
  one_cell (Lut table) ins done rest memory keepers all quiet = ap (λ m. remembered keepers values (done ++ m ∷ rest)) quiet
  one_cell (Cover table width) ins done rest memory keepers all quiet = ap (λ m. remembered keepers values (done ++ m ∷ rest)) quiet
  one_cell Carry ins done rest memory keepers all quiet = ap (λ m. remembered keepers values (done ++ m ∷ rest)) quiet
  one_cell (Flop falling enable reset) ins done rest memory keepers all quiet =
      let keeper : Keeper = record {
        cell = length done;
        clock = slot_at signals ins 0;
        datum = slot_at signals ins 1;
        enable = enable_slot signals enable ins;
        set = set_slot signals enable ins;
        falling = falling;
        reset = reset;
      } in
      ap (remembered keepers values)
      (ap (λ m. set (done ++ memory ∷ rest) (length done) (next_memory values keeper m)) (get_or-append_seam done memory rest blank)
      ∙ set-append_seam done memory rest (next_memory values keeper memory)
      ∙ ap (λ m. done ++ m ∷ rest) (flop_is falling enable reset ins (length done) memory all))
  one_cell (PadCell pin_type pullup) ins done rest memory keepers all quiet = ap (λ m. remembered keepers values (done ++ m ∷ rest)) quiet
  one_cell Global ins done rest memory keepers all quiet = ap (λ m. remembered keepers values (done ++ m ∷ rest)) quiet

  cells_follow : (cells : List Cell) (done rest : List Memory) → All (IsFormedCell signals) cells → AreMemories cells rest
      → remembered (keepers_of signals (length done) cells) values (done ++ rest) ≡ done ++ followed v cells rest
  cells_follow [] done [] all are = refl
  cells_follow [] done (memory ∷ rest) all are = absurd are
  cells_follow (cell ∷ cells) done [] all are = absurd are
  cells_follow (cell ∷ cells) done (memory ∷ rest) all are =
      let next : Memory = memory_by v cell.kind cell.ins memory in
      let long : length (done ++ next ∷ []) ≡ suc (length done) = omega (arith, length-append done (next ∷ [])) in
      let step = cells_follow cells (done ++ next ∷ []) rest (tail_all (IsFormedCell signals) cell cells all) are.1 in
      let formed : IsFormedCell signals cell = all 0 cell (omega arith) in
      one_cell cell.kind cell.ins done rest memory (keepers_of signals (suc (length done)) cells) formed.ins_below are.0
      ∙ ap (λ l. remembered (keepers_of signals (suc (length done)) cells) values l) (sym (append_assoc done (next ∷ []) rest))
      ∙ ap (λ k. remembered (keepers_of signals k cells) values ((done ++ next ∷ []) ++ rest)) (sym long)
      ∙ step
      ∙ append_assoc done (next ∷ []) (followed v cells rest)

  pub all_follow : (cells : List Cell) (memories : List Memory) → All (IsFormedCell signals) cells → AreMemories cells memories
      → remembered (keepers_of signals 0 cells) values memories ≡ followed v cells memories
  all_follow cells memories all are = cells_follow cells [] memories all are

-- what they keep, as the meaning has it
pub kept_is : (v : ℕ → Bool) (cells : List Cell) (memories : List Memory) → AreMemories cells memories
    → kept_levels (followed v cells memories) ≡ kept_after v cells (state_of memories)
kept_is v [] [] are = refl
kept_is v [] (memory ∷ memories) are = absurd are
kept_is v (cell ∷ cells) [] are = absurd are
kept_is v (cell ∷ cells) (memory ∷ memories) are = ap (λ levels. kept_by v cell.kind cell.ins memory.kept memory.clock ∷ levels) (kept_is v cells memories are.1)

pub clocks_are : (v : ℕ → Bool) (cells : List Cell) (memories : List Memory) → AreMemories cells memories
    → map (λ (memory : Memory). memory.clock) (followed v cells memories) ≡ clocks_after v cells
clocks_are v [] [] are = refl
clocks_are v [] (memory ∷ memories) are = absurd are
clocks_are v (cell ∷ cells) [] are = absurd are
clocks_are v (cell ∷ cells) (memory ∷ memories) are = ap (λ clocks. clock_by v cell.kind cell.ins ∷ clocks) (clocks_are v cells memories are.1)

quiet_after : (v : ℕ → Bool) (kind : CellKind) (ins : List (Option SignalNo)) (memory : Memory) → IsQuiet kind (memory_by v kind ins memory)
quiet_after v (Lut table) ins memory = refl
quiet_after v (Cover table width) ins memory = refl
quiet_after v Carry ins memory = refl
quiet_after v (Flop falling enable reset) ins memory = tt
quiet_after v (PadCell pin_type pullup) ins memory = refl
quiet_after v Global ins memory = refl

pub memories_after : (v : ℕ → Bool) (cells : List Cell) (memories : List Memory) → AreMemories cells memories → AreMemories cells (followed v cells memories)
memories_after v [] [] are = tt
memories_after v [] (memory ∷ memories) are = absurd are
memories_after v (cell ∷ cells) [] are = absurd are
memories_after v (cell ∷ cells) (memory ∷ memories) are = (quiet_after v cell.kind cell.ins memory, memories_after v cells memories are.1)

blank_quiet : (kind : CellKind) → IsQuiet kind blank
blank_quiet (Lut table) = refl
blank_quiet (Cover table width) = refl
blank_quiet Carry = refl
blank_quiet (Flop falling enable reset) = tt
blank_quiet (PadCell pin_type pullup) = refl
blank_quiet Global = refl

-- at the start
pub memories_blank : (cells : List Cell) → AreMemories cells (replicate (length cells) blank)
memories_blank [] = tt
memories_blank (cell ∷ cells) = (blank_quiet cell.kind, memories_blank cells)

pub kept_blank : (cells : List Cell) → kept_levels (replicate (length cells) blank) ≡ map (λ (cell : Cell). false) cells
kept_blank [] = refl
kept_blank (cell ∷ cells) = ap (λ levels. false ∷ levels) (kept_blank cells)

pub clocks_blank : (cells : List Cell) → map (λ (memory : Memory). memory.clock) (replicate (length cells) blank) ≡ map (λ (cell : Cell). None) cells
clocks_blank [] = refl
clocks_blank (cell ∷ cells) = ap (λ clocks. None ∷ clocks) (clocks_blank cells)

pub memories_long : (cells : List Cell) (memories : List Memory) → AreMemories cells memories → length memories ≡ length cells
memories_long [] [] are = refl
memories_long [] (memory ∷ memories) are = absurd are
memories_long (cell ∷ cells) [] are = absurd are
memories_long (cell ∷ cells) (memory ∷ memories) are = ap suc (memories_long cells memories are.1)
