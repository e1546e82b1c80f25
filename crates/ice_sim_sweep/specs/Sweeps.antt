-- What the parts do to the array in one step.
use Rattle.std.specs.Prelude.{ℕ, Bool, false, List, [], ◌∷◌, map, Some, None, if◌then◌else◌, slice_index_or, slice_set}
use Rattle.ice_net.specs.declared.driver.Drive.{Drive}
use Rattle.ice_net.specs.declared.driver.Drive.TheVariants.{Off}
use Rattle.ice_net.specs.Drives.{level_drive}
use Rattle.ice_net.specs.Kinds.{is_edge, fired}
use Rattle.ice_net.specs.Meaning.{number_of, table_bit}
use Rattle.ice_sim_sweep.specs.declared.parts.Gate.{Gate}
use Rattle.ice_sim_sweep.specs.declared.parts.Link.{Link}
use Rattle.ice_sim_sweep.specs.declared.parts.Tap.{Tap}
use Rattle.ice_sim_sweep.specs.declared.parts.Keeper.{Keeper}
use Rattle.ice_sim_sweep.specs.declared.parts.Memory.{Memory}
use Rattle.ice_sim_sweep.specs.Slots.{level_at}

-- what a cell keeps that is no flip-flop, and a flip-flop at the start
abbrev pub blank : Memory
blank = record { kept = false; clock = None }

-- what the cell at a place keeps
abbrev pub memory_at : List Memory → ℕ → Memory
memory_at memories i = slice_index_or memories i blank

-- the levels that cells keep
abbrev pub kept_levels : List Memory → List Bool
kept_levels memories = map (λ (memory : Memory). memory.kept) memories

-- the array after signals have taken levels from a list
abbrev pub copied : List Link → List Bool → List Bool → List Bool
copied [] levels values = values
copied (link ∷ links) levels values = copied links levels (slice_set values link.to (level_at levels link.from))

-- what a table makes of the levels in its slots
abbrev pub gate_level : List Bool → Gate → Bool
gate_level values gate =
    table_bit gate.table (number_of (level_at values gate.first ∷ level_at values gate.second ∷ level_at values gate.third ∷ level_at values gate.fourth ∷ []))

-- the array after tables have made their signals, one after another
abbrev pub made : List Gate → List Bool → List Bool
made [] values = values
made (gate ∷ gates) values = made gates (slice_set values gate.out (gate_level values gate))

-- what a port drives
abbrev pub tap_drive : List Bool → Tap → Drive
tap_drive values tap = if level_at values tap.enable then level_drive (level_at values tap.level) else Off

-- what a flip-flop keeps after a step
abbrev pub next_memory : List Bool → Keeper → Memory → Memory
next_memory values keeper memory = record {
  kept = fired keeper.reset (is_edge keeper.falling memory.clock (level_at values keeper.clock)) (level_at values keeper.enable) (level_at values keeper.set)
      (level_at values keeper.datum) memory.kept;
  clock = Some (level_at values keeper.clock);
}

-- what cells keep after flip-flops have stepped, one after another
abbrev pub remembered : List Keeper → List Bool → List Memory → List Memory
remembered [] values memories = memories
remembered (keeper ∷ keepers) values memories = remembered keepers values (slice_set memories keeper.cell (next_memory values keeper (memory_at memories keeper.cell)))
