-- Arrays of levels, by what feeds each slot.
use Rattle.std.specs.Prelude.{◌≡◌, ℕ, ◌<◌, Bool, false, Option, List, [], ◌∷◌, ◌++◌, length, slice_index_or}
use Rattle.std.proofs.Common.{suc}
use Rattle.ice_sim_sweep.specs.declared.parts.Gate.{Gate}
use Rattle.ice_sim_sweep.specs.declared.parts.Link.{Link}
use Rattle.ice_sim_sweep.specs.declared.parts.Feed.{Feed}
use Rattle.ice_sim_sweep.specs.declared.parts.Feed.TheVariants.{Nothing, Port as FromPort, Kept, Made}
use Rattle.ice_sim_sweep.specs.declared.plan.SweepPlan.{SweepPlan}
use Rattle.ice_sim_sweep.specs.Slots.{level_at}
use Rattle.ice_sim_sweep.specs.Feeds.{port_in, kept_in, linked, gate_in}
use Rattle.ice_sim_sweep.specs.Sweeps.{gate_level}

-- ---- levels
-- the level that a slot is to have, by what feeds it: `levels` has those of ports, and `kept` those that cells keep
abbrev pub feed_level : List Bool → List Bool → List Bool → Feed → Bool
feed_level levels kept values Nothing = false
feed_level levels kept values (FromPort k) = slice_index_or levels k false
feed_level levels kept values (Kept i) = slice_index_or kept i false
feed_level levels kept values (Made gate) = gate_level values gate

-- what feeds a slot
abbrev pub feed_at : List Feed → ℕ → Feed
feed_at feeds s = slice_index_or feeds s Nothing

-- each slot has the level that its feed gives it
pub record Obeys (feeds : List Feed) (levels kept values : List Bool) : Type 0 where
  pub each : (s : ℕ) → s < length feeds → level_at values s ≡ feed_level levels kept values (feed_at feeds s)

-- ---- parts
-- the slots that take levels from one source, where the first of these feeds is that of slot s
abbrev pub links_from : (Feed → Option ℕ) → ℕ → List Feed → List Link
links_from source s [] = []
links_from source s (feed ∷ feeds) = linked s (source feed) ++ links_from source (suc s) feeds

abbrev pub gates_from : List Feed → List Gate
gates_from [] = []
gates_from (feed ∷ feeds) = gate_in feed ++ gates_from feeds

-- the sources and the tables of slots with these feeds
pub record IsWired (feeds : List Feed) (plan : SweepPlan) : Type 0 where
  pub pads_are : plan.pads.items ≡ links_from port_in 0 feeds
  pub keeps_are : plan.keeps.items ≡ links_from kept_in 0 feeds
  pub gates_are : plan.gates.items ≡ gates_from feeds

-- ---- bounds
-- a table makes slot s of slots before it
pub record IsGateAt (s : ℕ) (gate : Gate) : Type 0 where
  pub out_is : gate.out ≡ s
  pub first_before : gate.first < s
  pub second_before : gate.second < s
  pub third_before : gate.third < s
  pub fourth_before : gate.fourth < s

-- slot s is fed by one of so many ports, by one of so many cells, or by slots before it
abbrev pub IsFed : ℕ → ℕ → ℕ → Feed → Type 0
IsFed ports cells s Nothing = Unit {0}
IsFed ports cells s (FromPort k) = k < ports
IsFed ports cells s (Kept i) = i < cells
IsFed ports cells s (Made gate) = IsGateAt s gate

-- the same of slots from s on
abbrev pub AreFed : ℕ → ℕ → ℕ → List Feed → Type 0
AreFed ports cells s [] = Unit {0}
AreFed ports cells s (feed ∷ feeds) = IsFed ports cells s feed × AreFed ports cells (suc s) feeds
