-- What a run of a configured chip holds.
use Rattle.std.specs.Prelude.{◌≡◌, ℕ, ◌<◌, Bool, true, false, List, [], ◌∷◌, ◌++◌, length, map, replicate}
use Rattle.ice_chip.specs.Database.{Parts}
use Rattle.ice_chip.specs.IsRead.{IsChip}
use Rattle.ice_chip.specs.declared.rows.Pad.{Pad}
use Rattle.ice_bits.specs.Configuration.{Bits, Configuration}
use Rattle.ice_net.specs.Meaning.{State}
use Rattle.ice_decode.specs.declared.point.Point.{Point}
use Rattle.ice_decode.specs.Pads.{Store, stores}
use Rattle.ice_decode.specs.Loops.{IsOrderOf}
use Rattle.ice_sim_sweep.specs.declared.parts.Feed.{Feed}
use Rattle.ice_sim_sweep.specs.declared.parts.Feed.TheVariants.{Nothing}
use Rattle.ice_sim_sweep.specs.declared.parts.Memory.{Memory}
use Rattle.ice_sim_sweep.specs.declared.plan.SweepPlan.{SweepPlan}
use Rattle.ice_sim_sweep.specs.Slots.{level_at}
use Rattle.ice_sim_sweep.specs.Sweeps.{blank}
use Rattle.ice_sim_sweep.specs.Arrays.{feed_at, IsWired}
use Rattle.ice_sim.specs.Layouts.{Layout, laid, bare_layout, is_used, keepers_from, feeds_from, output_feed, taps_from}

-- a chip with bits, seen at pads, between two steps
pub record ChipRunData : Type 0 where
  pub parts : Parts
  pub configuration : Configuration
  pub bonded : List Pad
  pub state : State

-- ---- what is compiled
-- bits of a chip, compiled: behind the slots of points stand those of the stores, and behind them those of the pads
pub record IsChipPlan (parts : Parts) (bits : Bits) (extras : List (ℕ × ℕ × ℕ)) (bonded : List Pad) (feeds : List Feed) (plan : SweepPlan) : Type 0 where
  pub chip : IsChip parts
  pub order : List Point
  pub ordered : IsOrderOf parts bits extras order
  pub layout : Layout
  pub laid_out : layout ≡ laid parts bits extras bonded order (bare_layout parts)
  pub own : List Feed
  pub own_are : own ≡ feeds_from parts bits bonded layout.slots (length layout.feeds) (stores parts)
  pub feeds_are : feeds ≡ (layout.feeds ++ own) ++ map (output_feed parts bits) bonded
  pub wired : IsWired feeds plan
  pub keepers_are : plan.keepers.items ≡ keepers_from parts bits bonded layout.slots 0 (length layout.feeds) (stores parts)
  pub taps_are : plan.taps.items ≡ taps_from parts bits layout.slots (length (layout.feeds ++ own)) bonded

-- ---- what is kept from step to step
-- a store that isn't used keeps nothing
abbrev pub IsBlankUnless : Bool → Memory → Type 0
IsBlankUnless true memory = Unit {0}
IsBlankUnless false memory = memory ≡ blank

abbrev pub AreKept : Parts → Bits → List Store → List Memory → Type 0
AreKept parts bits [] [] = Unit {0}
AreKept parts bits [] (memory ∷ memories) = ⊥
AreKept parts bits (s ∷ stores) [] = ⊥
AreKept parts bits (s ∷ stores) (memory ∷ memories) = IsBlankUnless (is_used parts bits s) memory × AreKept parts bits stores memories

-- what a run holds between two steps
pub record IsChipRun (parts : Parts) (bits : Bits) (extras : List (ℕ × ℕ × ℕ)) (bonded : List Pad) (feeds : List Feed) (plan : SweepPlan) (memories : List Memory) (values : List Bool)
    : Type 0 where
  pub planned : IsChipPlan parts bits extras bonded feeds plan
  pub remembers : AreKept parts bits (stores parts) memories
  pub long : length values ≡ length feeds
  pub unfed : (s : ℕ) → s < length feeds → feed_at feeds s ≡ Nothing → level_at values s ≡ false

-- a plan just compiled, with the array for it
pub record IsCompiled (parts : Parts) (bits : Bits) (extras : List (ℕ × ℕ × ℕ)) (bonded : List Pad) (plan : SweepPlan) (values : List Bool) : Type 0 where
  pub feeds : List Feed
  pub planned : IsChipPlan parts bits extras bonded feeds plan
  pub empty : values ≡ replicate (length feeds) false

-- the same run in another state
abbrev pub with_state : ChipRunData → State → ChipRunData
with_state run state = record { parts = run.parts; configuration = run.configuration; bonded = run.bonded; state = state }
