-- What a run holds beside its netlist.
use Rattle.std.specs.Prelude.{◌≡◌, ℕ, ◌+◌, ◌<◌, Bool, true, false, List, [], ◌∷◌, length, map, All}
use Rattle.std.specs.List.{flat_map}
use Rattle.ice_base_values.specs.Order.{IsOrder}
use Rattle.ice_net.specs.declared.cell.Cell.{Cell}
use Rattle.ice_net.specs.declared.kind.CellKind.{CellKind}
use Rattle.ice_net.specs.declared.kind.CellKind.TheVariants.{Lut, Cover, Carry, Flop, PadCell, Global}
use Rattle.ice_net.specs.NetlistData.{NetlistData}
use Rattle.ice_net.specs.Formed.{IsFormed}
use Rattle.ice_net.specs.Meaning.{State, depends_on}
use Rattle.ice_sim_sweep.specs.declared.parts.Gate.{Gate}
use Rattle.ice_sim_sweep.specs.declared.parts.Link.{Link}
use Rattle.ice_sim_sweep.specs.declared.parts.Tap.{Tap}
use Rattle.ice_sim_sweep.specs.declared.parts.Keeper.{Keeper}
use Rattle.ice_sim_sweep.specs.declared.parts.Memory.{Memory}
use Rattle.ice_sim_sweep.specs.declared.parts.Feed.TheVariants.{Nothing}
use Rattle.ice_sim_sweep.specs.declared.plan.SweepPlan.{SweepPlan}
use Rattle.ice_sim_sweep.specs.Slots.{level_at}
use Rattle.ice_sim_sweep.specs.Feeds.{feed_of, port_in, kept_in, linked, gate_in, tap_of, keepers_of}
use Rattle.ice_sim_sweep.specs.Sweeps.{blank, kept_levels, copied, made}

-- ---- what is compiled
-- the sources and the tables, in an order of evaluation of the signals
pub record IsWiring (n : NetlistData) (order : List ℕ) (pads keeps : List Link) (gates : List Gate) : Type 0 where
  pub pads_are : pads ≡ flat_map (λ s. linked s (port_in (feed_of n s))) order
  pub keeps_are : keeps ≡ flat_map (λ s. linked s (kept_in (feed_of n s))) order
  pub gates_are : gates ≡ flat_map (λ s. gate_in (feed_of n s)) order

-- a netlist, compiled
pub record IsPlan (n : NetlistData) (plan : SweepPlan) : Type 0 where
  pub order : List ℕ
  pub formed : IsFormed n
  pub ordered : IsOrder (length n.names) (depends_on n) order
  pub wired : IsWiring n order plan.pads.items plan.keeps.items plan.gates.items
  pub taps_are : plan.taps.items ≡ map (tap_of n) n.ports
  pub keepers_are : plan.keepers.items ≡ keepers_of (length n.names) 0 n.cells

-- ---- bounds
pub record IsLinkWithin (sources slots : ℕ) (link : Link) : Type 0 where
  pub from_within : link.from < sources
  pub to_within : link.to < slots

pub record IsGateWithin (slots : ℕ) (gate : Gate) : Type 0 where
  pub first_within : gate.first < slots
  pub second_within : gate.second < slots
  pub third_within : gate.third < slots
  pub fourth_within : gate.fourth < slots
  pub out_within : gate.out < slots

pub record IsTapWithin (slots : ℕ) (tap : Tap) : Type 0 where
  pub level_within : tap.level < slots
  pub enable_within : tap.enable < slots

pub record AreSlotsWithin (slots : ℕ) (keeper : Keeper) : Type 0 where
  pub clock_within : keeper.clock < slots
  pub datum_within : keeper.datum < slots
  pub enable_within : keeper.enable < slots
  pub set_within : keeper.set < slots

pub record IsKeeperWithin (cells slots : ℕ) (keeper : Keeper) : Type 0 where
  pub cell_within : keeper.cell < cells
  pub slots_within : AreSlotsWithin slots keeper

-- the parts of a plan stay within so many ports, cells and slots
pub record ArePartsWithin (ports cells slots : ℕ) (plan : SweepPlan) : Type 0 where
  pub pads_within : All (IsLinkWithin ports slots) plan.pads.items
  pub keeps_within : All (IsLinkWithin cells slots) plan.keeps.items
  pub gates_within : All (IsGateWithin slots) plan.gates.items
  pub taps_within : All (IsTapWithin slots) plan.taps.items
  pub keepers_within : All (IsKeeperWithin cells slots) plan.keepers.items

-- ---- what is kept from step to step
-- a cell that is no flip-flop keeps nothing
abbrev pub IsQuiet : CellKind → Memory → Type 0
IsQuiet (Lut table) memory = memory ≡ blank
IsQuiet (Cover table width) memory = memory ≡ blank
IsQuiet Carry memory = memory ≡ blank
IsQuiet (Flop falling enable reset) memory = Unit {0}
IsQuiet (PadCell pin_type pullup) memory = memory ≡ blank
IsQuiet Global memory = memory ≡ blank

-- what each cell keeps, cell by cell
abbrev pub AreMemories : List Cell → List Memory → Type 0
AreMemories [] [] = Unit {0}
AreMemories [] (memory ∷ memories) = ⊥
AreMemories (cell ∷ cells) [] = ⊥
AreMemories (cell ∷ cells) (memory ∷ memories) = IsQuiet cell.kind memory × AreMemories cells memories

-- the same as the state of the meaning
abbrev pub state_of : List Memory → State
state_of memories = record { kept = kept_levels memories; clocks = map (λ (memory : Memory). memory.clock) memories }

-- what a run holds between two steps
pub record IsBetweenSteps (n : NetlistData) (memories : List Memory) (values : List Bool) : Type 0 where
  pub remembers : AreMemories n.cells memories
  pub long : length values ≡ length n.names + 2
  pub zero : level_at values (length n.names) ≡ false
  pub one : level_at values (length n.names + 1) ≡ true
  pub unfed : (s : ℕ) → s < length n.names → feed_of n s ≡ Nothing → level_at values s ≡ false

-- a netlist, compiled, between two steps
pub record IsRun (n : NetlistData) (plan : SweepPlan) (memories : List Memory) (values : List Bool) : Type 0 where
  pub planned : IsPlan n plan
  pub between : IsBetweenSteps n memories values

-- the array in a step: with the levels of pads and of flip-flops, and then with what tables make of them
abbrev pub swept : SweepPlan → List Bool → List Memory → List Bool → List Bool
swept plan levels memories values =
    made plan.gates.items (copied plan.keeps.items (kept_levels memories) (copied plan.pads.items levels values))
