-- What the stages of building answer.
use Rattle.std.specs.Prelude.{◌≡◌, ℕ, ◌≤◌, List, [], length, Err}
use Rattle.std.specs.Global.{Vec}
use Rattle.ice_bits.specs.Configuration.{Configuration}
use Rattle.ice_chip.specs.Database.{Parts}
use Rattle.ice_cells.specs.Clusters.{clusters_of}
use Rattle.ice_cells.specs.declared.design.Design.{Design}
use Rattle.ice_negotiate_defs.specs.declared.fault.RouteFault.{RouteFault}
use Rattle.ice_negotiate_defs.specs.declared.kept.Kept.{Kept}
use Rattle.ice_negotiate_defs.specs.declared.fault.RouteFault.TheVariants as route
use Rattle.ice_place.specs.Place.{place_of}
use Rattle.ice_place_defs.specs.Plan.{Plan}
use Rattle.ice_sites.specs.Stretches.{stretches_of}
use Rattle.ice_emit_defs.specs.Routed.{AreTrees}
use Rattle.ice_emit_defs.specs.Written.{IsWritten}
use Rattle.ice_flow_build.specs.Answers.{IsRouted, net_count, IsStuck, IsGivenUp, IsUndecoded, routes_in, pins_said, HasPlaceFault}
use Rattle.ice_flow_build.specs.Laid.{Task, plan_in}
use Rattle.ice_flow_build.specs.declared.answer.Built.{Built}
use Rattle.ice_flow_build.specs.declared.answer.Effort.{Effort}
use Rattle.ice_flow_build.specs.declared.answer.Layout.{Layout}
use Rattle.ice_flow_build.specs.declared.answer.RoutedLayout.{RoutedLayout}
use Rattle.ice_flow_build.specs.declared.answer.BuildFault.{BuildFault}
use Rattle.ice_flow_build.specs.declared.answer.BuildFault.TheVariants.{Pins, Places, Unreachable, GaveUp, Bits, NoMemory}

-- from 1 to 64 rounds and from 1 to 8 workers
pub record IsPermitted (effort : Effort) : Type 0 where
  pub some : 1 ≤ effort.rounds
  pub few : effort.rounds ≤ 64
  pub worked : 1 ≤ effort.workers
  pub manned : effort.workers ≤ 8

-- why the clusters of a design get no places
abbrev pub IsPlaceFault : Parts → Design → BuildFault → Type 0
IsPlaceFault parts d (Pins fault) = ⊥
IsPlaceFault parts d (Places fault) = place_of (stretches_of parts) (clusters_of d) d ≡ Err fault
IsPlaceFault parts d (Unreachable layout net sink) = ⊥
IsPlaceFault parts d (GaveUp layout nets kept logs tallies) = ⊥
IsPlaceFault parts d (Bits fault) = ⊥
IsPlaceFault parts d NoMemory = Unit {0}

-- why a netlist is not placed
abbrev pub IsLayFault : Task → BuildFault → Type 0
IsLayFault task (Pins fault) = pins_said task ≡ Err fault
IsLayFault task (Places fault) = HasPlaceFault fault task
IsLayFault task (Unreachable layout net sink) = ⊥
IsLayFault task (GaveUp layout nets kept logs tallies) = ⊥
IsLayFault task (Bits fault) = ⊥
IsLayFault task NoMemory = Unit {0}

-- why the nets of a placed design are not routed
abbrev pub IsRouteFault : Parts → Plan → Effort → List Kept → RouteFault → Type 0
IsRouteFault parts plan effort kept (route.Unreachable net sink) = IsStuck parts plan net sink
IsRouteFault parts plan effort kept (route.GaveUp logs tallies) = IsGivenUp parts plan effort kept logs.items tallies.items
IsRouteFault parts plan effort kept route.NoMemory = Unit {0}

-- the same of building, with the placed design, the number of its nets, and what the opening left of them
abbrev pub unrouted : Layout → ℕ → Vec Kept → RouteFault → BuildFault
unrouted layout nets kept (route.Unreachable net sink) = Unreachable layout net sink
unrouted layout nets kept (route.GaveUp logs tallies) = GaveUp layout nets kept logs tallies
unrouted layout nets kept route.NoMemory = NoMemory

-- a placed design with its nets, which are routed
pub record IsRoutedLayout (parts : Parts) (effort : Effort) (layout : Layout) (made : RoutedLayout) : Type 0 where
  pub same : made.layout ≡ layout
  pub counted : length made.nets.items ≡ net_count parts (plan_in made.layout)
  pub routed : IsRouted parts (plan_in made.layout) effort made.kept.items made.routed
  pub trees : AreTrees parts (plan_in made.layout) (routes_in made.routed)

-- a placed design is routed, and its bits are written
pub record IsFinished (parts : Parts) (effort : Effort) (layout : Layout) (built : Built) : Type 0 where
  pub same : built.layout ≡ layout
  pub routed : IsRouted parts (plan_in layout) effort built.kept.items built.routed
  pub trees : AreTrees parts (plan_in layout) (routes_in built.routed)
  pub written : IsWritten parts (plan_in layout) layout.pads.pullups [] (routes_in built.routed) built.bits

-- why it is not
abbrev pub IsEndFault : Parts → Effort → Layout → BuildFault → Type 0
IsEndFault parts effort layout fault = (kept : Vec Kept) × (stop : RouteFault) × IsRouteFault parts (plan_in layout) effort kept.items stop × (fault ≡ unrouted layout (net_count parts (plan_in layout)) kept stop)

-- why bits have no circuit
abbrev pub IsBitsFault : Parts → Configuration → BuildFault → Type 0
IsBitsFault parts k (Pins fault) = ⊥
IsBitsFault parts k (Places fault) = ⊥
IsBitsFault parts k (Unreachable layout net sink) = ⊥
IsBitsFault parts k (GaveUp layout nets kept logs tallies) = ⊥
IsBitsFault parts k (Bits fault) = IsUndecoded parts k fault
IsBitsFault parts k NoMemory = Unit {0}
