-- What building answers.
use Rattle.std.specs.Prelude.{◌≡◌, ◌⊎◌, ℕ, Option, Some, None, Result, Ok, Err, List, [], length, map, MatchBool, if◌then◌else◌}
use Rattle.ice_base.specs.declared.number.NetNo.{NetNo}
use Rattle.ice_base.specs.declared.number.TileAt.{TileAt}
use Rattle.ice_base.specs.declared.number.WireNo.{WireNo}
use Rattle.ice_bits.specs.Configuration.{Configuration, bits_of}
use Rattle.ice_chip.specs.Database.{Parts}
use Rattle.ice_cells.specs.Clusters.{clusters_of}
use Rattle.ice_cells.specs.Runs.{design_of}
use Rattle.ice_core.specs.declared.log.RoundLog.{RoundLog}
use Rattle.ice_core.specs.declared.net.Net.{Net}
use Rattle.ice_decode.specs.declared.fault.DecodeFault.{DecodeFault}
use Rattle.ice_decode.specs.declared.fault.DecodeFault.TheVariants as decode
use Rattle.ice_decode.specs.Refusals.{IsFaultOf}
use Rattle.ice_graph.specs.Network.{Network}
use Rattle.ice_claim_opening.specs.Opened.{IsOpened}
use Rattle.ice_graph.specs.declared.tree.Tree.{Tree}
use Rattle.ice_negotiate_defs.specs.Fitting.{wholes}
use Rattle.ice_negotiate_defs.specs.Logs.{AreRoutedFrom, AllEndOverusedFrom}
use Rattle.ice_negotiate_defs.specs.Rounds.{IsUnreachable}
use Rattle.ice_negotiate_defs.specs.Trees.{Route, route_of}
use Rattle.ice_negotiate_defs.specs.declared.fault.Routed.{Routed}
use Rattle.ice_negotiate_defs.specs.declared.kept.Kept.{Kept}
use Rattle.ice_emit_nets.specs.Nets.{nets_of}
use Rattle.ice_pads.specs.Assign.{PadsData, assign_of}
use Rattle.ice_pads.specs.declared.fault.PinFault.{PinFault}
use Rattle.ice_place.specs.Place.{place_of}
use Rattle.ice_place.specs.declared.fault.PlaceFault.{PlaceFault}
use Rattle.ice_place_defs.specs.Plan.{Plan}
use Rattle.ice_emit_meaning_laws.specs.Feeds.{HasGlobalRing}
use Rattle.ice_sites.specs.Stretches.{stretches_of}
use Rattle.ice_words.specs.Grips.{Shut}
use Rattle.ice_emit_defs.specs.Routed.{AreTrees}
use Rattle.ice_emit_defs.specs.Written.{IsWritten}
use Rattle.ice_emit_nets_laws.specs.Routing.{IsFabric, AreNetsOf}
use Rattle.ice_flow_build.specs.Laid.{Task, IsLaidOut, StandsOn, plan_in}
use Rattle.ice_flow_build.specs.declared.answer.Built.{Built}
use Rattle.ice_flow_build.specs.declared.answer.Effort.{Effort}
use Rattle.ice_flow_build.specs.declared.answer.BuildFault.{BuildFault}
use Rattle.ice_flow_build.specs.declared.answer.BuildFault.TheVariants.{Pins, Places, Unreachable, GaveUp, Bits, NoMemory}

-- ---- what is routed
-- the nets of a placed design, on the graph of the chip's usable rows
pub record IsRouting (parts : Parts) (plan : Plan) (graph : Network) (nets : List Net) : Type 0 where
  pub fabric : IsFabric parts graph
  pub nets_are : AreNetsOf parts plan nets

-- how many nets a placed design has
abbrev pub net_count : Parts → Plan → ℕ
net_count parts plan = length (nets_of parts plan)

-- what the opening leaves of nets on a graph: nothing where it is not asked for
abbrev pub IsOpeningOf : Network → List Net → Effort → List Kept → Type 0
IsOpeningOf graph nets effort kept = MatchBool effort.opening (IsOpened graph nets effort.workers kept) (kept ≡ [])

-- what the rounds begin from
abbrev pub opening_in : Effort → List Kept → Option (List (Option Tree))
opening_in effort kept = if effort.opening then Some (wholes kept) else None

-- the nets are routed within the permitted rounds, from this opening where it is asked for
abbrev pub IsRouted : Parts → Plan → Effort → List Kept → Routed → Type 0
IsRouted parts plan effort kept routed = (graph : Network) × (nets : List Net) × IsRouting parts plan graph nets × IsOpeningOf graph nets effort kept × AreRoutedFrom graph nets (opening_in effort kept) effort.rounds routed

-- a sink of a net can't be reached: the first such sink of the first such net
abbrev pub IsStuck : Parts → Plan → NetNo → WireNo → Type 0
IsStuck parts plan net sink = (graph : Network) × (nets : List Net) × IsRouting parts plan graph nets × IsUnreachable graph nets net sink

-- each permitted round ends with an overused wire
abbrev pub IsGivenUp : Parts → Plan → Effort → List Kept → List RoundLog → List Shut → Type 0
IsGivenUp parts plan effort kept logs tallies =
    (graph : Network) × (nets : List Net) × IsRouting parts plan graph nets × IsOpeningOf graph nets effort kept × AllEndOverusedFrom graph nets (opening_in effort kept) effort.rounds logs tallies

abbrev pub routes_in : Routed → List Route
routes_in routed = map route_of routed.trees.items

-- ---- what is built
-- The netlist is placed on pads of the package and sites of the chip, and routed within the permitted rounds, by trees that share
-- no wire; the bits of all that are set, and no others. No block RAM is in use.
pub record IsBuilt (task : Task) (effort : Effort) (built : Built) : Type 0 where
  pub laid : IsLaidOut task built.layout
  pub stands : StandsOn task.parts task.name task.closing.rams built.layout
  pub routed : IsRouted task.parts (plan_in built.layout) effort built.kept.items built.routed
  pub trees : AreTrees task.parts (plan_in built.layout) (routes_in built.routed)
  pub written : IsWritten task.parts (plan_in built.layout) built.layout.pads.pullups [] (routes_in built.routed) built.bits

-- ---- what is refused
-- the pads of the ports, or the fault of the pins
abbrev pub pins_said : Task → Result PadsData PinFault
pins_said task = assign_of task.parts task.name task.constraints task.circuit task.closing (design_of task.circuit)

-- the first placement, or the fault of the places
abbrev pub places_said : Task → Result (List TileAt) PlaceFault
places_said task = place_of (stretches_of task.parts) (clusters_of (design_of task.circuit)) (design_of task.circuit)

-- the pins have no fault, and the places have this one
abbrev pub HasPlaceFault : PlaceFault → Task → Type 0
HasPlaceFault fault task = (pads : PadsData) × (pins_said task ≡ Ok pads) × (places_said task ≡ Err fault)

-- neither the pins nor the places have a fault
abbrev pub IsPlaceable : Task → Type 0
IsPlaceable task = (pads : PadsData) × (first : List TileAt) × (pins_said task ≡ Ok pads) × (places_said task ≡ Ok first)

-- the bits have no circuit, for this fault of theirs
pub record IsUndecoded (parts : Parts) (k : Configuration) (fault : DecodeFault) : Type 0 where
  pub is_fault : IsFaultOf parts (bits_of k) k.extras fault
  pub told : fault ≡ decode.NoMemory → ⊥

-- the task is built, but for this fault the bits have no circuit; and globals of the chip feed each other in a ring
pub record HasBadBits (task : Task) (effort : Effort) (fault : DecodeFault) : Type 0 where
  pub built : Built
  pub is_built : IsBuilt task effort built
  pub undecoded : IsUndecoded task.parts built.bits fault
  pub ring : HasGlobalRing task.parts

abbrev pub IsFault : Task → Effort → BuildFault → Type 0
IsFault task effort (Pins fault) = pins_said task ≡ Err fault
IsFault task effort (Places fault) = HasPlaceFault fault task
IsFault task effort (Unreachable layout net sink) = IsLaidOut task layout × IsStuck task.parts (plan_in layout) net sink
IsFault task effort (GaveUp layout nets kept logs tallies) =
    IsLaidOut task layout × IsGivenUp task.parts (plan_in layout) effort kept.items logs.items tallies.items × (nets ≡ net_count task.parts (plan_in layout))
IsFault task effort (Bits fault) = HasBadBits task effort fault
IsFault task effort NoMemory = Unit {0}

-- ---- which answers there are
-- this fault, unless memory runs out
abbrev pub IsRefusal : Result Built BuildFault → BuildFault → Type 0
IsRefusal result fault = (result ≡ Err fault) ⊎ (result ≡ Err NoMemory)

-- neither a fault of the pins nor one of the places
abbrev pub IsTried : Result Built BuildFault → Type 0
IsTried (Ok built) = Unit {0}
IsTried (Err (Pins fault)) = ⊥
IsTried (Err (Places fault)) = ⊥
IsTried (Err (Unreachable layout net sink)) = Unit {0}
IsTried (Err (GaveUp layout nets kept logs tallies)) = Unit {0}
IsTried (Err (Bits fault)) = Unit {0}
IsTried (Err NoMemory) = Unit {0}

-- A fault of the pins is told where there is one; otherwise one of the places where there is one; otherwise the answer is what
-- was built, a sink that can't be reached, rounds that all end with an overused wire, bits without a circuit, or want of memory.
pub record IsComplete (task : Task) (result : Result Built BuildFault) : Type 0 where
  pub pins : (fault : PinFault) → pins_said task ≡ Err fault → IsRefusal result (Pins fault)
  pub places : (pads : PadsData) (fault : PlaceFault) → pins_said task ≡ Ok pads → places_said task ≡ Err fault → IsRefusal result (Places fault)
  pub tried : (pads : PadsData) (first : List TileAt) → pins_said task ≡ Ok pads → places_said task ≡ Ok first → IsTried result
