-- The bits of a placed and routed design.
use Rattle.std.specs.Prelude.{◌≡◌, ℕ, nat_eq, ◌&&◌, ◌||◌, Bool, false, Option, None, Some, List, [], ◌∷◌, map, filter, filter_map, if◌then◌else◌}
use Rattle.ice_base.specs.declared.bit.BitAt.{BitAt}
use Rattle.ice_base.specs.declared.number.RowNo.{RowNo}
use Rattle.ice_base.specs.declared.number.TileAt.{TileAt}
use Rattle.ice_base.specs.declared.number.WireNo.{WireNo}
use Rattle.ice_chip.specs.Database.{Parts}
use Rattle.ice_chip.specs.Lookups.{padin_of}
use Rattle.ice_decode.specs.declared.driver.Switch.{Switch}
use Rattle.ice_bits.specs.Configuration.{Configuration, Bits, bits_of}
use Rattle.ice_bits.specs.Grids.{IsOf}
use Rattle.ice_chip_rams.specs.Sites.{sites}
use Rattle.ice_ram.specs.Ram.{Kept}
use Rattle.ice_ram.specs.declared.setup.Setup.{Setup}
use Rattle.ice_emit_rows_laws.specs.Wanted.{set_bits}
use Rattle.ice_emit_rows_laws.specs.Settings.{function_bits}
use Rattle.ice_pads.specs.Globals.{numbers}
use Rattle.ice_place_defs.specs.Plan.{Plan}
use Rattle.ice_emit_nets.specs.Nets.{root_wire}
use Rattle.ice_graph.specs.Leading.{Route}
use Rattle.ice_emit_defs.specs.Arrivals.{Held}
use Rattle.ice_emit_defs.specs.Links.{wanted}
use Rattle.ice_emit_defs.specs.Functions.{settings}
use Rattle.ice_emit_defs.specs.Rams.{site_contents}

abbrev pub starts_at : List WireNo → ℕ → Bool
starts_at [] w = false
starts_at (first ∷ wires) w = nat_eq first.0 w

-- the wires of the tree that begins at a wire
abbrev pub tree_from : List Route → ℕ → List WireNo
tree_from [] w = []
tree_from (route ∷ routes) w = if starts_at route.wires w then route.wires else tree_from routes w

abbrev pub held_from : List Route → Option ℕ → List WireNo
held_from routes None = []
held_from routes (Some w) = tree_from routes w

abbrev pub held_by : Parts → Plan → List Route → Held
held_by parts plan routes root = held_from routes (root_wire parts plan root)

abbrev pub route_rows : Route → List RowNo
route_rows route = route.rows

-- the rows that are turned on
abbrev pub wanted_rows : Parts → Plan → List Route → List Switch
wanted_rows parts plan routes = wanted parts plan (map route_rows routes)

-- the bits that are set, of rows and of functions, and no others
abbrev pub written_bits : Parts → Plan → List Bool → List (Setup × Kept) → List Route → Bits
written_bits parts plan pullups rams routes =
    set_bits parts (wanted_rows parts plan routes) (function_bits parts (settings parts plan pullups rams (held_by parts plan routes) (wanted_rows parts plan routes)))

-- a direct global buffer has the global
abbrev pub takes_direct : List ℕ → List Bool → ℕ → Bool
takes_direct [] direct n = false
takes_direct (m ∷ globals) [] n = false
takes_direct (m ∷ globals) (is ∷ direct) n = (is && nat_eq n m) || takes_direct globals direct n

-- the extra bits of those of these globals that direct buffers have
abbrev pub extras_among : Parts → List ℕ → List Bool → List ℕ → List (ℕ × ℕ × ℕ)
extras_among parts globals direct ns = filter_map (padin_of parts) (filter (takes_direct globals direct) ns)

-- the same of all globals, by rising number
abbrev pub plan_extras : Parts → Plan → List (ℕ × ℕ × ℕ)
plan_extras parts plan = extras_among parts plan.globals plan.direct numbers

pub record IsWritten (parts : Parts) (plan : Plan) (pullups : List Bool) (rams : List (Setup × Kept)) (routes : List Route) (k : Configuration) : Type 0 where
  pub form : IsOf parts k
  pub extras : k.extras ≡ plan_extras parts plan
  pub bits : (t : TileAt) (b : BitAt) → bits_of k t b ≡ written_bits parts plan pullups rams routes t b
  pub contents : k.contents ≡ site_contents (sites parts) rams
