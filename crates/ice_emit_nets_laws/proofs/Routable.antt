-- The nets of a placed design can be routed.
use Rattle.std.proofs.Common.{◌≡◌, ℕ, ◌<◌, Bool, true, Some, List, sym, subst, arith}
use Rattle.std.proofs.lemmas.Option.{slice_get_within}
use Rattle.ice_base.specs.declared.number.WireNo.{WireNo}
use Rattle.ice_base_values.specs.Order.{At, Has}
use Rattle.ice_base_values.proofs.Members.{At_map}
use Rattle.ice_chip.specs.Database.{Parts, PackageRows}
use Rattle.ice_cells.specs.Readings.{is_read}
use Rattle.ice_cells.specs.declared.root.Root.{Root}
use Rattle.ice_chip.specs.WireNames.{wire_name}
use Rattle.ice_core.specs.declared.net.Net.{Net}
use Rattle.ice_graph.specs.Network.{Network}
use Rattle.ice_place_defs.specs.Plan.{Plan}
use Rattle.ice_emit_nets.specs.Ends.{ends}
use Rattle.ice_emit_nets.specs.Nets.{Bare, bare_net, root_wire, roots, sinks_of, net_of, nets_of}
use Rattle.ice_negotiate_defs.specs.Rounds.{AreNets}
use Rattle.ice_negotiate_defs.specs.Trees.{AreSinks}
use Rattle.ice_emit_rows_laws.proofs.Mapped.{Has_mapped_by}
use Rattle.ice_emit_led_laws.specs.Trees.{IsOnChip}
use Rattle.ice_emit_led_laws.proofs.Reading.{end_read}
use Rattle.ice_emit_led_laws.proofs.Roots.{root_at}
use Rattle.ice_emit_led_laws.proofs.Trees.{sink_told, net_told}
use Rattle.ice_emit_nets_laws.specs.Routing.{IsFabric, AreNetsOf}
use Rattle.ice_emit_nets_laws.proofs.Targets.{named_below, each_target, target_below}

module _ (parts : Parts) (rows : PackageRows) (plan : Plan) (pullups : List Bool) (on : IsOnChip parts rows plan pullups) where
  -- the sinks of a root have targets, which are wires of the chip
  sinks_are : (root : Root) → AreSinks parts.wires (sinks_of (ends parts plan) root)
  sinks_are root k targets at =
      let told = sink_told (ends parts plan) root targets (k, at) in
      let one = each_target parts rows plan pullups on told.0 told.1 in
      let here : Has targets one.0 = subst (λ (ws : List WireNo). Has ws one.0) told.3 one.1 in (
        (let lt = slice_get_within targets here.0 one.0 here.1 in omega (arith, lt)),
        λ j w there. target_below parts rows plan pullups on told.0 w told.1 (subst (λ (ws : List WireNo). Has ws w) (sym told.3) (j, there)),
      )

  root_below : (root : Root) (v : ℕ) → is_read plan.design root ≡ true → root_wire parts plan root ≡ Some v → v < parts.wires
  root_below root v read e = let got = root_at parts rows plan pullups on root v read e in named_below parts rows plan pullups on got.0 (wire_name got.1) v got.3.found

  net_is : (net : Bare) → Has (nets_of parts plan) net → (net.0 < parts.wires) × AreSinks parts.wires net.1
  net_is net has =
      let got = Has_mapped_by (net_of parts plan (ends parts plan)) (roots plan) net has in
      let told = net_told (root_wire parts plan got.0) (sinks_of (ends parts plan) got.0) net got.2 in
      let e = sink_told (ends parts plan) got.0 told.2.0 told.2.1 in
      let read = subst (λ (r : Root). is_read plan.design r ≡ true) e.2 (end_read parts rows plan pullups on e.0 e.1) in
      (root_below got.0 net.0 read told.0, subst (AreSinks parts.wires) (sym told.1) (sinks_are got.0))

  pub nets_are : (graph : Network) (nets : List Net) → IsFabric parts graph → AreNetsOf parts plan nets → AreNets graph nets
  nets_are graph nets fabric bare n net at =
      let has : At (nets_of parts plan) n (bare_net net) = subst (λ (all : List Bare). At all n (bare_net net)) bare (At_map bare_net nets n net at) in
      subst (λ (wires : ℕ). (net.root.0 < wires) × AreSinks wires net.sinks.items) (sym fabric.wires) (net_is (bare_net net) (n, has))
