use Rattle.std.proofs.Common.{length, map, sym, subst}
use Rattle.std.specs.Prelude.{IfOk}
use Rattle.ice_bits.specs.Configuration.{bits_of}
use Rattle.ice_chip.specs.Database.{Parts}
use Rattle.ice_decode.specs.Faults.{HasNoLoop}
use Rattle.ice_emit.specs.Placed.{IsPlacedOn}
use Rattle.ice_emit_defs.specs.Realised.{Realises}
use Rattle.ice_emit_defs.specs.Routed.{AreTrees}
use Rattle.ice_emit_defs.specs.Written.{wanted_rows, IsWritten}
use Rattle.ice_emit_meaning_laws.specs.Feeds.{FaultsAreRings, IsRingless}
use Rattle.ice_emit_nets.specs.Plans.{plan_of}
use Rattle.ice_emit_rows_laws.specs.Wanted.{IsWired}
use Rattle.ice_graph.specs.Leading.{route_of}
use Rattle.ice_emit.proofs.writing.emit.Goals as goal

pub emit_by-requires-clause-placed : goal.emit_by-requires-clause-placed
emit_by-requires-clause-placed c =
    let plan = plan_of c.args.design.now c.args.clusters.now c.args.placement.now c.args.pads.now in
    subst (λ (parts : Parts). IsPlacedOn parts plan c.args.pads.now.pullups (length c.args.rams.now)) (sym c.in_ok-index.ensures) c.requires.placed

pub emit_by-requires-clause-trees : goal.emit_by-requires-clause-trees
emit_by-requires-clause-trees c =
    let plan = plan_of c.args.design.now c.args.clusters.now c.args.placement.now c.args.pads.now in
    subst (λ (parts : Parts). AreTrees parts plan (map route_of c.args.trees.now)) (sym c.in_ok-index.ensures) c.requires.trees

pub returns : goal.returns
returns c =
    let plan = plan_of c.args.design.now c.args.clusters.now c.args.placement.now c.args.pads.now in
    let routes = map route_of c.args.trees.now in
    let e = c.emit_by.ensures in
    let is = c.in_ok-index.ensures in
    record {
      written = subst (λ (parts : Parts). IfOk c.emit_by.result (IsWritten parts plan c.args.pads.now.pullups c.args.rams.now routes)) is e.written;
      driven = subst (λ (parts : Parts). IfOk c.emit_by.result (λ bits. IsWired parts (bits_of bits) (wanted_rows parts plan routes))) is e.driven;
      loopless = subst (λ (parts : Parts). IfOk c.emit_by.result (λ bits. IsRingless parts → HasNoLoop parts (bits_of bits) bits.extras)) is e.loopless;
      ring = subst (λ (parts : Parts). IfOk c.emit_by.result (λ bits. FaultsAreRings parts (bits_of bits) bits.extras)) is e.ring;
      realised = subst (λ (parts : Parts). IfOk c.emit_by.result (λ bits. HasNoLoop parts (bits_of bits) bits.extras → Realises parts plan c.args.rams.now (wanted_rows parts plan routes) (bits_of bits) bits.extras)) is e.realised;
    }
