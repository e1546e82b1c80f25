use Rattle.std.proofs.Common.{ℕ, List, length, sym, ◌∙◌, subst, arith}
use Rattle.std.specs.List.{All}
use Rattle.std.proofs.lemmas.List.{length-map}
use Rattle.ice_base.specs.declared.number.TileAt.{TileAt}
use Rattle.ice_cells.specs.declared.cluster.Cluster.{Cluster}
use Rattle.ice_place_defs.specs.Length.{length_of}
use Rattle.ice_place_length.specs.Plans.{plan_of}
use Rattle.ice_place.specs.Place.{chunks_of}
use Rattle.ice_anneal_board.specs.Length.{IsNet, wire_length}
use Rattle.ice_anneal.proofs.Measured.{measured}
use Rattle.ice_anneal.proofs.placing.improve_from.Goals as goal

pub improve_nets-requires-clause-sites : goal.improve_nets-requires-clause-sites
improve_nets-requires-clause-sites c = (c.args.chip.now, c.requires.sites)

pub improve_nets-requires-clause-nets : goal.improve_nets-requires-clause-nets
improve_nets-requires-clause-nets c =
    subst (λ (n : ℕ). All (IsNet n) c.in_ok-nets.nets.items) (sym (length-map c.args.clusters.now.list (λ (x : Cluster). x.run))) c.in_ok-nets.ensures.nets

pub returns-clause-shorter : goal.returns-clause-shorter
returns-clause-shorter c =
    let n = length-map c.args.clusters.now.list (λ (x : Cluster). x.run) in
    let a = c.in_ok-nets.ensures.lengths c.in_ok-found.found (c.in_ok-found.ensures.legal.counts ∙ n) in
    let b = c.in_ok-nets.ensures.lengths c.args.placement.now (c.requires.legal.counts ∙ n) in
    let le = c.in_ok-found.ensures.falls in
    omega arith

pub returns-clause-least : goal.returns-clause-least
returns-clause-least c =
    let n = length-map c.args.clusters.now.list (λ (x : Cluster). x.run) in
    measured (wire_length c.in_ok-nets.nets.items) (λ (at : List TileAt). length_of c.args.chip.now (plan_of c.args.clusters.now c.args.design.now at c.args.pads.now)) (length c.args.clusters.now.list) (chunks_of c.args.clusters.now.list)
    c.args.sites.now c.in_ok-found.found (λ xs e. c.in_ok-nets.ensures.lengths xs e) (c.in_ok-found.ensures.legal.counts ∙ n) c.in_ok-found.ensures.least
