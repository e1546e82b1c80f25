use Rattle.std.proofs.Common.{◌≡◌, ◌≤◌, Result, List, length, sym, ap, ◌∙◌, subst}
use Rattle.std.specs.List.{All}
use Rattle.ice_base.specs.declared.number.TileAt.{TileAt}
use Rattle.ice_place.specs.declared.fault.PlaceFault.{PlaceFault}
use Rattle.ice_place.specs.Place.{lengths, sites_count, place_by}
use Rattle.ice_place.specs.Answers.{Answers}
use Rattle.ice_place.proofs.SitesOnce.{few_sites, short_stretches}
use Rattle.ice_place.proofs.Placing.{answers_legal}
use Rattle.ice_place.proofs.first.first_place.Goals as goal

pub place-requires-clause-each : goal.place-requires-clause-each
place-requires-clause-each c = subst (λ (s : List (List TileAt)). All (λ (x : List TileAt). length x ≤ 65536) s) (sym c.stretches.ensures) (short_stretches c.args.sites.now c.requires.sites)

pub place-requires-clause-few : goal.place-requires-clause-few
place-requires-clause-few c = subst (λ (s : List (List TileAt)). sites_count s ≤ 65536) (sym c.stretches.ensures) (few_sites c.args.sites.now c.requires.sites)

pub returns-clause-legal : goal.returns-clause-legal
returns-clause-legal c =
    let sites = c.args.sites.now in
    let clusters = c.args.clusters.now in
    let d = c.args.design.now in
    let runs : c.as_slice.result.now ≡ lengths d.runs = c.as_slice.ensures.value ∙ c.in_ok-runs.ensures ∙ ap lengths c.runs.ensures in
    let need : c.in_ok-need.need ≡ length clusters.list = c.in_ok-need.ensures ∙ ap length c.list.ensures in
    answers_legal sites clusters d c.place.result c.requires.sites c.requires.clusters
    (subst (λ (said : Result (List TileAt) PlaceFault). Answers c.place.result said)
    (ap (λ s. place_by s c.as_slice.result.now c.in_ok-need.need) c.stretches.ensures ∙ ap (λ r. place_by sites r c.in_ok-need.need) runs ∙ ap (λ n. place_by sites (lengths d.runs) n) need) c.place.ensures)
