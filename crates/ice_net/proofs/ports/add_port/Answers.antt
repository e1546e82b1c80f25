use Rattle.std.proofs.Common.{◌≡◌, None, length, slice_index_or, rules, ◌∙◌}
use Rattle.std.proofs.lemmas.List.{get_or_default}
use Rattle.ice_net.proofs.PortPlaces.{new_place}
use Rattle.ice_net.proofs.ports.add_port.Goals as goal

pub returns-clause-places : goal.returns-clause-places
returns-clause-places c =
    let none : slice_index_or c.reach.new.places.items c.args.signal.0 None ≡ None = search (rules, get_or_default) in
    let long : c.len-place.result ≡ length c.args.ports.now.items = search rules in
    rw (c.in_ok-push.ensures.items, long)
    (new_place c.args.ports.now.items c.reach.new.places.items c.args.signal c.args.way (λ s. c.in_ok-reach.ensures.same s ∙ c.requires s) c.in_ok-reach.ensures.room none)
