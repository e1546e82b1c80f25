use Rattle.std.proofs.Common.{◌++◌, Bool, not, List, ap₂, ◌∙◌}
use Rattle.std.specs.List.{filter}
use Rattle.ice_base.specs.declared.number.TileAt.{TileAt}
use Rattle.ice_place.specs.Place.{joined}
use Rattle.ice_anneal.proofs.full.full_of.Goals as goal

pub returns : goal.returns
returns c =
    c.in_ok-add_stretches.ensures
    ∙ ap₂ (λ (xs : List TileAt) (test : TileAt → Bool). xs ++ filter test (joined c.args.stretches.now)) c.in_ok-all.ensures.items (λ i t. not (c.in_ok-taken.ensures t i))
