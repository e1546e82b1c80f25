use Rattle.std.proofs.Common.{List, ap, ◌∙◌}
use Rattle.std.specs.List.{flat_map}
use Rattle.ice_base.specs.declared.number.TileAt.{TileAt}
use Rattle.ice_decode.specs.Pads.{pads_in}
use Rattle.ice_sim.proofs.StoreLists.{pads_same}
use Rattle.ice_sim.proofs.stores.chip_pads.Goals as goal

pub returns : goal.returns
returns c = c.in_ok-pads.ensures ∙ ap (λ (tiles : List TileAt). flat_map pads_in tiles) (c.deref.ensures.value ∙ c.in_ok-tiles.ensures) ∙ pads_same c.args.chip.now
