use Rattle.std.proofs.Common.{◌≡◌, take}
use Rattle.ice_base.specs.declared.number.TileAt.{TileAt}
use Rattle.ice_anneal.specs.Full.{has_tile}
use Rattle.ice_anneal.proofs.full.taken_by.Given as goal

abbrev pub invariant-loop-tile : goal.invariant-loop-tile
invariant-loop-tile l = (t : TileAt) → has_tile l.taken.keys t ≡ has_tile (take l.tile-index l.at) t
