-- The points of a chip as they are kept.
use Rattle.std.specs.Prelude.{◌≡◌}
use Rattle.ice_base_values.specs.Order.{StandOnce}
use Rattle.ice_decode.specs.Points.{points_by}
use Rattle.ice_decode.specs.declared.numbering.Numbering.TheInside.{Inside}

-- the points are the wires, and the carries of different tiles
pub record IsNumbering (n : Inside) : Type 0 where
  pub points : n.points.items ≡ points_by n.wires n.tiles.keys
  pub once : StandOnce n.tiles.keys
