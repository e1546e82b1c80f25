-- How near the nearest of several wires is, from which the bound to them follows.
use Rattle.std.specs.Prelude.{ℕ, ◌+◌, ◌-◌, min, eqb, List, [], ◌∷◌, if◌then◌else◌}
use Rattle.ice_base.specs.declared.number.WireNo.{WireNo}
use Rattle.ice_graph.specs.Boxes.{box_of, distance, in_spreads}
use Rattle.ice_graph.specs.Network.{Network}

-- how far the wire w is from the wire t: 0 where they are the same, and else 1 and the steps between their boxes
abbrev pub apart : Network → ℕ → ℕ → ℕ
apart graph w t = if eqb w t then 0 else 1 + distance (box_of graph.boxes w) (box_of graph.boxes t)

-- the least of a number and how far these wires are
abbrev pub nearest_from : Network → ℕ → ℕ → List WireNo → ℕ
nearest_from graph w best [] = best
nearest_from graph w best (t ∷ targets) = nearest_from graph w (min best (apart graph w t.0)) targets

-- how far the nearest of these wires is
abbrev pub nearest : Network → List WireNo → ℕ → ℕ
nearest graph [] w = 0
nearest graph (t ∷ targets) w = nearest_from graph w (apart graph w t.0) targets

-- the bound to a wire that is so far
abbrev pub bound_of : ℕ → ℕ → ℕ
bound_of spread distance = if eqb distance 0 then 0 else 1 + in_spreads spread (distance - 1)
