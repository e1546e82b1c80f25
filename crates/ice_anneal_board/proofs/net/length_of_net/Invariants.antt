use Rattle.std.proofs.Common.{◌≡◌, ◌+◌, map, drop}
use Rattle.std.specs.List.{fold}
use Rattle.ice_place_defs.specs.Length.{with_tile}
use Rattle.ice_place_length.specs.Grown.{box_in}
use Rattle.ice_anneal_board.specs.Length.{tile_of, box_of}
use Rattle.ice_anneal_board.proofs.net.length_of_net.Given as goal

abbrev pub invariant-loop-node : goal.invariant-loop-node
invariant-loop-node l = fold with_tile (box_in l.span) (map (tile_of l.at) (drop (l.node-index + 1) l.nodes)) ≡ box_of (map (tile_of l.at) l.nodes)
