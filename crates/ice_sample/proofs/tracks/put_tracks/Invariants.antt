use Rattle.std.proofs.Common.{◌≡◌, ◌+◌, ◌*◌, ◌≤◌, ◌++◌, map}
use Rattle.std.specs.List.{range_with_len}
use Rattle.ice_base.specs.Lines.{text_of_lines}
use Rattle.ice_sample.specs.Groups.{groups_from, track_group}
use Rattle.ice_sample.proofs.tracks.put_tracks.Given as goal

abbrev pub invariant-loop-track : goal.invariant-loop-track
invariant-loop-track l = record {
  counted : l.bit ≡ l.first + l.size * l.track;
  few : l.bit ≤ l.first + 4 * l.track;
  written : l.text.items ≡ l.fn.text.items ++ text_of_lines (groups_from l.tile.kind l.tile.at l.first (map (track_group l.grid.width l.grid.height l.tile.kind l.tile.at) (range_with_len 0 l.track)));
}
