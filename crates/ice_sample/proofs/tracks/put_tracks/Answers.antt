use Rattle.std.proofs.Common.{◌≡◌, ◌++◌, map, sym, subst, arith}
use Rattle.std.specs.List.{range_with_len}
use Rattle.ice_base.specs.Lines.{text_of_lines}
use Rattle.ice_sample.specs.Groups.{SampleGroup, group_lines, groups_from, track_group, track_groups}
use Rattle.ice_base.proofs.Pieces.{further}
use Rattle.ice_sample.proofs.Numbering.{series_more, nothing_more}
use Rattle.ice_sample.proofs.tracks.put_tracks.Goals as goal

pub loop-track-init : goal.loop-track-init
loop-track-init c = record { counted = omega arith; few = omega arith; written = nothing_more c.args.text.now.items }

pub loop-track-preserved : goal.loop-track-preserved
loop-track-preserved c =
    let g = c.args.grid.now in
    let t = c.args.tile in
    let before = c.loop-track.invariant.counted in
    record {
      counted = omega arith;
      few = omega arith;
      written = further _ _ _ _ _ _ c.loop-track.invariant.written c.in_ok-put_track.ensures
          (series_more (λ (x : SampleGroup). x.size) (group_lines t.kind t.at) c.args.first (track_group g.width g.height t.kind t.at) c.track_size-size.result c.loop-track.track c.loop-track.bit (λ j. sym c.track_size-size.ensures.size) before);
    }

pub returns : goal.returns
unfolding track_groups
returns c =
    let g = c.args.grid.now in
    let t = c.args.tile in
    let all : c.loop-track.track ≡ 64 = omega arith in
    subst (λ n. c.loop-track.text.items ≡ c.args.text.now.items ++ text_of_lines (groups_from t.kind t.at c.args.first (map (track_group g.width g.height t.kind t.at) (range_with_len 0 n)))) all c.loop-track.invariant.written
