use Rattle.std.proofs.Common.{◌≡◌, ◌+◌, ◌++◌, map, codes, decimal, refl, subst, arith}
use Rattle.std.specs.List.{range_with_len}
use Rattle.ice_base.specs.Lines.{text_of_lines}
use Rattle.ice_sample.specs.Wires.{wire_lines, named_wires, track_names}
use Rattle.ice_base.proofs.Pieces.{further}
use Rattle.ice_sample.proofs.Numbering.{series_more, nothing_more}
use Rattle.ice_sample.proofs.wires.put_track_wires.Goals as goal

pub loop-track-init : goal.loop-track-init
loop-track-init c = nothing_more c.args.text.now.items

pub loop-track-preserved : goal.loop-track-preserved
loop-track-preserved c =
    further _ _ _ _ _ _ c.loop-track.invariant c.in_ok-put_track_wire.ensures
    (series_more (λ _. 1) (wire_lines c.args.at) c.args.first (λ k. codes "trk_" ++ decimal k) 1 c.loop-track.track (c.args.first + c.loop-track.track) (λ j. refl) (omega arith))

pub returns : goal.returns
unfolding track_names
returns c =
    let all : c.loop-track.track ≡ 64 = omega arith in
    subst (λ n. c.loop-track.text.items ≡ c.args.text.now.items ++ text_of_lines (named_wires c.args.at c.args.first (map (λ k. codes "trk_" ++ decimal k) (range_with_len 0 n)))) all c.loop-track.invariant
