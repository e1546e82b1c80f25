use Rattle.std.proofs.Common.{◌≡◌, ◌++◌, map, codes, decimal}
use Rattle.std.specs.List.{range_with_len}
use Rattle.ice_base.specs.Lines.{text_of_lines}
use Rattle.ice_sample.specs.Wires.{named_wires}
use Rattle.ice_sample.proofs.wires.put_track_wires.Given as goal

abbrev pub invariant-loop-track : goal.invariant-loop-track
invariant-loop-track l = l.text.items ≡ l.fn.text.items ++ text_of_lines (named_wires l.at l.first (map (λ k. codes "trk_" ++ decimal k) (range_with_len 0 l.track)))
