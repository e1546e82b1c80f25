use Rattle.std.proofs.Common.{◌≡◌, ◌+◌, ◌*◌, ◌%◌, ◌++◌, map, sym, subst, arith}
use Rattle.std.specs.List.{range_with_len}
use Rattle.ice_sample.specs.Groups.{pin_tracks}
use Rattle.ice_sample.proofs.Counting.{map_range_more}
use Rattle.ice_base.proofs.Pieces.{further}
use Rattle.ice_sample.proofs.sources.add_pin_tracks.Goals as goal

pub loop-step-preserved : goal.loop-step-preserved
loop-step-preserved c =
    further _ _ _ _ _ _ c.loop-step.invariant c.in_ok-push.ensures.items (sym (map_range_more (λ j. c.args.tracks + (c.args.pin + 9 * j) % 64) c.loop-step.step))

pub returns : goal.returns
unfolding pin_tracks
returns c =
    let all : c.loop-step.step ≡ 8 = omega arith in
    subst (λ n. c.loop-step.sources.items ≡ c.args.sources.now.items ++ map (λ j. c.args.tracks + (c.args.pin + 9 * j) % 64) (range_with_len 0 n)) all c.loop-step.invariant
