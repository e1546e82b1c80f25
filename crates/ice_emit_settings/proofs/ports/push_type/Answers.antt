use Rattle.std.proofs.Common.{◌≡◌, ℕ, ◌++◌, ap, ◌∙◌, arith}
use Rattle.std.specs.List.{flat_map, range_with_len}
use Rattle.ice_emit_settings.specs.Ports.{digit_settings}
use Rattle.ice_emit_settings.specs.Views.{views}
use Rattle.ice_emit_settings.proofs.Ranges.{made_more}
use Rattle.ice_emit_settings.proofs.ports.push_type.Goals as goal

pub loop-place-preserved : goal.loop-place-preserved
loop-place-preserved c =
    made_more (digit_settings c.args.pad c.args.pin_type) c.loop-place.place (views c.args.made.now.items) (views c.loop-place.made.items) (views c.push_digit.new.made.items)
    c.loop-place.invariant c.in_ok-push_digit.ensures

pub returns : goal.returns
returns c =
    let last : c.loop-place.place ≡ 6 = omega arith in
    c.loop-place.invariant ∙ ap (λ (n : ℕ). views c.args.made.now.items ++ flat_map (digit_settings c.args.pad c.args.pin_type) (range_with_len 0 n)) last
