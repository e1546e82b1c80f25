use Rattle.std.proofs.Common.{◌≡◌, ap, ◌∙◌, rules}
use Rattle.ice_chip_build.specs.BitsUsed.{none_used, with_functions, groups_shared}
use Rattle.ice_chip_build.specs.UsedViews.{used_view}
use Rattle.ice_chip.specs.Views.{parts_view}
use Rattle.ice_chip_build.proofs.SharedLaws.{groups_first}
use Rattle.ice_chip_build.proofs.shared.shared_function.Goals as goal

pub returns : goal.returns
returns c =
    let parts = parts_view c.args.parts.now in
    let used : used_view c.in_ok-used.used ≡ with_functions none_used parts.functions = search rules in
    c.with_groups-lines.ensures ∙ ap (λ s. groups_shared parts.tiles s.read s.shared parts.groups) used ∙ groups_first parts
