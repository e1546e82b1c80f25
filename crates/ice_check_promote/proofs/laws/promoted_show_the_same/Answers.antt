use Rattle.std.proofs.Common.{◌∙◌, length}
use Rattle.ice_check_promote.specs.Promoted.{with_buffers, promoted_clocks}
use Rattle.ice_check_promote.proofs.Buffered.{buffered_facts}
use Rattle.ice_check_promote.proofs.Clocks.{clock_below}
use Rattle.ice_check_promote.proofs.NewSteps.{shows_same}
use Rattle.ice_check_promote.proofs.PassingSteps.{passing_shows_same}
use Rattle.ice_check_promote.proofs.laws.promoted_show_the_same.Goals as goal

pub returns : goal.returns
returns c n outer free formed levels =
    let clocks = promoted_clocks n free in
    passing_shows_same (length n.names) clocks outer (with_buffers n clocks) (buffered_facts n clocks formed (λ j clock at. clock_below n free j clock at)) levels
    ∙ shows_same n clocks formed (λ j clock at. clock_below n free j clock at) levels
