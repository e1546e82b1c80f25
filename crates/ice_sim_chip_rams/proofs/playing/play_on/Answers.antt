use Rattle.std.proofs.Common.{◌++◌, List, length, ap, ◌∙◌, arith}
use Rattle.ice_sim.specs.ChipRuns.{ChipRunData}
use Rattle.ice_ram.specs.declared.setup.Setup.{Setup}
use Rattle.ice_ram.specs.Ram.{Kept}
use Rattle.ice_sim_levels.specs.DriveTexts.{drives_text}
use Rattle.ice_sim_chip_rams.specs.ClosedChips.{shown_from}
use Rattle.ice_sim_chip_rams.proofs.StepsTold.{step_of, rams_stay, later_again, stepped, line_of, told_more, told_all}
use Rattle.ice_sim_chip_rams.proofs.playing.play_on.Goals as goal

pub loop-step-preserved : goal.loop-step-preserved
loop-step-preserved c =
    let begun = c.args.run.now in
    let first = c.args.first in
    let run = c.loop-step.run in
    let next = c.play_step.new.run in
    let rams = c.loop-step.rams in
    let later = c.play_step.new.rams in
    let levels = c.in-Some.step.now in
    let many = ap (λ (rs : List (Setup × Kept)). length rs) c.play_step.ensures.rams ∙ rams_stay run first run.state rams levels in
    let pads = ap (λ (r : ChipRunData). length r.bonded) c.play_step.ensures.run in (
      tt,
      tt,
      later_again begun run next (step_of run first (run.state, rams) levels).0.0 c.loop-step.invariant.2 c.play_step.ensures.run,
      omega (arith, c.loop-step.invariant.3, many, pads),
      omega (arith, c.play_step.auto.joined, c.loop-step.invariant.4, pads),
      omega (arith, c.play_step.auto.drives, c.loop-step.invariant.5, pads),
      told_more (step_of begun first) first (run.state, rams) (next.state, later) levels c.loop-step.step-iterator c.next.new.self c.loop-step.text.items c.play_step.new.text.items
          (c.args.text.now.items ++ drives_text (shown_from begun.parts begun.configuration begun.bonded first begun.bonded first (begun.state, c.args.rams.now) c.args.levels.now)) c.in-Some.ensures.steps
          (stepped begun run next first rams later levels c.loop-step.invariant.2 c.play_step.ensures.run c.play_step.ensures.rams)
          (line_of begun run first rams levels c.loop-step.text.items c.play_step.new.text.items c.loop-step.invariant.2 c.in_ok-play_step.ensures.text) c.loop-step.invariant.6,
    )

pub returns : goal.returns
returns c =
    let begun = c.args.run.now in
    let first = c.args.first in
    told_all (step_of begun first) first (c.loop-step.run.state, c.loop-step.rams) c.loop-step.step-iterator c.loop-step.text.items
    (c.args.text.now.items ++ drives_text (shown_from begun.parts begun.configuration begun.bonded first begun.bonded first (begun.state, c.args.rams.now) c.args.levels.now)) c.in-None.ensures.steps.0
    c.loop-step.invariant.6
