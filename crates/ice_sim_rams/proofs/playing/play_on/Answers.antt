use Rattle.std.proofs.Common.{◌++◌, List, length, map, take, ap, ◌∙◌, arith}
use Rattle.ice_base_values.specs.System.{machine_shows}
use Rattle.ice_net.specs.NetlistData.{NetlistData}
use Rattle.ice_net.specs.Meaning.{State}
use Rattle.ice_ram.specs.declared.setup.Setup.{Setup}
use Rattle.ice_ram.specs.Ram.{Kept}
use Rattle.ice_sim_levels.specs.DriveTexts.{drives_text}
use Rattle.ice_sim_rams.specs.Closed.{closed_step}
use Rattle.ice_sim_rams.proofs.Telling.{rams_stay, told_more, told_all, stepped, line_of}
use Rattle.ice_sim_rams.proofs.playing.play_on.Goals as goal

pub loop-step-preserved : goal.loop-step-preserved
loop-step-preserved c =
    let n = c.args.run.now.0 in
    let first = c.args.first in
    let run = c.loop-step.run in
    let rams = c.loop-step.rams in
    let levels = c.in-Some.step.now in
    let many = ap (λ (rs : List (Setup × Kept)). length rs) c.play_step.ensures.rams ∙ rams_stay run.0 first run.1 rams levels in (
      tt,
      tt,
      ap (λ (r : NetlistData × State). r.0) c.play_step.ensures.run ∙ c.loop-step.invariant.2,
      omega (arith, c.loop-step.invariant.3, many),
      c.play_step.auto.joined ∙ c.loop-step.invariant.4,
      c.play_step.auto.drives ∙ c.loop-step.invariant.5,
      told_more (closed_step n first) first (run.1, rams) (c.play_step.new.run.1, c.play_step.new.rams) levels c.loop-step.step-iterator c.next.new.self c.loop-step.text.items c.play_step.new.text.items
          (c.args.text.now.items ++ drives_text (map (take first) (machine_shows (closed_step n first) (c.args.run.now.1, c.args.rams.now) c.args.levels.now))) c.in-Some.ensures.steps
          (stepped n first run c.play_step.new.run rams c.play_step.new.rams levels c.loop-step.invariant.2 c.play_step.ensures.run c.play_step.ensures.rams)
          (line_of n first run rams levels c.loop-step.text.items c.play_step.new.text.items c.loop-step.invariant.2 c.in_ok-play_step.ensures.text) c.loop-step.invariant.6,
    )

pub returns : goal.returns
returns c =
    told_all (closed_step c.args.run.now.0 c.args.first) c.args.first (c.loop-step.run.1, c.loop-step.rams) c.loop-step.step-iterator c.loop-step.text.items
    (c.args.text.now.items ++ drives_text (map (take c.args.first) (machine_shows (closed_step c.args.run.now.0 c.args.first) (c.args.run.now.1, c.args.rams.now) c.args.levels.now)))
    c.in-None.ensures.steps.0 c.loop-step.invariant.6
