use Rattle.std.proofs.Common.{◌∙◌, ap, length, All, List, Bool, subst}
use Rattle.ice_net.specs.NetlistData.{NetlistData}
use Rattle.ice_net.specs.Meaning.{State, shows}
use Rattle.ice_sim_levels.specs.LevelTexts.{HasWidth}
use Rattle.ice_sim_levels.specs.DriveTexts.{drives_text}
use Rattle.ice_sim_sweep.proofs.Showing.{tail_all}
use Rattle.ice_base_values.proofs.Places.{written}
use Rattle.ice_sim_sweep.proofs.Running.{told_more, told_all}
use Rattle.ice_sim_sweep.proofs.playing.play.Goals as goal

pub loop-step-preserved : goal.loop-step-preserved
loop-step-preserved c =
    let long = c.play_step.auto.drives ∙ ap length c.deref_mut.ensures.value in
    let wide = subst (λ (steps : List (List Bool)). All (HasWidth (length c.args.sound.now.ports)) steps) c.in-Some.ensures.steps c.loop-step.invariant.4 in (
      tt,
      tt,
      ap (λ (r : NetlistData × State). r.0) c.play_step.ensures.run ∙ c.loop-step.invariant.2,
      ap length (written c.loop-step.drives.len c.loop-step.drives.items c.play_step.new.drives long c.loop-step.drives.ok.0) ∙ long ∙ c.loop-step.invariant.3,
      tail_all (HasWidth (length c.args.sound.now.ports)) c.in-Some.step.now c.next.new.self wide,
      told_more c.args.sound.now c.loop-step.run c.play_step.new.run c.in-Some.step.now c.loop-step.step-iterator c.next.new.self c.loop-step.text.items c.play_step.new.text.items
          (drives_text (shows c.args.sound.now c.args.levels.now)) c.loop-step.invariant.2 c.in-Some.ensures.steps c.play_step.ensures.run c.in_ok-play_step.ensures.text c.loop-step.invariant.5,
    )

pub returns : goal.returns
returns c = told_all c.args.sound.now c.loop-step.run.1 c.loop-step.step-iterator c.loop-step.text.items _ c.in-None.ensures.steps.0 c.loop-step.invariant.5
