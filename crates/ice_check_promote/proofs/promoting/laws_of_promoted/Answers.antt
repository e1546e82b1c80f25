use Rattle.ice_check_promote.proofs.promoting.laws_of_promoted.Goals as goal

pub returns-clause-sound : goal.returns-clause-sound
returns-clause-sound c = c.promoted_are_sound.ensures c.args.sound.now c.args.outer.now c.args.free c.is_sound.ensures.formed c.is_sound.ensures.sound

pub returns-clause-shows : goal.returns-clause-shows
returns-clause-shows c levels = c.promoted_show_the_same.ensures c.args.sound.now c.args.outer.now c.args.free c.is_sound.ensures.formed levels
